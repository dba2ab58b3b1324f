use Rattle.std.proofs.Common.{Some, ◌≤◌, inl, length, List, ℕ, subst, arith}
use Rattle.fsd_texts.specs.Script.{max_input}
use Rattle.fsd_runs.specs.declared.request.Request.TheVariants.{Restore}
use Rattle.fsd_runs.specs.Leaves.{LeavesRun}
use Rattle.volume_turns.proofs.SayLaws.{timed_by}
use Rattle.scrub.specs.Telling.{AreOfPage}
use Rattle.cfs_program.proofs.AmongLaws.{put_complete_is, put_status}
use Rattle.cfs_program.proofs.AttachLaws.{RunsFound, found_accepted, found_attaches, found_fails, found_image, found_input, found_leaves, found_reading, found_says_input, found_syncs, found_trust}
use Rattle.volume_turns.specs.Causes.{Nothing}
use Rattle.cfs_program.proofs.FoundLaws.{TellsFound}
use Rattle.cfs_program.proofs.dumping.run_restore_of.Goals as goal

pub returns-in-Ok : goal.returns-in-Ok
returns-in-Ok g c =
    let M = g.M.Machine in
    let timed = timed_by M g.met.M.Machine.dated g.met.M.Machine.history g.met.M.Machine.counts_now g.met.M.Machine.only_now in
    let a = c.args.m.now in
    let b = c.attached.new.m in
    let z = c.run_restore.new.m in
    let does = c.run_restore.ensures in
    let status = c.run_restore.result in
    let x : RunsFound M c.args.path.now c.in-Ok.sectors a b z = record { finds = c.in-Ok.ensures.found; runs = does.ends.trust } in
    let counts = found_reading x status does.takes.counts in
    let image : M.honest z → TellsFound Nothing AreOfPage (Some max_input) (M.now a) (M.now z) status = λ h. found_image x Nothing AreOfPage (Some max_input) status h (does.image h) in
    record {
      status = put_status status does.ends.status;
      complete = λ none. put_complete_is status does.ends.status (λ four. none.disk (counts.disk four)) (λ six. none.output (counts.output six));
      device = counts.disk;
      output = counts.output;
      quiet = counts.quiet;
      unfailed = counts.unfailed;
      attaches = λ t. inl (found_attaches x t (does.takes.attaches t));
      attached = λ inside t. found_attaches x t (does.takes.attaches t);
      trust = found_trust x;
      says = λ h. inl tt;
      healed = λ of h. tt;
      mounted = λ any h. (image h).mounted any;
      refused = λ three h. (image h).refused three;
      spent = λ nine h. (image h).spent nine;
      last = does.ends.last;
      image = λ zero h. tt;
      untouched = λ h. tt;
      syncs = λ t. let none = found_syncs x t in let few = does.takes.syncs t in omega (arith, none, few);
      taken = λ t. tt;
      spared = tt;
      input = λ five t. found_fails x t (does.takes.input five t);
      fails = λ five h. found_says_input x (g.met.M.Machine.honest_tells z h) (does.takes.fails five h);
      bad = λ two h. tt;
      whole = λ low t. let all = does.whole low t in (all.whole, subst (λ (input : List ℕ). length input ≤ max_input) (found_input x t) all.few);
      spelled = λ zero t. tt;
      one = λ h. tt;
      rest = λ h. tt;
      all = λ zero h. tt;
      leaves = λ h. found_leaves x Restore (M.ledger a).input (M.ledger z).input status h (g.met.M.Machine.short a) timed
          (λ was at held.
          subst (λ (input : List ℕ). LeavesRun M Restore input (M.ledger z).input was b z status) (found_input x (g.met.M.Machine.honest_tells z h))
          (does.leaves h was at held));
      accepted = λ h. found_accepted x Restore (M.ledger b).input (M.ledger z).input status h (g.met.M.Machine.short a) timed (does.leaves h) (λ P p. p);
    }

pub returns-in-Err : goal.returns-in-Err
returns-in-Err g c = c.in-Err.ensures.ran Restore
