use Rattle.std.proofs.Common.{None, ◌≡◌, ◌≤◌, ◌+◌, inl, List, ℕ, subst, arith}
use Rattle.fsd_texts.specs.declared.end.End.TheVariants.{Done}
use Rattle.fsd_texts.specs.Script.{script_in}
use Rattle.fsd_runs.specs.declared.request.Request.TheVariants.{Script}
use Rattle.fsd_runs.specs.Commands.{reply_text}
use Rattle.fsd_runs.specs.Leaves.{LeavesRun}
use Rattle.volume_turns.specs.Each.{SaysBadLine, SaysForced}
use Rattle.volume_turns.specs.Syncs.{most_in_script}
use Rattle.volume_turns.proofs.SayLaws.{timed_by}
use Rattle.scrub.specs.Telling.{AreOfPage}
use Rattle.cfs_program.proofs.AmongLaws.{script_complete_is, script_low, script_status}
use Rattle.cfs_program.proofs.AttachLaws.{RunsFound, found_accepted, found_attaches, found_fails, found_image, found_input, found_later, found_leaves, found_reading, found_said, found_says_input, found_syncs, found_trust}
use Rattle.volume_turns.specs.Causes.{Replies}
use Rattle.cfs_program.proofs.FoundLaws.{TellsFound}
use Rattle.cfs_program.proofs.scripting.run_commands.Goals as goal

pub returns-in-Ok : goal.returns-in-Ok
returns-in-Ok g c =
    let M = g.M.Machine in
    let timed = timed_by M g.met.M.Machine.dated g.met.M.Machine.history g.met.M.Machine.counts_now g.met.M.Machine.only_now in
    let a = c.args.m.now in
    let b = c.attached.new.m in
    let z = c.run_script.new.m in
    let does = c.run_script.ensures in
    let status = c.run_script.result in
    let x : RunsFound M c.args.path.now c.in-Ok.sectors a b z = record { finds = c.in-Ok.ensures.found; runs = does.ends.trust } in
    let counts = found_reading x status does.takes.counts in
    let image : M.honest z → TellsFound Replies AreOfPage None (M.now a) (M.now z) status = λ h. found_image x Replies AreOfPage None status h (does.image h) in
    record {
      status = script_status status does.ends.status;
      complete = λ none. script_complete_is status does.ends.status (λ four. none.disk (counts.disk four)) (λ six. none.output (counts.output six));
      device = counts.disk;
      output = counts.output;
      quiet = counts.quiet;
      unfailed = counts.unfailed;
      attaches = λ t. inl (found_attaches x t (does.takes.attaches t));
      attached = λ inside t. found_attaches x t (does.takes.attaches t);
      trust = found_trust x;
      says = λ h. inl tt;
      healed = λ of h. tt;
      mounted = λ any h. (image h).mounted any;
      refused = λ three h. (image h).refused three;
      spent = λ nine h. (image h).spent nine;
      last = does.ends.last;
      image = λ zero h. tt;
      untouched = λ h. tt;
      syncs = λ t h. let none = found_syncs x t in
          let few = subst (λ (input : List ℕ). (M.ledger z).syncs ≤ (M.ledger b).syncs + most_in_script input) (found_input x t) (does.takes.syncs h) in
          omega (arith, none, few);
      taken = λ t. tt;
      spared = tt;
      input = λ five t. found_fails x t (does.takes.input five t);
      fails = λ five h. found_says_input x (g.met.M.Machine.honest_tells z h) (does.takes.fails five h);
      whole = λ low t. (does.whole (script_low status does.ends.status low) t).whole;
      spelled = λ zero t. subst (λ (input : List ℕ). (script_in input).1 ≡ Done) (found_input x t) (does.whole zero t).spelled;
      bad = λ two h.
          subst (λ (before : List ℕ). SaysBadLine (M.left_since z (M.moment a)) (M.ledger a).input before (M.now z)) (found_said x h)
          (subst (λ (input : List ℕ). SaysBadLine (M.left_since z (M.moment a)) input (M.now b).said (M.now z)) (found_input x (g.met.M.Machine.honest_tells z h)) ((does.says h).bad two (M.moment a) (found_later x h)));
      one = λ h. tt;
      rest = λ h. tt;
      all = λ zero h.
          subst (λ (before : List ℕ). SaysForced reply_text (M.left_since z (M.moment a)) (script_in (M.ledger a).input).0 before (M.now z).said) (found_said x h)
          (subst (λ (input : List ℕ). SaysForced reply_text (M.left_since z (M.moment a)) (script_in input).0 (M.now b).said (M.now z).said) (found_input x (g.met.M.Machine.honest_tells z h)) ((does.says h).all zero (M.moment a) (found_later x h)));
      leaves = λ h. found_leaves x Script (M.ledger a).input (M.ledger z).input status h (g.met.M.Machine.short a) timed
          (λ was at held.
          subst (λ (input : List ℕ). LeavesRun M Script input (M.ledger z).input was b z status) (found_input x (g.met.M.Machine.honest_tells z h))
          (does.leaves h was at held));
      accepted = λ h. found_accepted x Script (M.ledger b).input (M.ledger z).input status h (g.met.M.Machine.short a) timed (does.leaves h) (λ P p. p);
    }

pub returns-in-Err : goal.returns-in-Err
returns-in-Err g c = c.in-Err.ensures.ran Script
