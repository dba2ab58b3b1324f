use Rattle.std.proofs.Common.{None, ◌∙◌, inl, [], arith}
use Rattle.fsd_runs.specs.declared.request.Request.TheVariants.{Dump}
use Rattle.volume_turns.proofs.SayLaws.{timed_by}
use Rattle.scrub.specs.Telling.{StandTwice}
use Rattle.cfs_program.proofs.AmongLaws.{dump_complete_is, dump_not_five, dump_status}
use Rattle.cfs_program.proofs.AttachLaws.{RunsFound, found_accepted, found_attaches, found_counts, found_image, found_input, found_leaves, found_spared, found_syncs, found_trust}
use Rattle.volume_turns.specs.Causes.{Parts}
use Rattle.cfs_program.proofs.FoundLaws.{TellsFound}
use Rattle.cfs_program.proofs.dumping.run_dump_of.Goals as goal

pub returns-in-Ok : goal.returns-in-Ok
returns-in-Ok g c =
    let M = g.M.Machine in
    let timed = timed_by M g.met.M.Machine.dated g.met.M.Machine.history g.met.M.Machine.counts_now g.met.M.Machine.only_now in
    let a = c.args.m.now in
    let b = c.attached.new.m in
    let z = c.run_dump.new.m in
    let does = c.run_dump.ensures in
    let status = c.run_dump.result in
    let x : RunsFound M c.args.path.now c.in-Ok.sectors a b z = record { finds = c.in-Ok.ensures.found; runs = does.ends.trust } in
    let dump = Dump c.args.since c.args.most in
    let counts = found_counts x status does.takes.counts in
    let image : M.honest z → TellsFound Parts StandTwice None (M.now a) (M.now z) status = λ h. found_image x Parts StandTwice None status h (does.image h) in
    record {
      status = dump_status status does.ends.status;
      complete = λ none. dump_complete_is status does.ends.status (λ four. none.disk (counts.disk four)) (λ six. none.output (counts.output six));
      device = counts.disk;
      output = counts.output;
      quiet = counts.quiet;
      unfailed = counts.unfailed;
      attaches = λ t. inl (found_attaches x t (does.takes.ledger t).attaches);
      attached = λ inside t. found_attaches x t (does.takes.ledger t).attaches;
      trust = found_trust x;
      says = λ h. inl tt;
      healed = λ of h. tt;
      mounted = λ any h. (image h).mounted any;
      refused = λ three h. (image h).refused three;
      spent = λ nine h. (image h).spent nine;
      last = does.ends.last;
      image = λ zero h. tt;
      untouched = λ h. tt;
      syncs = λ t. let none = found_syncs x t in let few = (does.takes.ledger t).syncs in omega (arith, none, few);
      taken = λ t. (does.takes.ledger t).input ∙ found_input x t;
      spared = found_spared x status does.takes.counts;
      input = λ five t. absurd (dump_not_five status does.ends.status five);
      fails = λ five h. absurd (dump_not_five status does.ends.status five);
      bad = λ two h. tt;
      whole = λ zero t. tt;
      spelled = λ zero t. tt;
      one = λ h. tt;
      rest = λ h. tt;
      all = λ zero h. tt;
      leaves = λ h. found_leaves x dump [] (M.ledger z).input status h (g.met.M.Machine.short a) timed (does.leaves h [] (M.ledger z).input);
      accepted = λ h. found_accepted x dump [] [] status h (g.met.M.Machine.short a) timed (does.leaves h [] []) (λ P p. p);
    }

pub returns-in-Err : goal.returns-in-Err
returns-in-Err g c = c.in-Err.ensures.ran (Dump c.args.since c.args.most)
