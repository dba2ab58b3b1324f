use Rattle.std.proofs.Common.{None, inl, ◌∙◌, [], arith}
use Rattle.fsd_runs.specs.declared.request.Request.TheVariants.{One}
use Rattle.volume_turns.proofs.AnsweringLaws.{one_since}
use Rattle.volume_turns.specs.Commands.{MayLose}
use Rattle.volume_turns.proofs.SayLaws.{timed_by}
use Rattle.volume_turns.proofs.StatusLaws.{one_not_five}
use Rattle.cfs_program.proofs.AmongLaws.{command_complete, command_status}
use Rattle.cfs_program.proofs.AttachLaws.{RunsFound, found_accepted, found_attaches, found_counts, found_heals, found_image, found_input, found_leaves, found_said, found_spared, found_syncs, found_trust}
use Rattle.volume_turns.specs.Causes.{Nothing}
use Rattle.cfs_program.proofs.FoundLaws.{TellsFound, writes_found}
use Rattle.cfs_program.proofs.opening.run_command.Goals as goal

pub returns-in-Ok : goal.returns-in-Ok
returns-in-Ok g c =
    let M = g.M.Machine in
    let timed = timed_by M g.met.M.Machine.dated g.met.M.Machine.history g.met.M.Machine.counts_now g.met.M.Machine.only_now in
    let a = c.args.m.now in
    let b = c.attached.new.m in
    let z = c.run_one.new.m in
    let does = c.run_one.ensures in
    let status = c.run_one.result in
    let x : RunsFound M c.args.path.now c.in-Ok.sectors a b z = record { finds = c.in-Ok.ensures.found; runs = does.ends.trust } in
    let command = c.args.c.now in
    let counts = found_counts x status does.takes.counts in
    let image : M.honest z → TellsFound Nothing (MayLose command) None (M.now a) (M.now z) status = λ h. found_image x Nothing (MayLose command) None status h (does.image h) in
    record {
      status = command_status command status does.ends.status;
      complete = λ none. command_complete command status does.ends.status (λ four. none.disk (counts.disk four)) (λ six. none.output (counts.output six));
      device = counts.disk;
      output = counts.output;
      quiet = counts.quiet;
      unfailed = counts.unfailed;
      attaches = λ t. inl (found_attaches x t (does.takes.ledger t).attaches);
      attached = λ inside t. found_attaches x t (does.takes.ledger t).attaches;
      trust = found_trust x;
      says = λ h. inl tt;
      healed = λ of h. found_heals x command h (g.met.M.Machine.short a) timed (does.healed h of);
      mounted = λ any h. (image h).mounted any;
      refused = λ three h. (image h).refused three;
      spent = λ nine h. (image h).spent nine;
      last = does.ends.last;
      image = λ zero h. tt;
      untouched = λ h. tt;
      syncs = λ t. let none = found_syncs x t in let few = (does.takes.ledger t).syncs in omega (arith, none, few);
      taken = λ t. (does.takes.ledger t).input ∙ found_input x t;
      spared = found_spared x status does.takes.counts;
      input = λ five t. absurd (one_not_five command status does.ends.status five);
      fails = λ five h. absurd (one_not_five command status does.ends.status five);
      bad = λ two h. tt;
      whole = λ zero t. tt;
      spelled = λ zero t. tt;
      one = λ h. one_since command (M.now a) (M.now b) (M.now z) status (found_said x h) (does.one h).says;
      rest = λ h. let back = does.ends.trust.honest h in writes_found command (M.now a) (M.now b) (M.now z) c.in-Ok.sectors (x.finds.found back) (x.finds.size back) (does.one h).rest;
      all = λ zero h. tt;
      leaves = λ h. found_leaves x (One command) [] (M.ledger z).input status h (g.met.M.Machine.short a) timed (does.leaves h (M.ledger z).input);
      accepted = λ h. found_accepted x (One command) [] [] status h (g.met.M.Machine.short a) timed (does.leaves h []) (λ P p. p);
    }

pub returns-in-Err : goal.returns-in-Err
returns-in-Err g c = c.in-Err.ensures.ran (One c.args.c.now)
