use Rattle.std.proofs.Common.{◌≤◌, length, ℕ, List, Some, refl, subst, arith}
use Rattle.fsd_texts.specs.Script.{max_input}
use Rattle.fsd_runs.specs.declared.request.Request.TheVariants.{Restore}
use Rattle.scrub.specs.Telling.{AreOfPage}
use Rattle.volume_turns.specs.Whole.{RunsOut}
use Rattle.volume_turns.specs.Causes.{Nothing}
use Rattle.volume_turns.proofs.BehindLaws.{RefusedBy, RunsOver, over_attaches, over_fails, over_image, over_input, over_leaves, over_says_input, over_taking, over_trust, refused_image, refused_last, refused_leaves, refused_of, refused_taking, refused_trust, refused_syncs}
use Rattle.volume_turns.proofs.RestoreOutLaws.{some_turn}
use Rattle.volume_turns.proofs.SayLaws.{timed_by}
use Rattle.volume_turns.proofs.StatusLaws.{fault_is_put, fault_not_five, fault_not_low}
use Rattle.volume_turns.proofs.restoring.run_restore.Goals as goal

pub returns-in-Ok : goal.returns-in-Ok
returns-in-Ok g c =
    let M = g.M.Machine in
    let e = c.in-Ok.ensures in
    let does = c.restore_on.ensures in
    let x : RunsOver g.V.Files.state M c.args.sectors c.in-Ok.v c.args.m.now c.mount.new.m c.restore_on.new.m = record { disk = e.disk; fresh = e.opens.fresh; found = λ h. (e.tells h).found; rest = λ h. (e.heals h).rest; trust = does.ends.run.trust } in
    record {
      ends = record {
        status = does.ends.run.status;
        trust = over_trust x;
        last = does.ends.run.last;
      };
      takes = record {
        attaches = λ t. over_attaches x t (does.takes.attaches t);
        syncs = λ t. let few = does.takes.syncs t in let none = (e.disk.ledger (does.ends.run.trust.tells t)).syncs in omega (arith, few, none);
        counts = over_taking x does.takes.counts;
        input = λ five t. over_fails x t (does.takes.input five t);
        fails = λ five h. over_says_input x (g.met.M.Machine.honest_tells c.restore_on.new.m h) (does.takes.fails five h);
      };
      whole = λ low t. record { whole = (does.whole low t).whole; few = subst (λ (input : List ℕ). length input ≤ max_input) (over_input x t) (does.whole low t).few };
      image = λ h. over_image x Nothing AreOfPage (Some max_input) c.restore_on.result h (does.tells h).says (λ nine. absurd ((does.tells h).spent nine));
      leaves = λ h was at held.
          over_leaves x g.V.Files.holds Restore (M.ledger c.args.m.now).input (M.ledger c.restore_on.new.m).input was c.restore_on.result h does.ends.since (λ y t. g.met.M.Machine.counts_now y t) (timed_by M g.met.M.Machine.dated g.met.M.Machine.history g.met.M.Machine.counts_now g.met.M.Machine.only_now) held (e.sound (does.ends.run.trust.honest h) was.layout was.windows was.changes was.forced at)
          (λ k none idle stands disk. subst (λ (input : List ℕ). RunsOut M Restore input (M.ledger c.restore_on.new.m).input (M.report c.mount.new.m) k c.mount.new.m c.restore_on.new.m c.restore_on.result) (over_input x (g.met.M.Machine.honest_tells c.restore_on.new.m h)) (does.runs h k none idle stands disk));
    }

pub returns-in-Err : goal.returns-in-Err
returns-in-Err g c =
    let M = g.M.Machine in
    let e = c.in-Err.ensures in
    let why = c.fault_of.result in
    let line = c.end_with.ensures in
    let status = c.end_with.result in
    let x : RefusedBy M c.args.sectors c.in-Err.fault why c.args.m.now c.mount.new.m c.end_with.new.m status =
    record { disk = e.disk; refused = λ h. (e.tells h).refused; kept = λ h. (e.tells h).unchanged; rest = λ h. (e.heals h).rest; lost = λ h. (e.tells h).lost; unsound = λ h. (e.tells h).unsound; is = c.fault_of.ensures; says = line.says; ends = line.ends; for = line.status } in
    record {
      ends = record {
        status = fault_is_put why status (refused_of x) line.status;
        trust = refused_trust x;
        last = refused_last x;
      };
      takes = record {
        attaches = λ t. (refused_syncs x {most = 0} t (line.ledger t)).attaches;
        syncs = λ t. (refused_syncs x {most = 1} t (line.ledger t)).syncs;
        counts = refused_taking x;
        input = λ five t. absurd (fault_not_five why status (refused_of x) line.status five);
        fails = λ five h. absurd (fault_not_five why status (refused_of x) line.status five);
      };
      whole = λ low t. absurd (fault_not_low why status line.status low);
      image = refused_image x Nothing AreOfPage (Some max_input);
      leaves = λ h was at held.
          refused_leaves x g.V.Files.state g.V.Files.holds Restore (M.ledger c.args.m.now).input (M.ledger c.end_with.new.m).input was h (g.met.M.Machine.short c.mount.new.m) (λ y t. g.met.M.Machine.counts_now y t)
          (timed_by M g.met.M.Machine.dated g.met.M.Machine.history g.met.M.Machine.counts_now g.met.M.Machine.only_now) at held (e.sound (line.says.trust.honest h) was.layout was.windows was.changes was.forced at) (some_turn (M.ledger c.args.m.now).input) (λ Passed base v i none. refl);
    }
