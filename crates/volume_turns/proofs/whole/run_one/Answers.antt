use Rattle.std.proofs.Common.{None, []}
use Rattle.fsd_runs.specs.declared.request.Request.TheVariants.{One}
use Rattle.volume_turns.specs.Causes.{Nothing}
use Rattle.volume_turns.specs.Commands.{MayLose}
use Rattle.volume_turns.proofs.OneLaws.{some_one}
use Rattle.volume_turns.proofs.BehindLaws.{RefusedBy, RunsOver, over_counts, over_heals, over_image, over_leaves, over_one, over_trust, over_syncs, refused_counts, refused_image, refused_last, refused_leaves, refused_of, refused_one, refused_trust, refused_syncs}
use Rattle.volume_turns.proofs.HealLaws.{fault_unhealed}
use Rattle.volume_turns.proofs.SayLaws.{timed_by}
use Rattle.volume_turns.proofs.StatusLaws.{fault_is_one}
use Rattle.volume_turns.proofs.UpgradeLaws.{new_fresh}
use Rattle.volume_turns.proofs.whole.run_one.Goals as goal

pub one_on-requires-clause-fresh : goal.one_on-requires-clause-fresh
one_on-requires-clause-fresh g c = new_fresh (g.V.Files.state c.in-Ok.v) c.in-Ok.ensures.opens.fresh

pub returns-in-Ok : goal.returns-in-Ok
returns-in-Ok g c =
    let M = g.M.Machine in
    let e = c.in-Ok.ensures in
    let does = c.one_on.ensures in
    let x : RunsOver g.V.Files.state M c.args.sectors c.in-Ok.v c.args.m.now c.mount.new.m c.one_on.new.m = record { disk = e.disk; fresh = e.opens.fresh; found = λ h. (e.tells h).found; rest = λ h. (e.heals h).rest; trust = does.ends.trust } in
    record {
      ends = record {
        status = does.ends.status;
        trust = over_trust x;
        last = does.ends.last;
      };
      takes = record {
        ledger = λ t. over_syncs x t (does.takes.ledger t);
        counts = over_counts x does.takes.counts;
      };
      image = λ h. over_image x Nothing (MayLose c.args.c.now) None c.one_on.result h (λ three. (does.tells h).says three) (λ nine. (does.tells h).spent nine);
      one = λ h. over_one x c.args.c.now c.one_on.result h (does.one h e.opens.fresh.dirty).one;
      healed = λ h. over_heals x g.V.Files.holds c.args.c.now c.one_on.result h does.since (timed_by M g.met.M.Machine.dated g.met.M.Machine.history g.met.M.Machine.counts_now g.met.M.Machine.only_now)
          (λ was. e.sound (does.ends.trust.honest h) was.layout was.windows was.changes was.forced) e.opens.counted (does.one h e.opens.fresh.dirty);
      leaves = λ h rest was at held.
          over_leaves x g.V.Files.holds (One c.args.c.now) [] rest was c.one_on.result h does.since (λ y t. g.met.M.Machine.counts_now y t) (timed_by M g.met.M.Machine.dated g.met.M.Machine.history g.met.M.Machine.counts_now g.met.M.Machine.only_now) held (e.sound (does.ends.trust.honest h) was.layout was.windows was.changes was.forced at)
          (λ k none idle stands disk. does.runs h rest k none idle stands disk);
    }

pub returns-in-Err : goal.returns-in-Err
returns-in-Err g c =
    let M = g.M.Machine in
    let e = c.in-Err.ensures in
    let why = c.fault_of.result in
    let line = c.end_with.ensures in
    let status = c.end_with.result in
    let x : RefusedBy M c.args.sectors c.in-Err.fault why c.args.m.now c.mount.new.m c.end_with.new.m status =
    record { disk = e.disk; refused = λ h. (e.tells h).refused; kept = λ h. (e.tells h).unchanged; rest = λ h. (e.heals h).rest; lost = λ h. (e.tells h).lost; unsound = λ h. (e.tells h).unsound; is = c.fault_of.ensures; says = line.says; ends = line.ends; for = line.status } in
    record {
      ends = record {
        status = fault_is_one c.args.c.now why status (refused_of x) line.status;
        trust = refused_trust x;
        last = refused_last x;
      };
      takes = record {
        ledger = λ t. refused_syncs x t (line.ledger t);
        counts = refused_counts x;
      };
      image = refused_image x Nothing (MayLose c.args.c.now) None;
      one = refused_one x c.args.c.now;
      healed = λ h of. absurd (fault_unhealed why status line.status of);
      leaves = λ h rest was at held.
          refused_leaves x g.V.Files.state g.V.Files.holds (One c.args.c.now) [] rest was h (g.met.M.Machine.short c.mount.new.m) (λ y t. g.met.M.Machine.counts_now y t)
          (timed_by M g.met.M.Machine.dated g.met.M.Machine.history g.met.M.Machine.counts_now g.met.M.Machine.only_now) at held (e.sound (line.says.trust.honest h) was.layout was.windows was.changes was.forced at) (some_one c.args.c.now) (λ Passed base v i none. tt);
    }
