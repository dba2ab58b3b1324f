use Rattle.std.proofs.Common.{inr, None}
use Rattle.fsd_runs.specs.declared.request.Request.TheVariants.{Dump}
use Rattle.fsd_runs.specs.Dumps.{span_of}
use Rattle.fsd_runs.specs.Sessions.{session_over}
use Rattle.scrub.specs.Telling.{StandTwice}
use Rattle.volume_turns.specs.Causes.{Parts}
use Rattle.volume_turns.proofs.BehindLaws.{RefusedBy, RunsOver, over_counts, over_image, over_leaves, over_syncs, over_trust, refused_counts, refused_image, refused_last, refused_leaves, refused_of, refused_syncs, refused_trust}
use Rattle.volume_turns.proofs.DumpAskedLaws.{some_asked}
use Rattle.volume_turns.proofs.DumpLaws.{dump_unsaid}
use Rattle.volume_turns.proofs.SayLaws.{timed_by}
use Rattle.volume_turns.proofs.StatusLaws.{fault_ends}
use Rattle.volume_turns.proofs.dumping.run_dump.Goals as goal

pub returns-in-Ok : goal.returns-in-Ok
returns-in-Ok g c =
    let M = g.M.Machine in
    let e = c.in-Ok.ensures in
    let does = c.dump_on.ensures in
    let x : RunsOver g.V.Files.state M c.args.sectors c.in-Ok.v c.args.m.now c.mount.new.m c.dump_on.new.m = record { disk = e.disk; fresh = e.opens.fresh; found = λ h. (e.tells h).found; rest = λ h. (e.heals h).rest; trust = does.ends.run.trust } in
    record {
      ends = record {
        status = does.ends.run.status;
        trust = over_trust x;
        last = does.ends.run.last;
      };
      takes = record {
        ledger = λ t. over_syncs x t (does.takes.ledger t);
        counts = over_counts x does.takes.counts;
      };
      image = λ h. over_image x Parts StandTwice None c.dump_on.result h (does.tells h).says (does.tells h).spent;
      leaves = λ h input rest was at held.
          over_leaves x g.V.Files.holds (Dump c.args.since c.args.most) input rest was c.dump_on.result h does.ends.since (λ y t. g.met.M.Machine.counts_now y t) (timed_by M g.met.M.Machine.dated g.met.M.Machine.history g.met.M.Machine.counts_now g.met.M.Machine.only_now) held
          (e.sound (does.ends.run.trust.honest h) was.layout was.windows was.changes was.forced at) (λ k none idle stands disk. does.runs h input rest k none stands disk);
    }

pub returns-in-Err : goal.returns-in-Err
returns-in-Err g c =
    let M = g.M.Machine in
    let e = c.in-Err.ensures in
    let why = c.fault_of.result in
    let line = c.end_with.ensures in
    let status = c.end_with.result in
    let x : RefusedBy M c.args.sectors c.in-Err.fault why c.args.m.now c.mount.new.m c.end_with.new.m status =
    record { disk = e.disk; refused = λ h. (e.tells h).refused; kept = λ h. (e.tells h).unchanged; rest = λ h. (e.heals h).rest; lost = λ h. (e.tells h).lost; unsound = λ h. (e.tells h).unsound; is = c.fault_of.ensures; says = line.says; ends = line.ends; for = line.status } in
    record {
      ends = record {
        status = inr (inr (fault_ends why status (refused_of x) line.status));
        trust = refused_trust x;
        last = refused_last x;
      };
      takes = record {
        ledger = λ t. refused_syncs x t (line.ledger t);
        counts = refused_counts x;
      };
      image = refused_image x Parts StandTwice None;
      leaves = λ h input rest was at held.
          refused_leaves x g.V.Files.state g.V.Files.holds (Dump c.args.since c.args.most) input rest was h (g.met.M.Machine.short c.mount.new.m) (λ y t. g.met.M.Machine.counts_now y t)
          (timed_by M g.met.M.Machine.dated g.met.M.Machine.history g.met.M.Machine.counts_now g.met.M.Machine.only_now) at held (e.sound (line.says.trust.honest h) was.layout was.windows was.changes was.forced at) (λ v. some_asked (span_of c.args.since c.args.most v.entries) v (session_over v)) (dump_unsaid c.args.since c.args.most);
    }
