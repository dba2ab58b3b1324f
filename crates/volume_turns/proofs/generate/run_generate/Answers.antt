use Rattle.std.proofs.Common.{ℕ, List, Some, subst}
use Rattle.fsd_runs.specs.declared.request.Request.TheVariants.{Generate}
use Rattle.scrub.specs.Telling.{AreOfPage}
use Rattle.volume_turns.specs.Causes.{Nothing, SaysMade}
use Rattle.volume_turns.proofs.BehindLaws.{RefusedBy, RunsOver, over_counts, over_image, over_leaves, over_said, over_trust, over_syncs, refused_counts, refused_image, refused_last, refused_leaves, refused_of, refused_trust, refused_syncs}
use Rattle.volume_turns.proofs.GenerateLaws.{some_turn}
use Rattle.volume_turns.proofs.NumberLaws.{new_may}
use Rattle.volume_turns.proofs.SayLaws.{timed_by}
use Rattle.volume_turns.proofs.StatusLaws.{fault_is_made, fault_not_zero}
use Rattle.client_desk.proofs.DeskLaws.{desk_fresh}
use Rattle.volume_turns.proofs.generate.run_generate.Goals as goal

pub generate_on-requires-clause-idle : goal.generate_on-requires-clause-idle
generate_on-requires-clause-idle g c = let fresh = c.in-Ok.ensures.opens.fresh in desk_fresh (g.V.Files.state c.in-Ok.v) fresh.unfinished fresh.readers

pub returns-in-Ok : goal.returns-in-Ok
returns-in-Ok g c =
    let M = g.M.Machine in
    let e = c.in-Ok.ensures in
    let does = c.generate_on.ensures in
    let x : RunsOver g.V.Files.state M c.args.sectors c.in-Ok.v c.args.m.now c.mount.new.m c.generate_on.new.m = record { disk = e.disk; fresh = e.opens.fresh; found = λ h. (e.tells h).found; rest = λ h. (e.heals h).rest; trust = does.ends.run.trust } in
    record {
      ends = record {
        status = does.ends.run.status;
        trust = over_trust x;
        last = does.ends.run.last;
      };
      takes = record {
        ledger = λ t. over_syncs x t (does.takes.ledger t);
        counts = over_counts x does.takes.counts;
      };
      image = λ h. over_image x Nothing AreOfPage (Some c.args.count) c.generate_on.result h (does.tells h).says (λ nine. new_may c.args.count (g.V.Files.state c.in-Ok.v) e.opens.fresh ((does.tells h).spent nine));
      all = λ zero h. subst (λ (before : List ℕ). SaysMade c.args.count before (M.now c.generate_on.new.m)) (over_said x h) (does.all zero h);
      leaves = λ h input rest was at held.
          over_leaves x g.V.Files.holds (Generate c.args.seed c.args.count) input rest was c.generate_on.result h does.ends.since (λ y t. g.met.M.Machine.counts_now y t) (timed_by M g.met.M.Machine.dated g.met.M.Machine.history g.met.M.Machine.counts_now g.met.M.Machine.only_now) held (e.sound (does.ends.run.trust.honest h) was.layout was.windows was.changes was.forced at)
          (λ k none idle stands disk. does.runs h input rest k idle stands disk);
    }

pub returns-in-Err : goal.returns-in-Err
returns-in-Err g c =
    let M = g.M.Machine in
    let e = c.in-Err.ensures in
    let why = c.fault_of.result in
    let line = c.end_with.ensures in
    let status = c.end_with.result in
    let x : RefusedBy M c.args.sectors c.in-Err.fault why c.args.m.now c.mount.new.m c.end_with.new.m status =
    record { disk = e.disk; refused = λ h. (e.tells h).refused; kept = λ h. (e.tells h).unchanged; rest = λ h. (e.heals h).rest; lost = λ h. (e.tells h).lost; unsound = λ h. (e.tells h).unsound; is = c.fault_of.ensures; says = line.says; ends = line.ends; for = line.status } in
    record {
      ends = record {
        status = fault_is_made why status (refused_of x) line.status;
        trust = refused_trust x;
        last = refused_last x;
      };
      takes = record {
        ledger = λ t. refused_syncs x t (line.ledger t);
        counts = refused_counts x;
      };
      image = refused_image x Nothing AreOfPage (Some c.args.count);
      all = λ zero h. absurd (fault_not_zero why status line.status zero);
      leaves = λ h input rest was at held.
          refused_leaves x g.V.Files.state g.V.Files.holds (Generate c.args.seed c.args.count) input rest was h (g.met.M.Machine.short c.mount.new.m) (λ y t. g.met.M.Machine.counts_now y t)
          (timed_by M g.met.M.Machine.dated g.met.M.Machine.history g.met.M.Machine.counts_now g.met.M.Machine.only_now) at held (e.sound (line.says.trust.honest h) was.layout was.windows was.changes was.forced at) (some_turn c.args.seed c.args.count input) (λ Passed base v i none. tt);
    }
