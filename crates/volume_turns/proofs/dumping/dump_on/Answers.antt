use Rattle.std.proofs.Common.{inr, ◌∙◌, refl, arith}
use Rattle.sector_disk.specs.Machine.{UsesDisk}
use Rattle.sector_disk.proofs.Holding.{trusts_on}
use Rattle.fsd_texts.specs.declared.fault.Fault.TheVariants as Ends
use Rattle.fsd_runs.specs.Dumps.{span_of}
use Rattle.volume_contract.specs.State.{volume_of}
use Rattle.volume_turns.proofs.DumpAskedLaws.{runs_dumped, unbegun_out}
use Rattle.volume_turns.proofs.DumpFoundLaws.{asked_out, from_asked, from_ends, from_takes, from_tells}
use Rattle.volume_turns.proofs.LastLaws.{ends_fault, told_place}
use Rattle.volume_turns.proofs.RunLaws.{since_on}
use Rattle.volume_turns.proofs.SayLaws.{KeepsSynced, synced_keeps, timed_by, told_synced, told_unsynced}
use Rattle.volume_turns.proofs.StatusLaws.{fault_counts, fault_ends, not_as}
use Rattle.volume_turns.proofs.SyncLaws.{none_up_to, syncs_on}
use Rattle.volume_turns.proofs.dumping.dump_on.Goals as goal

pub returns-in-Ok : goal.returns-in-Ok
returns-in-Ok g c =
    let V = g.V.Files in
    let M = g.M.Machine in
    let a = c.args.m.now in
    let m = c.sync.new.self in
    let b = c.dump_asked.new.m in
    let v = c.args.v in
    let status = c.dump_asked.result in
    let sync = c.in-Ok.ensures in
    let x = c.dump_asked.ensures in
    let timed = timed_by M g.met.M.Machine.dated g.met.M.Machine.history g.met.M.Machine.counts_now g.met.M.Machine.only_now in
    let told = told_synced (M.report a) (M.report m) c.in-Ok.field-0 sync.sectors sync.cause in
    let uses : UsesDisk (M.report a) (M.report m) = record { sectors = sync.sectors; disk = sync.cause.disk.later; input = sync.cause.input; output = sync.cause.output } in
    let reads : KeepsSynced M a m = synced_keeps M a m uses sync.trust sync.worn sync.time (timed a) in
    let from = from_asked V.state V.holds M c.args.since c.args.most v c.requires.up (λ y at h left. g.met.M.Machine.only_now y at h left) a m b status told reads x sync.counted in
    record {
      ends = from_ends M (V.state v).layout a b status from;
      takes = from_takes M (V.state v).layout a b status from;
      tells = from_tells M (V.state v).layout a b status from;
      runs = λ h input rest k none stands on.
          asked_out V.state V.holds M c.args.since c.args.most v c.requires.up (λ y at honest left. g.met.M.Machine.only_now y at honest left) a m b status told reads k (g.met.V.Files.wears v k) stands on (λ y honest. g.met.M.Machine.short y honest) timed sync.synced none input rest x h;
    }

pub returns-in-Err : goal.returns-in-Err
returns-in-Err g c =
    let V = g.V.Files in
    let M = g.M.Machine in
    let a = c.args.m.now in
    let m = c.sync.new.self in
    let b = c.end_with.new.m in
    let place = c.in-Err.failed.place in
    let why = Ends.Device place in
    let sync = c.in-Err.ensures in
    let line = c.end_with.ensures in
    let status = c.end_with.result in
    let timed = timed_by M g.met.M.Machine.dated g.met.M.Machine.history g.met.M.Machine.counts_now g.met.M.Machine.only_now in
    let told = told_unsynced (M.report a) (M.report m) {U = Unit {0}} c.in-Err.failed sync.sectors sync.cause in
    let uses : UsesDisk (M.report a) (M.report m) = record { sectors = sync.sectors; disk = sync.cause.disk.later; input = sync.cause.input; output = sync.cause.output } in
    let reads : KeepsSynced M a m = synced_keeps M a m uses sync.trust sync.worn sync.time (timed a) in
    record {
      ends = record {
        run = record {
          status = inr (inr (fault_ends why status tt line.status));
          trust = trusts_on sync.trust line.says.trust;
          last = λ of h. ends_fault (M.report b).fault_place (M.now m) (M.now b) status why (told_place why (M.report a) (M.report m) (M.report b) told.disk line.says.spares.place) (line.ends h) of;
        };
        since = since_on M a m b line.says.trust.honest reads.since (λ h. (sync.time h).later) line.says.since;
      };
      takes = record {
        ledger = λ t. syncs_on 1 (M.ledger a) (M.ledger a) (M.ledger b) (line.ledger t ∙ sync.counted_err (line.says.trust.tells t)) (none_up_to 1 (M.ledger a));
        counts = fault_counts (M.report a) (M.report m) (M.report b) status line.says.spares {T = Unit {0}} why told line.status;
      };
      tells = λ h. record {
        says = λ three. absurd (not_as 3 4 status (λ e. omega (arith, e)) (λ e. omega (arith, e)) line.status three);
        spent = not_as 9 4 status (λ e. omega (arith, e)) (λ e. omega (arith, e)) line.status;
      };
      runs = λ h input rest k none stands on. let back = line.says.trust.honest h in let asked = span_of c.args.since c.args.most (volume_of k).entries in
          runs_dumped M c.args.since c.args.most (M.report a) k a b input rest status asked refl
          (unbegun_out V.state V.holds M k c.args.v a m (g.met.V.Files.wears c.args.v k) stands on (λ y honest. g.met.M.Machine.short y honest) timed reads back none c.args.since c.args.most b status why tt told line.says h (line.ends h) asked);
    }
