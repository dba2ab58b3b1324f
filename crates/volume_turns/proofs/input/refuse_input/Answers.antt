use Rattle.std.proofs.Common.{◌∙◌, arith}
use Rattle.sector_disk.specs.Machine.{UsesDisk, synced_once}
use Rattle.sector_disk.proofs.Holding.{trusts_on}
use Rattle.fsd_texts.specs.declared.fault.Fault.TheVariants as Ends
use Rattle.volume_turns.proofs.AnsweringLaws.{fault_alone}
use Rattle.volume_turns.proofs.CauseLaws.{says_input}
use Rattle.volume_turns.proofs.InputLaws.{refused_broken, refused_input}
use Rattle.volume_turns.proofs.LastLaws.{ends_fault, told_place}
use Rattle.volume_turns.proofs.RunLaws.{since_on}
use Rattle.volume_turns.proofs.SayLaws.{KeepsSynced, synced_keeps, timed_by, told_synced, told_unsynced}
use Rattle.volume_turns.proofs.StatusLaws.{as_not_low, fault_counts, fault_is_put, fault_not_five, fault_not_low, line_counts, long_is_put, not_as}
use Rattle.volume_turns.proofs.SyncLaws.{none_up_to, one_up_to, syncs_on}
use Rattle.volume_turns.proofs.input.refuse_input.Goals as goal

pub returns-in-Ok : goal.returns-in-Ok
returns-in-Ok g c =
    let V = g.V.Files in
    let M = g.M.Machine in
    let a = c.args.m.now in
    let m = c.sync.new.self in
    let b = c.last_line.new.m in
    let sync = c.in-Ok.ensures in
    let line = c.last_line.ensures in
    let status = c.last_line.result in
    let timed = timed_by M g.met.M.Machine.dated g.met.M.Machine.history g.met.M.Machine.counts_now g.met.M.Machine.only_now in
    let told = told_synced (M.report a) (M.report m) c.in-Ok.field-0 sync.sectors sync.cause in
    let uses : UsesDisk (M.report a) (M.report m) = record { sectors = sync.sectors; disk = sync.cause.disk.later; input = sync.cause.input; output = sync.cause.output } in
    let reads : KeepsSynced M a m = synced_keeps M a m uses sync.trust sync.worn sync.time (timed a) in
    record {
      ends = record {
        run = record {
          status = record {
            put = long_is_put status line.status;
            unmade = as_not_low 5 status (omega arith) line.status;
            unspent = not_as 9 5 status (λ e. omega (arith, e)) (λ e. omega (arith, e)) line.status;
          };
          trust = trusts_on sync.trust line.says.trust;
          last = λ of h. ends_fault (M.report b).fault_place (M.now m) (M.now b) status Ends.InputTooLong tt (line.ends h) of;
        };
        since = since_on M a m b line.says.trust.honest reads.since (λ h. (sync.time h).later) line.says.since;
      };
      takes = record {
        ledger = λ t. syncs_on 1 (M.ledger a) (synced_once (M.ledger a)) (M.ledger b) (line.ledger t ∙ sync.counted (line.says.trust.tells t)) (one_up_to (M.ledger a));
        counts = line_counts (M.report a) (M.report m) (M.report b) status line.says.spares tt 5 (λ e. omega (arith, e)) told line.status;
      };
      says = λ three h. absurd (not_as 3 5 status (λ e. omega (arith, e)) (λ e. omega (arith, e)) line.status three);
      fault = λ h. fault_alone Ends.InputTooLong (M.now a) (M.now m) (M.now b) status (sync.worn (line.says.trust.honest h)).said (line.ends h);
      long = λ five h input old new many. says_input Ends.InputTooLong input old new (M.now m) (M.now b) status many (line.ends h) five;
      runs = λ h name keep input rest k many none stands on. let back = line.says.trust.honest h in
          refused_input V.state V.holds M name keep input rest many c.args.v a m b k (g.met.V.Files.wears c.args.v k) stands on (λ x honest. g.met.M.Machine.short x honest) timed reads back h status none (sync.synced back) line.says (line.ends h);
    }

pub returns : goal.returns
returns g c =
    let V = g.V.Files in
    let M = g.M.Machine in
    let a = c.args.m.now in
    let m = c.sync.new.self in
    let b = c.end_with.new.m in
    let place = c.in-Err.failed.place in
    let why = Ends.Device place in
    let sync = c.in-Err.ensures in
    let line = c.end_with.ensures in
    let status = c.end_with.result in
    let timed = timed_by M g.met.M.Machine.dated g.met.M.Machine.history g.met.M.Machine.counts_now g.met.M.Machine.only_now in
    let told = told_unsynced (M.report a) (M.report m) {U = Unit {0}} c.in-Err.failed sync.sectors sync.cause in
    let uses : UsesDisk (M.report a) (M.report m) = record { sectors = sync.sectors; disk = sync.cause.disk.later; input = sync.cause.input; output = sync.cause.output } in
    let reads : KeepsSynced M a m = synced_keeps M a m uses sync.trust sync.worn sync.time (timed a) in
    record {
      ends = record {
        run = record {
          status = record {
            put = fault_is_put why status tt line.status;
            unmade = fault_not_low why status line.status;
            unspent = not_as 9 4 status (λ e. omega (arith, e)) (λ e. omega (arith, e)) line.status;
          };
          trust = trusts_on sync.trust line.says.trust;
          last = λ of h. ends_fault (M.report b).fault_place (M.now m) (M.now b) status why (told_place why (M.report a) (M.report m) (M.report b) told.disk line.says.spares.place) (line.ends h) of;
        };
        since = since_on M a m b line.says.trust.honest reads.since (λ h. (sync.time h).later) line.says.since;
      };
      takes = record {
        ledger = λ t. syncs_on 1 (M.ledger a) (M.ledger a) (M.ledger b) (line.ledger t ∙ sync.counted_err (line.says.trust.tells t)) (none_up_to 1 (M.ledger a));
        counts = fault_counts (M.report a) (M.report m) (M.report b) status line.says.spares {T = Unit {0}} why told line.status;
      };
      says = λ three h. absurd (not_as 3 4 status (λ e. omega (arith, e)) (λ e. omega (arith, e)) line.status three);
      fault = λ h. fault_alone why (M.now a) (M.now m) (M.now b) status (sync.worn (line.says.trust.honest h)).said (line.ends h);
      long = λ five h input old new many. absurd (fault_not_five why status tt line.status five);
      runs = λ h name keep input rest k many none stands on. let back = line.says.trust.honest h in
          refused_broken V.state V.holds M name keep input rest many c.args.v a m b k (g.met.V.Files.wears c.args.v k) stands on (λ x honest. g.met.M.Machine.short x honest) timed reads back h status place told line.says (line.ends h);
    }
