use Rattle.std.proofs.Common.{inl, inr, refl, ap, arith}
use Rattle.sector_disk.proofs.Holding.{trusts_on}
use Rattle.fsd_texts.specs.declared.fault.Fault.{Fault}
use Rattle.fsd_dumps.specs.Front.{dumped_in}
use Rattle.fsd_runs.specs.Errands.{restore_of}
use Rattle.scrub.specs.Telling.{AreOfPage}
use Rattle.volume_contract.specs.State.{volume_of}
use Rattle.volume_turns.specs.declared.turns.Halt.TheVariants.{Fault as Stopped}
use Rattle.volume_turns.specs.Causes.{Nothing}
use Rattle.volume_turns.proofs.CauseLaws.{call_says}
use Rattle.volume_turns.proofs.LastLaws.{ends_fault, fault_not, reply_not, told_place}
use Rattle.volume_turns.proofs.NumberLaws.{ended}
use Rattle.volume_turns.proofs.RestoreOutLaws.{low_from, restored_broken, restored_said, restored_unsaid, runs_restored, some_load}
use Rattle.volume_turns.proofs.RunLaws.{since_on}
use Rattle.volume_turns.proofs.SayLaws.{timed_by}
use Rattle.volume_turns.proofs.StatusLaws.{call_of_volume, counts_said, fault_counts, fault_ends, unsaid_counts}
use Rattle.volume_turns.proofs.SyncLaws.{syncs_on}
use Rattle.volume_turns.proofs.WornLaws.{status_worn}
use Rattle.volume_turns.proofs.restoring.restore_taken.Goals as goal

-- its last line is said

pub returns-in-Ok : goal.returns-in-Ok
returns-in-Ok g c =
    let M = g.M.Machine in
    let a = c.args.m.now in
    let b = c.restore_input.new.m in
    let does = c.in-Ok.ensures in
    let status = c.in-Ok.status in
    let speaks = does.calls.speaks in
    record {
      ends = record {
        run = record {
          status = inl does.low;
          trust = speaks.trust;
          last = λ of h. absurd (reply_not some_load status (low_from status does.low) of);
        };
        since = speaks.since;
      };
      takes = record {
        ledger = speaks.ledger;
        counts = counts_said some_load (M.report a) (M.report b) status (low_from status does.low) speaks.told;
      };
      tells = λ h. record {
        says = λ three. absurd (let low = does.low in omega (arith, low, three));
        spent = λ nine. let low = does.low in omega (arith, low, nine);
      };
      runs = λ h rest k none stands disk. runs_restored M (M.report a) k a b c.args.input.now rest status c.requires.few
          (restored_said M k (restore_of (dumped_in c.args.input.now) (volume_of k)) a b b (M.report a) status (does.restored h k none stands disk));
    }

-- a fault has ended it

pub returns-in-Err-Fault : goal.returns-in-Err-Fault
returns-in-Err-Fault g c =
    let M = g.M.Machine in
    let a = c.args.m.now in
    let p = c.restore_input.new.m in
    let b = c.end_with.new.m in
    let s = g.V.Files.state c.args.v in
    let came = c.in-Err-Fault in
    let does = rw came.field-0-is at came.ensures in
    let speaks = does.calls.speaks in
    let line = c.end_with.ensures in
    let status = c.end_with.result in
    record {
      ends = record {
        run = record {
          status = inr (fault_ends came.why status (call_of_volume came.why speaks.fault) line.status);
          trust = trusts_on speaks.trust line.says.trust;
          last = λ of h. ends_fault (M.report b).fault_place (M.now p) (M.now b) status came.why (told_place came.why (M.report a) (M.report p) (M.report b) speaks.told.disk line.says.spares.place) (line.ends h) of;
        };
        since = since_on M a p b line.says.trust.honest speaks.since speaks.later line.says.since;
      };
      takes = record {
        ledger = λ t. syncs_on 1 (M.ledger a) (M.ledger p) (M.ledger b) (line.ledger t) (speaks.ledger (line.says.trust.tells t));
        counts = fault_counts (M.report a) (M.report p) (M.report b) status line.says.spares came.why speaks.told line.status;
      };
      tells = λ h. record {
        says = λ three. let back = line.says.trust.honest h in
            call_says Nothing AreOfPage s.layout (M.now a).said came.why speaks.fault (M.now p) (M.now b) status (does.calls.quiet back) (line.says.exit h).image (does.calls.image back) (line.ends h) three;
        spent = λ nine. does.calls.unworn (ap (λ (w : Fault). ended (Stopped w)) (status_worn came.why status line.status nine)) (line.says.trust.honest h);
      };
      runs = λ h rest k none stands disk. let back = line.says.trust.honest h in
          let timed = timed_by M g.met.M.Machine.dated g.met.M.Machine.history g.met.M.Machine.counts_now g.met.M.Machine.only_now in
          runs_restored M (M.report a) k a b c.args.input.now rest status c.requires.few
          (restored_broken M k (restore_of (dumped_in c.args.input.now) (volume_of k)) a p b (M.report a) came.why (does.restored back k none stands disk) (line.says.since h) h (g.met.M.Machine.short p back) stands.ends (timed p back) (timed b h) speaks.told status line.says (line.ends h));
    }

-- the output has failed

pub returns-in-Err-Output : goal.returns-in-Err-Output
returns-in-Err-Output g c =
    let M = g.M.Machine in
    let a = c.args.m.now in
    let b = c.restore_input.new.m in
    let does = rw c.in-Err-Output.field-0-is at c.in-Err-Output.ensures in
    let speaks = does.calls.speaks in
    record {
      ends = record {
        run = record {
          status = inr (inr refl);
          trust = speaks.trust;
          last = λ of h. absurd (fault_not 6 6 refl of refl);
        };
        since = speaks.since;
      };
      takes = record {
        ledger = speaks.ledger;
        counts = unsaid_counts (M.report a) (M.report b) speaks.told;
      };
      tells = λ h. record {
        says = λ three. absurd (omega (arith, three));
        spent = λ nine. omega (arith, nine);
      };
      runs = λ h rest k none stands disk. runs_restored M (M.report a) k a b c.args.input.now rest 6 c.requires.few
          (restored_unsaid M k (restore_of (dumped_in c.args.input.now) (volume_of k)) a b b (M.report a) (does.restored h k none stands disk) speaks.told);
    }
