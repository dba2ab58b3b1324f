use Rattle.std.proofs.Common.{inl, inr, Err, refl, ap, arith}
use Rattle.sector_disk.proofs.Holding.{trusts_on}
use Rattle.fsd_texts.specs.declared.fault.Fault.{Fault}
use Rattle.volume_turns.specs.Causes.{Nothing}
use Rattle.volume_turns.specs.declared.turns.Halt.TheVariants.{Fault as Stopped}
use Rattle.volume_turns.specs.Commands.{MayLose}
use Rattle.volume_turns.proofs.AnsweringLaws.{one_failed, one_replied, one_unheard}
use Rattle.volume_turns.proofs.CauseLaws.{call_says}
use Rattle.volume_turns.proofs.HealLaws.{fault_unhealed, unheard_unhealed}
use Rattle.volume_turns.proofs.LastLaws.{ends_fault, fault_not, reply_not, told_place}
use Rattle.volume_turns.proofs.OneLaws.{one_broken, one_said, one_unsaid}
use Rattle.volume_turns.proofs.RunLaws.{since_on}
use Rattle.volume_turns.proofs.SyncLaws.{syncs_on}
use Rattle.volume_turns.proofs.SayLaws.{timed_by}
use Rattle.volume_turns.proofs.StatusLaws.{call_of_volume, counts_said, fault_counts, fault_is_one, from_not, unsaid_counts}
use Rattle.volume_turns.proofs.WornLaws.{status_worn}
use Rattle.volume_turns.proofs.whole.one_on.Goals as goal

-- its reply is said

pub returns-in-Ok : goal.returns-in-Ok
returns-in-Ok g c =
    let M = g.M.Machine in
    let a = c.args.m.now in
    let b = c.alone.new.m in
    let command = c.args.c.now in
    let does = c.in-Ok.ensures in
    let status = c.in-Ok.status in
    record {
      ends = record {
        status = inl does.status;
        trust = does.speaks.trust;
        last = λ of h. absurd (reply_not command status does.status of);
      };
      takes = record {
        ledger = does.speaks.ledger;
        counts = counts_said command (M.report a) (M.report b) status does.status does.speaks.told;
      };
      tells = λ h. record {
        says = λ three. absurd (from_not 3 command status (omega arith) (λ e. omega (arith, e)) does.status three);
        spent = λ nine. from_not 9 command status (omega arith) (λ e. omega (arith, e)) does.status nine;
      };
      since = does.speaks.since;
      one = λ h none. record { one = one_replied command (g.V.Files.state c.args.v) (M.now a) (M.now b) none status (does.answers h); heals = λ of. does.heals h none };
      runs = λ h rest k none idle stands disk. one_said M command rest k a b status (does.does h k none idle stands disk);
    }

-- a fault has ended it

pub returns-in-Err-Fault : goal.returns-in-Err-Fault
returns-in-Err-Fault g c =
    let M = g.M.Machine in
    let a = c.args.m.now in
    let p = c.alone.new.m in
    let b = c.end_with.new.m in
    let command = c.args.c.now in
    let s = g.V.Files.state c.args.v in
    let came = c.in-Err-Fault in
    let does = rw came.field-0-is at came.ensures in
    let line = c.end_with.ensures in
    let status = c.end_with.result in
    record {
      ends = record {
        status = fault_is_one command came.why status (call_of_volume came.why does.speaks.fault) line.status;
        trust = trusts_on does.speaks.trust line.says.trust;
        last = λ of h. ends_fault (M.report b).fault_place (M.now p) (M.now b) status came.why (told_place came.why (M.report a) (M.report p) (M.report b) does.speaks.told.disk line.says.spares.place) (line.ends h) of;
      };
      takes = record {
        ledger = λ t. syncs_on 1 (M.ledger a) (M.ledger p) (M.ledger b) (line.ledger t) (does.speaks.ledger (line.says.trust.tells t));
        counts = fault_counts (M.report a) (M.report p) (M.report b) status line.says.spares came.why does.speaks.told line.status;
      };
      tells = λ h. record {
        says = λ three. let ended = does.answers (line.says.trust.honest h) in
            call_says Nothing (MayLose c.args.c.now) s.layout (M.now a).said came.why does.speaks.fault (M.now p) (M.now b) status ended.quiet (line.says.exit h).image (ended.told came.why refl) (line.ends h) three;
        spent = λ nine.
            let worn = (does.answers (line.says.trust.honest h)).worn (ap (λ (w : Fault). Err (Stopped w)) (status_worn came.why status line.status nine)) in
            cc (worn, c.requires.unworn);
      };
      since = since_on M a p b line.says.trust.honest does.speaks.since does.speaks.later line.says.since;
      one = λ h none. record { one = one_failed command s (M.now a) (M.now p) none (M.now b) came.why status (does.answers (line.says.trust.honest h)) (line.says.exit h) (line.ends h); heals = λ of. absurd (fault_unhealed came.why status line.status of) };
      runs = λ h rest k none idle stands disk. let back = line.says.trust.honest h in
          let timed = timed_by M g.met.M.Machine.dated g.met.M.Machine.history g.met.M.Machine.counts_now g.met.M.Machine.only_now in
          one_broken M command rest k a p b (line.says.since h) h (g.met.M.Machine.short p back) stands.ends (does.answers back).windows (timed p back) (timed b h) came.why (does.does back k none idle stands disk) does.speaks.told status line.says (line.ends h);
    }

-- the output has failed

pub returns-in-Err-Output : goal.returns-in-Err-Output
returns-in-Err-Output g c =
    let M = g.M.Machine in
    let a = c.args.m.now in
    let b = c.alone.new.m in
    let command = c.args.c.now in
    let does = rw c.in-Err-Output.field-0-is at c.in-Err-Output.ensures in
    record {
      ends = record {
        status = inr (inr refl);
        trust = does.speaks.trust;
        last = λ of h. absurd (fault_not 6 6 refl of refl);
      };
      takes = record {
        ledger = does.speaks.ledger;
        counts = unsaid_counts (M.report a) (M.report b) does.speaks.told;
      };
      tells = λ h. record {
        says = λ three. absurd (omega (arith, three));
        spent = λ nine. omega (arith, nine);
      };
      since = does.speaks.since;
      one = λ h none. record { one = one_unheard command (g.V.Files.state c.args.v) (M.now a) (M.now b) none (does.answers h); heals = λ of. absurd (unheard_unhealed of) };
      runs = λ h rest k none idle stands disk. one_unsaid M command rest k a b (does.does h k none idle stands disk) does.speaks.told;
    }
