use Rattle.std.proofs.Common.{◌≡◌, ℕ, inr, Option, Ok, refl, ◌∙◌, ap}
use Rattle.std.specs.Prelude.{◌==◌, IsFalse, Result}
use Rattle.std.proofs.lemmas.Bool.{eq-eqb}
use Rattle.sector_disk.proofs.Holding.{trusts_on}
use Rattle.fsd_texts.specs.declared.counts.Counts.{Counts}
use Rattle.fsd_texts.specs.declared.fault.Fault.{Fault}
use Rattle.fsd_texts.specs.declared.fault.Fault.TheVariants as Ends
use Rattle.scrub.specs.Telling.{AreOfPage}
use Rattle.volume_turns.specs.Causes.{Nothing}
use Rattle.volume_turns.specs.declared.turns.Halt.{Halt}
use Rattle.volume_turns.specs.declared.turns.Halt.TheVariants.{Fault as Stopped}
use Rattle.volume_turns.proofs.CauseLaws.{call_says}
use Rattle.volume_turns.proofs.GenerateLaws.{made_broken, made_said, made_unsaid, made_worn}
use Rattle.volume_turns.proofs.LastLaws.{ends_fault, fault_not, line_other, told_place}
use Rattle.volume_turns.proofs.NumberLaws.{ended, made_all}
use Rattle.volume_turns.proofs.RunLaws.{since_on}
use Rattle.volume_turns.proofs.SyncLaws.{syncs_on}
use Rattle.volume_turns.proofs.SayLaws.{timed_by}
use Rattle.volume_turns.proofs.StatusLaws.{all_is_made, call_of_volume, fault_counts, fault_is_made, fault_not_zero, line_counts, not_as, unsaid_counts, worn_is_made}
use Rattle.volume_turns.proofs.WornLaws.{status_worn}
use Rattle.volume_turns.proofs.generate.generate_on.Goals as goal

differ : (m n : ℕ) → IsFalse (m == n) → m ≡ n → ⊥
differ m n other is = let same = eq-eqb m n is in cc (same, other)

abbrev came_to : Option Counts → Result (Option Counts) Halt
came_to o = Ok o

-- the last line tells what came of them

pub returns-in-Ok-Some : goal.returns-in-Ok-Some
returns-in-Ok-Some g c =
    let M = g.M.Machine in
    let a = c.args.m.now in
    let p = c.make_group.new.m in
    let b = c.last_line.new.m in
    let group = c.make_group.ensures in
    let came = c.in-Ok-Some in
    let at = rw came.field-0-is at came.ensures in
    let line = c.last_line.ensures in
    let status = c.last_line.result in
    record {
      ends = record {
        run = record {
          status = all_is_made status line.status;
          trust = trusts_on group.speaks.trust line.says.trust;
          last = λ of h. line_other (M.report b).fault_place (M.now p) (M.now b) status c.line.result 0 refl (line.ends h) of;
        };
        since = since_on M a p b line.says.trust.honest group.speaks.since group.speaks.later line.says.since;
      };
      takes = record {
        ledger = λ t. syncs_on 1 (M.ledger a) (M.ledger p) (M.ledger b) (line.ledger t) (group.speaks.ledger (line.says.trust.tells t));
        counts = line_counts (M.report a) (M.report p) (M.report b) status line.says.spares came.field-0 0 (differ 0 4 refl) came.ensures.speaks.told line.status;
      };
      tells = λ h. record {
        says = λ three. absurd (not_as 3 0 status (differ 0 3 refl) (differ 6 3 refl) line.status three);
        spent = λ nine. absurd (not_as 9 0 status (differ 0 9 refl) (differ 6 9 refl) line.status nine);
      };
      all = λ zero h. made_all c.args.count came.tally at.counts c.line.result c.line.ensures (M.now a) (M.now p) (M.now b) status (at.forces.says (line.says.trust.honest h)) (line.ends h) zero;
      runs = λ h input rest k none stands disk. let back = line.says.trust.honest h in let timed = timed_by M g.met.M.Machine.dated g.met.M.Machine.history g.met.M.Machine.counts_now g.met.M.Machine.only_now in let made = at.group back k none stands disk in
          made_said M c.args.seed c.args.count input rest k a p b h (line.says.since h) (g.met.M.Machine.short p back) stands.ends (timed p back) (timed b h) status came.tally made.group made.counts c.line.result c.line.ensures at.speaks.told.later line.says (line.ends h);
    }

-- the mount is worn out

pub returns-in-Ok-None : goal.returns-in-Ok-None
returns-in-Ok-None g c =
    let M = g.M.Machine in
    let a = c.args.m.now in
    let p = c.make_group.new.m in
    let b = c.last_line-in-Ok-None.new.m in
    let group = c.make_group.ensures in
    let came = c.in-Ok-None in
    let at = rw came.field-0-is at came.ensures in
    let line = c.last_line-in-Ok-None.ensures in
    let status = c.last_line-in-Ok-None.result in
    record {
      ends = record {
        run = record {
          status = worn_is_made status line.status;
          trust = trusts_on group.speaks.trust line.says.trust;
          last = λ of h. ends_fault (M.report b).fault_place (M.now p) (M.now b) status Ends.WornOut tt (line.ends h) of;
        };
        since = since_on M a p b line.says.trust.honest group.speaks.since group.speaks.later line.says.since;
      };
      takes = record {
        ledger = λ t. syncs_on 1 (M.ledger a) (M.ledger p) (M.ledger b) (line.ledger t) (group.speaks.ledger (line.says.trust.tells t));
        counts = line_counts (M.report a) (M.report p) (M.report b) status line.says.spares came.field-0 9 (differ 9 4 refl) came.ensures.speaks.told line.status;
      };
      tells = λ h. record {
        says = λ three. absurd (not_as 3 9 status (differ 9 3 refl) (differ 6 3 refl) line.status three);
        spent = λ nine. came.ensures.used (ap came_to came.field-0-is) (line.says.trust.honest h);
      };
      all = λ zero h. absurd (not_as 0 9 status (differ 9 0 refl) (differ 6 0 refl) line.status zero);
      runs = λ h input rest k none stands disk. let back = line.says.trust.honest h in let timed = timed_by M g.met.M.Machine.dated g.met.M.Machine.history g.met.M.Machine.counts_now g.met.M.Machine.only_now in
          made_worn M c.args.seed c.args.count input rest k a p b h (line.says.since h) (g.met.M.Machine.short p back) stands.ends (timed p back) (timed b h) status (at.group back k none stands disk).group at.speaks.told.later line.says (line.ends h);
    }

-- a fault has ended it

pub returns-in-Err-Fault : goal.returns-in-Err-Fault
returns-in-Err-Fault g c =
    let M = g.M.Machine in
    let a = c.args.m.now in
    let p = c.make_group.new.m in
    let b = c.end_with.new.m in
    let group = c.make_group.ensures in
    let came = c.in-Err-Fault in
    let at = rw came.field-0-is at came.ensures in
    let line = c.end_with.ensures in
    let status = c.end_with.result in
    record {
      ends = record {
        run = record {
          status = fault_is_made came.why status (call_of_volume came.why at.speaks.fault) line.status;
          trust = trusts_on group.speaks.trust line.says.trust;
          last = λ of h. ends_fault (M.report b).fault_place (M.now p) (M.now b) status came.why (told_place came.why (M.report a) (M.report p) (M.report b) at.speaks.told.disk line.says.spares.place) (line.ends h) of;
        };
        since = since_on M a p b line.says.trust.honest group.speaks.since group.speaks.later line.says.since;
      };
      takes = record {
        ledger = λ t. syncs_on 1 (M.ledger a) (M.ledger p) (M.ledger b) (line.ledger t) (group.speaks.ledger (line.says.trust.tells t));
        counts = fault_counts (M.report a) (M.report p) (M.report b) status line.says.spares came.why at.speaks.told line.status;
      };
      tells = λ h. record {
        says = λ three. let back = line.says.trust.honest h in
            call_says Nothing AreOfPage (g.V.Files.state c.args.v).layout (M.now a).said came.why at.speaks.fault (M.now p) (M.now b) status (at.forces.quiet back) (line.says.exit h).image (at.forces.image back) (line.ends h) three;
        spent = λ nine. absurd (came.ensures.forces.unworn (ap ended (came.field-0-is ∙ ap (λ (w : Fault). Stopped w) (status_worn came.why status line.status nine))));
      };
      all = λ zero h. absurd (fault_not_zero came.why status line.status zero);
      runs = λ h input rest k none stands disk. let back = line.says.trust.honest h in let timed = timed_by M g.met.M.Machine.dated g.met.M.Machine.history g.met.M.Machine.counts_now g.met.M.Machine.only_now in
          made_broken M c.args.seed c.args.count input rest k a p b h (line.says.since h) (g.met.M.Machine.short p back) stands.ends (timed p back) (timed b h) status came.why (at.group back k none stands disk).group at.speaks.told line.says (line.ends h);
    }

-- the output has failed

pub returns-in-Err-Output : goal.returns-in-Err-Output
returns-in-Err-Output g c =
    let M = g.M.Machine in
    let a = c.args.m.now in
    let b = c.make_group.new.m in
    let group = c.make_group.ensures in
    let came = c.in-Err-Output in
    let at = rw came.field-0-is at came.ensures in
    record {
      ends = record {
        run = record {
          status = inr (inr refl);
          trust = group.speaks.trust;
          last = λ of h. absurd (fault_not 6 6 refl of refl);
        };
        since = group.speaks.since;
      };
      takes = record {
        ledger = group.speaks.ledger;
        counts = unsaid_counts (M.report a) (M.report b) at.speaks.told;
      };
      tells = λ h. record {
        says = λ three. absurd (differ 6 3 refl three);
        spent = λ nine. absurd (differ 6 9 refl nine);
      };
      all = λ zero h. absurd (differ 6 0 refl zero);
      runs = λ h input rest k none stands disk. made_unsaid M c.args.seed c.args.count input rest k a b h (g.met.M.Machine.short b h) stands.ends (timed_by M g.met.M.Machine.dated g.met.M.Machine.history g.met.M.Machine.counts_now g.met.M.Machine.only_now b h) (at.group h k none stands disk).group at.speaks.told;
    }
