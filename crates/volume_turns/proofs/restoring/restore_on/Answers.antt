use Rattle.std.proofs.Common.{◌≡◌, inl, inr, ◌≤◌, length, false, true, List, [], None, ℕ, refl, ◌∙◌, sym, ap, subst, arith}
use Rattle.sector_disk.specs.Machine.{Ledger, Rose}
use Rattle.sector_disk.proofs.Holding.{trusts_on}
use Rattle.fsd_texts.specs.declared.fault.Fault.TheVariants as Ends
use Rattle.fsd_texts.specs.Script.{max_input}
use Rattle.fsd_runs.specs.declared.request.Request.TheVariants.{Restore}
use Rattle.scrub.specs.Telling.{AreOfPage}
use Rattle.volume_turns.specs.Whole.{RunsOut}
use Rattle.volume_turns.proofs.BeforeLaws.{stands_worn, worn_held}
use Rattle.volume_turns.specs.Causes.{Nothing}
use Rattle.volume_turns.proofs.CauseLaws.{call_since, says_input}
use Rattle.volume_turns.proofs.LastLaws.{ends_fault}
use Rattle.volume_turns.proofs.RestoreLaws.{new_unworn}
use Rattle.volume_turns.proofs.RestoreTakingLaws.{long_restore, restore_ended, restore_is_put, restore_not_five, restore_on}
use Rattle.volume_turns.proofs.RunLaws.{since_on}
use Rattle.volume_turns.proofs.SayLaws.{timed_by}
use Rattle.volume_turns.proofs.StatusLaws.{counts_taken, counts_untaken, fault_is_put, fault_not_low, long_is_put, not_as}
use Rattle.volume_turns.proofs.restoring.restore_on.Goals as goal

pub returns-in-Ok : goal.returns-in-Ok
returns-in-Ok g c =
    let V = g.V.Files in
    let M = g.M.Machine in
    let a = c.args.m.now in
    let m = c.read_input.new.m in
    let b = c.restore_taken.new.m in
    let input = (M.ledger a).input in
    let rest = (M.ledger b).input in
    let layout = (V.state c.args.v).layout in
    let came = c.in-Ok.ensures in
    let read = came.calls in
    let status = c.restore_taken.result in
    let bytes = c.as_slice.result.now in
    let is : bytes ≡ c.in-Ok.bytes = c.as_slice.ensures in
    let does = c.restore_taken.ensures in
    record {
      ends = record {
        run = record {
          status = restore_is_put status does.ends.run.status;
          trust = trusts_on read.trust does.ends.run.trust;
          last = does.ends.run.last;
        };
        since = since_on M a m b does.ends.run.trust.honest read.since (λ h. (read.any_moment h).later) does.ends.since;
      };
      takes = record {
        attaches = λ t. (does.takes.ledger t).attaches ∙ (came.takes (does.ends.run.trust.tells t)).attaches;
        syncs = λ tells. let none = (came.takes (does.ends.run.trust.tells tells)).syncs in let few = (does.takes.ledger tells).syncs in omega (arith, none, few);
        counts = counts_taken false (M.report a) (M.report m) (M.report b) status refl read.spares does.takes.counts;
        input = λ five t. absurd (restore_not_five status does.ends.run.status five);
        fails = λ five h. absurd (restore_not_five status does.ends.run.status five);
      };
      whole = λ low t. record { whole = (does.takes.ledger t).input ∙ came.end (does.ends.run.trust.tells t); few = subst (λ (x : List ℕ). length x ≤ max_input) (came.whole (does.ends.run.trust.tells t)) came.few };
      tells = λ h. record {
        says = λ three. call_since Nothing AreOfPage layout (M.now a).said (M.now m).said (M.now b) (read.exit (does.ends.run.trust.honest h)).said ((does.tells h).says three);
        spent = λ nine. (does.tells h).spent nine;
      };
      runs = λ h k none idle stands on. let back = does.ends.run.trust.honest h in let short = g.met.M.Machine.short a (read.trust.honest back) in
          let timed = timed_by M g.met.M.Machine.dated g.met.M.Machine.history g.met.M.Machine.counts_now g.met.M.Machine.only_now in
          let at_a = timed a (read.trust.honest back) in
          let at_m = timed m back in
          let there = stands_worn V.state V.holds M c.args.v k a m (g.met.V.Files.wears c.args.v k) short stands on at_a at_m (read.exit back) (read.since back) (read.any_moment back) in
          let held = worn_held V.state V.holds M c.args.v k a m (g.met.V.Files.wears c.args.v k) short stands on at_a at_m (read.exit back) (read.since back) (read.any_moment back) in
          subst (λ (x : List ℕ). RunsOut M Restore x rest (M.report a) k a b status) (is ∙ came.whole (g.met.M.Machine.honest_tells m back))
          (restore_on V.state V.holds M bytes rest c.args.v k a m b (g.met.V.Files.wears c.args.v k) short stands on at_a at_m false read back status refl (new_unworn (V.state c.args.v) c.requires.new) (does.runs h rest k idle there held));
    }

pub returns-in-Err-TooLong : goal.returns-in-Err-TooLong
returns-in-Err-TooLong g c =
    let V = g.V.Files in
    let M = g.M.Machine in
    let a = c.args.m.now in
    let m = c.read_input.new.m in
    let b = c.refuse_input.new.m in
    let input = (M.ledger a).input in
    let rest = (M.ledger b).input in
    let layout = (V.state c.args.v).layout in
    let came = rw c.in-Err-TooLong.field-0-is at c.in-Err-TooLong.ensures in
    let read = came.calls in
    let status = c.refuse_input.result in
    let does = c.refuse_input.ensures in
    record {
      ends = record {
        run = record {
          status = does.ends.run.status.put;
          trust = trusts_on read.trust does.ends.run.trust;
          last = does.ends.run.last;
        };
        since = since_on M a m b does.ends.run.trust.honest read.since (λ h. (read.any_moment h).later) does.ends.since;
      };
      takes = record {
        attaches = λ t. (does.takes.ledger t).attaches ∙ (came.takes (does.ends.run.trust.tells t)).attaches;
        syncs = λ tells. let none = (came.takes (does.ends.run.trust.tells tells)).syncs in let few = (does.takes.ledger tells).syncs in omega (arith, none, few);
        counts = counts_taken false (M.report a) (M.report m) (M.report b) status refl read.spares does.takes.counts;
        input = λ five t. inr (came.long refl (does.ends.run.trust.tells t));
        fails = λ five h. does.long five h input (M.report a) (M.report b) (came.long refl (g.met.M.Machine.honest_tells m (does.ends.run.trust.honest h)));
      };
      whole = λ low t. absurd (does.ends.run.status.unmade low);
      tells = λ h. record {
        says = λ three. call_since Nothing AreOfPage layout (M.now a).said (M.now m).said (M.now b) (read.exit (does.ends.run.trust.honest h)).said (does.says three h);
        spent = λ nine. does.ends.run.status.unspent nine;
      };
      runs = λ h k none idle stands on. let back = does.ends.run.trust.honest h in let short = g.met.M.Machine.short a (read.trust.honest back) in
          let timed = timed_by M g.met.M.Machine.dated g.met.M.Machine.history g.met.M.Machine.counts_now g.met.M.Machine.only_now in
          let at_a = timed a (read.trust.honest back) in
          let at_m = timed m back in
          let there = stands_worn V.state V.holds M c.args.v k a m (g.met.V.Files.wears c.args.v k) short stands on at_a at_m (read.exit back) (read.since back) (read.any_moment back) in
          let held = worn_held V.state V.holds M c.args.v k a m (g.met.V.Files.wears c.args.v k) short stands on at_a at_m (read.exit back) (read.since back) (read.any_moment back) in
          let many = came.long refl (g.met.M.Machine.honest_tells m back) in
          restore_on V.state V.holds M input rest c.args.v k a m b (g.met.V.Files.wears c.args.v k) short stands on at_a at_m false read back status refl (new_unworn (V.state c.args.v) c.requires.new)
          (long_restore M [] None input rest many (M.report m) k m b status (does.runs h [] None input rest k many none there held));
    }

pub returns-in-Err-Failed : goal.returns-in-Err-Failed
returns-in-Err-Failed g c =
    let V = g.V.Files in
    let M = g.M.Machine in
    let a = c.args.m.now in
    let m = c.read_input.new.m in
    let b = c.end_with.new.m in
    let input = (M.ledger a).input in
    let rest = (M.ledger b).input in
    let layout = (V.state c.args.v).layout in
    let came = rw c.in-Err-Failed.field-0-is at c.in-Err-Failed.ensures in
    let read = came.calls in
    let status = c.end_with.result in
    let line = c.end_with.ensures in
    let rose : Rose (M.report a).input_faults (M.report b).input_faults = subst (λ (n : ℕ). Rose (M.report a).input_faults n) (sym line.says.spares.input) read.spares.input in
    record {
      ends = record {
        run = record {
          status = long_is_put status line.status;
          trust = trusts_on read.trust line.says.trust;
          last = λ of h. ends_fault (M.report b).fault_place (M.now m) (M.now b) status Ends.Input tt (line.ends h) of;
        };
        since = since_on M a m b line.says.trust.honest read.since (λ h. (read.any_moment h).later) line.says.since;
      };
      takes = record {
        attaches = λ t. ap (λ (x : Ledger). x.attaches) (line.ledger t) ∙ (came.takes (line.says.trust.tells t)).attaches;
        syncs = λ tells. let none = (came.takes (line.says.trust.tells tells)).syncs in let same = ap (λ (x : Ledger). x.syncs) (line.ledger tells) in omega (arith, none, same);
        counts = counts_untaken true (M.report a) (M.report m) (M.report b) status Ends.Input (λ e. omega (arith, e)) (λ want. absurd want) read.spares line.says.spares line.status;
        input = λ five t. inl rose;
        fails = λ five h. says_input Ends.Input input (M.report a) (M.report b) (M.now m) (M.now b) status rose (line.ends h) five;
      };
      whole = λ low t. absurd (fault_not_low Ends.Input status line.status low);
      tells = λ h. record {
        says = λ three. absurd (not_as 3 5 status (λ e. omega (arith, e)) (λ e. omega (arith, e)) line.status three);
        spent = λ nine. not_as 9 5 status (λ e. omega (arith, e)) (λ e. omega (arith, e)) line.status nine;
      };
      runs = λ h k none idle stands on. let back = line.says.trust.honest h in
          let timed = timed_by M g.met.M.Machine.dated g.met.M.Machine.history g.met.M.Machine.counts_now g.met.M.Machine.only_now in
          restore_ended V.state V.holds M input rest c.args.v k a m b (g.met.V.Files.wears c.args.v k) (g.met.M.Machine.short a (read.trust.honest back)) stands on (timed a (read.trust.honest back)) (timed m back) true read back status Ends.Input tt rose line.says h (timed b h) (line.ends h);
    }

pub returns-in-Err-Memory : goal.returns-in-Err-Memory
returns-in-Err-Memory g c =
    let V = g.V.Files in
    let M = g.M.Machine in
    let a = c.args.m.now in
    let m = c.read_input.new.m in
    let b = c.end_with-in-Err-Memory.new.m in
    let input = (M.ledger a).input in
    let rest = (M.ledger b).input in
    let layout = (V.state c.args.v).layout in
    let came = rw c.in-Err-Memory.field-0-is at c.in-Err-Memory.ensures in
    let read = came.calls in
    let status = c.end_with-in-Err-Memory.result in
    let line = c.end_with-in-Err-Memory.ensures in
    record {
      ends = record {
        run = record {
          status = fault_is_put Ends.Memory status tt line.status;
          trust = trusts_on read.trust line.says.trust;
          last = λ of h. ends_fault (M.report b).fault_place (M.now m) (M.now b) status Ends.Memory tt (line.ends h) of;
        };
        since = since_on M a m b line.says.trust.honest read.since (λ h. (read.any_moment h).later) line.says.since;
      };
      takes = record {
        attaches = λ t. ap (λ (x : Ledger). x.attaches) (line.ledger t) ∙ (came.takes (line.says.trust.tells t)).attaches;
        syncs = λ tells. let none = (came.takes (line.says.trust.tells tells)).syncs in let same = ap (λ (x : Ledger). x.syncs) (line.ledger tells) in omega (arith, none, same);
        counts = counts_untaken false (M.report a) (M.report m) (M.report b) status Ends.Memory (λ e. omega (arith, e)) (λ want. refl) read.spares line.says.spares line.status;
        input = λ five t. absurd (not_as 5 7 status (λ e. omega (arith, e)) (λ e. omega (arith, e)) line.status five);
        fails = λ five h. absurd (not_as 5 7 status (λ e. omega (arith, e)) (λ e. omega (arith, e)) line.status five);
      };
      whole = λ low t. absurd (fault_not_low Ends.Memory status line.status low);
      tells = λ h. record {
        says = λ three. absurd (not_as 3 7 status (λ e. omega (arith, e)) (λ e. omega (arith, e)) line.status three);
        spent = λ nine. not_as 9 7 status (λ e. omega (arith, e)) (λ e. omega (arith, e)) line.status nine;
      };
      runs = λ h k none idle stands on. let back = line.says.trust.honest h in
          let timed = timed_by M g.met.M.Machine.dated g.met.M.Machine.history g.met.M.Machine.counts_now g.met.M.Machine.only_now in
          restore_ended V.state V.holds M input rest c.args.v k a m b (g.met.V.Files.wears c.args.v k) (g.met.M.Machine.short a (read.trust.honest back)) stands on (timed a (read.trust.honest back)) (timed m back) false read back status Ends.Memory tt tt line.says h (timed b h) (line.ends h);
    }
