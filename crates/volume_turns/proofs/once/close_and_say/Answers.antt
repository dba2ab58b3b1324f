use Rattle.std.proofs.Common.{◌≤◌, refl, subst}
use Rattle.fsd_texts.specs.declared.fault.Fault.{Fault}
use Rattle.fsd_texts.specs.declared.fault.Fault.TheVariants as Ends
use Rattle.scrub.specs.Telling.{AreOfPage}
use Rattle.volume_turns.specs.Once.{close_fault}
use Rattle.volume_turns.specs.Steps.{IsToldOn}
use Rattle.volume_turns.specs.Turns.{SaysAll, Unsaid}
use Rattle.volume_turns.proofs.AnsweringLaws.{closed_by, said_unwritten, says_so}
use Rattle.volume_turns.proofs.ApartLaws.{fault_is}
use Rattle.volume_turns.proofs.InputLaws.{close_of_call, device_close}
use Rattle.volume_turns.proofs.LineLaws.{close_wants, wants_not}
use Rattle.volume_turns.proofs.OnceLaws.{close_failed, close_said}
use Rattle.volume_turns.proofs.OrderLaws.{close_loss}
use Rattle.volume_turns.proofs.RunLaws.{on_err_said, on_ok_said}
use Rattle.volume_turns.proofs.SavingLaws.{closed_written, has_closed, on_ok}
use Rattle.volume_turns.proofs.SayLaws.{timed_by}
use Rattle.volume_turns.proofs.SpeaksLaws.{speaks_behind, speaks_failed, speaks_text}
use Rattle.volume_turns.proofs.ToldLaws.{close_told, unsaid_told}
use Rattle.volume_turns.proofs.WornLaws.{close_unworn}
use Rattle.volume_turns.proofs.once.close_and_say.Goals as goal

pub returns-in-Ok : goal.returns-in-Ok
returns-in-Ok g c =
    let V = g.V.Files in
    let M = g.M.Machine in
    let s = V.state c.args.v in
    let a = c.args.m.now in
    let m = c.close.new.m in
    let b = c.say_forced.new.m in
    let text = c.args.text.now in
    let e = c.in-Ok.ensures in
    let disk = e.disk in
    let say = c.say_forced.ensures in
    let result = c.say_forced.result in
    let timed = timed_by M g.met.M.Machine.dated g.met.M.Machine.history g.met.M.Machine.counts_now g.met.M.Machine.only_now in
    record {
      speaks = speaks_behind disk (speaks_text say.says (λ h. (say.moments h).later));
      closing = λ h.
          let back = say.says.trust.honest h in
          let run = say.moments h in
          let unsaid = on_err_said (Unsaid (M.now m) (M.now b)) result h say.unsaid in
          let utters = (run.each (M.now b) (g.met.M.Machine.counts_now b (M.moment m) h run.later)).utters in
          closed_by s text (M.now a) (M.now m) (M.now b) result (disk.windows back) (disk.quiet back) (e.writes.rest back) (record { image = utters.image; windows = utters.windows })
          (says_so text (M.now m) (M.now b) result (on_ok_said (SaysAll text (M.now m) (M.now b)) result h say.said) unsaid) (wants_not Ends.WornOut tt result say.wants)
          (unsaid_told AreOfPage s.layout (M.now b).image (M.now m) (M.now b) result unsaid);
      closed = λ h.
          let back = say.says.trust.honest h in
          let run = say.moments h in
          let utters = (run.each (M.now b) (g.met.M.Machine.counts_now b (M.moment m) h run.later)).utters in
          on_ok _ result (has_closed V.state V.holds c.args.v (M.now a) (M.now m) (M.now b) (disk.windows back) (record { image = utters.image; windows = utters.windows }) (λ some. e.saves some back) (λ k stands. e.done back k stands));
      wants = λ up. say.wants;
      written = λ clean. on_ok _ result (λ t. closed_written s clean (M.ledger a) (M.ledger m) (M.ledger b) (e.writes.counted (say.says.trust.tells t)) (said_unwritten _ (M.ledger m) (M.ledger b) (say.says.ledger t)));
      closes = λ h k f stands on. let back = say.says.trust.honest h in
          close_said V.state V.holds M c.args.v a m b k f stands on text _ disk back (timed a (disk.trust.honest back)) (timed m back) (e.done back k stands) (g.met.M.Machine.short m back) (timed b h) (say.says.since h) (say.moments h)
          result (on_ok_said (SaysAll text (M.now m) (M.now b)) result h say.said) (on_ok_said ((M.now m).time ≤ (M.now b).synced) result h say.synced) (on_err_said (Unsaid (M.now m) (M.now b)) result h say.unsaid);
    }

pub returns-in-Err : goal.returns-in-Err
returns-in-Err g c =
    let V = g.V.Files in
    let M = g.M.Machine in
    let s = V.state c.args.v in
    let a = c.args.m.now in
    let m = c.close.new.m in
    let refused = c.in-Err.why in
    let e = c.in-Err.ensures in
    let disk = e.disk in
    let timed = timed_by M g.met.M.Machine.dated g.met.M.Machine.history g.met.M.Machine.counts_now g.met.M.Machine.only_now in
    rw c.close_fault.ensures (record {
      speaks = speaks_failed (close_fault refused) (device_close refused) (close_of_call refused) disk;
      closing = λ h. record {
        windows = disk.windows h;
        says = disk.quiet h;
        rest = e.writes.rest h;
        unworn = λ is. close_unworn refused (fault_is _ (close_fault refused) Ends.WornOut refl is);
        told = λ why is. subst (λ (w : Fault). IsToldOn AreOfPage s.layout (M.now m).image w) (fault_is _ (close_fault refused) why refl is) (close_told s s (V.resident c.args.v) (M.now a) (M.now m) refl refused (e.causes h));
      };
      closed = λ h. tt;
      written = λ clean. tt;
      wants = λ up. close_wants refused (close_loss s up refused e.order.follows);
      closes = λ h k f stands on. close_failed V.state V.holds M c.args.v a m m k f stands on c.args.text.now _ disk h (timed a (disk.trust.honest h)) (timed m h) refused (e.done h k stands);
    })
