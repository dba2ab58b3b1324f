use Rattle.std.proofs.Common.{◌≡◌, ◌≤◌, ℕ, true, List, refl, ◌∙◌, subst}
use Rattle.std.specs.Prelude.{OnOk}
use Rattle.sector_disk.specs.Machine.{LeavesOnly}
use Rattle.fsd_texts.specs.declared.fault.Fault.TheVariants as Ends
use Rattle.fsd_runs.specs.Errands.{forced_turn}
use Rattle.scrub.specs.Telling.{AreOfPage}
use Rattle.volume_turns.specs.Once.{close_fault}
use Rattle.volume_turns.specs.Turns.{SaysAll, Unsaid, UttersBehind}
use Rattle.volume_turns.proofs.AnsweringLaws.{says_so}
use Rattle.volume_turns.proofs.ApartLaws.{fault_is}
use Rattle.volume_turns.proofs.InputLaws.{close_of_call, device_close}
use Rattle.volume_turns.proofs.LineLaws.{close_wants, wants_not}
use Rattle.volume_turns.proofs.NumberLaws.{said_forced}
use Rattle.volume_turns.proofs.OnceLaws.{close_failed, close_said}
use Rattle.volume_turns.proofs.OrderLaws.{close_loss}
use Rattle.volume_turns.proofs.RunLaws.{on_err_said, on_ok_said}
use Rattle.volume_turns.proofs.SaidLaws.{keeps_by, keeps_then}
use Rattle.volume_turns.proofs.SayLaws.{timed_by}
use Rattle.volume_turns.proofs.SpeaksLaws.{speaks_behind, speaks_failed, speaks_text}
use Rattle.volume_turns.proofs.ToldLaws.{close_told, unsaid_on}
use Rattle.volume_turns.proofs.WornLaws.{close_unworn}
use Rattle.volume_turns.proofs.generate.close_forced.Goals as goal

pub returns-in-Ok : goal.returns-in-Ok
returns-in-Ok g c =
    let V = g.V.Files in
    let M = g.M.Machine in
    let s = V.state c.args.v in
    let a = c.args.m.now in
    let m = c.close.new.m in
    let b = c.say_forced.new.m in
    let said = c.as_slice.result.now in
    let is : said ≡ forced_turn.said = c.as_slice.ensures.value ∙ c.lay_line-said.ensures in
    let disk = c.in-Ok.ensures.disk in
    let say = c.say_forced.ensures in
    let result = c.say_forced.result in
    let all : OnOk result (M.honest b → SaysAll forced_turn.said (M.now m) (M.now b)) = subst (λ (x : List ℕ). OnOk result (M.honest b → SaysAll x (M.now m) (M.now b))) is say.said in
    let timed = timed_by M g.met.M.Machine.dated g.met.M.Machine.history g.met.M.Machine.counts_now g.met.M.Machine.only_now in
    record {
      speaks = speaks_behind disk (speaks_text say.says (λ h. (say.moments h).later));
      forces = record {
        image = unsaid_on AreOfPage s.layout (M.now b).image (M.honest b) (M.now m) (M.now b) result say.unsaid;
        unworn = wants_not Ends.WornOut tt result say.wants;
        says = said_forced (M.honest b) (M.honest m) (M.now a) (M.now m) (M.now b) say.says.trust.honest disk.quiet result all;
        quiet = λ h. keeps_then (M.now a) (M.now m) (M.now b) result (disk.quiet (say.says.trust.honest h))
            (keeps_by forced_turn.said (M.now m) (M.now b) result (says_so forced_turn.said (M.now m) (M.now b) result (on_ok_said (SaysAll forced_turn.said (M.now m) (M.now b)) result h all) (on_err_said (Unsaid (M.now m) (M.now b)) result h say.unsaid)));
      };
      wants = λ up. say.wants;
      closes = λ h k f stands on. let back = say.says.trust.honest h in
          close_said V.state V.holds M c.args.v a m b k f stands on forced_turn.said _ disk back (timed a (disk.trust.honest back)) (timed m back) (c.in-Ok.ensures.done back k stands) (g.met.M.Machine.short m back) (timed b h) (say.says.since h)
          (subst (λ (x : List ℕ). LeavesOnly M.moment M.left_since m b (UttersBehind true x (M.now m))) is (say.moments h))
          result (on_ok_said (SaysAll forced_turn.said (M.now m) (M.now b)) result h all) (on_ok_said ((M.now m).time ≤ (M.now b).synced) result h say.synced) (on_err_said (Unsaid (M.now m) (M.now b)) result h say.unsaid);
    }

pub returns-in-Err : goal.returns-in-Err
returns-in-Err g c =
    let V = g.V.Files in
    let M = g.M.Machine in
    let s = V.state c.args.v in
    let a = c.args.m.now in
    let m = c.close.new.m in
    let refused = c.in-Err.why in
    let e = c.in-Err.ensures in
    let disk = e.disk in
    let timed = timed_by M g.met.M.Machine.dated g.met.M.Machine.history g.met.M.Machine.counts_now g.met.M.Machine.only_now in
    rw c.close_fault.ensures (record {
      speaks = speaks_failed (close_fault refused) (device_close refused) (close_of_call refused) disk;
      forces = record {
        image = λ h. close_told s s (V.resident c.args.v) (M.now a) (M.now m) refl refused (e.causes h);
        unworn = λ is. close_unworn refused (fault_is _ (close_fault refused) Ends.WornOut refl is);
        says = tt;
        quiet = disk.quiet;
      };
      wants = λ up. close_wants refused (close_loss s up refused e.order.follows);
      closes = λ h k f stands on. close_failed V.state V.holds M c.args.v a m m k f stands on forced_turn.said _ disk h (timed a (disk.trust.honest h)) (timed m h) refused (e.done h k stands);
    })
