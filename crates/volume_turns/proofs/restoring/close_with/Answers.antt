use Rattle.std.proofs.Common.{◌≡◌, ℕ, List, Ok, Err, refl, ◌∙◌, ap, subst}
use Rattle.fsd_texts.specs.Text.{text}
use Rattle.fsd_texts.specs.declared.fault.Fault.TheVariants as Ends
use Rattle.volume_contract.specs.State.{Known, Stands}
use Rattle.volume_turns.specs.declared.turns.Halt.{Halt}
use Rattle.volume_turns.specs.declared.turns.Halt.TheVariants.{Fault as Stopped}
use Rattle.volume_turns.specs.Once.{ClosesAndSays}
use Rattle.volume_turns.specs.Turns.{OnDisk}
use Rattle.volume_turns.proofs.ApartLaws.{err_is, ok_apart}
use Rattle.volume_turns.proofs.RestoreLaws.{told_end}
use Rattle.volume_turns.proofs.SaidLaws.{keeps_by}
use Rattle.volume_turns.proofs.SpeaksLaws.{speaks_done, speaks_ended}
use Rattle.volume_turns.proofs.restoring.close_with.Goals as goal

pub returns-in-Ok : goal.returns-in-Ok
returns-in-Ok g c =
    let V = g.V.Files in
    let M = g.M.Machine in
    let a = c.args.m.now in
    let b = c.close_and_say.new.m in
    let e = c.in-Ok.ensures in
    let is : c.as_slice.result.now ≡ text c.args.line.now = c.as_slice.ensures.value ∙ c.lay_line-said.ensures in
    record {
      calls = record {
        speaks = speaks_done _ c.args.gives e.speaks;
        image = tt;
        unworn = λ is h. absurd (ok_apart _ c.args.gives (Stopped Ends.WornOut) refl is);
        quiet = λ h. tt;
      };
      gives_it = refl;
      closes = subst (λ (x : List ℕ). M.honest b → (k : Known) (f : ℕ) → Stands V.state V.holds c.args.v k (M.now a) → OnDisk M k f a → ClosesAndSays M k f x a b (Ok tt)) is e.closes;
    }

pub returns-in-Err : goal.returns-in-Err
returns-in-Err g c =
    let V = g.V.Files in
    let M = g.M.Machine in
    let a = c.args.m.now in
    let b = c.close_and_say.new.m in
    let e = c.in-Err.ensures in
    let end = c.in-Err.end in
    let is : c.as_slice.result.now ≡ text c.args.line.now = c.as_slice.ensures.value ∙ c.lay_line-said.ensures in
    record {
      calls = record {
        speaks = speaks_ended end e.speaks;
        image = λ h. told_end (V.state c.args.v).layout (M.now b).image end (λ why same. (e.closing h).told why (ap (λ (x : Halt). Err x) same));
        unworn = λ is h. (e.closing h).unworn (ap (λ (x : Halt). Err x) (err_is _ end (Stopped Ends.WornOut) refl is));
        quiet = λ h. keeps_by {T = Unit {0}} c.as_slice.result.now (M.now a) (M.now b) (Err end) (e.closing h).says;
      };
      gives_it = tt;
      closes = subst (λ (x : List ℕ). M.honest b → (k : Known) (f : ℕ) → Stands V.state V.holds c.args.v k (M.now a) → OnDisk M k f a → ClosesAndSays M k f x a b (Err end)) is e.closes;
    }
