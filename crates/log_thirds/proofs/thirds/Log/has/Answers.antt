use Rattle.std.proofs.Common.{◌≡◌, ◌<◌, false, List, Option, Some, None, length, get_or, refl, sym, ap, subst, arith, ◌∙◌, is_some}
use Rattle.std.proofs.lemmas.List.{get_or_read}
use Rattle.fsd_log.specs.declared.slot.Slot.{Slot}
use Rattle.log_thirds.specs.LogValue.{LogValue}
use Rattle.log_thirds.proofs.ImageLaws.{image_nowhere}
use Rattle.log_thirds.proofs.thirds.Log.has.Goals as goal

not_some : (o : Option Slot) → is_some o ≡ false → o ≡ None
not_some None is = refl
not_some (Some slot) is = absurd (cc is)

pub returns-clause-nowhere : goal.returns-clause-nowhere
returns-clause-nowhere c same records are =
    let slots : c.self.inside.slots.items ≡ c.args.self.now.slots = ap (λ (x : LogValue). x.slots) c.self.view_is in
    let long : length c.args.self.now.slots ≡ c.args.self.now.layout.pages = subst (λ (x : LogValue). length x.slots ≡ x.layout.pages) c.self.view_is c.self.invariant.table in
    let within : c.args.page < length c.args.self.now.slots = omega (arith, long, c.requires) in
    let at : get_or c.args.self.now.slots c.args.page None ≡ c.index.result.now =
    ap (λ (s : List (Option Slot)). get_or s c.args.page None) (sym slots)
    ∙ sym (get_or_read c.self.inside.slots.items c.args.page c.index.result.now (omega (arith, within, ap length slots)) c.index.ensures None) in
    image_nowhere c.args.self.now records c.args.page are within (at ∙ not_some c.index.result.now (sym c.is_some.ensures ∙ same))
