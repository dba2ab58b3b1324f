use Rattle.std.proofs.Common.{◌≡◌, ℕ, List, length, Option, subst, ap, ◌∙◌}
use Rattle.std.specs.Prelude.{IfSome, IfNone}
use Rattle.volume_layout.specs.Layout.{third_start}
use Rattle.fsd_log.specs.declared.slot.Slot.{Slot}
use Rattle.log_thirds.specs.LogValue.{LogValue}
use Rattle.fsd_log.specs.Slots.{IsLeastIn, NoneLiesIn}
use Rattle.log_thirds.proofs.ThirdLaws.{least_of_third, none_of_third}
use Rattle.log_thirds.proofs.thirds.Log.pages_of_third.Goals as goal

pub returns-clause-least : goal.returns-clause-least
returns-clause-least c records are =
    let log = c.args.self.now in
    let slots : c.as_slice.result.now ≡ log.slots = c.as_slice.ensures.value ∙ ap (λ (x : LogValue). x.slots) c.self.view_is in
    let start : c.third_start-start.result ≡ third_start log.layout c.args.t = c.third_start-start.ensures ∙ ap (λ (x : LogValue). third_start x.layout c.args.t) c.self.view_is in
    let third : c.third-third.result ≡ log.layout.third = c.third-third.ensures.value ∙ ap (λ (x : LogValue). x.layout.third) c.self.view_is in
    let long : length log.slots ≡ log.layout.pages = subst (λ (x : LogValue). length x.slots ≡ x.layout.pages) c.self.view_is c.self.invariant.table in
    least_of_third log records c.args.t c.args.first long are c.least_in.result
    (subst (λ (s : List (Option Slot)). IfSome c.least_in.result (IsLeastIn s c.args.first (third_start log.layout c.args.t) log.layout.third)) slots
    (subst (λ (n : ℕ). IfSome c.least_in.result (IsLeastIn c.as_slice.result.now c.args.first n log.layout.third)) start
    (subst (λ (n : ℕ). IfSome c.least_in.result (IsLeastIn c.as_slice.result.now c.args.first c.third_start-start.result n)) third c.least_in.ensures.least)))

pub returns-clause-none : goal.returns-clause-none
returns-clause-none c records are =
    let log = c.args.self.now in
    let slots : c.as_slice.result.now ≡ log.slots = c.as_slice.ensures.value ∙ ap (λ (x : LogValue). x.slots) c.self.view_is in
    let start : c.third_start-start.result ≡ third_start log.layout c.args.t = c.third_start-start.ensures ∙ ap (λ (x : LogValue). third_start x.layout c.args.t) c.self.view_is in
    let third : c.third-third.result ≡ log.layout.third = c.third-third.ensures.value ∙ ap (λ (x : LogValue). x.layout.third) c.self.view_is in
    let long : length log.slots ≡ log.layout.pages = subst (λ (x : LogValue). length x.slots ≡ x.layout.pages) c.self.view_is c.self.invariant.table in
    none_of_third log records c.args.t c.args.first long are c.least_in.result
    (subst (λ (s : List (Option Slot)). IfNone c.least_in.result (NoneLiesIn s c.args.first (third_start log.layout c.args.t) log.layout.third)) slots
    (subst (λ (n : ℕ). IfNone c.least_in.result (NoneLiesIn c.as_slice.result.now c.args.first n log.layout.third)) start
    (subst (λ (n : ℕ). IfNone c.least_in.result (NoneLiesIn c.as_slice.result.now c.args.first c.third_start-start.result n)) third c.least_in.ensures.none)))
