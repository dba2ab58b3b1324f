use Rattle.std.proofs.Common.{◌≡◌, ◌-◌, ◌∙◌, Some, IsSome, nat_eq, sym, ap, subst, arith}
use Rattle.std.specs.Map.{lookup}
use Rattle.page_cache.specs.Cache.{CacheValue, IsResident, pins_of, with_pins}
use Rattle.page_cache.proofs.ShownLaws.{order_has, pins_shown, pinned_inside, some_behind, slot_behind}
use Rattle.page_cache.proofs.cache.Cache.unpin.Goals as goal

pub unwrap-slot-requires : goal.unwrap-slot-requires
unwrap-slot-requires c = some_behind c.peek_mut.result (subst IsSome (sym c.peek_mut.ensures.value) (order_has c.self.inside.pool c.args.page c.self.inside.order.entries (subst (λ (v : CacheValue). IsResident v c.args.page) (sym c.self.view_is) c.requires.resident)))

pub overflow_sub-slot : goal.overflow_sub-slot
overflow_sub-slot c =
    let slot = c.unwrap-slot.result.now in
    let at : lookup (nat_eq c.args.page) c.self.inside.order.entries ≡ Some slot = slot_behind c.peek_mut.result c.unwrap-slot.result (lookup (nat_eq c.args.page) c.self.inside.order.entries) c.peek_mut.ensures.value c.unwrap-slot.ensures in
    let pins : pins_of c.args.self.now c.args.page ≡ slot.pins = ap (λ (v : CacheValue). pins_of v c.args.page) (sym c.self.view_is) ∙ pins_shown c.self.inside c.args.page slot at in
    let few = c.requires.pinned in
    omega (arith, pins, few)

pub invariant_of-self : goal.invariant_of-self
invariant_of-self c =
    let slot = c.unwrap-slot.result.now in
    let at : lookup (nat_eq c.args.page) c.self.inside.order.entries ≡ Some slot = slot_behind c.peek_mut.result c.unwrap-slot.result (lookup (nat_eq c.args.page) c.self.inside.order.entries) c.peek_mut.ensures.value c.unwrap-slot.ensures in
    (pinned_inside c.self.inside c.self.invariant c.args.page slot (slot.pins - 1) at).0

pub returns : goal.returns
returns c =
    let slot = c.unwrap-slot.result.now in
    let at : lookup (nat_eq c.args.page) c.self.inside.order.entries ≡ Some slot = slot_behind c.peek_mut.result c.unwrap-slot.result (lookup (nat_eq c.args.page) c.self.inside.order.entries) c.peek_mut.ensures.value c.unwrap-slot.ensures in
    let pins : pins_of c.args.self.now c.args.page ≡ slot.pins = ap (λ (v : CacheValue). pins_of v c.args.page) (sym c.self.view_is) ∙ pins_shown c.self.inside c.args.page slot at in
    (pinned_inside c.self.inside c.self.invariant c.args.page slot (slot.pins - 1) at).1
    ∙ (λ i. with_pins c.args.page (sym pins i - 1) (c.self.view_is i))
