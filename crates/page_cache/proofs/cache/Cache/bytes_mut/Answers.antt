use Rattle.std.proofs.Common.{subst, sym, refl, arith}
use Rattle.page_cache.specs.Cache.{CacheValue, IsResident}
use Rattle.page_cache.proofs.ShownLaws.{order_has, frame_in_pool, frame_below, bytes_shown, written_inside}
use Rattle.page_cache.proofs.cache.Cache.bytes_mut.Goals as goal

pub slot_of-slot-requires : goal.slot_of-slot-requires
slot_of-slot-requires c = order_has c.self.inside.pool c.args.page c.self.inside.order.entries (subst (λ (v : CacheValue). IsResident v c.args.page) (sym c.self.view_is) c.requires)

pub bounds-self-inside-slot : goal.bounds-self-inside-slot
bounds-self-inside-slot c = frame_below c.self.inside c.self.invariant c.args.page c.slot_of-slot.result c.slot_of-slot.ensures

pub offset_bounds-self-inside-slot : goal.offset_bounds-self-inside-slot
offset_bounds-self-inside-slot c = let lt = frame_below c.self.inside c.self.invariant c.args.page c.slot_of-slot.result c.slot_of-slot.ensures in omega (arith, lt)

pub get_mut-requires : goal.get_mut-requires
get_mut-requires c = frame_in_pool c.self.inside c.self.invariant c.args.page c.slot_of-slot.result c.slot_of-slot.ensures

pub invariant_of-self-lent : goal.invariant_of-self-lent
invariant_of-self-lent c = λ w. (written_inside c.self.inside c.self.invariant c.args.page c.slot_of-slot.result w c.slot_of-slot.ensures).0

pub returns : goal.returns
returns c = rw (← c.self.view_is) (
  (refl, λ w. (written_inside c.self.inside c.self.invariant c.args.page c.slot_of-slot.result w c.slot_of-slot.ensures).1),
  record { writes_back = tt; value = bytes_shown c.self.inside c.args.page c.slot_of-slot.result c.get_mut.result.now c.slot_of-slot.ensures c.get_mut.ensures.value },
)
