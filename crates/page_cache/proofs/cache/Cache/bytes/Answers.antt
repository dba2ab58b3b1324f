use Rattle.std.proofs.Common.{◌≡◌, Some, subst, sym}
use Rattle.page_cache.specs.Cache.{CacheValue, IsResident, cached_bytes}
use Rattle.page_cache.proofs.ShownLaws.{order_has, frame_in_pool, bytes_shown}
use Rattle.page_cache.proofs.cache.Cache.bytes.Goals as goal

pub slot_of-slot-requires : goal.slot_of-slot-requires
slot_of-slot-requires c = order_has c.self.inside.pool c.args.page c.self.inside.order.entries (subst (λ (v : CacheValue). IsResident v c.args.page) (sym c.self.view_is) c.requires)

pub get-requires : goal.get-requires
get-requires c = frame_in_pool c.self.inside c.self.invariant c.args.page c.slot_of-slot.result c.slot_of-slot.ensures

pub returns : goal.returns
returns c = subst (λ (v : CacheValue). cached_bytes v c.args.page ≡ Some c.get.result.now) c.self.view_is
    (bytes_shown c.self.inside c.args.page c.slot_of-slot.result c.get.result.now c.slot_of-slot.ensures c.get.ensures)
