use Rattle.std.proofs.Common.{◌≡◌, ◌<◌, ℕ, List, Some, option_map, sym, ap, subst, ◌∙◌}
use Rattle.std.specs.Prelude.{IfSome, slice_get}
use Rattle.page_cache.specs.Cache.{CacheValue, Held, IsResident, held, cached_bytes}
use Rattle.page_cache.specs.Inside.{slot_shown, value_of}
use Rattle.page_cache.proofs.ShownLaws.{order_has, held_is, frame_in_pool}
use Rattle.page_cache.proofs.CacheLaws.{frames_apart}
use Rattle.page_cache.proofs.cache.Cache.two_mut.Goals as goal

-- the frame of a page has the bytes of the page
bytes_at : (v : CacheValue) (page : ℕ) (h : Held) (frames : List (List ℕ)) (bytes : List ℕ) → held v page ≡ Some h → IfSome (held v page) (λ x. slice_get frames x.frame ≡ Some x.bytes)
    → slice_get frames h.frame ≡ Some bytes → cached_bytes v page ≡ Some bytes
bytes_at v page h frames bytes is all at = ap (option_map (λ (x : Held). x.bytes)) is ∙ sym (rw is at all) ∙ at

pub slot_of-requires : goal.slot_of-requires
slot_of-requires c = order_has c.self.inside.pool c.args.p c.self.inside.order.entries (subst (λ (v : CacheValue). IsResident v c.args.p) (sym c.self.view_is) c.requires.first)

pub slot_of-requires-2 : goal.slot_of-requires-2
slot_of-requires-2 c = order_has c.self.inside.pool c.args.q c.self.inside.order.entries (subst (λ (v : CacheValue). IsResident v c.args.q) (sym c.self.view_is) c.requires.second)

pub two_of-requires-clause-first : goal.two_of-requires-clause-first
two_of-requires-clause-first c =
    subst (λ n. c.slot_of.result.frame < n) (ap (λ (v : CacheValue). v.frames) c.self.view_is ∙ sym c.frames_mut.ensures.count) (frame_in_pool c.self.inside c.self.invariant c.args.p c.slot_of.result c.slot_of.ensures)

pub two_of-requires-clause-second : goal.two_of-requires-clause-second
two_of-requires-clause-second c =
    subst (λ n. c.slot_of-2.result.frame < n) (ap (λ (v : CacheValue). v.frames) c.self.view_is ∙ sym c.frames_mut.ensures.count) (frame_in_pool c.self.inside c.self.invariant c.args.q c.slot_of-2.result c.slot_of-2.ensures)

pub two_of-requires-clause-apart : goal.two_of-requires-clause-apart
two_of-requires-clause-apart c =
    let i = c.self.inside in
    frames_apart (value_of i).resident c.args.p c.args.q (slot_shown i.pool c.slot_of.result) (slot_shown i.pool c.slot_of-2.result) c.self.invariant.whole.frames
    (held_is i.pool c.args.p i.order.entries c.slot_of.result c.slot_of.ensures) (held_is i.pool c.args.q i.order.entries c.slot_of-2.result c.slot_of-2.ensures) c.requires.apart

pub returns-clause-first : goal.returns-clause-first
returns-clause-first c =
    bytes_at c.args.self.now c.args.p (slot_shown c.self.inside.pool c.slot_of.result) c.frames_mut.result.now c.two_of.result.0.now
    (ap (λ (v : CacheValue). held v c.args.p) (sym c.self.view_is) ∙ held_is c.self.inside.pool c.args.p c.self.inside.order.entries c.slot_of.result c.slot_of.ensures) (c.frames_mut.ensures.value c.args.p) c.two_of.ensures.first

pub returns-clause-second : goal.returns-clause-second
returns-clause-second c =
    bytes_at c.args.self.now c.args.q (slot_shown c.self.inside.pool c.slot_of-2.result) c.frames_mut.result.now c.two_of.result.1.now
    (ap (λ (v : CacheValue). held v c.args.q) (sym c.self.view_is) ∙ held_is c.self.inside.pool c.args.q c.self.inside.order.entries c.slot_of-2.result c.slot_of-2.ensures) (c.frames_mut.ensures.value c.args.q) c.two_of.ensures.second
