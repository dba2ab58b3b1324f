use Rattle.std.proofs.Common.{◌≡◌, ◌∷◌, ℕ, List, Option, Some, None, nat_eq, sym, ap, ◌∙◌}
use Rattle.std.specs.Map.{remove_entry}
use Rattle.lru.specs.LruCache.{lru_cache}
use Rattle.page_cache.specs.declared.cache.Slot.{Slot}
use Rattle.page_cache.specs.Cache.{may_leave, leaving, staying}
use Rattle.page_cache.proofs.Entries.{put_new, remove_other, apart_new, leaving_there}
use Rattle.page_cache.proofs.order.take_in.Goals as goal

pub returns-in_default-clause-entries : goal.returns-in_default-clause-entries
returns-in_default-clause-entries c =
    let old = c.args.order.now in
    let slot : Slot = record { frame = c.match-goes.frame; pins = 0 } in
    let none : leaving c.args.frames (λ (e : ℕ × Slot). may_leave c.args.dirty.now e.0 e.1.pins) old.entries ≡ None = sym c.leaver-goes.ensures ∙ c.in_default.is in
    c.in_ok-put.ensures.entries
    ∙ ap (λ (l : List (ℕ × Slot)). lru_cache l old.cap) (put_new old c.args.frames c.args.page slot c.requires.new c.requires.fit c.requires.room)
    ∙ ap (λ (o : Option (ℕ × Slot)). lru_cache ((c.args.page, slot) ∷ staying o old.entries) old.cap) (sym none)

pub returns-in-Some-goes-clause-entries : goal.returns-in-Some-goes-clause-entries
returns-in-Some-goes-clause-entries c =
    let old = c.args.order.now in
    let slot : Slot = record { frame = c.match-goes.frame; pins = 0 } in
    let other = c.in-Some-goes.other in
    let goes : leaving c.args.frames (λ (e : ℕ × Slot). may_leave c.args.dirty.now e.0 e.1.pins) old.entries ≡ Some (other, c.in-Some-goes.field-0-1) = sym c.leaver-goes.ensures ∙ c.in-Some-goes.is in
    let there = leaving_there c.args.frames (λ (e : ℕ × Slot). may_leave c.args.dirty.now e.0 e.1.pins) old.entries (other, c.in-Some-goes.field-0-1) goes in
    let apart = apart_new c.args.page other old.entries c.requires.new there in
    let put : c.put.new.self ≡ lru_cache ((c.args.page, slot) ∷ old.entries) old.cap = c.in_ok-put.ensures.entries
    ∙ ap (λ (l : List (ℕ × Slot)). lru_cache l old.cap) (put_new old c.args.frames c.args.page slot c.requires.new c.requires.fit c.requires.room) in
    c.pop.ensures.entries
    ∙ ap (λ o. lru_cache (remove_entry (nat_eq other) o.entries) o.cap) put
    ∙ ap (λ (l : List (ℕ × Slot)). lru_cache l old.cap) (remove_other c.args.page other slot old.entries apart)
    ∙ ap (λ (o : Option (ℕ × Slot)). lru_cache ((c.args.page, slot) ∷ staying o old.entries) old.cap) (sym goes)
