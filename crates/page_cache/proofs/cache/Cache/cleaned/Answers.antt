use Rattle.std.proofs.Common.{ℕ, List, subst, sym}
use Rattle.page_cache.specs.Cache.{IsCache}
use Rattle.page_cache.specs.Inside.{value_of}
use Rattle.page_cache.proofs.CacheLaws.{cleaned_cache}
use Rattle.page_cache.proofs.cache.Cache.cleaned.Goals as goal

pub invariant_of-self : goal.invariant_of-self
invariant_of-self c =
    let old = c.self.inside in
    let whole : IsCache (record (value_of old) { dirty = c.clear.new.self.items }) =
    subst (λ (ds : List ℕ). IsCache (record (value_of old) { dirty = ds })) (sym c.clear.ensures) (cleaned_cache (value_of old) c.self.invariant.whole) in
    record { whole = whole; room = c.self.invariant.room; few = c.self.invariant.few; accepted = c.self.invariant.accepted }
