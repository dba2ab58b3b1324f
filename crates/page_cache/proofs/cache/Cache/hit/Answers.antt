use Rattle.std.proofs.Common.{◌∙◌, ℕ, option_map, sym, ap, subst}
use Rattle.lru.specs.LruCache.{LruCache}
use Rattle.page_cache.specs.declared.cache.Slot.{Slot}
use Rattle.page_cache.specs.Cache.{busy, Held, CacheValue, KeepsNewest, held, used}
use Rattle.page_cache.specs.Inside.{value_of, IsInside}
use Rattle.page_cache.proofs.ShownLaws.{used_inside, frame_shown}
use Rattle.page_cache.proofs.CacheLaws.{used_absent}
use Rattle.page_cache.proofs.NewestLaws.{used_newest}
use Rattle.page_cache.proofs.BusyLaws.{busy_used}
use Rattle.page_cache.proofs.cache.Cache.hit.Goals as goal

pub invariant_of-self : goal.invariant_of-self
invariant_of-self c = subst (λ (o : LruCache ℕ Slot). IsInside (record c.self.inside { order = o })) (sym c.touch.ensures.used) (used_inside c.self.inside c.self.invariant c.args.page).0

pub returns-clause-frame : goal.returns-clause-frame
returns-clause-frame c = c.touch.ensures.frame ∙ frame_shown c.self.inside c.self.invariant c.args.page ∙ ap (λ (v : CacheValue). option_map (λ (x : Held). x.frame) (held v c.args.page)) c.self.view_is

pub returns-clause-used : goal.returns-clause-used
returns-clause-used c = ap (λ (o : LruCache ℕ Slot). value_of (record c.self.inside { order = o })) c.touch.ensures.used ∙ (used_inside c.self.inside c.self.invariant c.args.page).1 ∙ ap (used c.args.page) c.self.view_is

pub returns-clause-absent : goal.returns-clause-absent
returns-clause-absent c none = returns-clause-used c ∙ used_absent c.args.page c.args.self.now none

pub returns-clause-newest : goal.returns-clause-newest
returns-clause-newest c source = subst (KeepsNewest source c.args.self.now) (sym (returns-clause-used c)) (used_newest c.args.page c.args.self.now source)

pub returns-clause-busy : goal.returns-clause-busy
returns-clause-busy c = ap busy (returns-clause-used c) ∙ busy_used c.args.page c.args.self.now
