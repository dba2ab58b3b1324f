use Rattle.std.proofs.Common.{◌≡◌, ℕ, Bool, false, List, inl, inr, subst, refl, sym, rules}
use Rattle.std.specs.Prelude.{slice_index_or}
use Rattle.page_cache.specs.Cache.{CacheValue, IsResident}
use Rattle.table_pages.specs.Bringing.{IsAtHand, IsHit}
use Rattle.table_pages.proofs.bringing.bring_used.Goals as goal

-- ---- the page is at hand

-- where it is not free it is in the cache
resident : (free : List Bool) (c : CacheValue) (page : ℕ) (has : Bool) → has ≡ slice_index_or free page false → has ≡ false → IsAtHand free c page → IsResident c page
resident free c page has is not (inl spare) = absurd (cc (is, not, spare))
resident free c page has is not (inr there) = there

pub returns-then-has-clause-at_hand : goal.returns-then-has-clause-at_hand
returns-then-has-clause-at_hand g c = λ hand. record { hit = record { machine = refl; bytes = λ page. refl }; memory = λ is. cc is }

pub returns-in_err-bring-clause-at_hand : goal.returns-in_err-bring-clause-at_hand
returns-in_err-bring-clause-at_hand g c = λ hand. absurd (c.in_err-bring.ensures.hit (resident c.args.free.now c.args.cache.now c.args.page c.has.result c.has.ensures c.if-has.false hand))

pub returns-then-is_accepted-clause-at_hand : goal.returns-then-is_accepted-clause-at_hand
returns-then-is_accepted-clause-at_hand g c = λ hand.
    record {
      hit = subst (IsHit c.args.m.now c.bring.new.m c.args.cache.now) (sym c.is_accepted.ensures.kept)
          (c.in_ok-bring.ensures.hit (resident c.args.free.now c.args.cache.now c.args.page c.has.result c.has.ensures c.if-has.false hand));
      memory = λ is. cc is;
    }

pub returns-else-is_accepted-clause-at_hand : goal.returns-else-is_accepted-clause-at_hand
returns-else-is_accepted-clause-at_hand g c = λ hand.
    record {
      hit = subst (IsHit c.args.m.now c.bring.new.m c.args.cache.now) (sym c.is_accepted.ensures.kept)
          (c.in_ok-bring.ensures.hit (resident c.args.free.now c.args.cache.now c.args.page c.has.result c.has.ensures c.if-has.false hand));
      memory = λ is. cc is;
    }

pub returns-then-is_accepted-clause-done : goal.returns-then-is_accepted-clause-done
returns-then-is_accepted-clause-done g c =
    record { there = search rules; used = search rules; accepted = search rules }
