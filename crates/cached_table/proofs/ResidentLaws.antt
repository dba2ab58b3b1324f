-- Pages in memory.
use Rattle.std.proofs.Common.{◌≡◌, ℕ, Bool, true, false, ◌||◌, List, [], ◌∷◌, Option, Some, None, refl, subst}
use Rattle.std.specs.Prelude.{IsFalse, IsSome, ◌==◌, option_map}
use Rattle.std.proofs.lemmas.Bool.{eqb-true}
use Rattle.std.specs.List.{AllByRecursion}
use Rattle.run_table.specs.Space.{contains}
use Rattle.page_cache.specs.Cache.{CacheValue, Held, IsCache, IsResident, cached_bytes, held}

-- the bytes of a page in memory
pub in_memory : (c : CacheValue) (page : ℕ) → IsResident c page → (bytes : List ℕ) × (cached_bytes c page ≡ Some bytes)
in_memory c page there = by (held c page) there
  where
    by : (o : Option Held) → IsSome o → (bytes : List ℕ) × (option_map (λ (h : Held). h.bytes) o ≡ Some bytes)
    by None some = absurd (cc some)
    by (Some h) some = (h.bytes, refl)

-- a page that has no frame isn't dirty
pub clean_absent : (c : CacheValue) → IsCache c → (page : ℕ) → cached_bytes c page ≡ None → IsFalse (contains c.dirty page)
clean_absent c is page none = out c.dirty is.waiting
  where
    no_frame : IsResident c page → ⊥
    no_frame there = by (held c page) none there
      where
        by : (o : Option Held) → option_map (λ (h : Held). h.bytes) o ≡ None → IsSome o → ⊥
        by None e some = absurd (cc some)
        by (Some h) e some = absurd (cc e)

    out : (dirty : List ℕ) → AllByRecursion (IsResident c) dirty → IsFalse (contains dirty page)
    out [] all = refl
    out (p ∷ dirty) all = by (p == page) refl (out dirty all.1)
      where
        by : (b : Bool) → (p == page) ≡ b → IsFalse (contains dirty page) → (b || contains dirty page) ≡ false
        by true e rest = absurd (no_frame (subst (IsResident c) (eqb-true p page e) all.0))
        by false e rest = rest
