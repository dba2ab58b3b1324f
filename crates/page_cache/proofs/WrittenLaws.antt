-- A page that becomes dirty, and one that is written.
use Rattle.std.proofs.Common.{◌≡◌, ◌⊎◌, inl, inr, ℕ, true, false, List, [], ◌∷◌, Option, Some, None, IsSome, option_map, is_some, refl, sym, ap, ◌∙◌, subst, eqb-true, eq-eqb}
use Rattle.std.specs.Prelude.{nat_eq}
use Rattle.std.specs.List.{AllByRecursion}
use Rattle.std.specs.Map.{lookup}
use Rattle.std.specs.Option.{option_map_or}
use Rattle.std.proofs.lemmas.Bool.{true≢false}
use Rattle.std.proofs.lemmas.List.Folds.{list_any-append}
use Rattle.page_cache.specs.Cache.{CacheValue, Held, IsCache, IsResident, AreNewest, held, cached_bytes, pins_of, is_among, altered, page_written, with_dirty, with_written}
use Rattle.page_cache.proofs.Entries.{by_bool, same_key, key_flips}
use Rattle.page_cache.proofs.CacheLaws.{altered_lookup}
use Rattle.page_cache.proofs.KeepLaws.{bytes_resident}

-- ---- a page that becomes dirty

pub one_dirty : (c : CacheValue) (page q : ℕ) → is_among (with_dirty page c).dirty q ≡ true → (is_among c.dirty q ≡ true) ⊎ (page ≡ q)
one_dirty c page q = by_bool (is_among c.dirty page)
    (λ t. rw t (λ h. inl h))
    (λ t. rw t (λ h. by_bool (is_among c.dirty q) (λ e. inl e)
    (λ e. let last = sym (list_any-append (λ d. nat_eq d q) c.dirty (page ∷ [])) ∙ h in
    by_bool (nat_eq page q) (λ is. inr (eqb-true page q is)) (λ is. absurd (true≢false (sym (rw (e, is) at last)))))))

pub still_dirty : (c : CacheValue) (page q : ℕ) → is_among c.dirty q ≡ true → is_among (with_dirty page c).dirty q ≡ true
still_dirty c page q h = by_bool (is_among c.dirty page)
    (λ t. rw t h)
    (λ t. rw t (list_any-append (λ d. nat_eq d q) c.dirty (page ∷ []) ∙ rw h refl))

pub now_dirty : (c : CacheValue) (page : ℕ) → is_among (with_dirty page c).dirty page ≡ true
now_dirty c page = by_bool (is_among c.dirty page)
    (λ t. rw t t)
    (λ t. rw t (list_any-append (λ d. nat_eq d page) c.dirty (page ∷ []) ∙ rw (t, same_key page) refl))

-- ---- a page that is written

module _ (page : ℕ) (bytes : List ℕ) (c : CacheValue) where
  pub held_written : (q : ℕ) → nat_eq page q ≡ false → held (with_written page bytes c) q ≡ held c q
  held_written q t = by_bool (is_some (held c page))
      (λ there. rw there (altered_lookup page (λ h. record h { bytes = bytes }) q c.resident ∙ rw t refl))
      (λ absent. rw (absent, key_flips page q false t) refl)

  pub bytes_written : cached_bytes (with_written page bytes c) page ≡ Some bytes
  bytes_written = by_bool (is_some (held c page))
      (λ there. rw there (ap (option_map (λ (h : Held). h.bytes)) (altered_lookup page (λ h. record h { bytes = bytes }) page c.resident ∙ rw (same_key page) refl) ∙ got (held c page) there))
      (λ absent. rw (absent, same_key page) refl)
    where
      got : (o : Option Held) → is_some o ≡ true → option_map (λ (h : Held). h.bytes) (option_map (λ (h : Held). record h { bytes = bytes }) o) ≡ Some bytes
      got None h = absurd (true≢false (sym h))
      got (Some x) h = refl

  pub bytes_beside : (q : ℕ) → nat_eq page q ≡ false → cached_bytes (with_written page bytes c) q ≡ cached_bytes c q
  bytes_beside q t = ap (option_map (λ (h : Held). h.bytes)) (held_written q t)

  pub pins_written : (q : ℕ) → pins_of (with_written page bytes c) q ≡ pins_of c q
  pins_written q = by_bool (nat_eq page q)
      (λ t. subst (λ (k : ℕ). pins_of (with_written page bytes c) k ≡ pins_of c k) (eqb-true page q t) same_pins)
      (λ t. ap (λ (o : Option Held). option_map_or (λ x. x.pins) o 0) (held_written q t))
    where
      kept : (o : Option Held) → option_map_or (λ x. x.pins) (option_map (λ (x : Held). record x { bytes = bytes }) o) 0 ≡ option_map_or (λ x. x.pins) o 0
      kept None = refl
      kept (Some x) = refl

      none : (o : Option Held) → is_some o ≡ false → 0 ≡ option_map_or (λ x. x.pins) o 0
      none None is = refl
      none (Some x) is = absurd (true≢false is)

      same_pins : pins_of (with_written page bytes c) page ≡ pins_of c page
      same_pins = by_bool (is_some (held c page))
          (λ t. let at : lookup (nat_eq page) (altered page (λ x. record x { bytes = bytes }) c.resident) ≡ option_map (λ (x : Held). record x { bytes = bytes }) (held c page) =
          altered_lookup page (λ x. record x { bytes = bytes }) page c.resident ∙ rw (same_key page) refl in
          rw t (ap (λ (o : Option Held). option_map_or (λ x. x.pins) o 0) at ∙ kept (held c page)))
          (λ t. rw (t, same_key page) (none (held c page) t))

  there_written : (q : ℕ) → nat_eq page q ≡ true → IsResident (with_written page bytes c) q
  there_written q t = subst (λ (k : ℕ). IsResident (with_written page bytes c) k) (eqb-true page q t) (bytes_resident (with_written page bytes c) page (ap is_some bytes_written))

  -- what is dirty is in memory
  pub dirty_written : ((q : ℕ) → is_among c.dirty q ≡ true → IsResident c q) → (q : ℕ) → is_among (with_written page bytes c).dirty q ≡ true → IsResident (with_written page bytes c) q
  dirty_written dirty q is = at (one_dirty c page q is)
    where
      at : (is_among c.dirty q ≡ true) ⊎ (page ≡ q) → IsResident (with_written page bytes c) q
      at (inr is) = there_written q (eq-eqb page q is)
      at (inl was) = by_bool (nat_eq page q) (λ t. there_written q t) (λ t. subst (λ o. IsSome o) (sym (held_written q t)) (dirty q was))

  -- and what is not is the source's
  pub clean_written : (source : ℕ → Option (List ℕ)) → AreNewest source c → AreNewest source (with_written page bytes c)
  clean_written source clean q there not = by_bool (nat_eq page q)
      (λ e. absurd (true≢false (sym (subst (λ (k : ℕ). is_among (with_dirty page c).dirty k ≡ true) (eqb-true page q e) (now_dirty c page)) ∙ not)))
      (λ e. bytes_beside q e ∙ clean q (subst (λ o. IsSome o) (held_written q e) there) before)
    where
      before : is_among c.dirty q ≡ false
      before = by_bool (is_among c.dirty q) (λ t. absurd (true≢false (sym (still_dirty c page q t) ∙ not))) (λ t. t)

  -- where it is in memory it is marked, and then written
  pub written_is : IsResident c page → with_written page bytes c ≡ page_written page bytes (with_dirty page c)
  written_is there = rw there refl

-- each dirty page is in memory
pub dirty_there : (c : CacheValue) → IsCache c → (q : ℕ) → is_among c.dirty q ≡ true → IsResident c q
dirty_there c whole q = each c.dirty whole.waiting
  where
    each : (ds : List ℕ) → AllByRecursion (IsResident c) ds → is_among ds q ≡ true → IsResident c q
    each [] all is = absurd (true≢false (sym is))
    each (d ∷ ds) all is = by_bool (nat_eq d q) (λ t. subst (IsResident c) (eqb-true d q t) all.0) (λ t. each ds all.1 (rw t at is))
