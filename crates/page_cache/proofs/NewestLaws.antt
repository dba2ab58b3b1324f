-- Neither use nor a page that enters changes the newest bytes of a page.
use Rattle.std.proofs.Common.{◌≡◌, ℕ, true, false, not, ◌⊎◌, List, [], ◌∷◌, length, reverse, option_map, is_some, Option, Some, None, IsSome, refl, sym, ap, ◌∙◌, subst, inl, inr, eqb-true}
use Rattle.std.specs.Prelude.{nat_eq, find, ◌==◌}
use Rattle.std.specs.Option.{option_or}
use Rattle.std.specs.Map.{lookup, lookup_entry, remove_entry}
use Rattle.std.proofs.lemmas.Bool.{true≢false, and_parts, not-true, or_parts}
use Rattle.std.proofs.lemmas.List.Folds.{list_any-append}
use Rattle.page_cache.specs.Cache.{Held, CacheValue, IsCache, IsResident, AreNewest, KeepsNewest, newest_bytes, held, cached_bytes, is_among, idle, leaver, staying, used, entered_page, with_dirty}
use Rattle.page_cache.proofs.Entries.{by_bool, by_option, entry_some, entry_none, apart_removed, lookup_removed, find_back}
use Rattle.page_cache.proofs.CacheLaws.{promoted_lookup, used_absent, all_gone}

-- ---- use

pub used_held : (page : ℕ) (c : CacheValue) (q : ℕ) → held (used page c) q ≡ held c q
used_held page c q = by_option (held c page)
    (λ x is. promoted_lookup page c.resident (entry_some (nat_eq page) c.resident (rw is refl)) q)
    (λ none. ap (λ (v : CacheValue). held v q) (used_absent page c none))

-- where each page is held as before
pub same_newest : (old new : CacheValue) → ((q : ℕ) → held new q ≡ held old q) → new.dirty ≡ old.dirty → (source : ℕ → Option (List ℕ)) → KeepsNewest source old new
same_newest old new same dirty source clean = (
  λ q there not. ap (option_map (λ (h : Held). h.bytes)) (same q) ∙ clean q (subst IsSome (same q) there) (ap (λ (ds : List ℕ). is_among ds q) (sym dirty) ∙ not),
  λ q. ap (λ (o : Option Held). option_or (option_map (λ (h : Held). h.bytes) o) (source q)) (same q),
)

pub used_newest : (page : ℕ) (c : CacheValue) (source : ℕ → Option (List ℕ)) → KeepsNewest source c (used page c)
used_newest page c = same_newest c (used page c) (used_held page c) refl

-- ---- a page enters

-- what is held of a page beside the one that enters: what was, or nothing more where the page was not dirty
abbrev pub Stood : CacheValue → List (ℕ × Held) → ℕ → Type 0
Stood c stay q = (lookup (nat_eq q) stay ≡ held c q) ⊎ ((lookup (nat_eq q) stay ≡ None) × IsResident c q × (is_among c.dirty q ≡ false))

module _ (c : CacheValue) (h : IsCache c) (q : ℕ) where
  gone : (e : ℕ × Held) → find (idle c) (reverse c.resident) ≡ Some e → Stood c (remove_entry (nat_eq e.0) c.resident) q
  gone e is =
      let on = find_back (idle c) c.resident e h.pages is in
      by_bool (nat_eq q e.0)
      (λ t. let same : e.0 ≡ q = sym (eqb-true q e.0 t) in
      let clean = not-true (is_among c.dirty e.0) (and_parts (e.1.pins == 0) (not (is_among c.dirty e.0)) on.1).1 in
      inr (
        subst (λ (k : ℕ). lookup (nat_eq k) (remove_entry (nat_eq e.0) c.resident) ≡ None) same (all_gone e.0 (remove_entry (nat_eq e.0) c.resident) (apart_removed (λ g. g.0) (nat_eq e.0) c.resident e h.pages on.0)),
        subst (IsResident c) same (there e on.0),
        subst (λ (k : ℕ). is_among c.dirty k ≡ false) same clean,
      ))
      (λ t. inl (lookup_removed q e.0 c.resident t))
    where
      there : (e : ℕ × Held) → lookup_entry (nat_eq e.0) c.resident ≡ Some e → IsResident c e.0
      there e found = by_option (held c e.0) (λ x s. rw s refl) (λ none. let bad = entry_none (nat_eq e.0) c.resident none in cc)

  pub stood : Stood c (staying (leaver c) c.resident) q
  stood = by_bool (length c.resident == c.frames)
      (λ full. by_option (find (idle c) (reverse c.resident)) (λ e is. rw (full, is) (gone e is)) (λ none. rw (full, none) (inl refl)))
      (λ free. rw free (inl refl))

option_or_same : (o : Option (List ℕ)) → option_or o o ≡ o
option_or_same None = refl
option_or_same (Some x) = refl

module _ (c : CacheValue) (h : IsCache c) (page : ℕ) (bytes : List ℕ) (new : held c page ≡ None) (source : ℕ → Option (List ℕ)) (is : source page ≡ Some bytes) (clean : AreNewest source c) where
  at_page : (q : ℕ) → nat_eq q page ≡ true → cached_bytes (entered_page page bytes c) q ≡ Some bytes
  at_page q t = rw t refl

  beside : (q : ℕ) → nat_eq q page ≡ false → held (entered_page page bytes c) q ≡ lookup (nat_eq q) (staying (leaver c) c.resident)
  beside q t = rw t refl

  source_at : (q : ℕ) → nat_eq q page ≡ true → source q ≡ Some bytes
  source_at q t = ap source (eqb-true q page t) ∙ is

  clean_at : (q : ℕ) → nat_eq q page ≡ false → IsResident (entered_page page bytes c) q → is_among c.dirty q ≡ false → Stood c (staying (leaver c) c.resident) q → cached_bytes (entered_page page bytes c) q ≡ source q
  clean_at q t there not (inl same) = ap (option_map (λ (x : Held). x.bytes)) (beside q t ∙ same) ∙ clean q (subst IsSome (beside q t ∙ same) there) not
  clean_at q t there not (inr out) = absurd (true≢false (sym there ∙ ap is_some (beside q t ∙ out.0)))

  newest_at : (q : ℕ) → nat_eq q page ≡ false → Stood c (staying (leaver c) c.resident) q → newest_bytes (entered_page page bytes c) source q ≡ newest_bytes c source q
  newest_at q t (inl same) = ap (λ (o : Option Held). option_or (option_map (λ (x : Held). x.bytes) o) (source q)) (beside q t ∙ same)
  newest_at q t (inr out) = ap (λ (o : Option Held). option_or (option_map (λ (x : Held). x.bytes) o) (source q)) (beside q t ∙ out.0)
      ∙ sym (ap (λ (o : Option (List ℕ)). option_or o (source q)) (clean q out.1 out.2) ∙ option_or_same (source q))

  pub entered_newest : AreNewest source (entered_page page bytes c) × ((q : ℕ) → newest_bytes (entered_page page bytes c) source q ≡ newest_bytes c source q)
  entered_newest = (
    λ q there not. by_bool (nat_eq q page) (λ t. at_page q t ∙ sym (source_at q t)) (λ t. clean_at q t there not (stood c h q)),
    λ q. by_bool (nat_eq q page)
        (λ t. ap (λ (o : Option (List ℕ)). option_or o (source q)) (at_page q t) ∙ sym (source_at q t)
        ∙ sym (ap (λ (o : Option Held). option_or (option_map (λ (x : Held). x.bytes) o) (source q)) (subst (λ (k : ℕ). held c k ≡ None) (sym (eqb-true q page t)) new)))
        (λ t. newest_at q t (stood c h q)),
  )

-- ---- marks and writes

pub dirtied_newest : (page : ℕ) (c : CacheValue) (source : ℕ → Option (List ℕ)) → KeepsNewest source c (with_dirty page c)
dirtied_newest page c source clean = (λ q there not. clean q there (was_clean q not), λ q. refl)
  where
    was_clean : (q : ℕ) → is_among (with_dirty page c).dirty q ≡ false → is_among c.dirty q ≡ false
    was_clean q = by_bool (is_among c.dirty page) (λ t. rw t (λ not. not)) (λ t. rw t (λ not. (or_parts (is_among c.dirty q) (is_among (page ∷ []) q) (sym (list_any-append (λ d. nat_eq d q) c.dirty (page ∷ [])) ∙ not)).0))
