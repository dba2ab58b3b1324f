-- What callers keep: the pins of each page, the bytes of what is dirty or pinned, and room for one page more.
use Rattle.std.proofs.Common.{◌≡◌, ◌⊎◌, ℕ, ◌+◌, ◌<◌, ◌≤◌, Bool, true, false, cond, not, ◌&&◌, List, [], ◌∷◌, length, option_map, is_some, Option, Some, None, IsSome, refl, sym, ap, ◌∙◌, subst, inl, inr, arith, eqb-true}
use Rattle.std.specs.Prelude.{nat_eq, count_by, ◌==◌}
use Rattle.std.specs.List.{IsDistinct}
use Rattle.std.specs.Map.{lookup, keys_of}
use Rattle.std.specs.Option.{option_map_or}
use Rattle.std.proofs.lemmas.Bool.{true≢false, ne_eqb, eqb-false}
use Rattle.std.proofs.lemmas.Map.Keys.{IsDistinct-head, IsDistinct-tail}
use Rattle.page_cache.specs.Cache.{CacheValue, Held, IsCache, IsResident, held, cached_bytes, pins_of, is_among, may_leave, busy, leaver, staying, with_pins}
use Rattle.page_cache.proofs.Entries.{by_bool, by_option, same_key, key_flips}
use Rattle.page_cache.proofs.CacheLaws.{all_gone, altered_lookup}
use Rattle.page_cache.proofs.NewestLaws.{used_held, stood, Stood}
use Rattle.page_cache.proofs.BusyLaws.{one, count_cons, count_dirty, busy_at_most}
use Rattle.page_cache.proofs.FetchLaws.{Fetched, fetched_stays}

-- ---- what is held and what its bytes are

some_map : {A B : Type 0} (f : A → B) (o : Option A) → IsSome o → IsSome (option_map f o)
some_map f None h = h
some_map f (Some x) h = refl

map_some : {A B : Type 0} (f : A → B) (o : Option A) → IsSome (option_map f o) → IsSome o
map_some f None h = h
map_some f (Some x) h = refl

pub resident_bytes : (c : CacheValue) (q : ℕ) → IsResident c q → IsSome (cached_bytes c q)
resident_bytes c q = some_map (λ (h : Held). h.bytes) (held c q)

pub bytes_resident : (c : CacheValue) (q : ℕ) → IsSome (cached_bytes c q) → IsResident c q
bytes_resident c q = map_some (λ (h : Held). h.bytes) (held c q)

-- a page that is pinned is there
pub pinned_resident : (c : CacheValue) (q : ℕ) → 0 < pins_of c q → IsResident c q
pinned_resident c q = by_held (held c q)
  where
    by_held : (o : Option Held) → 0 < option_map_or (λ h. h.pins) o 0 → IsSome o
    by_held None h = absurd (omega (arith, h))
    by_held (Some x) h = refl

-- ---- pins that are set

module _ (page pins : ℕ) (c : CacheValue) (q : ℕ) where
  abbrev set_pins : Held → Held
  set_pins h = record h { pins = pins }

  at : held (with_pins page pins c) q ≡ cond (nat_eq page q) (option_map set_pins (held c q)) (held c q)
  at = altered_lookup page set_pins q c.resident

  pub pinned_bytes : cached_bytes (with_pins page pins c) q ≡ cached_bytes c q
  pinned_bytes = ap (option_map (λ (h : Held). h.bytes)) at ∙ by_bool (nat_eq page q) (λ t. rw t (same (held c q))) (λ t. rw t refl)
    where
      same : (o : Option Held) → option_map (λ (h : Held). h.bytes) (option_map set_pins o) ≡ option_map (λ (h : Held). h.bytes) o
      same None = refl
      same (Some x) = refl

  pub pinned_pins : IsResident c page → pins_of (with_pins page pins c) q ≡ cond (nat_eq page q) pins (pins_of c q)
  pinned_pins there = ap (λ (o : Option Held). option_map_or (λ h. h.pins) o 0) at ∙ by_bool (nat_eq page q)
      (λ t. rw t (set (held c q) (subst (IsResident c) (eqb-true page q t) there)))
      (λ t. rw t refl)
    where
      set : (o : Option Held) → IsSome o → option_map_or (λ h. h.pins) (option_map set_pins o) 0 ≡ pins
      set None h = absurd (true≢false (sym h))
      set (Some x) h = refl

-- ---- a page that is fetched

abbrev no_pins : Option Held → ℕ
no_pins o = option_map_or (λ h. h.pins) o 0

module _ (page : ℕ) (old new : CacheValue) (whole : IsCache old) (at : Fetched page old new) where
  -- what is dirty or pinned has the bytes and the pins that it had
  pub fetched_keeps : (q : ℕ) → IsResident old q → (is_among old.dirty q ≡ true) ⊎ (0 < pins_of old q) → held new q ≡ held old q
  fetched_keeps q there busy = by_option (held old q)
      (λ x is. fetched_stays page old new whole at q x (is, idle x is busy) ∙ sym is)
      (λ none. absurd (true≢false (sym there ∙ ap is_some none)))
    where
      and_not : (a : Bool) → (a && not true) ≡ false
      and_not true = refl
      and_not false = refl

      idle : (x : Held) → held old q ≡ Some x → (is_among old.dirty q ≡ true) ⊎ (0 < pins_of old q) → may_leave old.dirty q x.pins ≡ false
      idle x is (inl dirty) = ap (λ (t : Bool). (x.pins == 0) && not t) dirty ∙ and_not (x.pins == 0)
      idle x is (inr some) =
          let more : 0 < x.pins = subst (λ (o : Option Held). 0 < no_pins o) is some in
          ap (λ (t : Bool). t && not (is_among old.dirty q)) (ne_eqb x.pins 0 (λ e. omega (arith, e, more)))

  -- no page's pins change
  pub fetched_pins : (q : ℕ) → pins_of new q ≡ pins_of old q
  fetched_pins q = by_bool (nat_eq (pins_of old q) 0)
      (λ t. let zero : pins_of old q ≡ 0 = eqb-true (pins_of old q) 0 t in none_more zero at ∙ sym zero)
      (λ t. let some : 0 < pins_of old q = more (pins_of old q) (eqb-false (pins_of old q) 0 t) in ap no_pins (fetched_keeps q (there (held old q) some) (inr some)))
    where
      more : (n : ℕ) → (n ≡ 0 → ⊥) → 0 < n
      more n h = omega (arith, h)

      there : (o : Option Held) → 0 < no_pins o → IsSome o
      there None h = absurd (omega (arith, h))
      there (Some x) h = refl

      staying_pins : pins_of old q ≡ 0 → Stood old (staying (leaver old) old.resident) q → no_pins (lookup (nat_eq q) (staying (leaver old) old.resident)) ≡ 0
      staying_pins zero (inl same) = ap no_pins same ∙ zero
      staying_pins zero (inr out) = ap no_pins out.0

      none_more : pins_of old q ≡ 0 → Fetched page old new → pins_of new q ≡ 0
      none_more zero (inl hit) = ap (λ (c : CacheValue). pins_of c q) hit.1 ∙ ap no_pins (used_held page old q) ∙ zero
      none_more zero (inr enters) = ap (λ (c : CacheValue). pins_of c q) enters.1.1 ∙ by_bool (nat_eq q page) (λ t. rw t refl) (λ t. rw t (staying_pins zero (stood old whole q)))

-- ---- room

module _ (keep : List ℕ) where
  one_more : (q : ℕ) (ks : List ℕ) → 0 < count_by (nat_eq q) ks → is_among ks q ≡ true
  one_more q [] h = absurd (omega (arith, h))
  one_more q (k ∷ ks) h = by_bool (nat_eq q k)
      (λ t. rw (key_flips q k true t) refl)
      (λ t. let all = count_cons (nat_eq q) k ks in let head : one (nat_eq q k) ≡ 0 = ap one t in
      rw (key_flips q k false t) (one_more q ks (omega (arith, all, head, h))))

  -- entries that are pinned are among the pages that are kept
  count_kept : (es : List (ℕ × Held)) → IsDistinct nat_eq (keys_of es) → ((q : ℕ) → 0 < no_pins (lookup (nat_eq q) es) → is_among keep q ≡ true)
      → count_by (λ e. not (e.1.pins == 0)) es ≤ count_by (λ e. is_among keep e.0) es
  count_kept [] d h = omega arith
  count_kept (x ∷ es) d h =
      let a = count_cons (λ (e : ℕ × Held). not (e.1.pins == 0)) x es in
      let b = count_cons (λ (e : ℕ × Held). is_among keep e.0) x es in
      let rest = count_kept es (IsDistinct-tail nat_eq x.0 (keys_of es) d) (λ q some. h q (further q some)) in
      let first : one (not (x.1.pins == 0)) ≤ one (is_among keep x.0) = head in
      omega (arith, a, b, rest, first)
    where
      further : (q : ℕ) → 0 < no_pins (lookup (nat_eq q) es) → 0 < no_pins (lookup (nat_eq q) (x ∷ es))
      further q some = by_bool (nat_eq q x.0)
          (λ t. let gone : lookup (nat_eq q) es ≡ None = subst (λ (k : ℕ). lookup (nat_eq k) es ≡ None) (sym (eqb-true q x.0 t)) (all_gone x.0 es (IsDistinct-head nat_eq x.0 (keys_of es) d)) in
          let none : no_pins (lookup (nat_eq q) es) ≡ 0 = ap no_pins gone in absurd (omega (arith, none, some)))
          (λ t. rw t some)

      head : one (not (x.1.pins == 0)) ≤ one (is_among keep x.0)
      head = by_bool (x.1.pins == 0)
          (λ t. rw t (omega arith))
          (λ t. let some : 0 < x.1.pins = positive x.1.pins (eqb-false x.1.pins 0 t) in
          let kept : is_among keep x.0 ≡ true = h x.0 (rw (same_key x.0) some) in rw (t, kept) (omega arith))
        where
          positive : (n : ℕ) → (n ≡ 0 → ⊥) → 0 < n
          positive n ne = omega (arith, ne)

  -- where each pin is of a page that is kept, so many pages at most are dirty or pinned
  pub busy_within : (c : CacheValue) → IsCache c → ((q : ℕ) → pins_of c q ≡ count_by (nat_eq q) keep) → busy c ≤ 96 + length keep
  busy_within c whole pins =
      let all = busy_at_most c whole in
      let few = whole.few in
      let one = count_kept c.resident whole.pages (λ q some. one_more q keep (subst (λ (n : ℕ). 0 < n) (pins q) some)) in
      let two = count_dirty keep c.resident whole.pages in
      omega (arith, all, few, one, two)
