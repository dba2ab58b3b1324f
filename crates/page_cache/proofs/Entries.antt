-- Entries by their keys, which are pages: what a look-up finds, what stays when one goes, and the last that passes a test.
use Rattle.std.proofs.Common.{◌≡◌, ℕ, ◌+◌, ◌-◌, ◌<◌, ◌≤◌, Bool, true, false, cond, not, ◌⊎◌, List, [], ◌∷◌, map, reverse, length, take, option_map, is_some, Option, Some, None, IsSome, refl, sym, ap, ◌∙◌, subst, inl, inr, arith, eq-eqb, eqb-true}
use Rattle.std.specs.Prelude.{nat_eq, find, count_by, slice_get, ◌==◌}
use Rattle.std.proofs.lemmas.Option.{same_Some}
use Rattle.std.specs.List.{AllByRecursion, IsDistinct}
use Rattle.std.specs.Option.{option_map_or, option_or}
use Rattle.std.specs.Map.{keys_of, lookup, lookup_entry, remove_entry}
use Rattle.std.proofs.lemmas.Bool.{ne_eqb, eqb-false, true≢false}
use Rattle.std.proofs.lemmas.List.{reverse-append, take_all}
use Rattle.std.proofs.lemmas.List.Folds.{find-append}
use Rattle.std.proofs.lemmas.List.Sums.{sum_by-cons}
use Rattle.std.proofs.lemmas.Map.Keys.{IsDistinct-head, IsDistinct-tail, IsDistinct-cons}
use Rattle.lru.specs.LruCache.{LruCache, promoted, put_entries}
use Rattle.page_cache.specs.Cache.{leaving}

pub by_bool : {P : Type 0} (b : Bool) → (b ≡ true → P) → (b ≡ false → P) → P
by_bool true t f = t refl
by_bool false t f = f refl

pub by_option : {T P : Type 0} (o : Option T) → ((x : T) → o ≡ Some x → P) → (o ≡ None → P) → P
by_option None s n = n refl
by_option (Some x) s n = s x refl

pub same_key : (a : ℕ) → nat_eq a a ≡ true
same_key a = eq-eqb a a refl

-- the first entry is found by its key
pub first_found : {X : Type 0} (es : List (ℕ × X)) (page : ℕ) (e : ℕ × X) → slice_get es 0 ≡ Some e → e.0 ≡ page → lookup (nat_eq page) es ≡ Some e.1
first_found [] page e h same = absurd (let no = h in cc)
first_found {X} (x ∷ es) page e h same =
    let found : lookup (nat_eq e.0) (e ∷ es) ≡ Some e.1 = rw (same_key e.0) refl in
    subst (λ (g : ℕ × X). lookup (nat_eq page) (g ∷ es) ≡ Some e.1) (sym (same_Some x e h)) (subst (λ (p : ℕ). lookup (nat_eq p) (e ∷ es) ≡ Some e.1) same found)

pub key_flips : (a b : ℕ) (t : Bool) → nat_eq a b ≡ t → nat_eq b a ≡ t
key_flips a b true h = eq-eqb b a (sym (eqb-true a b h))
key_flips a b false h = ne_eqb b a (λ e. eqb-false a b h (sym e))

-- equal keys compare alike
pub key_moves : (a b q : ℕ) (t : Bool) → nat_eq a b ≡ true → nat_eq q b ≡ t → nat_eq q a ≡ t
key_moves a b q t h is = subst (λ x. nat_eq q x ≡ t) (sym (eqb-true a b h)) is

pub All-at : {X : Type 0} (P Q : X → Type 0) → ((x : X) → P x → Q x) → (xs : List X) → AllByRecursion P xs → AllByRecursion Q xs
All-at P Q weaker [] h = tt
All-at P Q weaker (x ∷ xs) h = (weaker x h.0, All-at P Q weaker xs h.1)

module _ {X : Type 0} where
  pub entry_none : (test : ℕ → Bool) (es : List (ℕ × X)) → lookup test es ≡ None → lookup_entry test es ≡ None
  entry_none test [] h = refl
  entry_none test (x ∷ es) h = by_bool (test x.0) (λ is. let h2 = rw is at h in cc) (λ is. rw is (entry_none test es (rw is at h)))

  -- the entry that a look-up finds
  pub record Finds (test : ℕ → Bool) (es : List (ℕ × X)) : Type 0 where
    pub entry : ℕ × X
    pub is : lookup_entry test es ≡ Some entry
    pub value : lookup test es ≡ Some entry.1
    pub passes : test entry.0 ≡ true

  pub entry_some : (test : ℕ → Bool) (es : List (ℕ × X)) → IsSome (lookup test es) → Finds test es
  entry_some test [] h = absurd (true≢false (sym h))
  entry_some test (x ∷ es) h = by_bool (test x.0)
      (λ t. record { entry = x; is = rw t refl; value = rw t refl; passes = t })
      (λ t. let on = entry_some test es (rw t at h) in record { entry = on.entry; is = rw t on.is; value = rw t on.value; passes = on.passes })

  -- what holds of what f reads of each entry holds of the one that a look-up finds
  pub All-entry : {Y : Type 0} (f : ℕ × X → Y) (P : Y → Type 0) (test : ℕ → Bool) (es : List (ℕ × X)) (e : ℕ × X) → AllByRecursion P (map f es) → lookup_entry test es ≡ Some e → P (f e)
  All-entry f P test [] e h is = cc
  All-entry f P test (x ∷ es) e h is = by_bool (test x.0)
      (λ t. let is2 = rw t at is in let same : x ≡ e = cc in subst (λ y. P (f y)) same h.0)
      (λ t. All-entry f P test es e h.1 (rw t at is))

  pub All-removed : {Y : Type 0} (f : ℕ × X → Y) (P : Y → Type 0) (test : ℕ → Bool) (es : List (ℕ × X)) → AllByRecursion P (map f es) → AllByRecursion P (map f (remove_entry test es))
  All-removed f P test [] h = tt
  All-removed f P test (x ∷ es) h = by_bool (test x.0) (λ is. rw is h.1) (λ is. rw is (h.0, All-removed f P test es h.1))

  pub distinct_removed : (f : ℕ × X → ℕ) (test : ℕ → Bool) (es : List (ℕ × X)) → IsDistinct nat_eq (map f es) → IsDistinct nat_eq (map f (remove_entry test es))
  distinct_removed f test [] h = h
  distinct_removed f test (x ∷ es) h = by_bool (test x.0)
      (λ is. rw is (IsDistinct-tail nat_eq (f x) (map f es) h))
      (λ is. rw is (IsDistinct-cons nat_eq (f x) (map f (remove_entry test es))
      (All-removed f (λ y. nat_eq (f x) y ≡ false) test es (IsDistinct-head nat_eq (f x) (map f es) h))
      (distinct_removed f test es (IsDistinct-tail nat_eq (f x) (map f es) h))))

  -- the one that goes differs from those that stay
  pub apart_removed : (f : ℕ × X → ℕ) (test : ℕ → Bool) (es : List (ℕ × X)) (e : ℕ × X) → IsDistinct nat_eq (map f es) → lookup_entry test es ≡ Some e → AllByRecursion (λ y. nat_eq (f e) y ≡ false) (map f (remove_entry test es))
  apart_removed f test [] e d h = tt
  apart_removed f test (x ∷ es) e d h =
      let head = IsDistinct-head nat_eq (f x) (map f es) d in
      by_bool (test x.0)
      (λ is. let h2 = rw is at h in let same : x ≡ e = cc in rw is (subst (λ (g : ℕ × X). AllByRecursion (λ y. nat_eq (f g) y ≡ false) (map f es)) same head))
      (λ is. let on = rw is at h in
      rw is (key_flips (f x) (f e) false (All-entry f (λ y. nat_eq (f x) y ≡ false) test es e head on), apart_removed f test es e (IsDistinct-tail nat_eq (f x) (map f es) d) on))

  pub length-removed : (test : ℕ → Bool) (es : List (ℕ × X)) → IsSome (lookup test es) → length (remove_entry test es) + 1 ≡ length es
  length-removed test [] h = absurd (true≢false (sym h))
  length-removed test (x ∷ es) h = by_bool (test x.0) (λ is. rw is (omega arith)) (λ is. rw is (let on = length-removed test es (rw is at h) in omega arith))

  pub lookup_removed : (q k : ℕ) (es : List (ℕ × X)) → nat_eq q k ≡ false → lookup (nat_eq q) (remove_entry (nat_eq k) es) ≡ lookup (nat_eq q) es
  lookup_removed q k [] apart = refl
  lookup_removed q k (x ∷ es) apart = by_bool (nat_eq k x.0)
      (λ is. rw (is, key_moves x.0 k q false (key_flips k x.0 true is) apart) refl)
      (λ is. rw is (ap (cond (nat_eq q x.0) (Some x.1)) (lookup_removed q k es apart)))

  -- ---- the last that passes a test

  module _ (p : ℕ × X → Bool) where
    first_or : ℕ × X → Option (ℕ × X)
    first_or x = cond (p x) (Some x) None

    back : (x : ℕ × X) (es : List (ℕ × X)) → find p (reverse (x ∷ es)) ≡ option_or (find p (reverse es)) (cond (p x) (Some x) None)
    back x es = ap (find p) (reverse-append (x ∷ []) es) ∙ find-append p (reverse es) (x ∷ [])

    -- it is found among the later ones, or they have none and the first passes
    back_cases : (x : ℕ × X) (es : List (ℕ × X)) (e : ℕ × X) → find p (reverse (x ∷ es)) ≡ Some e → (find p (reverse es) ≡ Some e) ⊎ ((x ≡ e) × (p x ≡ true))
    back_cases x es e h = by_option (find p (reverse es))
        (λ y is. inl (is ∙ (ap (λ o. option_or o (cond (p x) (Some x) None)) (sym is) ∙ sym (back x es) ∙ h)))
        (λ is. let first : cond (p x) (Some x) None ≡ Some e = ap (λ o. option_or o (cond (p x) (Some x) None)) (sym is) ∙ sym (back x es) ∙ h in
        by_bool (p x) (λ t. let f = rw t at first in inr (cc, t)) (λ t. let f = rw t at first in cc))

    none_cases : (x : ℕ × X) (es : List (ℕ × X)) → find p (reverse (x ∷ es)) ≡ None → (find p (reverse es) ≡ None) × (p x ≡ false)
    none_cases x es h = by_option (find p (reverse es))
        (λ y is. let bad : Some y ≡ None = ap (λ o. option_or o (cond (p x) (Some x) None)) (sym is) ∙ sym (back x es) ∙ h in cc)
        (λ is. let first : cond (p x) (Some x) None ≡ None = ap (λ o. option_or o (cond (p x) (Some x) None)) (sym is) ∙ sym (back x es) ∙ h in
        by_bool (p x) (λ t. let f = rw t at first in cc) (λ t. (is, t)))

    -- it is the one of its key, and passes
    pub find_back : (es : List (ℕ × X)) (e : ℕ × X) → IsDistinct nat_eq (keys_of es) → find p (reverse es) ≡ Some e → (lookup_entry (nat_eq e.0) es ≡ Some e) × (p e ≡ true)
    find_back [] e d h = cc
    find_back (x ∷ es) e d h = elim (back_cases x es e h) [
      | inl later ↦ let on = find_back es e (IsDistinct-tail nat_eq x.0 (keys_of es) d) later in
          (rw (key_flips x.0 e.0 false (All-entry (λ g. g.0) (λ y. nat_eq x.0 y ≡ false) (nat_eq e.0) es e (IsDistinct-head nat_eq x.0 (keys_of es) d) on.0)) on.0, on.1)
      | inr here ↦ subst (λ (g : ℕ × X). (lookup_entry (nat_eq g.0) (x ∷ es) ≡ Some g) × (p g ≡ true)) here.0 (rw (same_key x.0) refl, here.1)
    ]

    pub find_there : (es : List (ℕ × X)) (e : ℕ × X) → find p (reverse es) ≡ Some e → IsSome (lookup (nat_eq e.0) es)
    find_there [] e h = cc
    find_there (x ∷ es) e h = elim (back_cases x es e h) [
      | inl later ↦ let on = find_there es e later in by_bool (nat_eq e.0 x.0) (λ t. rw t refl) (λ t. rw t on)
      | inr here ↦ subst (λ (g : ℕ × X). IsSome (lookup (nat_eq g.0) (x ∷ es))) here.0 (rw (same_key x.0) refl)
    ]

    -- where none passes, each fails
    pub none_back : (es : List (ℕ × X)) → find p (reverse es) ≡ None → count_by (λ e. not (p e)) es ≡ length es
    none_back [] h = refl
    none_back (x ∷ es) h =
        let none = none_cases x es h in let on = none_back es none.0 in
        sum_by-cons (λ e. cond (not (p e)) 1 0) x es ∙ rw none.1 (omega arith)

    pub some_back : (es : List (ℕ × X)) → count_by (λ e. not (p e)) es < length es → IsSome (find p (reverse es))
    some_back es h = by_option (find p (reverse es)) (λ y is. rw is refl) (λ is. let on = none_back es is in absurd (omega arith))

-- ---- entries whose values are read by g

module _ {X Y : Type 0} (g : X → Y) where
  abbrev pub read : ℕ × X → ℕ × Y
  read e = (e.0, g e.1)

  abbrev pub reads : List (ℕ × X) → List (ℕ × Y)
  reads es = map read es

  pub entry_read : (test : ℕ → Bool) (es : List (ℕ × X)) → lookup_entry test (reads es) ≡ option_map read (lookup_entry test es)
  entry_read test [] = refl
  entry_read test (x ∷ es) = elim (test x.0) as (λ t. cond t (Some (read x)) (lookup_entry test (reads es)) ≡ option_map read (cond t (Some x) (lookup_entry test es))) [
    | true ↦ refl
    | false ↦ entry_read test es
  ]

  pub removed_read : (test : ℕ → Bool) (es : List (ℕ × X)) → remove_entry test (reads es) ≡ reads (remove_entry test es)
  removed_read test [] = refl
  removed_read test (x ∷ es) = elim (test x.0) as (λ t. cond t (reads es) (read x ∷ remove_entry test (reads es)) ≡ reads (cond t es (x ∷ remove_entry test es))) [
    | true ↦ refl
    | false ↦ ap (λ l. read x ∷ l) (removed_read test es)
  ]

  pub promoted_read : (test : ℕ → Bool) (es : List (ℕ × X)) → promoted test (reads es) ≡ reads (promoted test es)
  promoted_read test es = ap (λ o. option_map_or (λ e. e ∷ remove_entry test (reads es)) o (reads es)) (entry_read test es) ∙ by_found (lookup_entry test es)
    where
      by_found : (o : Option (ℕ × X)) → option_map_or (λ e. e ∷ remove_entry test (reads es)) (option_map read o) (reads es) ≡ reads (option_map_or (λ e. e ∷ remove_entry test es) o es)
      by_found None = refl
      by_found (Some e) = ap (λ l. read e ∷ l) (removed_read test es)

  pub find_read : (p : ℕ × Y → Bool) (xs : List (ℕ × X)) → find p (reads xs) ≡ option_map read (find (λ e. p (read e)) xs)
  find_read p [] = refl
  find_read p (x ∷ xs) = elim (p (read x)) as (λ t. cond t (Some (read x)) (find p (reads xs)) ≡ option_map read (cond t (Some x) (find (λ e. p (read e)) xs))) [
    | true ↦ refl
    | false ↦ find_read p xs
  ]

  pub keys_read : (es : List (ℕ × X)) → keys_of (reads es) ≡ keys_of es
  keys_read [] = refl
  keys_read (x ∷ es) = ap (λ l. x.0 ∷ l) (keys_read es)

-- ---- what a map of bounded size makes of a new key

module _ {X : Type 0} where
  pub put_new : (c : LruCache ℕ X) (n k : ℕ) (v : X) → lookup (nat_eq k) c.entries ≡ None → length c.entries ≤ n → c.cap ≡ n + 1 → put_entries nat_eq c k v ≡ (k, v) ∷ c.entries
  put_new c n k v new fit room = ap (λ o. option_map_or (λ e. (e.0, v) ∷ remove_entry (nat_eq k) c.entries) o ((k, v) ∷ take (c.cap - 1) c.entries)) (entry_none (nat_eq k) c.entries new)
      ∙ ap (λ l. (k, v) ∷ l) (take_all (c.cap - 1) c.entries (omega arith))

  pub remove_other : (k o : ℕ) (v : X) (es : List (ℕ × X)) → nat_eq o k ≡ false → remove_entry (nat_eq o) ((k, v) ∷ es) ≡ (k, v) ∷ remove_entry (nat_eq o) es
  remove_other k o v es apart = rw apart refl

  -- a key that is there is none that is not
  pub apart_new : (k o : ℕ) (es : List (ℕ × X)) → lookup (nat_eq k) es ≡ None → IsSome (lookup (nat_eq o) es) → nat_eq o k ≡ false
  apart_new k o es new there = by_bool (nat_eq o k)
      (λ t. let some : IsSome (lookup (nat_eq k) es) = subst (λ y. IsSome (lookup (nat_eq y) es)) (eqb-true o k t) there in absurd (true≢false (sym some ∙ ap is_some new)))
      (λ t. t)

  -- the one that leaves is there
  pub leaving_there : (frames : ℕ) (p : ℕ × X → Bool) (es : List (ℕ × X)) (e : ℕ × X) → leaving frames p es ≡ Some e → IsSome (lookup (nat_eq e.0) es)
  leaving_there frames p es e h = by_bool (length es == frames) (λ t. find_there p es e (rw t at h)) (λ t. let h2 = rw t at h in cc)
