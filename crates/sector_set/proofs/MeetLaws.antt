-- Whether two lists of sectors share one.
use Rattle.std.proofs.Common.{◌≡◌, ℕ, ◌+◌, ◌<◌, ◌≤◌, Bool, true, false, ◌&&◌, ◌||◌, List, [], ◌∷◌, length, drop, get_or, refl, sym, ap, ◌∙◌, inl, inr, arith}
use Rattle.std.proofs.Math.Bool.{or-true}
use Rattle.std.specs.Prelude.{nat_lt, nat_le, ◌==◌}
use Rattle.std.specs.List.{list_any, range_with_len}
use Rattle.std.proofs.lemmas.Bool.{cases_Bool, or_cases, or_parts, and_parts, both_ways, false_from_ne_true, eqb-true, leb-true, ltb-true, ltb-false, le-leb, lt-ltb, eq-eqb}
use Rattle.std.proofs.lemmas.List.{drop_more, drop_all}
use Rattle.run_table.specs.declared.run.Run.{Run}
use Rattle.run_table.specs.RunTable.{sectors_of}
use Rattle.run_table.specs.Space.{contains}
use Rattle.run_table.proofs.SectorLaws.{contains-cons}
use Rattle.sector_set.proofs.FreeLaws.{contains_range}

-- ---- any of a list

pub any_same : (f g : ℕ → Bool) (xs : List ℕ) → ((s : ℕ) → f s ≡ g s) → list_any f xs ≡ list_any g xs
any_same f g [] h = refl
any_same f g (x ∷ xs) h = ap (λ (b : Bool). b || list_any f xs) (h x) ∙ ap (λ (b : Bool). g x || b) (any_same f g xs h)

pub any_or : (f g : ℕ → Bool) (xs : List ℕ) → list_any (λ s. f s || g s) xs ≡ (list_any f xs || list_any g xs)
any_or f g [] = refl
any_or f g (x ∷ xs) = ap (λ (b : Bool). (f x || g x) || b) (any_or f g xs) ∙ shuffle (f x) (g x) (list_any f xs) (list_any g xs)
  where
    shuffle : (a b c d : Bool) → ((a || b) || (c || d)) ≡ ((a || c) || (b || d))
    shuffle true b c d = refl
    shuffle false true true d = refl
    shuffle false true false d = refl
    shuffle false false c d = refl

pub none_any : (f : ℕ → Bool) (xs : List ℕ) → list_any f xs ≡ false → (s : ℕ) → contains xs s ≡ true → f s ≡ false
none_any f [] e s c = absurd (both_ways false refl c)
none_any f (x ∷ xs) e s c =
    let parts = or_parts (f x) (list_any f xs) e in
    elim (or_cases (x == s) (contains xs s) c) [
      | inl is ↦ ap f (sym (eqb-true x s is)) ∙ parts.0
      | inr later ↦ none_any f xs parts.1 s later
    ]

pub any_none : (f : ℕ → Bool) (xs : List ℕ) → ((s : ℕ) → contains xs s ≡ true → f s ≡ false) → list_any f xs ≡ false
any_none f [] h = refl
any_none f (x ∷ xs) h =
    ap (λ (b : Bool). b || list_any f xs) (h x (ap (λ (b : Bool). b || contains xs x) (eq-eqb x x refl)))
    ∙ any_none f xs (λ s c. h s (ap (λ (b : Bool). (x == s) || b) c ∙ or-true (x == s)))

pub any_at : (f : ℕ → Bool) (xs : List ℕ) (s : ℕ) → contains xs s ≡ true → f s ≡ true → list_any f xs ≡ true
any_at f xs s c e =
    elim (cases_Bool (list_any f xs)) [
      | inl holds ↦ holds
      | inr fails ↦ absurd (both_ways (f s) (none_any f xs fails s c) e)
    ]

pub all_any : (f : ℕ → Bool) (xs : List ℕ) → ((s t : ℕ) → contains xs s ≡ true → contains xs t ≡ true → f s ≡ f t) → list_any f xs ≡ true → (s : ℕ) → contains xs s ≡ true → f s ≡ true
all_any f xs alike e s c =
    elim (cases_Bool (f s)) [
      | inl holds ↦ holds
      | inr fails ↦ absurd (both_ways (list_any f xs) (any_none f xs (λ t d. alike t s d c ∙ fails)) e)
    ]

-- ---- two runs

pub within_range : (a n s : ℕ) → contains (range_with_len a n) s ≡ true → (a ≤ s) × (s < a + n)
within_range a n s c =
    let parts = and_parts (nat_le a s) (nat_lt s (a + n)) (sym (contains_range a n s) ∙ c) in
    (leb-true a s parts.0, ltb-true s (a + n) parts.1)

pub in_range : (a n s : ℕ) → a ≤ s → s < a + n → contains (range_with_len a n) s ≡ true
in_range a n s low high = contains_range a n s ∙ ap (λ (b : Bool). b && nat_lt s (a + n)) (le-leb a s low) ∙ lt-ltb s (a + n) high

pub meet_in : (a m b n first : ℕ) → a ≤ first → b ≤ first → ((x : ℕ) → a ≤ x → b ≤ x → first ≤ x) → first < a + m → nat_lt first (b + n) ≡ list_any (contains (range_with_len b n)) (range_with_len a m)
meet_in a m b n first low low_b tight here =
    elim (cases_Bool (nat_lt first (b + n))) [
      | inl holds ↦ holds ∙ sym (any_at (contains (range_with_len b n)) (range_with_len a m) first (in_range a m first low here) (in_range b n first low_b (ltb-true first (b + n) holds)))
      | inr fails ↦ fails ∙ sym (any_none (contains (range_with_len b n)) (range_with_len a m) (λ s c. false_from_ne_true (contains (range_with_len b n) s) (λ d.
          let w = within_range a m s c in
          let v = within_range b n s d in
          absurd (omega (arith, tight s w.0 v.0, w.0, v.1, ltb-false first (b + n) fails)))))
    ]

pub meet_out : (a m b n first : ℕ) → ((x : ℕ) → a ≤ x → b ≤ x → first ≤ x) → a + m ≤ first → list_any (contains (range_with_len b n)) (range_with_len a m) ≡ false
meet_out a m b n first tight beyond =
    any_none (contains (range_with_len b n)) (range_with_len a m) (λ s c. false_from_ne_true (contains (range_with_len b n) s) (λ d.
    let w = within_range a m s c in
    let v = within_range b n s d in
    absurd (omega (arith, tight s w.0 v.0, w.1))))

-- ---- one run more

-- the run meets one of these, or one of those behind it
pub meet_step : (others : List Run) (i : ℕ) (d : Run) (xs : List ℕ) → i < length others
    → list_any (contains (sectors_of (drop i others))) xs ≡ (list_any (contains (range_with_len (get_or others i d).start (get_or others i d).length)) xs || list_any (contains (sectors_of (drop (i + 1) others))) xs)
meet_step others i d xs inside =
    ap (λ (x : List Run). list_any (contains (sectors_of x)) xs) (drop_more others i d inside)
    ∙ any_same _ _ xs (contains-cons (get_or others i d) (drop (i + 1) others))
    ∙ any_or (contains (range_with_len (get_or others i d).start (get_or others i d).length)) (contains (sectors_of (drop (i + 1) others))) xs

pub meet_end : (others : List Run) (i : ℕ) (xs : List ℕ) → length others ≤ i → list_any (contains (sectors_of (drop i others))) xs ≡ false
meet_end others i xs over = ap (λ (x : List Run). list_any (contains (sectors_of x)) xs) (drop_all i others over) ∙ any_none (λ s. false) xs (λ s c. refl)

-- ---- the first sector decides

pub first_is_in : (runs : List Run) (i : ℕ) (d : Run) → i < length runs → sectors_of (drop i runs) ≡ sectors_of runs → 1 ≤ (get_or runs i d).length → contains (sectors_of runs) (get_or runs i d).start ≡ true
first_is_in runs i d inside same some =
    let r : Run = get_or runs i d in
    ap (λ (xs : List ℕ). contains xs r.start) (sym same)
    ∙ ap (λ (x : List Run). contains (sectors_of x) r.start) (drop_more runs i d inside)
    ∙ contains-cons r (drop (i + 1) runs) r.start
    ∙ ap (λ (b : Bool). b || contains (sectors_of (drop (i + 1) runs)) r.start) (in_range r.start r.length r.start (omega arith) (omega (arith, some)))

pub first_decides : (sectors xs : List ℕ) (s : ℕ) → ((s t : ℕ) → contains xs s ≡ true → contains xs t ≡ true → contains sectors s ≡ contains sectors t) → contains xs s ≡ true → contains sectors s ≡ list_any (contains sectors) xs
first_decides sectors xs s alike here =
    elim (cases_Bool (contains sectors s)) [
      | inl holds ↦ holds ∙ sym (any_at (contains sectors) xs s here holds)
      | inr fails ↦ fails ∙ sym (any_none (contains sectors) xs (λ t d. alike t s d here ∙ fails))
    ]

pub meet_found : (others : List Run) (i : ℕ) (d : Run) (xs : List ℕ) (all found : Bool) → i < length others → list_any (contains (sectors_of (drop i others))) xs ≡ all
    → found ≡ list_any (contains (range_with_len (get_or others i d).start (get_or others i d).length)) xs → found ≡ true → true ≡ all
meet_found others i d xs all found inside so_far here e =
    sym (sym so_far ∙ meet_step others i d xs inside ∙ ap (λ (b : Bool). b || list_any (contains (sectors_of (drop (i + 1) others))) xs) (sym here ∙ e))

pub meet_passed : (others : List Run) (i : ℕ) (d : Run) (xs : List ℕ) (all found : Bool) → i < length others → list_any (contains (sectors_of (drop i others))) xs ≡ all
    → found ≡ list_any (contains (range_with_len (get_or others i d).start (get_or others i d).length)) xs → found ≡ false → list_any (contains (sectors_of (drop (i + 1) others))) xs ≡ all
meet_passed others i d xs all found inside so_far here e =
    sym (meet_step others i d xs inside ∙ ap (λ (b : Bool). b || list_any (contains (sectors_of (drop (i + 1) others))) xs) (sym here ∙ e)) ∙ so_far
