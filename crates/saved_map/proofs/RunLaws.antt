-- A run of sectors that is given back, and a run of flags that are set.
use Rattle.std.proofs.Common.{◌≡◌, ℕ, ◌+◌, ◌-◌, ◌<◌, ◌≤◌, Bool, true, false, not, ◌&&◌, ◌||◌, List, [], ◌∷◌, length, get_or, set, refl, sym, ap, subst, ◌∙◌, inl, inr, arith}
use Rattle.std.specs.Prelude.{nat_le, nat_lt}
use Rattle.std.specs.List.{list_any, range_with_len}
use Rattle.std.proofs.lemmas.Bool.{and_from, and_parts, cases_eq, cases_lt, le-leb, leb-true, lt-leb, lt-ltb, ltb-true, or_right}
use Rattle.std.proofs.lemmas.Bool.Decides.{nat_tests}
use Rattle.std.proofs.lemmas.List.{get_or-set_other, get_or-set_same}
use Rattle.run_table.specs.declared.run.Run.{Run}
use Rattle.run_table.specs.RunTable.{run_of, sectors_of}
use Rattle.run_table.specs.Space.{all_differ, contains, where_free}
use Rattle.run_table.proofs.SectorLaws.{contains-cons}
use Rattle.sector_set.specs.Area.{Area, AreOut, IsOwn, area, together}
use Rattle.sector_set.specs.Bits.{in_range}
use Rattle.sector_set.proofs.EachLaws.{differ_split}
use Rattle.sector_set.proofs.FreeLaws.{contains_range, contains_where, contains_where_outside, where_same}

-- ---- tests

pub or_none : (b : Bool) → (b || false) ≡ b
or_none true = refl
or_none false = refl

pub inside : (from to s : ℕ) → from ≤ s → s < to → in_range from to s ≡ true
inside from to s low high = and_from (nat_le from s) (nat_lt s to) (le-leb from s low) (lt-ltb s to high)

pub below : (from to s : ℕ) → s < from → in_range from to s ≡ false
below from to s low = ap (λ (b : Bool). b && nat_lt s to) (lt-leb from s low)

pub beyond : (from to s : ℕ) → to ≤ s → in_range from to s ≡ false
beyond from to s high = grind (arith, nat_tests)

pub is_inside : (from to s : ℕ) → in_range from to s ≡ true → (from ≤ s) × (s < to)
is_inside from to s is = let both = and_parts (nat_le from s) (nat_lt s to) is in (leb-true from s both.0, ltb-true s to both.1)

-- ---- the sectors of one run

pub in_one : (start stop s : ℕ) → start ≤ stop → contains (sectors_of (run_of start (stop - start) ∷ [])) s ≡ in_range start stop s
in_one start stop s order =
    let end : start + (stop - start) ≡ stop = omega arith in
    contains-cons (run_of start (stop - start)) [] s ∙ or_none (contains (range_with_len start (stop - start)) s) ∙ contains_range start (stop - start) s ∙ ap (λ (e : ℕ). in_range start e s) end

none_in : (xs : List ℕ) → list_any (contains []) xs ≡ false
none_in [] = refl
none_in (x ∷ xs) = none_in xs

pub one_differs : (r : Run) → all_differ (sectors_of (r ∷ [])) ≡ true
one_differs r = differ_split (r ∷ []) 0 r (omega arith) ∙ ap (λ (b : Bool). not b && true) (none_in (range_with_len r.start r.length))

pub area_own : (from to : ℕ) (f : ℕ → Bool) → IsOwn (area from to f)
area_own from to f =
    ap (λ (xs : List ℕ). record { from = from; to = to; sectors = xs }) (where_same f (contains (where_free f from to)) from to (λ s low high. sym (contains_where f from to s low high)))

-- a set has no sector outside of its interval
pub own_outside : (m : Area) (s : ℕ) → IsOwn m → (m.from ≤ s → s < m.to → ⊥) → contains m.sectors s ≡ false
own_outside m s own out = ap (λ (a : Area). contains a.sectors s) own ∙ contains_where_outside (contains m.sectors) m.from m.to s out

-- ---- given back

pub record IsReleased (m new : Area) (start stop : ℕ) : Type 0 where
  pub from : new.from ≡ m.from
  pub to : new.to ≡ m.to
  pub own : IsOwn new
  pub each : (s : ℕ) → contains new.sectors s ≡ (contains m.sectors s || in_range start stop s)

module _ (m : Area) (start stop : ℕ) (own : IsOwn m) (some : start < stop) (low : m.from ≤ start) (high : stop ≤ m.to) where
  ordered : start ≤ stop
  ordered = omega (arith, some)

  pub may_release : ((s : ℕ) → start ≤ s → s < stop → contains m.sectors s ≡ false) → AreOut m (run_of start (stop - start) ∷ [])
  may_release new = record {
    within = λ s c. (let at = is_inside start stop s (sym (in_one start stop s ordered) ∙ c) in (omega (arith, low, at.0), omega (arith, high, at.1)));
    outside = λ s c. (let at = is_inside start stop s (sym (in_one start stop s ordered) ∙ c) in new s at.0 at.1);
    differ = one_differs (run_of start (stop - start));
  }

  abbrev test : ℕ → Bool
  test s = contains m.sectors s || contains (sectors_of (run_of start (stop - start) ∷ [])) s

  out_each : (s : ℕ) → (m.from ≤ s → s < m.to → ⊥) → contains (where_free test m.from m.to) s ≡ (contains m.sectors s || in_range start stop s)
  out_each s out =
      let none : in_range start stop s ≡ false = elim (cases_lt s start) [
        | inl less ↦ below start stop s less
        | inr more ↦ elim (cases_lt s stop) [
          | inl less ↦ absurd (out (omega (arith, low, more)) (omega (arith, high, less)))
          | inr far ↦ beyond start stop s far
        ]
      ] in
      contains_where_outside test m.from m.to s out ∙ sym (ap (λ (b : Bool). contains m.sectors s || b) none ∙ or_none (contains m.sectors s) ∙ own_outside m s own out)

  in_each : (s : ℕ) → m.from ≤ s → s < m.to → contains (where_free test m.from m.to) s ≡ (contains m.sectors s || in_range start stop s)
  in_each s from to = contains_where test m.from m.to s from to ∙ ap (λ (b : Bool). contains m.sectors s || b) (in_one start stop s ordered)

  released_each : (s : ℕ) → contains (where_free test m.from m.to) s ≡ (contains m.sectors s || in_range start stop s)
  released_each s = elim (cases_lt s m.from) [
    | inl less ↦ out_each s (λ from to. absurd (omega (arith, less, from)))
    | inr more ↦ elim (cases_lt s m.to) [
      | inl less ↦ in_each s more less
      | inr far ↦ out_each s (λ from to. absurd (omega (arith, far, to)))
    ]
  ]

  pub released : (new : Area) → new ≡ together m (run_of start (stop - start) ∷ []) → IsReleased m new start stop
  released new is = subst (λ (a : Area). IsReleased m a start stop) (sym is) (record { from = refl; to = refl; own = area_own m.from m.to test; each = released_each })

-- ---- flags

pub flag_more : (xs old : List Bool) (from page k : ℕ) → from ≤ page → page < length xs → get_or xs k false ≡ (get_or old k false || in_range from page k)
    → get_or (set xs page true) k false ≡ (get_or old k false || in_range from (page + 1) k)
flag_more xs old from page k low high so_far = elim (cases_eq k page) [
  | inl here ↦
      let same : get_or (set xs page true) k false ≡ true = ap (λ (n : ℕ). get_or (set xs page true) n false) here ∙ get_or-set_same xs page true false high in
      same ∙ sym (or_right (get_or old k false) (in_range from (page + 1) k) (inside from (page + 1) k (omega (arith, here, low)) (omega (arith, here))))
  | inr other ↦
      let tests : in_range from page k ≡ in_range from (page + 1) k = range_more from page k other in
      get_or-set_other xs page k true false other ∙ so_far ∙ ap (λ (b : Bool). get_or old k false || b) tests
]
  where
    range_more : (from page k : ℕ) → (k ≡ page → ⊥) → in_range from page k ≡ in_range from (page + 1) k
    range_more from page k other = grind (arith, nat_tests)

pub no_flag : (xs : List Bool) (from k : ℕ) → get_or xs k false ≡ (get_or xs k false || in_range from from k)
no_flag xs from k = sym (ap (λ (b : Bool). get_or xs k false || b) (empty from k) ∙ or_none (get_or xs k false))
  where
    empty : (from k : ℕ) → in_range from from k ≡ false
    empty from k = grind (arith, nat_tests)
