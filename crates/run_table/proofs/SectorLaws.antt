-- Laws of lists of sectors and of the sectors of runs: what lies among them, and how many they are.
use Rattle.std.proofs.Common.{◌≡◌, ℕ, ◌+◌, Bool, true, false, cond, ◌||◌, List, [], ◌∷◌, ◌++◌, length, subst, inl, inr, arith, refl}
use Rattle.std.specs.Prelude.{◌==◌}
use Rattle.std.specs.List.{AllByRecursion, list_all, range_with_len}
use Rattle.std.proofs.lemmas.Bool.{and_from, eq-eqb, eqb-true, or_cases, or_left, or_right, and_parts}
use Rattle.std.proofs.lemmas.List.{length-append}
use Rattle.std.proofs.lemmas.List.Folds.{list_any-append}
use Rattle.std.proofs.lemmas.List.FromFn.{length-range_with_len}
use Rattle.std.proofs.lemmas.List.Sums.{sum_by-cons}
use Rattle.run_table.specs.declared.run.Run.{Run}
use Rattle.run_table.specs.RunTable.{run_of, sectors_of, total}
use Rattle.run_table.specs.Space.{contains, joined, runs_of}

-- `total` is std's `sum_by`, which goes from the left
pub total-cons : (r : Run) (runs : List Run) → total (r ∷ runs) ≡ r.length + total runs
total-cons r runs = sum_by-cons (λ (r : Run). r.length) r runs

pub length_of_sectors : (runs : List Run) → length (sectors_of runs) ≡ total runs
length_of_sectors [] = refl
length_of_sectors (r ∷ runs) = omega (arith, length-append (range_with_len r.start r.length) (sectors_of runs), length-range_with_len r.start r.length, length_of_sectors runs, total-cons r runs)

pub contains-append : (xs ys : List ℕ) (s : ℕ) → contains (xs ++ ys) s ≡ (contains xs s || contains ys s)
contains-append xs ys s = list_any-append (λ t. t == s) xs ys

-- the sectors of a run and of those behind it
pub contains-cons : (r : Run) (runs : List Run) (s : ℕ) → contains (sectors_of (r ∷ runs)) s ≡ (contains (range_with_len r.start r.length) s || contains (sectors_of runs) s)
contains-cons r runs s = contains-append (range_with_len r.start r.length) (sectors_of runs) s

pub first_there : (s : ℕ) (xs : List ℕ) → contains (s ∷ xs) s ≡ true
first_there s xs = or_left (s == s) (contains xs s) (eq-eqb s s refl)

pub rest_there : (t s : ℕ) (xs : List ℕ) → contains xs s ≡ true → contains (t ∷ xs) s ≡ true
rest_there t s xs there = or_right (t == s) (contains xs s) there

-- what holds of each holds of one that is among them
pub each_in : (P : ℕ → Type 0) (xs : List ℕ) (s : ℕ) → AllByRecursion P xs → contains xs s ≡ true → P s
each_in P [] s all there = absurd cc
each_in P (x ∷ xs) s all there = elim (or_cases (x == s) (contains xs s) there) [
  | inl here ↦ subst P (eqb-true x s here) all.0
  | inr more ↦ each_in P xs s all.1 more
]

-- and a test that passes each that is among them passes all
pub all_from : (p : ℕ → Bool) (xs : List ℕ) → ((s : ℕ) → contains xs s ≡ true → p s ≡ true) → list_all p xs ≡ true
all_from p [] each = refl
all_from p (x ∷ xs) each =
    and_from (p x) (list_all p xs) (each x (first_there x xs)) (all_from p xs (λ s there. each s (rest_there x s xs there)))

-- one that is among those that pass passes
pub all_in : (p : ℕ → Bool) (xs : List ℕ) (s : ℕ) → list_all p xs ≡ true → contains xs s ≡ true → p s ≡ true
all_in p [] s all there = absurd (cc there)
all_in p (x ∷ xs) s all there =
    let parts = and_parts (p x) (list_all p xs) all in
    elim (or_cases (x == s) (contains xs s) there) [
      | inl here ↦ subst (λ (t : ℕ). p t ≡ true) (eqb-true x s here) parts.0
      | inr more ↦ all_in p xs s parts.1 more
    ]

total_of_joined : (s : ℕ) (runs : List Run) → total (joined s runs) ≡ total runs + 1
total_of_joined s [] = omega arith
total_of_joined s (r ∷ runs) = by (s + 1 == r.start)
  where
    by : (b : Bool) → total (cond b (run_of s (r.length + 1) ∷ runs) (run_of s 1 ∷ r ∷ runs)) ≡ total (r ∷ runs) + 1
    by true = omega (arith, total-cons (run_of s (r.length + 1)) runs, total-cons r runs)
    by false = omega (arith, total-cons (run_of s 1) (r ∷ runs))

pub total_of_runs : (xs : List ℕ) → total (runs_of xs) ≡ length xs
total_of_runs [] = refl
total_of_runs (s ∷ xs) = omega (arith, total_of_joined s (runs_of xs), total_of_runs xs)
