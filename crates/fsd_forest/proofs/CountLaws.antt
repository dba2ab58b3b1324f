-- How often a page stands in a list.
use Rattle.std.proofs.Common.{◌≡◌, ℕ, zero, suc, ◌+◌, ◌≤◌, ◌<◌, Bool, true, false, cond, not, List, [], ◌∷◌, ◌++◌, length, refl, subst, inl, inr, arith}
use Rattle.std.specs.Prelude.{◌==◌}
use Rattle.std.specs.List.{AllByRecursion}
use Rattle.std.proofs.lemmas.Bool.{and_parts, and_from, or_cases, or_left, or_right, eqb-true, eq-eqb, not-true, not_from_false, cases_Bool, false_from_ne_true}
use Rattle.std.proofs.lemmas.Bool.Decides.{nat_tests}
use Rattle.std.proofs.lemmas.List.Sums.{sum_by-append, sum_by-cons}
use Rattle.run_table.specs.Space.{contains, all_differ}
use Rattle.fsd_forest.specs.Forest.{times_in, Exchange}

-- what one page counts
abbrev pub one_where : Bool → ℕ
one_where b = cond b 1 0

pub count_cons : (p x : ℕ) (xs : List ℕ) → times_in p (x ∷ xs) ≡ one_where (x == p) + times_in p xs
count_cons p x xs = sum_by-cons (λ (t : ℕ). cond (t == p) 1 0) x xs

pub count_append : (p : ℕ) (xs ys : List ℕ) → times_in p (xs ++ ys) ≡ times_in p xs + times_in p ys
count_append p xs ys = sum_by-append (λ (t : ℕ). cond (t == p) 1 0) xs ys

pub count_nothing : (p : ℕ) → times_in p [] ≡ 0
count_nothing p = refl

pub one_if : (b : Bool) → b ≡ true → one_where b ≡ 1
one_if true e = refl
one_if false e = absurd cc

pub none_if : (b : Bool) → b ≡ false → one_where b ≡ 0
none_if true e = absurd cc
none_if false e = refl

-- ---- pages that are there

pub there_counts : (p : ℕ) (xs : List ℕ) → contains xs p ≡ true → 1 ≤ times_in p xs
there_counts p [] e = absurd cc
there_counts p (x ∷ xs) e =
    elim (or_cases (x == p) (contains xs p) e) [
      | inl h ↦ omega (arith, count_cons p x xs, one_if (x == p) h)
      | inr h ↦ omega (arith, count_cons p x xs, there_counts p xs h)
    ]

pub counts_there : (p : ℕ) (xs : List ℕ) → 1 ≤ times_in p xs → contains xs p ≡ true
counts_there p [] h = absurd (omega (arith, h, count_nothing p))
counts_there p (x ∷ xs) h =
    elim (cases_Bool (x == p)) [
      | inl e ↦ or_left (x == p) (contains xs p) e
      | inr e ↦ or_right (x == p) (contains xs p) (counts_there p xs (omega (arith, h, count_cons p x xs, none_if (x == p) e)))
    ]

pub out_counts : (p : ℕ) (xs : List ℕ) → contains xs p ≡ false → times_in p xs ≡ 0
out_counts p xs e = by (times_in p xs) (λ h. let there = counts_there p xs h in cc)
  where
    by : (n : ℕ) → (1 ≤ n → ⊥) → n ≡ 0
    by zero h = refl
    by (suc n) h = absurd (h (omega arith))

pub counts_out : (p : ℕ) (xs : List ℕ) → times_in p xs ≡ 0 → contains xs p ≡ false
counts_out p xs e = false_from_ne_true (contains xs p) (λ h. absurd (omega (arith, e, there_counts p xs h)))

-- ---- lists without a repetition

pub differ_counts : (xs : List ℕ) → all_differ xs ≡ true → (p : ℕ) → times_in p xs ≤ 1
differ_counts [] e p = omega (arith, count_nothing p)
differ_counts (x ∷ xs) e p =
    let parts = and_parts (not (contains xs x)) (all_differ xs) e in
    let absent : contains xs x ≡ false = not-true (contains xs x) parts.0 in
    elim (cases_Bool (x == p)) [
      | inl same ↦ omega (arith, count_cons p x xs, one_if (x == p) same, subst (λ (t : ℕ). times_in t xs ≡ 0) (eqb-true x p same) (out_counts x xs absent))
      | inr other ↦ omega (arith, count_cons p x xs, none_if (x == p) other, differ_counts xs parts.1 p)
    ]

pub counts_differ : (xs : List ℕ) → ((p : ℕ) → times_in p xs ≤ 1) → all_differ xs ≡ true
counts_differ [] h = refl
counts_differ (x ∷ xs) h =
    let here : times_in x xs ≤ 0 = omega (arith, h x, count_cons x x xs, one_if (x == x) (eq-eqb x x refl)) in
    and_from (not (contains xs x)) (all_differ xs) (not_from_false (contains xs x) (counts_out x xs (omega (arith, here)))) (counts_differ xs (λ p. omega (arith, h p, count_cons p x xs)))

-- pages that came stay apart from those that were there
pub exchange_differ : (old new came went : List ℕ) → Exchange old new came went → all_differ (old ++ came) ≡ true → all_differ new ≡ true
exchange_differ old new came went e d = counts_differ new (λ p. omega (arith, e p, count_append p old came, differ_counts (old ++ came) d p))

-- ---- not more than there is room for

-- all pages but one
abbrev without : ℕ → List ℕ → List ℕ
without n [] = []
without n (x ∷ xs) = cond (x == n) (without n xs) (x ∷ without n xs)

long_by : (n : ℕ) (xs : List ℕ) → length xs ≡ times_in n xs + length (without n xs)
long_by n [] = omega (arith, count_nothing n)
long_by n (x ∷ xs) = by (x == n) (count_cons n x xs) (long_by n xs)
  where
    by : (b : Bool) → times_in n (x ∷ xs) ≡ one_where b + times_in n xs → length xs ≡ times_in n xs + length (without n xs) → length (x ∷ xs) ≡ times_in n (x ∷ xs) + length (cond b (without n xs) (x ∷ without n xs))
    by true c rest = omega arith
    by false c rest = omega arith

fewer : (n p : ℕ) (xs : List ℕ) → times_in p (without n xs) ≤ times_in p xs
fewer n p [] = omega arith
fewer n p (x ∷ xs) = by (x == n) (fewer n p xs)
  where
    by : (b : Bool) → times_in p (without n xs) ≤ times_in p xs → times_in p (cond b (without n xs) (x ∷ without n xs)) ≤ times_in p (x ∷ xs)
    by true rest = omega (arith, rest, count_cons p x xs)
    by false rest = omega (arith, rest, count_cons p x xs, count_cons p x (without n xs))

under : (n : ℕ) (xs : List ℕ) → AllByRecursion (λ x. x < suc n) xs → AllByRecursion (λ x. x < n) (without n xs)
under n [] a = tt
under n (x ∷ xs) a = by (x == n) refl (under n xs a.1)
  where
    by : (b : Bool) → (x == n) ≡ b → AllByRecursion (λ x. x < n) (without n xs) → AllByRecursion (λ x. x < n) (cond b (without n xs) (x ∷ without n xs))
    by true e rest = rest
    by false e rest = (apart e a.0, rest)
      where
        apart : (x == n) ≡ false → x < suc n → x < n
        apart e h = grind (arith, nat_tests)

-- pages below a bound that differ are no more than it
pub few_below : (n : ℕ) (xs : List ℕ) → AllByRecursion (λ x. x < n) xs → ((p : ℕ) → times_in p xs ≤ 1) → length xs ≤ n
few_below zero [] a h = omega arith
few_below zero (x ∷ xs) a h = absurd (let no = a.0 in omega (arith, no))
few_below (suc n) xs a h =
    let rest = few_below n (without n xs) (under n xs a) (λ p. omega (arith, h p, fewer n p xs)) in
    omega (arith, rest, long_by n xs, h n)
