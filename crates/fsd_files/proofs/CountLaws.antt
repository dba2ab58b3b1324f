-- How often a sector stands in a list: once at most in what is picked of the free ones.
use Rattle.std.proofs.Common.{◌≡◌, ℕ, zero, suc, ◌+◌, ◌-◌, ◌<◌, ◌≤◌, Bool, true, false, cond, List, [], ◌∷◌, ◌++◌, take, filter, Option, Some, None, refl, sym, ap, subst, inl, inr, arith}
use Rattle.std.specs.Prelude.{IsTrue, IfSome, not, nat_le, nat_lt, ◌==◌, find}
use Rattle.std.specs.List.{flat_map, range_with_len}
use Rattle.std.proofs.lemmas.Bool.{and_parts, and_from, or_cases, or_left, or_right, eqb-true, eq-eqb, leb-true, not-true, not_from_false, cases_Bool, false_from_ne_true, both_ways}
use Rattle.run_table.specs.declared.run.Run.{Run}
use Rattle.run_table.specs.RunTable.{run_of, sectors_of}
use Rattle.run_table.specs.Space.{contains, all_differ, where_free, joined, runs_of, by_length, longest_first, cut_to, longest, best, picked, pick}

abbrev pub one_where : Bool → ℕ
one_where true = 1
one_where false = 0

-- how often a sector stands in a list
abbrev pub occurs : ℕ → List ℕ → ℕ
occurs s [] = 0
occurs s (t ∷ xs) = one_where (t == s) + occurs s xs

pub occurs-append : (s : ℕ) (xs ys : List ℕ) → occurs s (xs ++ ys) ≡ occurs s xs + occurs s ys
occurs-append s [] ys = omega arith
occurs-append s (t ∷ xs) ys = omega (arith, occurs-append s xs ys)

one_if : (b : Bool) → b ≡ true → one_where b ≡ 1
one_if true e = refl
one_if false e = absurd cc

none_if : (b : Bool) → b ≡ false → one_where b ≡ 0
none_if true e = absurd cc
none_if false e = refl

pub contains_occurs : (s : ℕ) (xs : List ℕ) → IsTrue (contains xs s) → 0 < occurs s xs
contains_occurs s [] c = absurd cc
contains_occurs s (t ∷ xs) c =
    elim (or_cases (t == s) (contains xs s) c) [
      | inl e ↦ omega (arith, one_if (t == s) e)
      | inr d ↦ omega (arith, contains_occurs s xs d)
    ]

pub occurs_contains : (s : ℕ) (xs : List ℕ) → 0 < occurs s xs → IsTrue (contains xs s)
occurs_contains s [] h = absurd (omega arith)
occurs_contains s (t ∷ xs) h =
    elim (cases_Bool (t == s)) [
      | inl e ↦ or_left (t == s) (contains xs s) e
      | inr e ↦ or_right (t == s) (contains xs s) (occurs_contains s xs (omega (arith, none_if (t == s) e)))
    ]

-- ---- lists without a repetition

pub differ_occurs : (xs : List ℕ) → all_differ xs ≡ true → (s : ℕ) → occurs s xs ≤ 1
differ_occurs [] e s = omega arith
differ_occurs (t ∷ xs) e s =
    let parts = and_parts (not (contains xs t)) (all_differ xs) e in
    let absent : contains xs t ≡ false = not-true (contains xs t) parts.0 in
    elim (cases_Bool (t == s)) [
      | inl same ↦ (let is : t ≡ s = eqb-true t s same in
          let none : occurs s xs ≤ 0 = not_there (occurs s xs) (λ lt. both_ways (contains xs t) absent (subst (λ (x : ℕ). IsTrue (contains xs x)) (sym is) (occurs_contains s xs lt))) in
          omega (arith, one_if (t == s) same))
      | inr other ↦ omega (arith, none_if (t == s) other, differ_occurs xs parts.1 s)
    ]
  where
    not_there : (n : ℕ) → (0 < n → ⊥) → n ≤ 0
    not_there zero h = omega arith
    not_there (suc n) h = absurd (h (omega arith))

pub occurs_differ : (xs : List ℕ) → ((s : ℕ) → occurs s xs ≤ 1) → all_differ xs ≡ true
occurs_differ [] h = refl
occurs_differ (t ∷ xs) h =
    and_from (not (contains xs t)) (all_differ xs)
    (not_from_false (contains xs t) (false_from_ne_true (contains xs t) (λ c. absurd (omega (arith, h t, one_if (t == t) (eq-eqb t t refl), contains_occurs t xs c)))))
    (occurs_differ xs (λ s. omega (arith, h s)))

-- ---- runs

pub sectors-cons : (s : ℕ) (r : Run) (runs : List Run) → occurs s (sectors_of (r ∷ runs)) ≡ occurs s (range_with_len r.start r.length) + occurs s (sectors_of runs)
sectors-cons s r runs = occurs-append s (range_with_len r.start r.length) (sectors_of runs)

front_fewer : (s a n m : ℕ) → n ≤ m → occurs s (range_with_len a n) ≤ occurs s (range_with_len a m)
front_fewer s a zero m h = omega arith
front_fewer s a (suc n) zero h = absurd (omega arith)
front_fewer s a (suc n) (suc m) h = omega (arith, front_fewer s (a + 1) n m (omega arith))

cut_fewer : (s need : ℕ) (runs : List Run) → occurs s (sectors_of (cut_to need runs)) ≤ occurs s (sectors_of runs)
cut_fewer s need [] = omega arith
cut_fewer s need (r ∷ runs) = by (nat_le need r.length) refl (cut_fewer s (need - r.length) runs)
  where
    part : need ≤ r.length → (c : Bool) → occurs s (sectors_of (cond c [] (run_of r.start need ∷ []))) ≤ occurs s (sectors_of (r ∷ runs))
    part h true = omega arith
    part h false = omega (arith, sectors-cons s (run_of r.start need) [], sectors-cons s r runs, front_fewer s r.start need r.length h)

    by : (b : Bool) → nat_le need r.length ≡ b → occurs s (sectors_of (cut_to (need - r.length) runs)) ≤ occurs s (sectors_of runs)
        → occurs s (sectors_of (cond b (cond (need == 0) [] (run_of r.start need ∷ [])) (r ∷ cut_to (need - r.length) runs))) ≤ occurs s (sectors_of (r ∷ runs))
    by true e rest = part (leb-true need r.length e) (need == 0)
    by false e rest = omega (arith, sectors-cons s r (cut_to (need - r.length) runs), sectors-cons s r runs)

take_fewer : (s n : ℕ) (runs : List Run) → occurs s (sectors_of (take n runs)) ≤ occurs s (sectors_of runs)
take_fewer s zero runs = omega arith
take_fewer s (suc n) [] = omega arith
take_fewer s (suc n) (r ∷ runs) = omega (arith, sectors-cons s r (take n runs), sectors-cons s r runs, take_fewer s n runs)

by_length_same : (s : ℕ) (r : Run) (runs : List Run) → occurs s (sectors_of (by_length r runs)) ≡ occurs s (range_with_len r.start r.length) + occurs s (sectors_of runs)
by_length_same s r [] = sectors-cons s r []
by_length_same s r (q ∷ runs) = by (nat_lt r.length q.length) (by_length_same s r runs)
  where
    by : (b : Bool) → occurs s (sectors_of (by_length r runs)) ≡ occurs s (range_with_len r.start r.length) + occurs s (sectors_of runs)
        → occurs s (sectors_of (cond b (q ∷ by_length r runs) (r ∷ q ∷ runs))) ≡ occurs s (range_with_len r.start r.length) + occurs s (sectors_of (q ∷ runs))
    by true rest = omega (arith, sectors-cons s q (by_length r runs), sectors-cons s q runs)
    by false rest = sectors-cons s r (q ∷ runs)

longest_first_same : (s : ℕ) (runs : List Run) → occurs s (sectors_of (longest_first runs)) ≡ occurs s (sectors_of runs)
longest_first_same s [] = refl
longest_first_same s (r ∷ runs) = omega (arith, by_length_same s r (longest_first runs), longest_first_same s runs, sectors-cons s r runs)

found_fewer : (s need : ℕ) (r : Run) (runs : List Run) → find (λ r. nat_le need r.length) runs ≡ Some r → occurs s (range_with_len r.start need) ≤ occurs s (sectors_of runs)
found_fewer s need r [] e = absurd cc
found_fewer s need r (q ∷ runs) e = by (nat_le need q.length) refl e (found_fewer s need r runs)
  where
    by : (b : Bool) → nat_le need q.length ≡ b → cond b (Some q) (find (λ r. nat_le need r.length) runs) ≡ Some r
        → (find (λ r. nat_le need r.length) runs ≡ Some r → occurs s (range_with_len r.start need) ≤ occurs s (sectors_of runs)) → occurs s (range_with_len r.start need) ≤ occurs s (sectors_of (q ∷ runs))
    by true t same rest =
        let is : q ≡ r = cc in
        let fewer : occurs s (range_with_len q.start need) ≤ occurs s (sectors_of (q ∷ runs)) = omega (arith, sectors-cons s q runs, front_fewer s q.start need q.length (leb-true need q.length t)) in
        subst (λ (x : Run). occurs s (range_with_len x.start need) ≤ occurs s (sectors_of (q ∷ runs))) is fewer
    by false t later rest = omega (arith, rest later, sectors-cons s q runs)

-- a choice takes no sector more often than the runs have it
pub pick_fewer : (s : ℕ) (runs : List Run) (need : ℕ) → IfSome (pick runs need) (λ out. occurs s (sectors_of out) ≤ occurs s (sectors_of runs))
pick_fewer s runs need = by (find (λ r. nat_le need r.length) runs) refl
  where
    in_longest_fewer : (b : Bool) → IfSome (cond b (Some (cut_to need (longest runs))) None) (λ out. occurs s (sectors_of out) ≤ occurs s (sectors_of runs))
    in_longest_fewer true = omega (arith, cut_fewer s need (longest runs), take_fewer s 8 (longest_first runs), longest_first_same s runs)
    in_longest_fewer false = tt

    by : (o : Option Run) → find (λ r. nat_le need r.length) runs ≡ o → IfSome (picked need o runs) (λ out. occurs s (sectors_of out) ≤ occurs s (sectors_of runs))
    by (Some r) e = omega (arith, sectors-cons s (run_of r.start need) [], found_fewer s need r runs e)
    by None e = in_longest_fewer (nat_le need (best runs))

-- ---- ascending sectors as runs, and back

joined_same : (s t : ℕ) (runs : List Run) → occurs s (sectors_of (joined t runs)) ≡ one_where (t == s) + occurs s (sectors_of runs)
joined_same s t [] = omega (arith, sectors-cons s (run_of t 1) [])
joined_same s t (r ∷ runs) = by (t + 1 == r.start) refl
  where
    by : (b : Bool) → (t + 1 == r.start) ≡ b → occurs s (sectors_of (cond b (run_of t (r.length + 1) ∷ runs) (run_of t 1 ∷ r ∷ runs))) ≡ one_where (t == s) + occurs s (sectors_of (r ∷ runs))
    by true e =
        let next : t + 1 ≡ r.start = eqb-true (t + 1) r.start e in
        let longer : r.length + 1 ≡ suc r.length = omega arith in
        let first : occurs s (range_with_len t (r.length + 1)) ≡ one_where (t == s) + occurs s (range_with_len (t + 1) r.length) = ap (λ (n : ℕ). occurs s (range_with_len t n)) longer in
        let moved : occurs s (range_with_len (t + 1) r.length) ≡ occurs s (range_with_len r.start r.length) = ap (λ (n : ℕ). occurs s (range_with_len n r.length)) next in
        omega (arith, sectors-cons s (run_of t (r.length + 1)) runs, sectors-cons s r runs)
    by false e = omega (arith, sectors-cons s (run_of t 1) (r ∷ runs))

pub runs_same : (s : ℕ) (xs : List ℕ) → occurs s (sectors_of (runs_of xs)) ≡ occurs s xs
runs_same s [] = refl
runs_same s (t ∷ xs) = omega (arith, joined_same s t (runs_of xs), runs_same s xs)

-- ---- free sectors

pub range_once : (s a n : ℕ) → (occurs s (range_with_len a n) ≤ 1) × (s < a → occurs s (range_with_len a n) ≡ 0)
range_once s a zero = (omega arith, λ lt. refl)
range_once s a (suc n) =
    let rest = range_once s (a + 1) n in
    elim (cases_Bool (a == s)) [
      | inl e ↦ (let is : a ≡ s = eqb-true a s e in let none = rest.1 (omega arith) in let one = one_if (a == s) e in (omega arith, λ lt. absurd (omega arith)))
      | inr e ↦ (let one = none_if (a == s) e in (omega (arith, rest.0), λ lt. omega (arith, rest.1 (omega arith))))
    ]

filter_fewer : (p : ℕ → Bool) (s : ℕ) (xs : List ℕ) → (occurs s (filter p xs) ≤ occurs s xs) × (0 < occurs s (filter p xs) → IsTrue (p s))
filter_fewer p s [] = (omega arith, λ lt. absurd (omega arith))
filter_fewer p s (t ∷ xs) = by (p t) refl (filter_fewer p s xs)
  where
    here : IsTrue (p t) → (b : Bool) → (t == s) ≡ b → (0 < occurs s (filter p xs) → IsTrue (p s)) → 0 < one_where b + occurs s (filter p xs) → IsTrue (p s)
    here h true e rest lt = subst (λ (x : ℕ). IsTrue (p x)) (eqb-true t s e) h
    here h false e rest lt = rest (omega arith)

    by : (b : Bool) → p t ≡ b → (occurs s (filter p xs) ≤ occurs s xs) × (0 < occurs s (filter p xs) → IsTrue (p s))
        → (occurs s (cond b (t ∷ filter p xs) (filter p xs)) ≤ occurs s (t ∷ xs)) × (0 < occurs s (cond b (t ∷ filter p xs) (filter p xs)) → IsTrue (p s))
    by true e rest = (omega (arith, rest.0), here e (t == s) refl rest.1)
    by false e rest = (omega (arith, rest.0), rest.1)

-- what is picked of the free sectors: each once, and free
pub picked_once : (free : ℕ → Bool) (from to need s : ℕ) → IfSome (pick (runs_of (where_free free from to)) need)
    (λ out. (occurs s (sectors_of out) ≤ 1) × (0 < occurs s (sectors_of out) → IsTrue (free s)))
picked_once free from to need s = by (pick (runs_of (where_free free from to)) need) (pick_fewer s (runs_of (where_free free from to)) need)
  where
    by : (o : Option (List Run)) → IfSome o (λ out. occurs s (sectors_of out) ≤ occurs s (sectors_of (runs_of (where_free free from to))))
        → IfSome o (λ out. (occurs s (sectors_of out) ≤ 1) × (0 < occurs s (sectors_of out) → IsTrue (free s)))
    by None h = tt
    by (Some out) h =
        let list = where_free free from to in
        let same = runs_same s (where_free free from to) in
        let kept = filter_fewer free s (range_with_len from (to - from)) in
        let once = range_once s from (to - from) in
        (omega (arith, kept.0, once.0), λ lt. kept.1 (omega arith))

-- ---- plans

-- how often a sector stands in plans
abbrev pub used : ℕ → List (List Run) → ℕ
used s plans = occurs s (flat_map sectors_of plans)

pub used-cons : (s : ℕ) (runs : List Run) (plans : List (List Run)) → used s (runs ∷ plans) ≡ occurs s (sectors_of runs) + used s plans
used-cons s runs plans = occurs-append s (sectors_of runs) (flat_map sectors_of plans)
