-- Laws of the choice of sectors: as many as are needed, all of them free; and none only where eight runs don't suffice.
use Rattle.std.proofs.Common.{◌≡◌, ◌⊎◌, ◌↔◌, ℕ, zero, suc, ◌+◌, ◌-◌, ◌<◌, ◌≤◌, Bool, true, false, cond, List, [], ◌∷◌, take, Option, Some, None, refl, sym, subst, inl, inr, arith}
use Rattle.std.specs.Prelude.{IsTrue, IfSome, nat_le, nat_lt, ◌==◌, find}
use Rattle.std.specs.List.{range_with_len}
use Rattle.std.proofs.lemmas.Bool.{leb-true, leb-false, ltb-true, ltb-false, eqb-true, or_cases, or_left, or_right}
use Rattle.run_table.specs.declared.run.Run.{Run}
use Rattle.run_table.specs.RunTable.{run_of, total, max_runs}
use Rattle.run_table.specs.RunTable.{sectors_of}
use Rattle.run_table.specs.Space.{contains, by_length, longest_first, cut_to, longest, best, picked, pick}
use Rattle.run_table.proofs.SectorLaws.{contains-append, total-cons}

-- ---- as many as are needed

total_of_cut : (need : ℕ) (runs : List Run) → need ≤ total runs → total (cut_to need runs) ≡ need
total_of_cut need [] h = omega arith
total_of_cut need (r ∷ runs) h = by (nat_le need r.length) refl (λ le. total_of_cut (need - r.length) runs le)
  where
    none_or_part : (c : Bool) → (need == 0) ≡ c → total (cond c [] (run_of r.start need ∷ [])) ≡ need
    none_or_part true e = sym (eqb-true need 0 e)
    none_or_part false e = omega arith

    by : (b : Bool) → nat_le need r.length ≡ b → (need - r.length ≤ total runs → total (cut_to (need - r.length) runs) ≡ need - r.length)
        → total (cond b (cond (need == 0) [] (run_of r.start need ∷ [])) (r ∷ cut_to (need - r.length) runs)) ≡ need
    by true e rest = none_or_part (need == 0) refl
    by false e rest = let lt : r.length < need = leb-false need r.length e in omega (arith, total-cons r (cut_to (need - r.length) runs), rest (omega (arith, total-cons r runs)))

pub total_of_pick : (runs : List Run) (need : ℕ) → IfSome (pick runs need) (λ out. total out ≡ need)
total_of_pick runs need = by (find (λ r. nat_le need r.length) runs)
  where
    in_longest_total : (b : Bool) → nat_le need (best runs) ≡ b → IfSome (cond b (Some (cut_to need (longest runs))) None) (λ out. total out ≡ need)
    in_longest_total true e = total_of_cut need (longest runs) (leb-true need (best runs) e)
    in_longest_total false e = tt

    by : (o : Option Run) → IfSome (picked need o runs) (λ out. total out ≡ need)
    by (Some r) = omega arith
    by None = in_longest_total (nat_le need (best runs)) refl

-- ---- all of them free

-- each sector of the first is one of the second
abbrev pub Among : List ℕ → List ℕ → Type 0
Among xs ys = (s : ℕ) → IsTrue (contains xs s) → IsTrue (contains ys s)

front_among : (a n m : ℕ) → n ≤ m → Among (range_with_len a n) (range_with_len a m)
front_among a zero m h s c = absurd cc
front_among a (suc n) zero h s c = absurd (omega arith)
front_among a (suc n) (suc m) h s c =
    elim (or_cases (a == s) (contains (range_with_len (a + 1) n) s) c) [
      | inl e ↦ or_left (a == s) (contains (range_with_len (a + 1) m) s) e
      | inr d ↦ or_right (a == s) (contains (range_with_len (a + 1) m) s) (front_among (a + 1) n m (omega arith) s d)
    ]

-- the sectors of the first run, or of the others
first_or_rest : (r : Run) (runs : List Run) (s : ℕ) → IsTrue (contains (sectors_of (r ∷ runs)) s) → IsTrue (contains (range_with_len r.start r.length) s) ⊎ IsTrue (contains (sectors_of runs) s)
first_or_rest r runs s c = or_cases _ _ (subst IsTrue (contains-append (range_with_len r.start r.length) (sectors_of runs) s) c)

in_first : (r : Run) (runs : List Run) (s : ℕ) → IsTrue (contains (range_with_len r.start r.length) s) → IsTrue (contains (sectors_of (r ∷ runs)) s)
in_first r runs s c = subst IsTrue (sym (contains-append (range_with_len r.start r.length) (sectors_of runs) s)) (or_left _ _ c)

in_rest : (r : Run) (runs : List Run) (s : ℕ) → IsTrue (contains (sectors_of runs) s) → IsTrue (contains (sectors_of (r ∷ runs)) s)
in_rest r runs s c = subst IsTrue (sym (contains-append (range_with_len r.start r.length) (sectors_of runs) s)) (or_right _ _ c)

-- one run in two lists, and the others one among the other
also_with : (r : Run) (xs ys : List Run) → Among (sectors_of xs) (sectors_of ys) → Among (sectors_of (r ∷ xs)) (sectors_of (r ∷ ys))
also_with r xs ys h s c =
    elim (first_or_rest r xs s c) [
      | inl d ↦ in_first r ys s d
      | inr d ↦ in_rest r ys s (h s d)
    ]

cut_among : (need : ℕ) (runs : List Run) → Among (sectors_of (cut_to need runs)) (sectors_of runs)
cut_among need [] = λ s c. c
cut_among need (r ∷ runs) = by (nat_le need r.length) refl (cut_among (need - r.length) runs)
  where
    part : need ≤ r.length → (c : Bool) → Among (sectors_of (cond c [] (run_of r.start need ∷ []))) (sectors_of (r ∷ runs))
    part h true s d = absurd cc
    part h false s d =
        elim (first_or_rest (run_of r.start need) [] s d) [
          | inl e ↦ in_first r runs s (front_among r.start need r.length h s e)
          | inr e ↦ absurd cc
        ]

    by : (b : Bool) → nat_le need r.length ≡ b → Among (sectors_of (cut_to (need - r.length) runs)) (sectors_of runs)
        → Among (sectors_of (cond b (cond (need == 0) [] (run_of r.start need ∷ [])) (r ∷ cut_to (need - r.length) runs))) (sectors_of (r ∷ runs))
    by true e rest = part (leb-true need r.length e) (need == 0)
    by false e rest = also_with r (cut_to (need - r.length) runs) runs rest

take_among : (n : ℕ) (runs : List Run) → Among (sectors_of (take n runs)) (sectors_of runs)
take_among zero runs = λ s c. absurd cc
take_among (suc n) [] = λ s c. c
take_among (suc n) (r ∷ runs) = also_with r (take n runs) runs (take_among n runs)

swapped_among : (q r : Run) (runs : List Run) → Among (sectors_of (q ∷ r ∷ runs)) (sectors_of (r ∷ q ∷ runs))
swapped_among q r runs s c =
    elim (first_or_rest q (r ∷ runs) s c) [
      | inl d ↦ in_rest r (q ∷ runs) s (in_first q runs s d)
      | inr d ↦ elim (first_or_rest r runs s d) [
        | inl e ↦ in_first r (q ∷ runs) s e
        | inr e ↦ in_rest r (q ∷ runs) s (in_rest q runs s e)
      ]
    ]

by_length_among : (r : Run) (runs : List Run) → Among (sectors_of (by_length r runs)) (sectors_of (r ∷ runs))
by_length_among r [] = λ s c. c
by_length_among r (q ∷ runs) = by (nat_lt r.length q.length) (by_length_among r runs)
  where
    by : (b : Bool) → Among (sectors_of (by_length r runs)) (sectors_of (r ∷ runs)) → Among (sectors_of (cond b (q ∷ by_length r runs) (r ∷ q ∷ runs))) (sectors_of (r ∷ q ∷ runs))
    by true rest = λ s c. swapped_among q r runs s (also_with q (by_length r runs) (r ∷ runs) rest s c)
    by false rest = λ s c. c

longest_first_among : (runs : List Run) → Among (sectors_of (longest_first runs)) (sectors_of runs)
longest_first_among [] = λ s c. c
longest_first_among (r ∷ runs) = λ s c. also_with r (longest_first runs) runs (longest_first_among runs) s (by_length_among r (longest_first runs) s c)

longest_among : (runs : List Run) → Among (sectors_of (longest runs)) (sectors_of runs)
longest_among runs s c = longest_first_among runs s (take_among max_runs (longest_first runs) s c)

found_among : (need : ℕ) (r : Run) (runs : List Run) → find (λ r. nat_le need r.length) runs ≡ Some r → Among (sectors_of (run_of r.start need ∷ [])) (sectors_of runs)
found_among need r [] e = absurd cc
found_among need r (q ∷ runs) e = by (nat_le need q.length) refl e (found_among need r runs)
  where
    front_of : need ≤ q.length → q ≡ r → Among (sectors_of (run_of r.start need ∷ [])) (sectors_of (q ∷ runs))
    front_of h same s c =
        elim (first_or_rest (run_of r.start need) [] s c) [
          | inl d ↦ in_first q runs s (front_among q.start need q.length h s (subst (λ (x : Run). IsTrue (contains (range_with_len x.start need) s)) (sym same) d))
          | inr d ↦ absurd cc
        ]

    by : (b : Bool) → nat_le need q.length ≡ b → cond b (Some q) (find (λ r. nat_le need r.length) runs) ≡ Some r
        → (find (λ r. nat_le need r.length) runs ≡ Some r → Among (sectors_of (run_of r.start need ∷ [])) (sectors_of runs))
        → Among (sectors_of (run_of r.start need ∷ [])) (sectors_of (q ∷ runs))
    by true t same rest = front_of (leb-true need q.length t) cc
    by false t later rest = λ s c. in_rest q runs s (rest later s c)

pub pick_among : (runs : List Run) (need : ℕ) → IfSome (pick runs need) (λ out. Among (sectors_of out) (sectors_of runs))
pick_among runs need = by (find (λ r. nat_le need r.length) runs) refl
  where
    in_longest_among : (b : Bool) → IfSome (cond b (Some (cut_to need (longest runs))) None) (λ out. Among (sectors_of out) (sectors_of runs))
    in_longest_among true = λ s c. longest_among runs s (cut_among need (longest runs) s c)
    in_longest_among false = tt

    by : (o : Option Run) → find (λ r. nat_le need r.length) runs ≡ o → IfSome (picked need o runs) (λ out. Among (sectors_of out) (sectors_of runs))
    by (Some r) e = found_among need r runs e
    by None e = in_longest_among (nat_le need (best runs))

-- ---- none only where eight don't suffice

-- the first of them is as long as any
longer_first : (r : Run) (runs : List Run) → (r.length ≤ total (take 1 (by_length r runs))) × (total (take 1 runs) ≤ total (take 1 (by_length r runs)))
longer_first r [] = (omega arith, omega arith)
longer_first r (p ∷ runs) = by (nat_lt r.length p.length) refl
  where
    by : (b : Bool) → nat_lt r.length p.length ≡ b → (r.length ≤ total (take 1 (cond b (p ∷ by_length r runs) (r ∷ p ∷ runs)))) × (total (p ∷ []) ≤ total (take 1 (cond b (p ∷ by_length r runs) (r ∷ p ∷ runs))))
    by true e = let lt : r.length < p.length = ltb-true r.length p.length e in (omega (arith, total-cons p []), omega arith)
    by false e = let le : p.length ≤ r.length = ltb-false r.length p.length e in (omega arith, omega arith)

-- a run that holds all is no longer than the first
holds_below_first : (need : ℕ) (r : Run) (runs : List Run) → find (λ r. nat_le need r.length) runs ≡ Some r → need ≤ total (take 1 (longest_first runs))
holds_below_first need r [] e = absurd cc
holds_below_first need r (q ∷ runs) e = by (nat_le need q.length) refl e (holds_below_first need r runs)
  where
    by : (b : Bool) → nat_le need q.length ≡ b → cond b (Some q) (find (λ r. nat_le need r.length) runs) ≡ Some r
        → (find (λ r. nat_le need r.length) runs ≡ Some r → need ≤ total (take 1 (longest_first runs))) → need ≤ total (take 1 (by_length q (longest_first runs)))
    by true t same rest = let le : need ≤ q.length = leb-true need q.length t in omega (arith, (longer_first q (longest_first runs)).0)
    by false t later rest = omega (arith, rest later, (longer_first q (longest_first runs)).1)

one_of_eight : (runs : List Run) → total (take 1 runs) ≤ total (take 8 runs)
one_of_eight [] = omega arith
one_of_eight (r ∷ runs) = omega (arith, total-cons r [], total-cons r (take 7 runs))

-- a place is found exactly where the eight longest runs suffice
pub pick_none : (runs : List Run) (need : ℕ) → (pick runs need ≡ None) ↔ (best runs < need)
pick_none runs need = by (find (λ r. nat_le need r.length) runs) refl
  where
    in_longest_none : (b : Bool) → nat_le need (best runs) ≡ b → (cond b (Some (cut_to need (longest runs))) None ≡ None) ↔ (best runs < need)
    in_longest_none true e = ((λ n. absurd cc), (λ lt. let le : need ≤ best runs = leb-true need (best runs) e in absurd (omega arith)))
    in_longest_none false e = ((λ n. leb-false need (best runs) e), (λ lt. refl))

    by : (o : Option Run) → find (λ r. nat_le need r.length) runs ≡ o → (picked need o runs ≡ None) ↔ (best runs < need)
    by (Some r) e = ((λ n. absurd cc), (λ lt. absurd (omega (arith, holds_below_first need r runs e, one_of_eight (longest_first runs)))))
    by None e = in_longest_none (nat_le need (best runs)) refl
