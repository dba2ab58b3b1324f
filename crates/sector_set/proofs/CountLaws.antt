-- How many sectors of an interval pass a test.
use Rattle.std.proofs.Common.{◌≡◌, ℕ, suc, ◌+◌, ◌-◌, ◌<◌, ◌≤◌, Bool, true, false, cond, not, ◌&&◌, ◌||◌, List, [], ◌∷◌, length, filter, refl, sym, ap, ◌∙◌, arith}
use Rattle.std.specs.Prelude.{◌==◌}
use Rattle.std.specs.List.{range_with_len}
use Rattle.std.proofs.lemmas.Bool.{and_parts, or_left, or_right, eqb-true, eq-eqb, ne_eqb, not-true}
use Rattle.std.proofs.lemmas.List.FromFn.{length-range_with_len}
use Rattle.run_table.specs.declared.run.Run.{Run}
use Rattle.run_table.specs.RunTable.{run_of, total, sectors_of}
use Rattle.run_table.specs.Space.{contains, all_differ, where_free}
use Rattle.run_table.proofs.SectorLaws.{length_of_sectors, total_of_runs}
use Rattle.sector_set.proofs.FreeLaws.{where_same, no_run, first_run}

-- those that pass a second test, and the others
split : (f p : ℕ → Bool) (xs : List ℕ) → length (filter f xs) ≡ length (filter (λ s. f s && p s) xs) + length (filter (λ s. f s && not (p s)) xs)
split f p [] = refl
split f p (x ∷ xs) = by (f x) (p x) (split f p xs)
  where
    by : (a b : Bool) → length (filter f xs) ≡ length (filter (λ s. f s && p s) xs) + length (filter (λ s. f s && not (p s)) xs)
        → length (cond a (x ∷ filter f xs) (filter f xs)) ≡ length (cond (a && b) (x ∷ filter (λ s. f s && p s) xs) (filter (λ s. f s && p s) xs)) + length (cond (a && not b) (x ∷ filter (λ s. f s && not (p s)) xs) (filter (λ s. f s && not (p s)) xs))
    by true true rest = omega arith
    by true false rest = omega arith
    by false b rest = rest

pub split_where : (f p : ℕ → Bool) (from to : ℕ) → length (where_free f from to) ≡ length (where_free (λ s. f s && p s) from to) + length (where_free (λ s. f s && not (p s)) from to)
split_where f p from to = split f p (range_with_len from (to - from))

pub no_more_than : (f : ℕ → Bool) (from to : ℕ) → length (where_free f from to) ≤ to - from
no_more_than f from to = omega (arith, fewer (range_with_len from (to - from)), length-range_with_len from (to - from))
  where
    fewer : (xs : List ℕ) → length (filter f xs) ≤ length xs
    fewer [] = omega arith
    fewer (x ∷ xs) = by (f x) (fewer xs)
      where
        by : (b : Bool) → length (filter f xs) ≤ length xs → length (cond b (x ∷ filter f xs) (filter f xs)) ≤ length (x ∷ xs)
        by true rest = omega arith
        by false rest = omega arith

-- ---- the sectors of a list

one_where : (t from to : ℕ) → from ≤ t → t < to → length (where_free (λ s. t == s) from to) ≡ 1
one_where t from to low high =
    let first = first_run (λ s. t == s) from t (t + 1) to low (omega arith) (omega arith)
    (λ s h k. ne_eqb t s (λ e. absurd (omega arith))) (λ s h k. eq-eqb t s (omega arith)) (λ h. ne_eqb t (t + 1) (λ e. absurd (omega arith))) in
    let rest = no_run (λ s. t == s) (t + 1) to (λ s h k. ne_eqb t s (λ e. absurd (omega arith))) in
    let long : total (run_of t (t + 1 - t) ∷ []) ≡ 1 = omega arith in
    sym (total_of_runs (where_free (λ s. t == s) from to)) ∙ ap total (first ∙ ap (λ (x : List Run). run_of t (t + 1 - t) ∷ x) rest) ∙ long

pub none_where : (from to : ℕ) → length (where_free (λ s. false) from to) ≡ 0
none_where from to = sym (total_of_runs (where_free (λ s. false) from to)) ∙ ap total (no_run (λ s. false) from to (λ s h k. refl))

pub count_of_list : (xs : List ℕ) (from to : ℕ) → all_differ xs ≡ true → ((s : ℕ) → contains xs s ≡ true → (from ≤ s) × (s < to)) → length (where_free (contains xs) from to) ≡ length xs
count_of_list [] from to differ within = none_where from to
count_of_list (t ∷ xs) from to differ within =
    let parts = and_parts (not (contains xs t)) (all_differ xs) differ in
    let inside = within t (or_left (t == t) (contains xs t) (eq-eqb t t refl)) in
    let one : where_free (λ s. contains (t ∷ xs) s && (t == s)) from to ≡ where_free (λ s. t == s) from to =
    where_same (λ s. contains (t ∷ xs) s && (t == s)) (λ s. t == s) from to (λ s h k. absorbed (t == s) (contains xs s)) in
    let others : where_free (λ s. contains (t ∷ xs) s && not (t == s)) from to ≡ where_free (contains xs) from to =
    where_same (λ s. contains (t ∷ xs) s && not (t == s)) (contains xs) from to (λ s h k. other (t == s) s refl (not-true (contains xs t) parts.0)) in
    let rest = count_of_list xs from to parts.1 (λ s c. within s (or_right (t == s) (contains xs s) c)) in
    split_where (contains (t ∷ xs)) (λ s. t == s) from to
    ∙ ap (λ (ys : List ℕ). length ys + length (where_free (λ s. contains (t ∷ xs) s && not (t == s)) from to)) one
    ∙ ap (λ (ys : List ℕ). length (where_free (λ s. t == s) from to) + length ys) others
    ∙ ap (λ (n : ℕ). n + length (where_free (contains xs) from to)) (one_where t from to inside.0 inside.1)
    ∙ ap (λ (n : ℕ). 1 + n) rest
    ∙ after (length xs)
  where
    absorbed : (b c : Bool) → ((b || c) && b) ≡ b
    absorbed true c = refl
    absorbed false true = refl
    absorbed false false = refl

    plain : (c : Bool) → ((false || c) && not false) ≡ c
    plain true = refl
    plain false = refl

    other : (b : Bool) (s : ℕ) → (t == s) ≡ b → contains xs t ≡ false → ((b || contains xs s) && not b) ≡ contains xs s
    other true s e absent = sym (ap (contains xs) (sym (eqb-true t s e)) ∙ absent)
    other false s e absent = plain (contains xs s)

    after : (n : ℕ) → 1 + n ≡ suc n
    after n = omega arith

-- ---- the sectors of runs

-- taken out of those that pass, or added to them
pub count_without : (f : ℕ → Bool) (runs : List Run) (from to : ℕ) → all_differ (sectors_of runs) ≡ true
    → ((s : ℕ) → contains (sectors_of runs) s ≡ true → (from ≤ s) × (s < to)) → ((s : ℕ) → contains (sectors_of runs) s ≡ true → f s ≡ true)
    → length (where_free f from to) ≡ total runs + length (where_free (λ s. f s && not (contains (sectors_of runs) s)) from to)
count_without f runs from to differ within pass =
    let both : where_free (λ s. f s && contains (sectors_of runs) s) from to ≡ where_free (contains (sectors_of runs)) from to =
    where_same (λ s. f s && contains (sectors_of runs) s) (contains (sectors_of runs)) from to (λ s h k. implied (f s) (contains (sectors_of runs) s) (pass s)) in
    split_where f (contains (sectors_of runs)) from to
    ∙ ap (λ (n : ℕ). n + length (where_free (λ s. f s && not (contains (sectors_of runs) s)) from to)) (ap length both ∙ count_of_list (sectors_of runs) from to differ within ∙ length_of_sectors runs)
  where
    implied : (a b : Bool) → (b ≡ true → a ≡ true) → (a && b) ≡ b
    implied true b h = refl
    implied false true h = absurd (let e = h refl in cc)
    implied false false h = refl

pub count_together : (f : ℕ → Bool) (runs : List Run) (from to : ℕ) → all_differ (sectors_of runs) ≡ true
    → ((s : ℕ) → contains (sectors_of runs) s ≡ true → (from ≤ s) × (s < to)) → ((s : ℕ) → contains (sectors_of runs) s ≡ true → f s ≡ false)
    → length (where_free (λ s. f s || contains (sectors_of runs) s) from to) ≡ total runs + length (where_free f from to)
count_together f runs from to differ within fail =
    let rest : where_free (λ s. (f s || contains (sectors_of runs) s) && not (contains (sectors_of runs) s)) from to ≡ where_free f from to =
    where_same (λ s. (f s || contains (sectors_of runs) s) && not (contains (sectors_of runs) s)) f from to (λ s h k. without (f s) (contains (sectors_of runs) s) (fail s)) in
    count_without (λ s. f s || contains (sectors_of runs) s) runs from to differ within (λ s c. or_right (f s) (contains (sectors_of runs) s) c)
    ∙ ap (λ (xs : List ℕ). total runs + length xs) rest
  where
    without : (a b : Bool) → (b ≡ true → a ≡ false) → ((a || b) && not b) ≡ a
    without true true h = absurd (let e = h refl in cc)
    without true false h = refl
    without false true h = refl
    without false false h = refl
