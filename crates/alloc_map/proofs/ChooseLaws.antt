-- The choice: what is left of the free runs decides.
use Rattle.std.proofs.Common.{◌≡◌, ℕ, zero, suc, ◌+◌, ◌<◌, ◌≤◌, Bool, true, false, cond, List, [], ◌∷◌, length, take, Option, Some, None, Ok, Err, refl, sym, ap, ◌∙◌, arith}
use Rattle.std.specs.Prelude.{nat_le, nat_lt, find}
use Rattle.std.proofs.lemmas.Bool.{le-leb, lt-leb, le-ltb}
use Rattle.run_table.specs.declared.run.Run.{Run}
use Rattle.run_table.specs.RunTable.{run_of, total}
use Rattle.run_table.specs.Space.{runs_of, by_length, longest_first, longest, best, pick, picked, cut_to}
use Rattle.run_table.proofs.SectorLaws.{total-cons, total_of_runs}
use Rattle.alloc_map.specs.declared.no_place.NoPlace.TheVariants.{NoSpace, TooFragmented}
use Rattle.alloc_map.specs.NoPlace.{choice, picked_or}

-- ---- the lowest that holds all

abbrev pub lowest : ℕ → List Run → Option Run
lowest need runs = find (λ r. nat_le need r.length) runs

pub lowest_here : (need : ℕ) (left rest : List Run) (r : Run) → left ≡ r ∷ rest → need ≤ r.length → lowest need left ≡ Some r
lowest_here need left rest r is h = ap (lowest need) is ∙ ap (λ (b : Bool). cond b (Some r) (lowest need rest)) (le-leb need r.length h)

pub lowest_on : (need : ℕ) (left rest : List Run) (r : Run) → left ≡ r ∷ rest → r.length < need → lowest need left ≡ lowest need rest
lowest_on need left rest r is h = ap (lowest need) is ∙ ap (λ (b : Bool). cond b (Some r) (lowest need rest)) (lt-leb need r.length h)

enough : (free : List ℕ) (need : ℕ) → need ≤ length free → choice free need ≡ picked_or need (best (runs_of free)) (pick (runs_of free) need)
enough free need h = ap (λ (b : Bool). cond b (Err (NoSpace need (length free))) (picked_or need (best (runs_of free)) (pick (runs_of free) need))) (le-ltb (length free) need h)

pub chosen_first : (free : List ℕ) (need : ℕ) (r : Run) → need ≤ length free → lowest need (runs_of free) ≡ Some r → choice free need ≡ Ok (run_of r.start need ∷ [])
chosen_first free need r h is = enough free need h ∙ ap (λ (o : Option Run). picked_or need (best (runs_of free)) (picked need o (runs_of free))) is

-- ---- else the longest

chosen_longest : (free : List ℕ) (need : ℕ) (kept : List Run) → need ≤ length free → lowest need (runs_of free) ≡ None → kept ≡ longest (runs_of free)
    → choice free need ≡ picked_or need (total kept) (cond (nat_le need (total kept)) (Some (cut_to need kept)) None)
chosen_longest free need kept h none is =
    enough free need h
    ∙ ap (λ (o : Option Run). picked_or need (best (runs_of free)) (picked need o (runs_of free))) none
    ∙ ap (λ (x : List Run). picked_or need (total x) (cond (nat_le need (total x)) (Some (cut_to need x)) None)) (sym is)

pub chosen_none : (free : List ℕ) (need : ℕ) (kept : List Run) → need ≤ length free → lowest need (runs_of free) ≡ None → kept ≡ longest (runs_of free)
    → total kept < need → choice free need ≡ Err (TooFragmented need (total kept))
chosen_none free need kept h none is few =
    chosen_longest free need kept h none is ∙ ap (λ (b : Bool). picked_or need (total kept) (cond b (Some (cut_to need kept)) None)) (lt-leb need (total kept) few)

pub chosen_cut : (free : List ℕ) (need : ℕ) (kept : List Run) → need ≤ length free → lowest need (runs_of free) ≡ None → kept ≡ longest (runs_of free)
    → need ≤ total kept → choice free need ≡ Ok (cut_to need kept)
chosen_cut free need kept h none is many =
    chosen_longest free need kept h none is ∙ ap (λ (b : Bool). picked_or need (total kept) (cond b (Some (cut_to need kept)) None)) (le-leb need (total kept) many)

-- ---- no more than all

total_by_length : (r : Run) (runs : List Run) → total (by_length r runs) ≡ r.length + total runs
total_by_length r [] = total-cons r []
total_by_length r (q ∷ runs) = by (nat_lt r.length q.length) (total_by_length r runs)
  where
    by : (b : Bool) → total (by_length r runs) ≡ r.length + total runs → total (cond b (q ∷ by_length r runs) (r ∷ q ∷ runs)) ≡ r.length + total (q ∷ runs)
    by true rest = omega (arith, total-cons q (by_length r runs), total-cons q runs)
    by false rest = total-cons r (q ∷ runs)

total_longest_first : (runs : List Run) → total (longest_first runs) ≡ total runs
total_longest_first [] = refl
total_longest_first (r ∷ runs) = omega (arith, total_by_length r (longest_first runs), total_longest_first runs, total-cons r runs)

total_take : (n : ℕ) (runs : List Run) → total (take n runs) ≤ total runs
total_take zero runs = omega arith
total_take (suc n) [] = omega arith
total_take (suc n) (r ∷ runs) = omega (arith, total-cons r (take n runs), total-cons r runs, total_take n runs)

pub best_within : (free : List ℕ) (kept : List Run) → kept ≡ longest (runs_of free) → total kept ≤ length free
best_within free kept is = omega (arith, ap total is, total_take 8 (longest_first (runs_of free)), total_longest_first (runs_of free), total_of_runs free)
