-- Which sectors are free, and where the next version goes.
use Rattle.std.specs.Prelude.{ℕ, ◌+◌, ◌-◌, Bool, true, not, ◌&&◌, List, [], ◌∷◌, take, filter, Option, Some, None, nat_le, nat_lt, ◌==◌, if◌then◌else◌, find}
use Rattle.std.specs.List.{list_any, range_with_len}
use Rattle.run_table.specs.declared.run.Run.{Run}
use Rattle.run_table.specs.RunTable.{run_of, total, max_runs}

-- ---- sets of sectors

abbrev pub contains : List ℕ → ℕ → Bool
contains sectors s = list_any (λ t. t == s) sectors

abbrev pub all_differ : List ℕ → Bool
all_differ [] = true
all_differ (s ∷ sectors) = not (contains sectors s) && all_differ sectors

-- ---- free runs

-- the sectors in ascending order that pass the test
abbrev pub where_free : (ℕ → Bool) → (from to : ℕ) → List ℕ
where_free free from to = filter free (range_with_len from (to - from))

-- one more sector in front: at the start of the first run, or a run of its own
abbrev pub joined : ℕ → List Run → List Run
joined s [] = run_of s 1 ∷ []
joined s (r ∷ runs) = if s + 1 == r.start then run_of s (r.length + 1) ∷ runs else run_of s 1 ∷ r ∷ runs

-- ascending sectors as the longest intervals
abbrev pub runs_of : List ℕ → List Run
runs_of [] = []
runs_of (s ∷ sectors) = joined s (runs_of sectors)

-- ---- the choice

-- the longest first, and of two as long the lower
abbrev pub by_length : Run → List Run → List Run
by_length r [] = r ∷ []
by_length r (q ∷ runs) = if nat_lt r.length q.length then q ∷ by_length r runs else r ∷ q ∷ runs

abbrev pub longest_first : List Run → List Run
longest_first [] = []
longest_first (r ∷ runs) = by_length r (longest_first runs)

-- so much from the front of the runs, the last of them in part
abbrev pub cut_to : ℕ → List Run → List Run
cut_to need [] = []
cut_to need (r ∷ runs) = if nat_le need r.length then (if need == 0 then [] else run_of r.start need ∷ []) else r ∷ cut_to (need - r.length) runs

abbrev pub longest : List Run → List Run
longest runs = take max_runs (longest_first runs)

-- the most that one version can take
abbrev pub best : List Run → ℕ
best runs = total (longest runs)

abbrev pub in_longest : ℕ → List Run → Option (List Run)
in_longest need runs = if nat_le need (best runs) then Some (cut_to need (longest runs)) else None

-- the lowest free run that holds all, else the longest runs
abbrev pub picked : ℕ → Option Run → List Run → Option (List Run)
picked need (Some r) runs = Some (run_of r.start need ∷ [])
picked need None runs = in_longest need runs

abbrev pub pick : List Run → ℕ → Option (List Run)
pick runs need = picked need (find (λ r. nat_le need r.length) runs) runs
