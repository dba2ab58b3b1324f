-- Sets of sectors below an end.
use Rattle.std.specs.Prelude.{ℕ, ◌+◌, ◌≡◌, ◌≤◌, ◌<◌, Bool, not, List, [], ◌∷◌, Option, Some, None}
use Rattle.std.specs.List.{range_with_len}
use Rattle.run_table.specs.declared.run.Run.{Run}
use Rattle.run_table.specs.Space.{contains, where_free, runs_of}

-- the sectors ascend, and are below the end
pub record SectorsBelow : Type 0 where
  pub end : ℕ
  pub sectors : List ℕ

abbrev pub in_run : Run → ℕ → Bool
in_run r s = contains (range_with_len r.start r.length) s

-- the sectors below the end that pass the test
abbrev pub set_of : ℕ → (ℕ → Bool) → SectorsBelow
set_of end test = record { end = end; sectors = where_free test 0 end }

-- its sectors from a place on, as the longest intervals
abbrev pub free_runs_from : SectorsBelow → ℕ → List Run
free_runs_from set at = runs_of (where_free (contains set.sectors) at set.end)

-- the first of the runs, and those behind it
abbrev pub IsFirstRun : SectorsBelow → ℕ → Option Run → Type 0
IsFirstRun set at None = free_runs_from set at ≡ []
IsFirstRun set at (Some r) = free_runs_from set at ≡ r ∷ free_runs_from set (r.start + r.length)

-- the first place from `at` on where the test says so, or the end
pub record IsFirst (end : ℕ) (test : ℕ → Bool) (at : ℕ) (wanted : Bool) (s : ℕ) : Type 0 where
  pub from : at ≤ s
  pub to : s ≤ end
  pub before : (t : ℕ) → at ≤ t → t < s → test t ≡ not wanted
  pub found : s < end → test s ≡ wanted
