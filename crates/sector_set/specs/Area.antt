-- Sets of sectors of an interval, and their number.
use Rattle.std.specs.Prelude.{ℕ, ◌≡◌, ◌≤◌, ◌<◌, ◌^◌, length, Bool, not, ◌||◌, ◌&&◌, List, [], ◌∷◌, Option, Some, None, ◌+◌, IsTrue, IsFalse}
use Rattle.run_table.specs.declared.run.Run.{Run}
use Rattle.run_table.specs.RunTable.{sectors_of}
use Rattle.sector_set.specs.SectorSet.{SectorsBelow}
use Rattle.run_table.specs.Space.{contains, all_differ, where_free, runs_of}

-- the sectors ascend, and lie in from..to
pub record Area : Type 0 where
  pub from : ℕ
  pub to : ℕ
  pub sectors : List ℕ

-- the sectors of from..to that pass the test
abbrev pub area : ℕ → ℕ → (ℕ → Bool) → Area
area from to test = record { from = from; to = to; sectors = where_free test from to }

-- its sectors ascend, and all lie in the interval
abbrev pub IsOwn : Area → Type 0
IsOwn m = m ≡ area m.from m.to (contains m.sectors)

-- without the sectors of runs, or with them
abbrev pub without_sectors : Area → List Run → Area
without_sectors m runs = area m.from m.to (λ s. contains m.sectors s && not (contains (sectors_of runs) s))

abbrev pub together : Area → List Run → Area
together m runs = area m.from m.to (λ s. contains m.sectors s || contains (sectors_of runs) s)

-- the sectors of these runs are in it, each named once
pub record AreIn (m : Area) (runs : List Run) : Type 0 where
  pub inside : (s : ℕ) → IsTrue (contains (sectors_of runs) s) → IsTrue (contains m.sectors s)
  pub differ : IsTrue (all_differ (sectors_of runs))

-- they are sectors of the interval and not in it, each named once
pub record AreOut (m : Area) (runs : List Run) : Type 0 where
  pub within : (s : ℕ) → IsTrue (contains (sectors_of runs) s) → (m.from ≤ s) × (s < m.to)
  pub outside : (s : ℕ) → IsTrue (contains (sectors_of runs) s) → IsFalse (contains m.sectors s)
  pub differ : IsTrue (all_differ (sectors_of runs))

-- a sector from a place on up to the end, in the set or not as is wanted
abbrev pub IsThere : ℕ → SectorsBelow → Bool → ℕ → Type 0
IsThere from set wanted s = (from ≤ s) × (s < set.end) × (contains set.sectors s ≡ wanted)

-- the number of a set's sectors from a place on
pub record CountsFree (from : ℕ) (set : SectorsBelow) (count : ℕ) : Type 0 where
  pub order : from ≤ set.end
  pub small : set.end < 2 ^ 32
  pub exact : count ≡ length (where_free (contains set.sectors) from set.end)

-- its sectors from a place on, as the longest intervals
abbrev pub left_of : Area → ℕ → List Run
left_of m at = runs_of (where_free (contains m.sectors) at m.to)

-- the first of these, and those behind it
abbrev pub IsFirstOf : Area → ℕ → Option Run → Type 0
IsFirstOf m at None = left_of m at ≡ []
IsFirstOf m at (Some r) = left_of m at ≡ r ∷ left_of m (r.start + r.length)
