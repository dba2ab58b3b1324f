-- The versions that open readers hold.
use Rattle.std.specs.Prelude.{ℕ, ◌≡◌, ◌≤◌, ◌<◌, ◌⊎◌, ⊤, Bool, true, false, not, ◌&&◌, ◌||◌, List, Option, Some, None, IsTrue, IsFalse, All, if◌then◌else◌}
use Rattle.std.specs.List.{list_any}
use Rattle.run_table.specs.declared.run.Run.{Run}
use Rattle.run_table.specs.RunTable.{sectors_of, same_runs}
use Rattle.run_table.specs.Space.{contains, all_differ}
use Rattle.sector_set.specs.Area.{Area, area}
use Rattle.sector_set.specs.Meet.{meets}

-- for each slot the runs of the version that its reader holds, if there is one
abbrev pub Slots : Type 0
Slots = List (Option (List Run))

abbrev pub is_empty : Option (List Run) → Bool
is_empty None = true
is_empty (Some runs) = false

-- a slot has these very runs, or none of their sectors
abbrev pub IsSameOrApart : List Run → Option (List Run) → Type 0
IsSameOrApart runs None = ⊤
IsSameOrApart runs (Some other) = (other ≡ runs) ⊎ IsFalse (meets (sectors_of runs) other)

abbrev pub has_same : List Run → Option (List Run) → Bool
has_same runs None = false
has_same runs (Some other) = same_runs other runs

abbrev pub has_sector : ℕ → Option (List Run) → Bool
has_sector s None = false
has_sector s (Some runs) = contains (sectors_of runs) s

-- whether a reader holds a sector
abbrev pub is_held : Slots → ℕ → Bool
is_held slots s = list_any (has_sector s) slots

-- no reader holds a sector of these
abbrev pub AreUnheld : Slots → List Run → Type 0
AreUnheld slots runs = (s : ℕ) → IsTrue (contains (sectors_of runs) s) → IsFalse (is_held slots s)

-- those of a set that nobody holds
abbrev pub unheld : Slots → Area → Area
unheld slots m = area m.from m.to (λ s. contains m.sectors s && not (is_held slots s))

-- a set with those of another that a reader holds
abbrev pub with_held : Slots → Area → Area → Area
with_held slots kept removed = area kept.from kept.to (λ s. contains kept.sectors s || contains removed.sectors s && is_held slots s)

-- all the runs' sectors are in the set, or none
abbrev pub AreTogether : Area → List Run → Type 0
AreTogether m runs = (s t : ℕ) → IsTrue (contains (sectors_of runs) s) → IsTrue (contains (sectors_of runs) t) → contains m.sectors s ≡ contains m.sectors t

abbrev pub AreWithin : Area → List Run → Type 0
AreWithin m runs = (s : ℕ) → IsTrue (contains (sectors_of runs) s) → (m.from ≤ s) × (s < m.to)

-- a version that a reader holds: removed as a whole, and the same as another reader's or apart from it
pub record IsVersion (removed kept : Area) (slots : Slots) (runs : List Run) : Type 0 where
  pub within : AreWithin removed runs
  pub differ : IsTrue (all_differ (sectors_of runs))
  pub whole : AreTogether removed runs
  pub whole_kept : AreTogether kept runs
  pub agree : All (IsSameOrApart runs) slots

abbrev pub IsSlot : Area → Area → Slots → Option (List Run) → Type 0
IsSlot removed kept slots None = ⊤
IsSlot removed kept slots (Some runs) = IsVersion removed kept slots runs

abbrev pub AreSlots : Area → Area → Slots → Type 0
AreSlots removed kept slots = All (IsSlot removed kept slots) slots

-- the runs that become free where a slot is given up and these others stay
abbrev pub given_back : Area → Slots → Option (List Run) → Option (List Run)
given_back kept others None = None
given_back kept others (Some runs) = if meets kept.sectors runs && not (list_any (has_same runs) others) then Some runs else None
