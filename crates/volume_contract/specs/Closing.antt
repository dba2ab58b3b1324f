-- A close: behind its force it saves the map, and then says in both copies of the anchor that the volume was closed.
use Rattle.std.specs.Prelude.{◌≡◌, ◌⊎◌, ℕ, ◌+◌, ◌-◌, ◌<◌, ◌≤◌, Bool, ◌&&◌, ◌||◌, ◌==◌, List, [], ◌∷◌, ◌++◌, length, nat_le, nat_lt, IsFalse, OnErr, Result, if◌then◌else◌}
use Rattle.volume_layout.specs.Layout.{map_sectors, map_start}
use Rattle.run_table.specs.RunTable.{sectors_of}
use Rattle.run_table.specs.Space.{contains}
use Rattle.fsd_formats.specs.Anchors.{closed_bytes}
use Rattle.fsd_formats.specs.SavedMap.{MapCounts, saved_sector}
use Rattle.sector_disk.specs.declared.machine.Machine.{Ghosts}
use Rattle.sector_disk.specs.Image.{open_damage}
use Rattle.sector_disk.specs.Machine.{Moment}
use Rattle.fsd_bytes.specs.declared.refusal.Refusal.{Refusal}
use Rattle.fsd_log.specs.Scan.{Placed}
use Rattle.fsd_files.specs.Disk.{Has, Sectors, Touches}
use Rattle.fsd_sound.specs.Laid.{StandsTwice}
use Rattle.fsd_sound.specs.Mounted.{Mounted}
use Rattle.fsd_sound.specs.Saved.{IsOpen}
use Rattle.fsd_sound.specs.Writes.{force_writes, saving_writes}
use Rattle.volume_contract.specs.Order.{CallStep, Disk, force_steps}
use Rattle.volume_contract.specs.State.{Counted, IsForced, Known, LeavesSound, Stands, State, enters_again, force_len, still_waiting}

-- ---- when, and how much

-- how many name pages are in use
abbrev pub pages_in_use : State → ℕ
pages_in_use s = s.layout.pages - length s.free_pages

-- whether a close saves the map: once its force has ended each data sector is free or in a version, and a mount will believe
-- the map
abbrev pub saves : State → Bool
saves s = (length (still_waiting s) == 0) && nat_le (map_sectors s.layout) (pages_in_use s)

-- the map, and both copies of the anchor
abbrev pub saving_len : State → ℕ
saving_len s = if saves s then map_sectors s.layout + 2 else 0

abbrev pub close_len : State → ℕ
close_len s = force_len s + saving_len s

-- where it writes: where a force does, if pages wait, and where a map is saved, if one is
abbrev pub may_close : State → Sectors
may_close s t = (nat_lt 0 (length s.dirty) && force_writes s.layout t) || (saves s && saving_writes s.layout t)

-- behind the steps of a force
abbrev pub close_steps : State → List CallStep
close_steps s = force_steps s ++ (if saves s then Disk (saving_writes s.layout) ∷ [] else [])

-- ---- what is saved

abbrev pub counts_of : State → MapCounts
counts_of s = record { pages = pages_in_use s; versions = s.versions }

-- the map's sector of this number: marked are the sectors that are free once the force has ended, and the free pages
abbrev pub map_sector_of : State → ℕ → List ℕ
map_sector_of s k = saved_sector s.layout (contains (sectors_of s.freed)) (contains s.free_pages) s.anchor.epoch (counts_of s) k

-- The whole map stands, but for what the open window may wear.
abbrev pub HasMap : State → Moment → Type 0
HasMap s now = (k : ℕ) → k < map_sectors s.layout → Has (open_damage now.windows) now.image (map_sector_of s k) (map_start s.layout + k)

-- And the anchor behind the force stands at both of its places, where it says that the volume was closed.
pub record HasSaved (s : State) (now : Moment) : Type 0 where
  pub map : HasMap s now
  pub forced : State
  pub ends : IsForced s forced
  pub closed : StandsTwice 1 (open_damage now.windows) now.image (closed_bytes forced.anchor) 8 12

-- Where a close writes, and how many sectors. One that fails has written nothing, where no third of the log is entered again,
-- or all that its force writes.
pub record WritesClosing {D T : Type 0} (M : Ghosts D) (s : State) (old new : D) (result : Result T Refusal) : Type 0 where
  pub rest : M.honest new → Touches (may_close s) (M.now old) (M.now new)
  pub counted : M.tells new → Counted result (close_len s) (M.ledger old) (M.ledger new)
  pub unwritten : OnErr result (M.tells new → IsFalse (enters_again s) →
      ((M.ledger new).written ≡ (M.ledger old).written) ⊎ ((M.ledger old).written + force_len s ≤ (M.ledger new).written))

-- ---- what a stop leaves

-- The disk is sound for the changes of before. No anchor says that the volume was closed, or the whole map stands.
pub record LeavesSaving (s : State) (k : Known) (old left : Moment) : Type 0 where
  pub sound : LeavesSound k (may_close s) old left
  pub first : IsOpen left.image ⊎ HasMap s left

abbrev pub LeavesClosing : {S : Type 0} → (state : S → State) → (has : S → Mounted → List Placed → Type 0) → S → Moment → Moment → Type 0
LeavesClosing state has s old left = (k : Known) → Stands state has s k old → LeavesSaving (state s) k old left
