-- What a volume is while a version is made, stage by stage.
use Rattle.std.specs.Prelude.{◌≡◌, ◌≤◌, ℕ, false, List, length, Option, Result, IfOk, IsFalse, IsTrue, MatchResult, OnOk}
use Rattle.volume_layout.specs.Layout.{is_data}
use Rattle.run_table.specs.declared.run.Run.{Run}
use Rattle.sector_set.specs.Area.{Area}
use Rattle.sector_disk.specs.Image.{open_damage}
use Rattle.sector_disk.specs.Machine.{Moment}
use Rattle.fsd_bytes.specs.declared.key.Key.{Key}
use Rattle.fsd_bytes.specs.declared.refusal.Refusal.{Refusal}
use Rattle.fsd_formats.specs.declared.entry.Entry.{Entry}
use Rattle.fsd_formats.specs.NamePage.{is_entry, sectors_for}
use Rattle.fsd_files.specs.Answers.{HasVersion}
use Rattle.version_data.specs.Writing.{WritesIn}
use Rattle.volume_contract.specs.Order.{KeepsRefused, enter_steps}
use Rattle.volume_contract.specs.Pieces.{Enters, in_leader}
use Rattle.volume_contract.specs.State.{GoesOn, HasCounted, Known, Stands, State, downs_for, forces_first, forces_for_place}
use Rattle.volume_laws.specs.Placing.{IsPlace, Places, Stores, drawn_known}
use Rattle.volume_laws.specs.Preparing.{Prepares}
use Rattle.volume_laws.specs.State.{IsMemoryOf, resident, state}
use Rattle.volume_laws.specs.Volume.{VolumeValue}

-- There is a place, of free sectors, or the refusal that its steps tell; where no force comes for it, all is as it was.
pub record FindsPlace (need : ℕ) (old new : VolumeValue) (result : Result (List Run) Refusal) : Type 0 where
  pub places : Places need (state old) (state new) result
  pub free : IfOk result (IsPlace new.map need)
  pub still : IsFalse (forces_for_place (state old) need) → new ≡ old

-- Over an honest machine, a version is written there: no sector but of the data area is touched, the volume stands with
-- the next serial drawn, and where the call answers Ok the version's leader and its bytes are on the disk.
pub record WritesVersion (old new : VolumeValue) (draft : Entry) (bytes : List ℕ) (before now : Moment) (result : Result (Unit {0}) Refusal) : Type 0 where
  pub within : WritesIn (is_data old.layout) before now
  pub stands : (k : Known) → Stands state IsMemoryOf old k before → Stands state IsMemoryOf new (drawn_known k) now
  pub done : OnOk result (HasVersion (open_damage now.windows) now.image bytes draft)

-- The entry of a version that is not in the table yet: it is one by the grammar, of so many bytes, in free sectors.
pub record IsUnenteredVersion (map : Area) (len : ℕ) (e : Entry) : Type 0 where
  pub place : IsPlace map (sectors_for len) e.runs
  pub good : IsTrue (is_entry e)
  pub len_is : e.length ≡ len

-- Such a version is stored, or the refusal is one that the steps tell; where no force comes for its place, the pages in
-- memory are what they were.
pub record StoresVersion (len : ℕ) (old new : VolumeValue) (result : Result Entry Refusal) : Type 0 where
  pub stores : Stores (sectors_for len) (state old) (state new) result
  pub version : IfOk result (IsUnenteredVersion new.map len)
  pub still : IsFalse (forces_for_place (state old) (sectors_for len)) → resident new ≡ resident old

-- Such a version is prepared, and few pages wait, or the refusal is one that the steps tell.
pub record PreparesVersion (len : ℕ) (old new : VolumeValue) (result : Result Entry Refusal) : Type 0 where
  pub prepares : Prepares (sectors_for len) (state old) (state new) result
  pub version : IfOk result (IsUnenteredVersion new.map len)
  pub few : OnOk result (length new.cache.dirty ≤ 56)

-- What ending a creation keeps: the volume goes on without it, where it is a version, or with it, as the steps tell.
pub record KeepsFinish (runs : List Run) (keep : Option ℕ) (old new : State) (result : Result Key Refusal) : Type 0 where
  pub state : MatchResult result (λ key. Enters runs old new) (λ why. GoesOn (downs_for why) old new)
  pub kept : MatchResult result (λ key. HasCounted false (forces_first old) old new) (λ why. KeepsRefused (enter_steps old keep (in_leader runs)) why old new)
