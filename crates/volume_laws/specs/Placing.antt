-- Where a new version goes, and the volume whose next serial is drawn.
use Rattle.std.specs.Prelude.{◌≡◌, ◌⊎◌, ℕ, suc, ◌+◌, ◌≤◌, true, false, List, [], ◌∷◌, length, Option, Some, None, Result, Ok, Err, MatchResult, if◌then◌else◌}
use Rattle.std.specs.List.{AllByRecursion}
use Rattle.run_table.specs.declared.run.Run.{Run}
use Rattle.run_table.specs.RunTable.{max_runs, total}
use Rattle.run_table.specs.Space.{pick}
use Rattle.sector_set.specs.Area.{Area, AreIn}
use Rattle.fsd_bytes.specs.declared.refusal.Refusal.{Refusal}
use Rattle.fsd_bytes.specs.declared.refusal.Refusal.TheVariants as Why
use Rattle.sector_disk.specs.Machine.{Moment}
use Rattle.fsd_files.specs.Answers.{HasVersion, keep_given, size_fault}
use Rattle.sector_disk.specs.Image.{open_damage}
use Rattle.fsd_formats.specs.declared.entry.Entry.{Entry}
use Rattle.fsd_files.specs.Volume.{drawn, forced_for_place}
use Rattle.volume_contract.specs.Order.{Follows, KeepsRefused, CallStep, Disk, Draw, Force, Test, down, no_place_in, place, with_drawn, worn}
use Rattle.volume_contract.specs.State.{GoesOn, IsForced, Known, Stands, State, downs, force_len, forces_for_place, in_place, place_in, volume_of}
use Rattle.volume_laws.specs.State.{IsMemoryOf, state}
use Rattle.volume_laws.specs.Volume.{VolumeValue}

-- ---- what is tested first

-- the tests of a put of these sizes, before a sector is looked for
abbrev pub test_steps : State → (keep : Option ℕ) → (len : ℕ) → List CallStep
test_steps s keep len = down s ∷ Test (size_fault (keep_given keep) len) ∷ worn s ∷ []

-- ---- a place

-- the runs that were picked among the free ones, or why none were
abbrev pub place_or : State → ℕ → Option (List Run) → Result (List Run) Refusal
place_or s need (Some runs) = Ok runs
place_or s need None = Err (no_place_in s s.free need)

-- where so many sectors go now
abbrev pub place_now : State → ℕ → Result (List Run) Refusal
place_now s need = place_or s need (pick s.free need)

-- what a place asks for: a force, where there is none and a sector waits for one, and then that there is one
abbrev pub place_steps : State → ℕ → List CallStep
place_steps s need = Force (forces_for_place s need) ∷ place s need ∷ []

-- the sectors that such a force writes
abbrev pub place_len : State → ℕ → ℕ
place_len s need = if forces_for_place s need then force_len s else 0

-- It is as it was, or a force has ended, and these runs are picked of what is free now.
pub record HasPlace (need : ℕ) (old new : State) (runs : List Run) : Type 0 where
  pub place : place_in old need ≡ Some runs
  pub free : pick new.free need ≡ Some runs
  pub went : ((forces_for_place old need ≡ false) × (new ≡ old)) ⊎ ((forces_for_place old need ≡ true) × IsForced old new)

-- There is a place, or the refusal that the steps tell; it is down where a force failed.
pub record Places (need : ℕ) (old new : State) (result : Result (List Run) Refusal) : Type 0 where
  pub order : Follows (place_steps old need) result
  pub state : GoesOn (downs result) old new
  pub kept : MatchResult result (λ runs. HasPlace need old new runs) (λ why. KeepsRefused (place_steps old need) why old new)

-- The runs are so many free sectors: few runs, and none of them empty.
pub record IsPlace (map : Area) (need : ℕ) (runs : List Run) : Type 0 where
  pub free : AreIn map runs
  pub count : total runs ≡ need
  pub few : length runs ≤ max_runs
  pub some : AllByRecursion (λ r. 1 ≤ r.length) runs

-- ---- a serial

-- the volume whose next serial is drawn
abbrev pub drawn_volume : VolumeValue → VolumeValue
drawn_volume v = record v { serial = record { epoch = v.serial.epoch; count = suc v.serial.count } }

-- so it is of what stands
abbrev pub drawn_known : Known → Known
drawn_known k = record k { mounted = record k.mounted { volume = drawn (volume_of k) } }

-- ---- over an honest machine

-- It stands as the place asks for: behind a force, where one came.
pub record StandsFor (need : ℕ) (k : Known) (new : VolumeValue) (now : Moment) : Type 0 where
  pub after : Known
  pub volume : volume_of after ≡ forced_for_place need (volume_of k)
  pub opened : after.opened ≡ k.opened
  pub windows : after.windows ≡ k.windows
  pub changes : after.changes ≡ k.changes
  pub stands : Stands state IsMemoryOf new after now

-- so it does with a place or without one; it is down where a force failed
abbrev pub EndsPlace : ℕ → Known → VolumeValue → Moment → Result (List Run) Refusal → Type 0
EndsPlace need k new now (Ok runs) = StandsFor need k new now
EndsPlace need k new now (Err (Why.Device s)) = (state new).down ≡ Some s
EndsPlace need k new now (Err (Why.Lost a b)) = ⊥
EndsPlace need k new now (Err why) = StandsFor need k new now

-- ---- a version is stored

-- a place is found, the serial is drawn, and the version is written there
abbrev pub store_steps : State → ℕ → List CallStep
store_steps s need = Force (forces_for_place s need) ∷ place s need ∷ Draw ∷ Disk (in_place (place_in s need)) ∷ []

-- the sectors of the version, and those of a force that its place asks for
abbrev pub store_len : State → ℕ → ℕ
store_len s need = need + place_len s need

-- The version lies in the place that was found, and has the serial that was drawn.
pub record HasStored (need : ℕ) (old new : State) (e : Entry) : Type 0 where
  pub middle : State
  pub place : HasPlace need old middle e.runs
  pub serial : e.serial ≡ middle.serial
  pub is : new ≡ with_drawn middle

-- It is stored, or the refusal is one that the steps tell.
pub record Stores (need : ℕ) (old new : State) (result : Result Entry Refusal) : Type 0 where
  pub order : Follows (store_steps old need) result
  pub state : GoesOn (downs result) old new
  pub kept : MatchResult result (HasStored need old new) (λ why. KeepsRefused (store_steps old need) why old new)

-- It stands as the place asks for, with the next serial drawn.
pub record StandsDrawn (need : ℕ) (k : Known) (new : VolumeValue) (now : Moment) : Type 0 where
  pub after : Known
  pub volume : volume_of after ≡ drawn (forced_for_place need (volume_of k))
  pub opened : after.opened ≡ k.opened
  pub windows : after.windows ≡ k.windows
  pub changes : after.changes ≡ k.changes
  pub stands : Stands state IsMemoryOf new after now

-- the version stands on the disk; a write that failed has drawn the serial, and it is down where a force failed
abbrev pub EndsStore : ℕ → List ℕ → Known → VolumeValue → Moment → Result Entry Refusal → Type 0
EndsStore need bytes k new now (Ok e) = StandsDrawn need k new now × HasVersion (open_damage now.windows) now.image bytes e
EndsStore need bytes k new now (Err (Why.Device s)) = ((state new).down ≡ Some s) ⊎ StandsDrawn need k new now
EndsStore need bytes k new now (Err (Why.Lost a b)) = ⊥
EndsStore need bytes k new now (Err why) = StandsFor need k new now
