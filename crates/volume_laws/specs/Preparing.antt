-- All that a put does before it looks its name up.
use Rattle.std.specs.Prelude.{◌≡◌, not, ◌&&◌, ℕ, List, [], ◌∷◌, Some, Result, Ok, Err, MatchResult}
use Rattle.fsd_bytes.specs.declared.refusal.Refusal.{Refusal}
use Rattle.fsd_bytes.specs.declared.refusal.Refusal.TheVariants as Why
use Rattle.sector_disk.specs.Image.{open_damage}
use Rattle.sector_disk.specs.Machine.{Moment}
use Rattle.fsd_formats.specs.declared.entry.Entry.{Entry}
use Rattle.fsd_files.specs.Answers.{HasVersion}
use Rattle.fsd_files.specs.Volume.{drawn, forced_for_place, forced_if}
use Rattle.fsd_sound.specs.Mounted.{forces_by_itself}
use Rattle.volume_contract.specs.Ends.{DownOr}
use Rattle.volume_contract.specs.Order.{Follows, KeepsRefused, CallStep, Disk, Draw, Force, by_itself, place}
use Rattle.volume_contract.specs.State.{GoesOn, Known, Stands, State, downs, forces_first, forces_for_place, in_place, place_in, volume_of}
use Rattle.volume_laws.specs.Placing.{StandsFor}
use Rattle.volume_laws.specs.State.{IsMemoryOf, state}
use Rattle.volume_laws.specs.Steps.{Went}
use Rattle.volume_laws.specs.Volume.{VolumeValue}

-- ---- a force where many pages wait

-- It comes where it is asked for, or the refusal is one of its own.
pub record ForcesByItself (old new : State) (result : Result (Unit {0}) Refusal) : Type 0 where
  pub order : Follows (by_itself old ∷ []) result
  pub state : GoesOn (downs result) old new
  pub kept : MatchResult result (λ x. Went (by_itself old ∷ []) old new) (λ why. KeepsRefused (by_itself old ∷ []) why old new)

-- It stands behind the force that it made by itself, if it did.
pub record StandsForced (k : Known) (new : VolumeValue) (now : Moment) : Type 0 where
  pub after : Known
  pub volume : volume_of after ≡ forced_if (forces_by_itself k.mounted) (volume_of k)
  pub opened : after.opened ≡ k.opened
  pub windows : after.windows ≡ k.windows
  pub changes : after.changes ≡ k.changes
  pub stands : Stands state IsMemoryOf new after now

-- so it does, or it is down where the force failed
abbrev pub EndsForced : Known → VolumeValue → Moment → Result (Unit {0}) Refusal → Type 0
EndsForced k new now (Ok x) = StandsForced k new now
EndsForced k new now (Err (Why.Device s)) = (state new).down ≡ Some s
EndsForced k new now (Err why) = ⊥

-- ---- up to the look-up

-- a place is found, the serial is drawn, the version is written there,
-- and a force comes where many pages wait and none came before
abbrev pub prepare_steps : State → ℕ → List CallStep
prepare_steps s need = Force (forces_for_place s need) ∷ place s need ∷ Draw ∷ Disk (in_place (place_in s need)) ∷ Force (forces_first s && not (forces_for_place s need)) ∷ []

-- The version lies in the place that was found, and has the serial that was drawn.
pub record HasPrepared (need : ℕ) (old new : State) (e : Entry) : Type 0 where
  pub went : Went (prepare_steps old need) old new
  pub place : place_in old need ≡ Some e.runs
  pub serial : e.serial ≡ old.serial

-- It is prepared, or the refusal is one that the steps tell.
pub record Prepares (need : ℕ) (old new : State) (result : Result Entry Refusal) : Type 0 where
  pub order : Follows (prepare_steps old need) result
  pub state : GoesOn (downs result) old new
  pub kept : MatchResult result (HasPrepared need old new) (λ why. KeepsRefused (prepare_steps old need) why old new)

-- It stands behind the forces that came, with the next serial drawn.
pub record StandsReady (need : ℕ) (k : Known) (new : VolumeValue) (now : Moment) : Type 0 where
  pub after : Known
  pub volume : volume_of after ≡ forced_if (forces_by_itself k.mounted) (drawn (forced_for_place need (volume_of k)))
  pub opened : after.opened ≡ k.opened
  pub windows : after.windows ≡ k.windows
  pub changes : after.changes ≡ k.changes
  pub stands : Stands state IsMemoryOf new after now

-- the version stands on the disk, or the volume is down or unchanged; without a place it stands as the place asks for
abbrev pub EndsPrepare : ℕ → List ℕ → Known → VolumeValue → Moment → Result Entry Refusal → Type 0
EndsPrepare need bytes k new now (Ok e) = StandsReady need k new now × HasVersion (open_damage now.windows) now.image bytes e
EndsPrepare need bytes k new now (Err (Why.Device s)) = DownOr state IsMemoryOf s k new now
EndsPrepare need bytes k new now (Err (Why.Lost a b)) = ⊥
EndsPrepare need bytes k new now (Err why) = StandsFor need k new now
