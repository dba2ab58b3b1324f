-- What there is at each moment of a call that makes one version: a stop leaves the image of such a moment, or of an earlier
-- one since the last sync.
use Rattle.std.specs.Prelude.{ℕ, List, [], ◌∷◌, ◌++◌, Option, Some}
use Rattle.sector_disk.specs.Machine.{Moment}
use Rattle.fsd_log.specs.Scan.{Placed}
use Rattle.fsd_files.specs.Files.{Change}
use Rattle.fsd_sound.specs.Mounted.{Mounted}
use Rattle.fsd_sound.specs.Sound.{EndIn, IsSound}
use Rattle.volume_contract.specs.Ends.{device_of}
use Rattle.volume_contract.specs.State.{State, Known, Stands, forced_of}
use Rattle.volume_example.specs.declared.fault.ExampleFault.{ExampleFault}
use Rattle.volume_example.specs.declared.fault.ExampleFault.TheVariants.{Behind, Put, Unsynced}

-- The image is sound for the changes before and this one behind them: a mount of it finds the files after some first ones of
-- all these, with every one that was forced before.
pub record MayLeave (k : Known) (change : Change) (left : Moment) : Type 0 where
  pub ends : EndIn left.windows k.windows
  pub sound : IsSound k.mounted.volume.layout k.windows (k.changes ++ change ∷ []) (forced_of k) left.image

-- so it is of a volume that stood over the disk, whatever it knew
abbrev pub LeavesOneMore : {S : Type 0} → (state : S → State) → (has : S → Mounted → List Placed → Type 0) → S → Change → Moment → Moment → Type 0
LeavesOneMore state has s change old left = (k : Known) → Stands state has s k old → MayLeave k change left

-- the place of the call of the disk that failed, where the fault tells one
abbrev pub stopped_at : ExampleFault → Option ℕ
stopped_at (Put why) = device_of why
stopped_at (Behind key why) = device_of why
stopped_at (Unsynced key place) = Some place
