-- What a close leaves: its force, and the saving of a map behind it, of a volume that has nothing to force.
use Rattle.std.specs.Prelude.{◌≡◌, ◌⊎◌, Bool, ◌&&◌, ◌==◌, length, nat_le, nat_lt}
use Rattle.volume_layout.specs.Layout.{map_sectors}
use Rattle.fsd_formats.specs.Anchors.{closed_bytes}
use Rattle.sector_disk.specs.Image.{open_damage}
use Rattle.sector_disk.specs.Machine.{Moment}
use Rattle.fsd_files.specs.Disk.{Sectors}
use Rattle.fsd_sound.specs.Laid.{StandsTwice}
use Rattle.fsd_sound.specs.Saved.{IsOpen}
use Rattle.fsd_sound.specs.Writes.{force_writes, saving_writes}
use Rattle.volume_contract.specs.Closing.{HasMap, pages_in_use}
use Rattle.volume_contract.specs.State.{Known, LeavesSound, Stands, State, volume_of}
use Rattle.volume_laws.specs.State.{IsMemoryOf, state}
use Rattle.volume_laws.specs.Volume.{VolumeValue}

-- ---- the force

-- where a force writes, if pages wait
abbrev pub may_force : State → Sectors
may_force s t = nat_lt 0 (length s.dirty) && force_writes s.layout t

-- A stop leaves a sound disk. No anchor says that the volume was closed.
pub record LeavesUnclosed (v : VolumeValue) (k : Known) (old left : Moment) : Type 0 where
  pub sound : LeavesSound k (may_force (state v)) old left
  pub opened : IsOpen left.image

-- so it is of a force over a volume that stands
abbrev pub LeavesOpen : VolumeValue → Moment → Moment → Type 0
LeavesOpen v old left = (k : Known) → Stands state IsMemoryOf v k old → LeavesUnclosed v k old left

-- ---- the map

-- nothing waits, and a mount will believe the map
abbrev pub saves_now : State → Bool
saves_now s = (length s.waiting == 0) && nat_le (map_sectors s.layout) (pages_in_use s)

-- what is free stays so: a force frees no more
abbrev pub with_free : State → State
with_free s = record s { freed = s.free }

-- The whole map stands, and the volume's anchor at both of its places, where it says that the volume was closed.
pub record HasMapClosed (s : State) (now : Moment) : Type 0 where
  pub map : HasMap (with_free s) now
  pub closed : StandsTwice 1 (open_damage now.windows) now.image (closed_bytes s.anchor) 8 12

-- A stop leaves a sound disk. No anchor says that the volume was closed, or the whole map stands.
pub record LeavesMap (v : VolumeValue) (k : Known) (old left : Moment) : Type 0 where
  pub sound : LeavesSound k (saving_writes v.layout) old left
  pub first : IsOpen left.image ⊎ HasMap (with_free (state v)) left

-- so it is of the saving of a map over a volume that stands with nothing to force
abbrev pub LeavesSaved : VolumeValue → Moment → Moment → Type 0
LeavesSaved v old left = (k : Known) → Stands state IsMemoryOf v k old → (volume_of k).unforced ≡ 0 → LeavesMap v k old left
