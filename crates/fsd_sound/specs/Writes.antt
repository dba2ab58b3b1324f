-- Where a force, a mount and a close write.
use Rattle.std.specs.Prelude.{◌⊎◌, ℕ, ◌+◌, ◌&&◌, ◌||◌, ◌==◌, nat_le, nat_lt, IsFalse}
use Rattle.volume_layout.specs.declared.layout.Layout.{Layout}
use Rattle.volume_layout.specs.Layout.{home_a, map_sectors, map_start}
use Rattle.sector_disk.specs.Image.{open_damage, sector_at}
use Rattle.sector_disk.specs.Machine.{Moment, Wears}
use Rattle.fsd_files.specs.Disk.{Sectors, SectorWorn}
use Rattle.fsd_sound.specs.Mounting.{HasRoot}
use Rattle.fsd_sound.specs.Sound.{is_home}

-- whether a force writes there: the anchors, the log, the homes
abbrev pub force_writes : Layout → Sectors
force_writes l s = (s == 8) || (s == 12) || nat_le 16 s && nat_lt s (home_a l 0) || is_home l s

-- whether the sector is one of the map's
abbrev pub in_map : Layout → Sectors
in_map l s = nat_le (map_start l) s && nat_lt s (map_start l + map_sectors l)

-- whether the saving of a map writes there: the map, and the anchors behind it
abbrev pub saving_writes : Layout → Sectors
saving_writes l s = in_map l s || (s == 8) || (s == 12)

-- whether a mount writes there: the roots beside what a force writes
abbrev pub mount_writes : Layout → Sectors
mount_writes l s = (s == 0) || (s == 4) || force_writes l s

-- nothing is written but where a mount writes; what else is not as it was is worn
abbrev pub WritesAsMount : Layout → (weak : Sectors) → Moment → Moment → Type 0
WritesAsMount l weak old left = (s : ℕ) → IsFalse (mount_writes l s) → SectorWorn (weak s) (sector_at old.image s) (sector_at left.image s)

-- so it is between two moments, by the windows of both
abbrev pub KeepsElsewhere : Layout → Moment → Moment → Type 0
KeepsElsewhere l old new = WritesAsMount l (λ s. open_damage old.windows s || open_damage new.windows s) old new

-- So it is by a root of the image.
pub record KeepsRest (sectors : ℕ) (old new : Moment) : Type 0 where
  pub layout : Layout
  pub root : HasRoot sectors old.image layout
  pub rest : KeepsElsewhere layout old new

-- nothing is written, or nothing but there
abbrev pub MountKeeps : ℕ → Moment → Moment → Type 0
MountKeeps sectors old new = Wears old new ⊎ KeepsRest sectors old new
