-- What stands on one image, whatever the others that it may be worn to.
use Rattle.std.specs.Prelude.{◌≡◌, ℕ, List}
use Rattle.volume_layout.specs.declared.layout.Layout.{Layout}
use Rattle.sector_disk.specs.Image.{sector_at, with_sector, IsWorn}
use Rattle.fsd_files.specs.Disk.{Image, Sectors}
use Rattle.fsd_sound.specs.Shown.{shown}
use Rattle.fsd_sound.specs.Sound.{SaysTurned, HasRoots, HasAnchors, HasLog, LogsNothing, HasHomes, ShowsOne}

-- What stands on a disk that shows one of these page lists.
pub record StandsShown (l : Layout) (weak : Sectors) (choices : List (List (List ℕ))) (i : Image) : Type 0 where
  pub roots : HasRoots l weak i
  pub empty : SaysTurned l i → LogsNothing l i
  pub anchors : HasAnchors l i
  pub log : HasLog l weak i
  pub homes : HasHomes l i
  pub shows : ShowsOne choices (shown l i)

-- Over an image a sector was written: it stands, and under it is an image that the other may be worn to.
pub record IsWrittenOver (may : Sectors) (c : Image) (s : ℕ) (bytes : List ℕ) (j : Image) : Type 0 where
  pub under : Image
  pub worn : IsWorn may c under
  pub there : sector_at under s ≡ sector_at c s
  pub is : j ≡ with_sector under s bytes
