-- The sectors of a map as they are saved, and what writing them leaves.
use Rattle.std.specs.Prelude.{ℕ, ◌≤◌, Bool, false, not, List, count_by, slice_index_or}
use Rattle.volume_layout.specs.declared.layout.Layout.{Layout}
use Rattle.volume_layout.specs.Layout.{map_sectors, map_start}
use Rattle.run_table.specs.Space.{contains}
use Rattle.fsd_formats.specs.SavedMap.{MapCounts, saved_sector as sector_of_map}
use Rattle.sector_set.specs.Area.{Area}
use Rattle.sector_disk.specs.declared.sector.Sector.{Sector}
use Rattle.sector_disk.specs.declared.sector.Sector.TheVariants.{Whole}
use Rattle.sector_disk.specs.Image.{lay}
use Rattle.sector_disk.specs.Machine.{Moment, Holds}

-- the map's sector of this number, of an epoch, with these counts
abbrev pub saved_sector : Layout → (free : List ℕ) → (pages : List Bool) → (epoch : ℕ) → MapCounts → ℕ → List ℕ
saved_sector l free pages epoch counts k = sector_of_map l (contains free) (λ page. slice_index_or pages page false) epoch counts k

-- what the heads say: how many pages are in use, those that aren't free, and how many versions there are
abbrev pub counts_of : (pages : List Bool) → (versions : ℕ) → MapCounts
counts_of pages versions = record { pages = count_by not pages; versions = versions }

-- each sector of the map of these free sectors and pages
abbrev pub saved : Layout → Area → (pages : List Bool) → (epoch versions : ℕ) → ℕ → List ℕ
saved l map pages epoch versions = saved_sector l map.sectors pages epoch (counts_of pages versions)

-- the image with so many first sectors of the map
abbrev pub with_map : Layout → (ℕ → List ℕ) → List Sector → ℕ → List Sector
with_map l sector image count = lay image (map_start l) (λ k. Whole (sector k)) count

-- Some first sectors of the map stand over the old image.
pub record SavesIn (l : Layout) (sector : ℕ → List ℕ) (old left : Moment) : Type 0 where
  pub stood : ℕ
  pub within : stood ≤ map_sectors l
  pub holds : Holds old (with_map l sector old.image stood) left
