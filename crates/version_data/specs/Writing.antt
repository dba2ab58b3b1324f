-- The sectors of a version as they are written.
use Rattle.std.specs.Prelude.{◌≡◌, ℕ, zero, suc, ◌+◌, ◌-◌, List, take, drop, slice_index_or}
use Rattle.run_table.specs.declared.run.Run.{Run}
use Rattle.run_table.specs.RunTable.{sectors_of}
use Rattle.fsd_formats.specs.declared.entry.Entry.{Entry}
use Rattle.fsd_formats.specs.Leader.{leader_of, leader_bytes}
use Rattle.fsd_files.specs.Disk.{Image, Sectors, Touches}
use Rattle.fsd_formats.specs.NamePage.{sectors_for}
use Rattle.fsd_files.specs.Kept.{data_sectors, filled_slice}
use Rattle.sector_disk.specs.Image.{with_sector}
use Rattle.sector_disk.specs.Machine.{Moment}

-- ---- what calls leave

-- Nothing was written but where the test says, and the windows and what was said are as they were.
pub record WritesIn (may : Sectors) (old left : Moment) : Type 0 where
  pub touches : Touches may old left
  pub windows : left.windows ≡ old.windows
  pub said : left.said ≡ old.said

-- ---- a version

-- the bytes of a version's sectors by their number: the leader, and then the slices
abbrev pub part_of : (leader bytes : List ℕ) → ℕ → List ℕ
part_of leader bytes zero = leader
part_of leader bytes (suc k) = filled_slice bytes k

-- the image with these bytes in these places, so many of them
abbrev pub lay_at : Image → (place : ℕ → ℕ) → (bytes : ℕ → List ℕ) → ℕ → Image
lay_at image place bytes zero = image
lay_at image place bytes (suc k) = with_sector (lay_at image place bytes k) (place k) (bytes k)

-- the data sectors of the slices that so many bytes are, from one of the version's slices on
abbrev pub slices_at : List Run → (first len : ℕ) → List ℕ
slices_at runs first len = take (sectors_for len - 1) (drop first (data_sectors runs))

-- the image with so many of these slices
abbrev pub slices_laid : Image → List Run → (first : ℕ) → List ℕ → ℕ → Image
slices_laid image runs first bytes count = lay_at image (λ k. slice_index_or (sectors_of runs) (first + k + 1) 0) (filled_slice bytes) count

-- where a sector of the entry's lies, by its number
abbrev pub sector_of : Entry → ℕ → ℕ
sector_of e k = slice_index_or (sectors_of e.runs) k 0

-- the image with so many first sectors of a version
abbrev pub with_parts : Image → Entry → List ℕ → ℕ → Image
with_parts image e bytes count = lay_at image (sector_of e) (part_of (leader_bytes (leader_of e)) bytes) count
