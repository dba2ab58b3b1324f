-- The copies of the last record's images and of its end.
use Rattle.std.specs.Prelude.{◌≡◌, ◌≤◌, ℕ, ◌+◌, ◌*◌, ◌/◌, ◌%◌, List, [], ◌∷◌, length}
use Rattle.volume_layout.specs.Shape.{Shape}
use Rattle.volume_layout.specs.Kinds.{gap_of}
use Rattle.fsd_formats.specs.Record.{Stamp, end_bytes}
use Rattle.fsd_log.specs.Judged.{sector_in}
use Rattle.fsd_log.specs.Laid.{slices}
use Rattle.fsd_log.specs.Scan.{Placed, place_of}

-- where on the disk they lie, and their bytes: none before the first record
pub record Copies : Type 0 where
  pub place : ℕ
  pub bytes : List ℕ

abbrev pub copies_count : Copies → ℕ
copies_count c = length c.bytes / 512

pub record FitsDisk (sectors : ℕ) (c : Copies) : Type 0 where
  pub whole : length c.bytes % 512 ≡ 0
  pub inside : c.place + length c.bytes / 512 ≤ sectors

-- the images of n pages, and the end of their record
pub record AreCopies (stamp : Stamp) (n : ℕ) (bytes : List ℕ) : Type 0 where
  pub long : length bytes ≡ 512 * (n + 1)
  pub end : sector_in bytes n ≡ end_bytes stamp n

-- they are those of this record, whose first copies lie before them
pub record AreCopiesOf (l : Shape) (epoch third : ℕ) (r : Placed) (c : Copies) : Type 0 where
  pub place : c.place ≡ place_of l third r.at + (4 + 2 * gap_of l + length r.entry.pages)
  pub copies : AreCopies (record { epoch = epoch; number = r.entry.number }) (length r.entry.pages) c.bytes
  pub images : slices (length r.entry.pages) c.bytes ≡ r.entry.images

-- they are those of the last record, or there is none
abbrev pub AreLastCopies : Shape → (epoch third : ℕ) → List Placed → Copies → Type 0
AreLastCopies l epoch third [] c = c.bytes ≡ []
AreLastCopies l epoch third (r ∷ []) c = AreCopiesOf l epoch third r c
AreLastCopies l epoch third (r ∷ q ∷ records) c = AreLastCopies l epoch third (q ∷ records) c
