-- The copies of the last record's images and of its end, as a log reads and keeps them.
use Rattle.std.specs.Prelude.{◌≡◌, ◌<◌, ℕ, ◌+◌, ◌*◌, List, length, nat_lt, slice_index_or, false, if◌then◌else◌}
use Rattle.log_record.specs.declared.judging.Found.{Found}
use Rattle.log_thirds.specs.declared.thirds.LastRecord.{LastRecord}
use Rattle.fsd_log.specs.Judged.{Serving, Logged, sector_in}
use Rattle.fsd_log.specs.Laid.{slices}
pub use Rattle.fsd_log.specs.Copies.{Copies, copies_count, FitsDisk, AreCopies, AreCopiesOf, AreLastCopies}

-- the record's sector that serves as its jth image, and behind the images as its end
abbrev pub served_at : (gap : ℕ) → Serving → ℕ → ℕ
served_at gap s j =
    if nat_lt j (length s.pages) then (if slice_index_or s.page_copy j false then 4 + 2 * gap + length s.pages + j else 3 + gap + j)
    else (if s.end_copy then 4 + 2 * gap + 2 * length s.pages else 3 + gap + length s.pages)

-- the first ones of these sectors, so many, one behind the other
pub record AreServed (gap : ℕ) (s : Serving) (bytes : List ℕ) (count : ℕ) (copies : List ℕ) : Type 0 where
  pub long : length copies ≡ 512 * count
  pub each : (j : ℕ) → j < count → sector_in copies j ≡ sector_in bytes (served_at gap s j)

-- what is told of the record that they are of
pub record IsLast (c : Copies) (last : LastRecord) : Type 0 where
  pub place : last.copies_at ≡ c.place
  pub pages : last.pages + 1 ≡ copies_count c

-- the record that was found, by the images that serve
abbrev pub entry_in : (number : ℕ) → Found → (copies : List ℕ) → Logged
entry_in number f copies = record { number = number; pages = f.pages.items; images = slices (length f.pages.items) copies }
