-- Where a record is good: of each sector and its copy one serves.
use Rattle.std.specs.Prelude.{◌≡◌, ◌⊎◌, ℕ, ◌+◌, ◌*◌, ◌<◌, ◌≤◌, Bool, List, length, get_or, Option, Some, option_and_then, IsTrue}
use Rattle.fsd_formats.specs.Record.{Stamp, read_header, is_end, bears, record_len}
use Rattle.fsd_log.specs.Judged.{Reader, passes}

-- one of two sectors is whole and passes the test
abbrev pub Serves : (List ℕ → Bool) → (first copy : Option (List ℕ)) → Type 0
Serves test first copy = IsTrue (passes test first) ⊎ IsTrue (passes test copy)

-- by a header that names these pages, of a record that has room
pub record IsGoodBy (gap : ℕ) (p : ℕ) (stamp : Stamp) (room : ℕ) (at : Reader) (pages : List ℕ) (header : Option (List ℕ)) : Type 0 where
  pub named : option_and_then (read_header p stamp) header ≡ Some pages
  pub roomy : record_len gap (length pages) ≤ room
  pub ends : Serves (is_end stamp (length pages)) (at (3 + gap + length pages)) (at (4 + 2 * gap + 2 * length pages))
  pub each : (j : ℕ) → j < length pages → Serves (bears (get_or pages j 0) stamp) (at (3 + gap + j)) (at (4 + 2 * gap + length pages + j))

abbrev pub IsGood : (gap : ℕ) → ℕ → Stamp → (room : ℕ) → Reader → (pages : List ℕ) → Type 0
IsGood gap p stamp room at pages = IsGoodBy gap p stamp room at pages (at 0) ⊎ IsGoodBy gap p stamp room at pages (at (2 + gap))
