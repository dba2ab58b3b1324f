-- Which record of the log stands where, as it can be read.
use Rattle.std.specs.Prelude.{ℕ, ◌+◌, ◌*◌, Bool, true, false, List, [], ◌∷◌, length, take, drop, Option, Some, None, option_map, option_and_then, nat_le, if◌then◌else◌, unwrap_or}
use Rattle.std.specs.Option.{option_or}
use Rattle.fsd_bytes.specs.Bytes.{sector_len}
use Rattle.fsd_formats.specs.Record.{Stamp, read_header, is_end, bears, record_len}

-- what is read at each place: bytes, or none where the sector is damaged or out of reach
abbrev pub Reader : Type 0
Reader = ℕ → Option (List ℕ)

-- the bytes of one sector of many
abbrev pub sector_in : List ℕ → ℕ → List ℕ
sector_in bytes k = take sector_len (drop (sector_len * k) bytes)

-- ---- the copies that serve

abbrev pub passes : (List ℕ → Bool) → Option (List ℕ) → Bool
passes test None = false
passes test (Some bytes) = test bytes

-- which of two sectors passes the test: the first (false), else the copy (true)
abbrev pub serving : (List ℕ → Bool) → Option (List ℕ) → Option (List ℕ) → Option Bool
serving test first copy = if passes test first then Some false else (if passes test copy then Some true else None)

-- for each page, whether its copy serves; the pages from place k on, the copies from another
abbrev pub page_copies : Stamp → Reader → (k copy : ℕ) → List ℕ → Option (List Bool)
page_copies stamp at k copy [] = Some []
page_copies stamp at k copy (page ∷ pages) =
    option_and_then (λ c. option_map (λ more. c ∷ more) (page_copies stamp at (k + 1) (copy + 1) pages)) (serving (bears page stamp) (at k) (at copy))

-- the record's pages, and which copies serve
pub record Serving : Type 0 where
  pub pages : List ℕ
  pub header_copy : Bool
  pub end_copy : Bool
  pub page_copy : List Bool

-- the record with these pages: it has room, its end or the end's copy serves, and so does each page or its copy
abbrev pub judged_with : (gap : ℕ) → Stamp → (room : ℕ) → Reader → Bool → List ℕ → Option Serving
judged_with gap stamp room at header_copy pages =
    if nat_le (record_len gap (length pages)) room
    then option_and_then (λ e. option_map (λ cs. record { pages = pages; header_copy = header_copy; end_copy = e; page_copy = cs }) (page_copies stamp at (3 + gap) (4 + 2 * gap + length pages) pages))
    (serving (is_end stamp (length pages)) (at (3 + gap + length pages)) (at (4 + 2 * gap + 2 * length pages)))
    else None

abbrev pub judged_by : (gap : ℕ) → ℕ → Stamp → (room : ℕ) → Reader → Bool → Option (List ℕ) → Option Serving
judged_by gap p stamp room at header_copy header = option_and_then (judged_with gap stamp room at header_copy) (option_and_then (read_header p stamp) header)

-- by the header, else by the header's copy; p is the number of name pages
unfoldable pub judged : (gap : ℕ) → ℕ → Stamp → (room : ℕ) → Reader → Option Serving
judged gap p stamp room at = option_or (judged_by gap p stamp room at false (at 0)) (judged_by gap p stamp room at true (at (2 + gap)))

-- ---- the record with its images

pub record Logged : Type 0 where
  pub number : ℕ
  pub pages : List ℕ
  pub images : List (List ℕ)

-- the images that serve
abbrev pub images_of : Reader → (k copy : ℕ) → List Bool → List (List ℕ)
images_of at k copy [] = []
images_of at k copy (c ∷ cs) = unwrap_or (at (if c then copy else k)) [] ∷ images_of at (k + 1) (copy + 1) cs

abbrev pub logged_of : (gap : ℕ) → ℕ → Reader → Serving → Logged
logged_of gap number at s = record { number = number; pages = s.pages; images = images_of at (3 + gap) (4 + 2 * gap + length s.pages) s.page_copy }

unfoldable pub record_in : (gap : ℕ) → ℕ → Stamp → (room : ℕ) → Reader → Option Logged
record_in gap p stamp room at = option_map (logged_of gap stamp.number at) (judged gap p stamp room at)
