-- What a write of a record leaves.
use Rattle.std.specs.Prelude.{◌≡◌, ◌⊎◌, IsTrue, ◌<◌, ◌≤◌, ℕ, ◌+◌, ◌*◌, false, List, [], ◌∷◌, ◌++◌, length, slice_index_or, None}
use Rattle.fsd_formats.specs.Record.{Stamp, record_len}
use Rattle.sector_disk.specs.Image.{stand, open_damage, AllWorn}
use Rattle.sector_disk.specs.declared.machine.Machine.{Ghosts}
use Rattle.sector_disk.specs.Machine.{LeavesOnly, Moment, Holds, wrote}
use Rattle.fsd_log.specs.Laid.{laid_bytes, slices}
use Rattle.fsd_log.specs.Scan.{Head, Placed, Walked, IsLog, place_of, tape, scan, spot_for}
use Rattle.log_thirds.specs.Disk.{reads}
use Rattle.log_thirds.specs.LogValue.{LogValue}
use Rattle.log_thirds.specs.Copies.{AreLastCopies}
use Rattle.log_thirds.specs.Firsts.{firsts_with, AreFirsts}
use Rattle.fsd_log.specs.Slots.{slots_with, AreLastSlots, last_slot, lies_in}
use Rattle.volume_layout.specs.declared.kind.Kind.{Kind}
use Rattle.volume_layout.specs.declared.layout.Layout.{Layout}
use Rattle.volume_layout.specs.Layout.{third_start, with_kind}
use Rattle.volume_layout.specs.Kinds.{gap_of}
use Rattle.log_thirds.specs.declared.thirds.Place.{Place}
use Rattle.log_thirds.specs.declared.thirds.Place.TheVariants.{Here, NextThird, FirstThird}

-- some first sectors of a write stand over the old image
pub record StandsInPart (place : ℕ) (bytes : List ℕ) (most : ℕ) (old left : Moment) : Type 0 where
  pub stood : ℕ
  pub within : stood ≤ most
  pub holds : Holds old (stand old.image place bytes stood) left

-- no sector may be damaged now
abbrev pub IsCalmNow : Moment → Type 0
IsCalmNow at = (place : ℕ) → open_damage at.windows place ≡ false

abbrev pub stamp_now : LogValue → Stamp
stamp_now log = record { epoch = log.anchor.epoch; number = log.head.number }

-- the record that is written next, at its spot
abbrev pub next_record : LogValue → (pages images : List ℕ) → Placed
next_record log pages images = record { at = (spot_for log.layout (length pages) log.head).at; entry = record { number = log.head.number; pages = pages; images = slices (length pages) images } }

abbrev pub head_past : LogValue → (n : ℕ) → Head
head_past log n = let spot = spot_for log.layout n log.head in record { number = log.head.number + 1; at = spot.at + record_len (gap_of log.layout) n; end = spot.end }

abbrev pub log_past : LogValue → (n : ℕ) → LogValue
log_past log n = record { layout = log.layout; anchor = log.anchor; head = head_past log n; firsts = log.firsts; slots = log.slots; copies = log.copies }

-- the log with the record of these pages behind the others
abbrev pub log_with : LogValue → (pages : List ℕ) → LogValue
log_with log pages = record {
  layout = log.layout;
  anchor = log.anchor;
  head = head_past log (length pages);
  firsts = firsts_with log.layout.third (spot_for log.layout (length pages) log.head).at log.firsts;
  slots = slots_with log.layout log.anchor.third log.head.number (spot_for log.layout (length pages) log.head).at pages log.slots;
  copies = log.copies;
}

-- The log knows of each page where its last image lies, and which numbers its thirds begin with.
pub record IsIndexed (log : LogValue) (records : List Placed) : Type 0 where
  pub slots : AreLastSlots log.layout log.anchor.third records log.slots
  pub firsts : AreFirsts log.layout.third log.anchor.first records log.firsts

-- the log has the copies of the last record, or there is none
abbrev pub KnowsLast : LogValue → List Placed → Type 0
KnowsLast log records = AreLastCopies log.layout log.anchor.epoch log.anchor.third records log.copies

-- the log of a volume of this layout
abbrev pub of_layout : Layout → LogValue → LogValue
of_layout l log = record { layout = l; anchor = log.anchor; head = log.head; firsts = log.firsts; slots = log.slots; copies = log.copies }

-- the log whose next records have the form of this kind
abbrev pub of_kind : Kind → LogValue → LogValue
of_kind kind log = of_layout (with_kind kind log.layout) log

-- the log has no page
abbrev pub HasNoPages : LogValue → Type 0
HasNoPages log = (page : ℕ) → slice_index_or log.slots page None ≡ None

-- the scan by the log's anchor
abbrev pub scan_of : LogValue → Moment → Walked
scan_of log at = scan log.layout log.anchor.epoch (tape log.layout log.anchor.third (reads at.image)) log.anchor.first

-- the log stands so at a moment
abbrev pub IsLogIn : LogValue → List Placed → Moment → Type 0
IsLogIn log records at = IsLog log.layout log.anchor.epoch log.anchor.first (tape log.layout log.anchor.third (reads at.image)) records log.head

-- the page's last image lies in this third of the disk
abbrev pub LastLiesIn : LogValue → List Placed → (t page : ℕ) → Type 0
LastLiesIn log records t page = IsTrue (lies_in (third_start log.layout t) log.layout.third (last_slot log.layout log.anchor.third page records))

-- the least such page from one on
pub record IsLeastOfThird (log : LogValue) (records : List Placed) (t first page : ℕ) : Type 0 where
  pub from : first ≤ page
  pub there : page < log.layout.pages
  pub lies : LastLiesIn log records t page
  pub before : (q : ℕ) → first ≤ q → q < page → LastLiesIn log records t q → ⊥

-- there is none from one on
abbrev pub NoneOfThird : LogValue → List Placed → (t first : ℕ) → Type 0
NoneOfThird log records t first = (q : ℕ) → first ≤ q → q < log.layout.pages → LastLiesIn log records t q → ⊥

-- ---- where sectors wear

-- the log stands so at a moment, however its weak run wears
abbrev pub IsLogWorn : LogValue → List Placed → Moment → Type 0
IsLogWorn log records at = AllWorn (open_damage at.windows) (λ image. IsLog log.layout log.anchor.epoch log.anchor.first (tape log.layout log.anchor.third (reads image)) records log.head) at.image

-- no two sectors lie as far apart as two sectors and the gap
abbrev pub IsApartNow : (gap : ℕ) → Moment → Type 0
IsApartNow gap at = (s d : ℕ) → IsTrue (open_damage at.windows s) → IsTrue (open_damage at.windows (s + d)) → 2 + gap ≤ d → ⊥

-- Some first sectors of the record stand, worn. Up to its end the scan is the old one,
-- and from then on the old one or the one with the record.
pub record AppendsWorn (log : LogValue) (records : List Placed) (pages images : List ℕ) (old left : Moment) : Type 0 where
  pub part : StandsInPart (place_of log.layout log.anchor.third (spot_for log.layout (length pages) log.head).at) (laid_bytes (gap_of log.layout) (stamp_now log) pages images) (record_len (gap_of log.layout) (length pages)) old left
  pub absent : part.stood ≤ 3 + (gap_of log.layout) + length pages → scan_of log left ≡ record { records = records; head = log.head }
  pub either : (scan_of log left ≡ record { records = records; head = log.head }) ⊎ (scan_of log left ≡ record { records = records ++ next_record log pages images ∷ []; head = head_past log (length pages) })

-- ---- what the call that writes a record says

-- where on the disk the record of so many pages goes
abbrev pub record_place : LogValue → (n : ℕ) → ℕ
record_place log n = place_of log.layout log.anchor.third (spot_for log.layout n log.head).at

-- the record's sectors, one behind another
abbrev pub record_bytes : LogValue → (pages images : List ℕ) → List ℕ
record_bytes log pages images = laid_bytes (gap_of log.layout) (stamp_now log) pages images

-- some first sectors of the record stand over the old image
abbrev pub WritesRecord : LogValue → (pages images : List ℕ) → Moment → Moment → Type 0
WritesRecord log pages images = StandsInPart (record_place log (length pages)) (record_bytes log pages images) (record_len (gap_of log.layout) (length pages))

-- However sectors wear, whatever is left of the old moment is the old log, or the one with the record.
abbrev pub LeavesLog : {D : Type 0} → Ghosts D → LogValue → (pages images : List ℕ) → (old new : D) → Type 0
LeavesLog M log pages images old new =
    (records : List Placed) → M.honest new → IsLogWorn log records (M.now old) → LeavesOnly M.moment M.left_since old new (AppendsWorn log records pages images (M.now old))

-- The record is counted and stands whole, and the log has it behind the others, however sectors wear.
pub record Appends {D : Type 0} (M : Ghosts D) (log after : LogValue) (pages images : List ℕ) (old new : D) : Type 0 where
  pub past : after ≡ log_with log pages
  pub counted : M.tells new → M.ledger new ≡ wrote (M.ledger old) (record_len (gap_of log.layout) (length pages))
  pub stands : M.honest new → Holds (M.now old) (stand (M.now old).image (record_place log (length pages)) (record_bytes log pages images) (record_len (gap_of log.layout) (length pages))) (M.now new)
  pub worn : (records : List Placed) → M.honest new → IsApartNow (gap_of log.layout) (M.now old) → IsLogWorn log records (M.now old)
      → IsLogWorn after (records ++ next_record log pages images ∷ []) (M.now new)
  pub indexed : (records : List Placed) → IsIndexed log records → IsIndexed after (records ++ next_record log pages images ∷ [])

-- The log is as it was, and nothing is counted.
pub record AppendsNone {D : Type 0} (M : Ghosts D) (log after : LogValue) (old new : D) : Type 0 where
  pub kept : after ≡ log
  pub counted : M.tells new → M.ledger new ≡ M.ledger old

-- what is told of a record's place
abbrev pub GoesAt : LogValue → ℕ → Place → Type 0
GoesAt log n Here = log.head.at + record_len (gap_of log.layout) n ≤ log.head.end
GoesAt log n NextThird = (log.head.end < log.head.at + record_len (gap_of log.layout) n) × (log.head.end < 3 * log.layout.third)
GoesAt log n (FirstThird t) = ((log.head.end < log.head.at + record_len (gap_of log.layout) n) × (3 * log.layout.third ≤ log.head.end)) × (t ≡ log.anchor.third)
