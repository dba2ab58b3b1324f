-- Reading sectors one after another, while the disk wears.
use Rattle.std.specs.Prelude.{◌≡◌, ◌⊎◌, ◌<◌, ◌≤◌, ℕ, ◌+◌, ◌-◌, ◌*◌, ◌^◌, Bool, List, [], ◌∷◌, ◌++◌, length, Option, Some, None, IsTrue, if◌then◌else◌}
use Rattle.sector_disk.specs.declared.sector.Sector.TheVariants.{Damaged}
use Rattle.sector_disk.specs.Image.{sector_at, open_damage}
use Rattle.sector_disk.specs.Machine.{Moment}
use Rattle.volume_layout.specs.declared.layout.Layout.{Layout}
use Rattle.volume_layout.specs.Shape.{Shape}
use Rattle.volume_layout.specs.Kinds.{gap_of}
use Rattle.fsd_formats.specs.Record.{Stamp, max_pages}
use Rattle.fsd_log.specs.Reach.{reach}
use Rattle.log_record.specs.Found.{read_of}
use Rattle.log_record.specs.declared.judging.Found.{Found}
use Rattle.fsd_formats.specs.declared.anchor.Anchor.{Anchor}
use Rattle.fsd_log.specs.Scan.{Head, Placed, IsEnd, anchor_in, newer_of}
use Rattle.log_thirds.specs.Disk.{reads}
use Rattle.log_thirds.specs.declared.find.Spot.{Spot}
use Rattle.log_thirds.specs.declared.find.ScanStep.{ScanStep}
use Rattle.fsd_log.specs.Judged.{Logged}
use Rattle.log_thirds.specs.Copies.{AreCopies, entry_in}
use Rattle.log_thirds.specs.declared.reading.ReadFault.{ReadFault}
use Rattle.log_thirds.specs.declared.reading.ReadFault.TheVariants.{Device, Memory}
use Rattle.log_thirds.specs.declared.fault.LogFault.{LogFault}
use Rattle.log_thirds.specs.declared.fault.LogFault.TheVariants as log

-- the place of the call of the disk that failed
abbrev pub read_failed_at : ReadFault → Option ℕ
read_failed_at (Device place) = Some place
read_failed_at Memory = None

abbrev pub log_failed_at : LogFault → Option ℕ
log_failed_at (log.Read fault) = read_failed_at fault
log_failed_at log.NoAnchor = None
log_failed_at log.WornOut = None

-- one sector more: its flag, and its bytes
pub record ReadInto (whole whole1 : List Bool) (bytes bytes1 : List ℕ) (shows : Option (List ℕ) → Type 0) : Type 0 where
  pub flag : Bool
  pub sector : List ℕ
  pub long : length sector ≡ 512
  pub noted : whole1 ≡ whole ++ flag ∷ []
  pub taken : bytes1 ≡ bytes ++ sector
  pub shown : shows (if flag then Some sector else None)

-- what is read of a sector: what stood there, or nothing where it may have worn
abbrev pub ReadWorn : Moment → ℕ → Option (List ℕ) → Type 0
ReadWorn old place o = (o ≡ reads old.image place) ⊎ (IsTrue (open_damage old.windows place) × (o ≡ None))

-- what is read of a sector, at a moment up to the new one: where it is nothing, the sector is damaged then
abbrev pub SeesAt : (old new : Moment) → ℕ → Option (List ℕ) → Type 0
SeesAt old new place o = ReadWorn old place o × (o ≡ None → sector_at new.image place ≡ Damaged)

-- So many sectors are read from a place on: those that were read before stay as they were read,
-- and each other one is seen.
pub record ReadsSectors (honest : Type 0) (old new : Moment) (place count : ℕ) (whole whole1 : List Bool) (bytes bytes1 : List ℕ) : Type 0 where
  pub many : length whole1 ≡ count
  pub long : length bytes1 ≡ 512 * count
  pub kept : (k : ℕ) → k < length whole → read_of whole1 bytes1 k ≡ read_of whole bytes k
  pub sees : honest → (k : ℕ) → length whole ≤ k → k < count → SeesAt old new (place + k) (read_of whole1 bytes1 k)

-- so many sectors are read from a place on, each once
pub record ReadsRun (honest : Type 0) (old new : Moment) (place count : ℕ) (whole : List Bool) (bytes : List ℕ) : Type 0 where
  pub many : length whole ≡ count
  pub long : length bytes ≡ 512 * count
  pub sees : honest → (k : ℕ) → k < count → SeesAt old new (place + k) (read_of whole bytes k)

-- Of so much room the sectors are read that the headers reach, and the headers.
pub record ReadsRecord (gap : ℕ) (honest : Type 0) (old new : Moment) (p : ℕ) (stamp : Stamp) (place room : ℕ) (whole : List Bool) (bytes : List ℕ) : Type 0 where
  pub run : ReadsRun honest old new place (length whole) whole bytes
  pub within : length whole ≤ room
  pub reaches : length whole ≡ reach gap p stamp room (read_of whole bytes)

-- the head goes on in its third
pub record GoesOnTo (l : Shape) (from : ℕ) (spot : Spot) : Type 0 where
  pub on : from + 5 ≤ spot.at
  pub before : spot.at ≤ spot.end
  pub after : spot.end ≤ spot.at + l.third
  pub ends : IsEnd l spot.end

-- a record on the tape, and where the head goes behind it
pub record Stepped : Type 0 where
  pub from : ℕ
  pub entry : Logged
  pub at : ℕ
  pub end : ℕ

abbrev pub stepped_in : (number : ℕ) → (copies : List ℕ) → ScanStep → Stepped
stepped_in number copies step = record { from = step.from; entry = entry_in number step.found copies; at = step.past.at; end = step.past.end }

abbrev pub stepped_of : Placed × Head → Stepped
stepped_of x = record { from = x.0.at; entry = x.0.entry; at = x.1.at; end = x.1.end }

-- the record ends where the head goes on, in one third
pub record StepsOn (l : Shape) (from : ℕ) (step : ScanStep) : Type 0 where
  pub goes : GoesOnTo l from step.past
  pub lies : step.past.at ≡ step.from + (2 * length step.found.pages.items + (5 + 2 * (gap_of l)))
  pub in_third : step.past.end ≤ step.from + l.third
  pub few : length step.found.pages.items ≤ 96

-- an anchor that stood at a place, or none, or none where it may have worn
pub record SeesCopy (old : Moment) (place : ℕ) (anchor : Option Anchor) : Type 0 where
  pub bytes : Option (List ℕ)
  pub read : ReadWorn old place bytes
  pub copy : anchor ≡ anchor_in bytes

-- the newer one of the two copies of the anchor, as they could be read
pub record SeesAnchor (old : Moment) (anchor : Option Anchor) : Type 0 where
  pub first : Option Anchor
  pub copy : Option Anchor
  pub sees_first : SeesCopy old 8 first
  pub sees_copy : SeesCopy old 12 copy
  pub newer : anchor ≡ newer_of first copy

-- that one bears the last epoch
pub record SeesLastEpoch (old : Moment) : Type 0 where
  pub anchor : Anchor
  pub sees : SeesAnchor old (Some anchor)
  pub last : anchor.epoch ≡ 2 ^ 32 - 1

-- A record was found there: it ends within its third, has as many pages as it says, and its copies were read.
pub record FitsThere (layout : Layout) (stamp : Stamp) (at end : ℕ) (copies : List ℕ) (found : Found) : Type 0 where
  pub fits : at + (2 * found.n + (5 + 2 * gap_of layout)) ≤ end
  pub counted : found.n ≡ length found.pages.items
  pub few : found.n ≤ max_pages
  pub copied : AreCopies stamp (length found.pages.items) copies
