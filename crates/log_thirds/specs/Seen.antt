-- A disk as it was seen by calls that only read, each sector at its own moment.
use Rattle.std.specs.Prelude.{◌≡◌, ◌≢◌, ◌<◌, ℕ, Bool, List, Option, Some}
use Rattle.sector_disk.specs.declared.sector.Sector.{Sector}
use Rattle.sector_disk.specs.Image.{sector_at, IsWorn}
use Rattle.volume_layout.specs.Shape.{Shape}
use Rattle.fsd_log.specs.Scan.{tape, scan, anchor_in, anchor_on}
use Rattle.fsd_formats.specs.declared.anchor.Anchor.{Anchor}
use Rattle.sector_disk.specs.Machine.{Moment}
use Rattle.log_thirds.specs.Reading.{SeesAt}
use Rattle.log_thirds.specs.Disk.{reads}
use Rattle.log_thirds.specs.LogValue.{LogValue}
use Rattle.log_thirds.specs.Append.{IsIndexed, KnowsLast}

-- The image that was seen is one that the image seen before may be worn to, and that may be worn to the new one; in
-- front of a place on the tape it is the one seen before.
pub record SeesOn (l : Shape) (third at : ℕ) (may : ℕ → Bool) (before new : List Sector) (P : List Sector → Type 0) : Type 0 where
  pub image : List Sector
  pub from : IsWorn may before image
  pub to : IsWorn may image new
  pub below : (w : ℕ) → w < at → tape l third (reads image) w ≡ tape l third (reads before) w
  pub front : (s : ℕ) → s < 16 → sector_at image s ≡ sector_at before s
  pub is : P image

-- The log is the scan of this image: it ends there, and the log knows where each page's last image lies,
-- and the copies of the last record.
pub record IsScanOf (log : LogValue) (i : List Sector) : Type 0 where
  pub head : (scan log.layout log.anchor.epoch (tape log.layout log.anchor.third (reads i)) log.anchor.first).head ≡ log.head
  pub indexed : IsIndexed log (scan log.layout log.anchor.epoch (tape log.layout log.anchor.third (reads i)) log.anchor.first).records
  pub last : KnowsLast log (scan log.layout log.anchor.epoch (tape log.layout log.anchor.third (reads i)) log.anchor.first).records

-- and before its first sectors another image was seen
pub record ScansOn (log : LogValue) (may : ℕ → Bool) (before new : List Sector) : Type 0 where
  pub image : List Sector
  pub from : IsWorn may before image
  pub to : IsWorn may image new
  pub front : (s : ℕ) → s < 16 → sector_at image s ≡ sector_at before s
  pub scanned : IsScanOf log image

-- The newer anchor of the image that was seen; all but the anchors' sectors was seen before.
pub record AnchorsOn (may : ℕ → Bool) (before new : List Sector) (anchor : Option Anchor) : Type 0 where
  pub image : List Sector
  pub from : IsWorn may before image
  pub to : IsWorn may image new
  pub rest : (s : ℕ) → s ≢ 8 → s ≢ 12 → sector_at image s ≡ sector_at before s
  pub is : anchor ≡ anchor_on (reads image)

-- The log is that of the newer anchor of the image that was seen; before the anchors another image was seen.
pub record LogOn (log : LogValue) (may : ℕ → Bool) (before new : List Sector) : Type 0 where
  pub image : List Sector
  pub from : IsWorn may before image
  pub to : IsWorn may image new
  pub head : (s : ℕ) → s < 8 → sector_at image s ≡ sector_at before s
  pub taken : anchor_on (reads image) ≡ Some log.anchor
  pub scanned : IsScanOf log image

-- what is read of an anchor's copy
pub record ReadsAnchor (old new : Moment) (place : ℕ) (anchor : Option Anchor) : Type 0 where
  pub bytes : Option (List ℕ)
  pub read : SeesAt old new place bytes
  pub is : anchor ≡ anchor_in bytes
