-- What writing an anchor leaves.
use Rattle.std.specs.Prelude.{◌≤◌, ◌+◌, ℕ, List, [], None, length, replicate}
use Rattle.sector_disk.specs.declared.sector.Sector.{Sector}
use Rattle.sector_disk.specs.Image.{stand}
use Rattle.sector_disk.specs.Machine.{Moment, Holds}
use Rattle.fsd_formats.specs.declared.anchor.Anchor.{Anchor}
use Rattle.fsd_formats.specs.Anchors.{anchor_bytes, closed_bytes}
use Rattle.log_thirds.specs.LogValue.{LogValue}
use Rattle.fsd_log.specs.Scan.{start}
use Rattle.log_thirds.specs.Firsts.{firsts_of}

-- the image with the anchor at its first place, if so many (0 or 1) stand there, and at its second
abbrev pub with_anchors : Anchor → List Sector → (first copy : ℕ) → List Sector
with_anchors anchor image first copy = stand (stand image 8 (anchor_bytes anchor) first) 12 (anchor_bytes anchor) copy

-- The anchor stands at none of its places, at the first, or at both, and nothing else was written.
pub record AnchorsIn (anchor : Anchor) (old left : Moment) : Type 0 where
  pub first : ℕ
  pub copy : ℕ
  pub in_order : copy ≤ first
  pub once : first ≤ 1
  pub holds : Holds old (with_anchors anchor old.image first copy) left

-- the same with the anchor that says that its volume was closed
abbrev pub with_closed : Anchor → List Sector → (first copy : ℕ) → List Sector
with_closed anchor image first copy = stand (stand image 8 (closed_bytes anchor) first) 12 (closed_bytes anchor) copy

-- So it stands at none of its places, at the first, or at both, and nothing else was written.
pub record ClosesIn (anchor : Anchor) (old left : Moment) : Type 0 where
  pub first : ℕ
  pub copy : ℕ
  pub in_order : copy ≤ first
  pub once : first ≤ 1
  pub holds : Holds old (with_closed anchor old.image first copy) left

-- the anchor of the next epoch, whose log begins at the start of the log body
abbrev pub next_epoch : LogValue → Anchor
next_epoch log = record { epoch = log.anchor.epoch + 1; third = 0; first = 1 }

-- the empty log of that epoch
abbrev pub in_next_epoch : LogValue → LogValue
in_next_epoch log = record { layout = log.layout; anchor = next_epoch log; head = start log.layout 1; firsts = firsts_of 1; slots = replicate (length log.slots) None; copies = record { place = log.copies.place; bytes = [] } }
