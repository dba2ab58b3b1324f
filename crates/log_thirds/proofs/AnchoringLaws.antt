-- An anchor that is written twice.
use Rattle.std.proofs.Common.{◌≡◌, ℕ, Option, arith, subst}
use Rattle.sector_disk.specs.Image.{stand}
use Rattle.sector_disk.specs.declared.machine.Machine.{Ghosts}
use Rattle.sector_disk.specs.Calls.{WritesDisk}
use Rattle.sector_disk.specs.Machine.{Moment, Holds}
use Rattle.sector_disk.proofs.Holding.{holds_on}
use Rattle.fsd_formats.specs.declared.anchor.Anchor.{Anchor}
use Rattle.fsd_formats.specs.Anchors.{anchor_bytes, closed_bytes}
use Rattle.log_thirds.specs.Append.{StandsInPart}
use Rattle.log_thirds.specs.Anchoring.{AnchorsIn, ClosesIn}

pub first_only : (anchor : Anchor) (old left : Moment) → StandsInPart 8 (anchor_bytes anchor) 1 old left → AnchorsIn anchor old left
first_only anchor old left part = record { first = part.stood; copy = 0; in_order = omega arith; once = part.within; holds = part.holds }

pub then_copy : (anchor : Anchor) (old mid left : Moment) → Holds old (stand old.image 8 (anchor_bytes anchor) 1) mid → StandsInPart 12 (anchor_bytes anchor) 1 mid left → AnchorsIn anchor old left
then_copy anchor old mid left first part = record {
  first = 1;
  copy = part.stood;
  in_order = part.within;
  once = omega arith;
  holds = holds_on old mid left (stand old.image 8 (anchor_bytes anchor) 1) 12 (anchor_bytes anchor) part.stood first part.holds;
}

pub closes_first : (anchor : Anchor) (old left : Moment) → StandsInPart 8 (closed_bytes anchor) 1 old left → ClosesIn anchor old left
closes_first anchor old left part = record { first = part.stood; copy = 0; in_order = omega arith; once = part.within; holds = part.holds }

pub closes_then : (anchor : Anchor) (old mid left : Moment) → Holds old (stand old.image 8 (closed_bytes anchor) 1) mid → StandsInPart 12 (closed_bytes anchor) 1 mid left → ClosesIn anchor old left
closes_then anchor old mid left first part = record {
  first = 1;
  copy = part.stood;
  in_order = part.within;
  once = omega arith;
  holds = holds_on old mid left (stand old.image 8 (closed_bytes anchor) 1) 12 (closed_bytes anchor) part.stood first part.holds;
}

-- a call that writes an anchor, by another spelling of it
pub anchored : {D : Type 0} (M : Ghosts D) (fault : Option ℕ) (written anchor : Anchor) (old new : D) → written ≡ anchor → WritesDisk M fault (AnchorsIn written) old new → WritesDisk M fault (AnchorsIn anchor) old new
anchored M fault written anchor old new is writes = subst (λ (a : Anchor). WritesDisk M fault (AnchorsIn a) old new) is writes
