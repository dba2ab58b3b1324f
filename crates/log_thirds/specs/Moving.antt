-- A log whose anchor moves on by a third.
use Rattle.std.specs.Prelude.{◌≡◌, ◌*◌, ◌<◌, List, map}
use Rattle.volume_layout.specs.Layout.{third_start}
use Rattle.sector_disk.specs.declared.machine.Machine.{Ghosts}
use Rattle.sector_disk.specs.Machine.{Holds, LeavesOnly, Moment, wrote}
use Rattle.fsd_formats.specs.declared.anchor.Anchor.{Anchor}
use Rattle.fsd_log.specs.Scan.{Placed}
use Rattle.log_thirds.specs.Anchoring.{AnchorsIn, with_anchors}
use Rattle.log_thirds.specs.Append.{IsIndexed, IsLogWorn}
use Rattle.fsd_log.specs.Moves.{head_back, next_third, records_moved}
use Rattle.fsd_log.specs.Slots.{slot_outside}
use Rattle.log_thirds.specs.LogValue.{LogValue}

-- the anchor that names the following third and its first record
abbrev pub moved_anchor : LogValue → Anchor
moved_anchor log = record { epoch = log.anchor.epoch; third = next_third log.anchor.third; first = log.firsts.second }

-- the log without what lies in its first third
abbrev pub moved : LogValue → LogValue
moved log = record {
  layout = log.layout;
  anchor = moved_anchor log;
  head = head_back log.layout.third log.head;
  firsts = record { second = log.firsts.last; last = log.head.number };
  slots = map (slot_outside (third_start log.layout log.anchor.third) log.layout.third) log.slots;
  copies = log.copies;
}

-- the last record lies in the last third of the tape, the one before the first third
abbrev pub EndsInLastThird : LogValue → Type 0
EndsInLastThird log = 2 * log.layout.third < log.head.at

-- The anchor stands at none of its places, at the first, or at both; however the image wears, the log by the old anchor
-- is what it was, and by the new one what lies behind the first third.
pub record MovesWorn (log : LogValue) (records : List Placed) (old left : Moment) : Type 0 where
  pub part : AnchorsIn (moved_anchor log) old left
  pub before : IsLogWorn log records left
  pub behind : IsLogWorn (moved log) (records_moved log.layout records) left

-- ---- what the call that moves it says

-- However sectors wear, whatever is left of the old moment is the log by the old anchor and by the new one.
abbrev pub LeavesMoved : {D : Type 0} → Ghosts D → LogValue → (old new : D) → Type 0
LeavesMoved M log old new =
    (records : List Placed) → M.honest new → IsIndexed log records → IsLogWorn log records (M.now old) → LeavesOnly M.moment M.left_since old new (MovesWorn log records (M.now old))

-- The new anchor is counted and stands at both places, and the log is what lies behind the first third.
pub record Moves {D : Type 0} (M : Ghosts D) (log after : LogValue) (old new : D) : Type 0 where
  pub past : after ≡ moved log
  pub counted : M.tells new → M.ledger new ≡ wrote (M.ledger old) 2
  pub stands : M.honest new → Holds (M.now old) (with_anchors (moved_anchor log) (M.now old).image 1 1) (M.now new)
  pub worn : (records : List Placed) → M.honest new → IsIndexed log records → IsLogWorn log records (M.now old) → IsLogWorn after (records_moved log.layout records) (M.now new)
  pub indexed : (records : List Placed) → M.honest new → IsIndexed log records → IsLogWorn log records (M.now old) → IsIndexed after (records_moved log.layout records)
