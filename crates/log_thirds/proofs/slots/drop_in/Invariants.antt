use Rattle.std.proofs.Common.{◌≡◌, ℕ, ◌<◌, ◌≤◌, get_or, None}
use Rattle.fsd_log.specs.Slots.{slot_outside}
use Rattle.log_thirds.proofs.slots.drop_in.Given as goal

abbrev pub invariant-loop-slot : goal.invariant-loop-slot
invariant-loop-slot l = record {
  done : (k : ℕ) → k < l.slot-index → get_or l.slots k None ≡ slot_outside l.start l.count (get_or l.fn.slots k None);
  left : (k : ℕ) → l.slot-index ≤ k → get_or l.slots k None ≡ get_or l.fn.slots k None;
}
