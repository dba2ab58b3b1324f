use Rattle.std.proofs.Common.{◌≡◌, ◌+◌, ◌-◌, length, drop}
use Rattle.fsd_log.specs.Slots.{noted_slots}
use Rattle.log_thirds.proofs.slots.note_at.Given as goal

abbrev pub invariant-loop-k : goal.invariant-loop-k
invariant-loop-k l =
    let left = length l.pages - l.k in
    l.slots ≡ noted_slots l.number (l.place + left) (l.place + length l.pages + 1 + l.gap + left) (drop left l.pages) l.fn.slots
