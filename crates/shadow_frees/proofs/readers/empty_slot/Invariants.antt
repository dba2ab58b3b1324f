use Rattle.std.proofs.Common.{◌≡◌, ◌-◌, true, length, drop}
use Rattle.std.specs.List.{list_any}
use Rattle.shadow_frees.specs.Readers.{is_empty}
use Rattle.shadow_frees.proofs.readers.empty_slot.Given as goal

abbrev pub invariant-loop-slot : goal.invariant-loop-slot
invariant-loop-slot l = list_any is_empty (drop l.slot l.held) ≡ true

abbrev pub decreases-loop-slot : goal.decreases-loop-slot
decreases-loop-slot l = length l.held - l.slot
