use Rattle.std.proofs.Common.{◌≡◌, false, take}
use Rattle.std.specs.List.{list_any}
use Rattle.shadow_frees.specs.Readers.{is_empty}
use Rattle.shadow_frees.proofs.readers.are_all_taken.Given as goal

abbrev pub invariant-loop-slot : goal.invariant-loop-slot
invariant-loop-slot l = list_any is_empty (take l.slot-index l.held) ≡ false
