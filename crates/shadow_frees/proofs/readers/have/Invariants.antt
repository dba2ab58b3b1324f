use Rattle.std.proofs.Common.{◌≡◌, false, take}
use Rattle.std.specs.List.{list_any}
use Rattle.shadow_frees.specs.Readers.{has_same}
use Rattle.shadow_frees.proofs.readers.have.Given as goal

abbrev pub invariant-loop-slot : goal.invariant-loop-slot
invariant-loop-slot l = list_any (has_same l.runs) (take l.slot-index l.held) ≡ false
