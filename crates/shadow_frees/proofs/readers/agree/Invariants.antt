use Rattle.std.proofs.Common.{All, take}
use Rattle.shadow_frees.specs.Readers.{IsSameOrApart}
use Rattle.shadow_frees.proofs.readers.agree.Given as goal

abbrev pub invariant-loop-slot : goal.invariant-loop-slot
invariant-loop-slot l = All (IsSameOrApart l.runs) (take l.slot-index l.held)
