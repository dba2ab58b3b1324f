use Rattle.std.proofs.Common.{◌≡◌, drop, reverse, length}
use Rattle.memory_machine.specs.Left.{undo_all}
use Rattle.memory_machine.proofs.memory.left.take_back.Given as goal

abbrev pub invariant-loop-past : goal.invariant-loop-past
invariant-loop-past l = undo_all (reverse (drop l.time l.past.items)) l.image.items ≡ undo_all (reverse (drop l.time l.fn.past.items)) l.fn.image.items

abbrev pub decreases-loop-past : goal.decreases-loop-past
decreases-loop-past l = length l.past.items
