use Rattle.std.proofs.Common.{◌≡◌, map, take}
use Rattle.memory_machine.specs.Memory.{pair_at}
use Rattle.memory_machine.proofs.memory.MemoryMachine.new.Given as goal

abbrev pub invariant-loop-pair : goal.invariant-loop-pair
invariant-loop-pair l = l.runs.items ≡ map pair_at (take l.pair-index l.pair-items)
