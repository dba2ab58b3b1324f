use Rattle.std.proofs.Common.{◌≡◌, drop}
use Rattle.memory_machine.specs.Past.{heal_all}
use Rattle.memory_machine.proofs.past.heal_all.Given as goal

abbrev pub invariant-loop-k : goal.invariant-loop-k
invariant-loop-k l = l.image ≡ heal_all (drop l.k l.hurts) l.fn.image
