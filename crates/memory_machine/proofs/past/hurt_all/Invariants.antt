use Rattle.std.proofs.Common.{◌≡◌, drop}
use Rattle.memory_machine.specs.Past.{hurt_all}
use Rattle.memory_machine.proofs.past.hurt_all.Given as goal

abbrev pub invariant-loop-each : goal.invariant-loop-each
invariant-loop-each l = hurt_all (drop l.each-index l.hurts) l.image ≡ hurt_all l.hurts l.fn.image
