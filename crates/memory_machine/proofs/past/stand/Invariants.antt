use Rattle.std.proofs.Common.{◌≡◌}
use Rattle.sector_disk.specs.Image.{stand}
use Rattle.memory_machine.proofs.past.stand.Given as goal

abbrev pub invariant-loop-k : goal.invariant-loop-k
invariant-loop-k l = l.image ≡ stand l.fn.image l.first l.bytes l.k
