use Rattle.std.proofs.Common.{◌≡◌}
use Rattle.sector_disk.specs.Image.{lay, sector_at}
use Rattle.memory_machine.proofs.past.lay.Given as goal

abbrev pub invariant-loop-k : goal.invariant-loop-k
invariant-loop-k l = l.image ≡ lay l.fn.image l.first (sector_at l.sectors) l.k
