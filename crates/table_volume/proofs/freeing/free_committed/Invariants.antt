use Rattle.std.proofs.Common.{length}
use Rattle.volume_laws.proofs.FreeLaws.{Frees}
use Rattle.table_volume.proofs.freeing.free_committed.Given as goal

abbrev pub decreases-loop-start : goal.decreases-loop-start
decreases-loop-start l = length l.shadow.removed.sectors

abbrev pub invariant-loop-start : goal.invariant-loop-start
invariant-loop-start l = Frees l.initial.map l.initial.shadow l.map l.shadow
