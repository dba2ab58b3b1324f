use Rattle.std.proofs.Common.{drop}
use Rattle.volume_laws.proofs.GoingLaws.{FreesGone}
use Rattle.table_volume.proofs.freeing.free_gone.Given as goal

abbrev pub invariant-loop-one : goal.invariant-loop-one
invariant-loop-one l = FreesGone l.initial.shadow l.gone l.shadow (drop l.one-index l.gone)
