use Rattle.std.proofs.Common.{◌+◌}
use Rattle.image_file.specs.Stretch.{AddsOnly, IsBehind, Spells}
use Rattle.image_file.proofs.pending.extend.Given as goal

abbrev pub invariant-loop-i : goal.invariant-loop-i
invariant-loop-i l = IsBehind (l.first + l.i) l.pending × AddsOnly l.first l.i l.initial.pending l.pending × Spells l.first l.bytes l.i l.pending
