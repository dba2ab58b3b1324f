use Rattle.std.proofs.Common.{[], drop, take}
use Rattle.std.specs.Prelude.{◌↔◌}
use Rattle.cached_table.specs.Entering.{AreInTurn, up_to}
use Rattle.cached_table.proofs.entering.untaken.Given as goal

abbrev pub invariant-loop-i : goal.invariant-loop-i
invariant-loop-i l = AreInTurn (up_to l.l.sectors l.map) l.shadow [] l.gone ↔ AreInTurn (up_to l.l.sectors l.map) l.shadow (take l.i l.gone) (drop l.i l.gone)
