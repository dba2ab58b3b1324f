use Rattle.std.proofs.Common.{◌-◌}
use Rattle.fsd_table.specs.Table.{top}
use Rattle.name_page.specs.Cut.{is_before}
use Rattle.name_btree.specs.declared.descent.Way.{Way}
use Rattle.name_btree.specs.Descent.{way_from, GoesDown}
use Rattle.name_btree.proofs.descent.way_again.Given as goal

-- the rest of the way leads to the same end
abbrev pub invariant-loop-above : goal.invariant-loop-above
invariant-loop-above g l = record {
  goes : (end : Way) → GoesDown (g.T.Pages.step l.t) (is_before l.cut) l.levels 0 (way_from top) end → GoesDown (g.T.Pages.step l.t) (is_before l.cut) (l.levels - l.above) l.above l.way end;
}
