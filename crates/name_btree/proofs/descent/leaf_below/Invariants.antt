use Rattle.std.proofs.Common.{◌+◌, ◌-◌, ◌≤◌, Option, None}
use Rattle.name_btree.specs.declared.descent.Neighbour.{Neighbour}
use Rattle.name_btree.proofs.ways.AlongLaws.{IsAlong}
use Rattle.name_btree.proofs.descent.leaf_below.Given as goal
use Rattle.name_page.specs.Looks.{OnlyReaches}
use Rattle.name_page.specs.Pages.{reaches}

-- so many levels down, and what was reached shows the way
abbrev pub invariant-loop-above : goal.invariant-loop-above
invariant-loop-above g l = record {
  least : l.fn.above ≤ l.above;
  most : (l.above - l.fn.above) ≤ 6;
  calls : OnlyReaches g.T.Pages None l.fn.t l.t;
  reaches : reaches (g.T.Pages.step l.fn.t) ≤ reaches (g.T.Pages.step l.t) + (l.above - l.fn.above);
  along : (previous : Option Neighbour) × (next : Option Neighbour) × IsAlong g.T.Pages l.fn.t l.t l.cut l.fn.above l.fn.start l.above (record { child = l.child; previous = previous; next = next });
}
