use Rattle.std.proofs.Common.{◌+◌, ◌≤◌, None}
use Rattle.name_btree.proofs.ways.AloneLaws.{IsWayTo}
use Rattle.name_btree.proofs.descent.leaf_at.Given as goal
use Rattle.name_page.specs.Looks.{OnlyReaches}
use Rattle.name_page.specs.Pages.{reaches}

-- so many levels down, and what was reached shows the way
abbrev pub invariant-loop : goal.invariant-loop
invariant-loop g l = record {
  calls : OnlyReaches g.T.Pages None l.fn.t l.t;
  most : l.counter ≤ 6;
  reaches : reaches (g.T.Pages.step l.fn.t) ≤ reaches (g.T.Pages.step l.t) + l.counter;
  way : IsWayTo l.key (g.T.Pages.step l.t) l.counter l.child;
}
