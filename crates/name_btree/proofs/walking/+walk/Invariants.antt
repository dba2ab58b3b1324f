use Rattle.std.proofs.Common.{◌+◌, ◌*◌, None, take}
use Rattle.fsd_table.specs.Pages.{children}
use Rattle.name_page.specs.Looks.{NeedsNoMore, OnlyWalks}
use Rattle.name_btree.specs.Walk.{AreWalked, KeepsMarks}
use Rattle.name_btree.proofs.walking.+walk.Given as goal

abbrev pub decreases-walk_below : goal.decreases-walk_below
decreases-walk_below g l = 2 * l.level

abbrev pub decreases-walk_children : goal.decreases-walk_children
decreases-walk_children g l = 2 * l.level + 1

-- the first children are walked
abbrev pub invariant-walk_children-loop-i : goal.invariant-walk_children-loop-i
invariant-walk_children-loop-i g l = record {
  calls : OnlyWalks g.T.Pages None l.fn.t l.t;
  memory : NeedsNoMore g.T.Pages None l.fn.t l.t;
  kept : KeepsMarks l.fn.reached l.reached;
  walked : g.T.Pages.trusted l.t → AreWalked (g.T.Pages.step l.fn.t).spares l.level (g.T.Pages.step l.fn.t).images (take l.i (children l.ways.0 l.above.low l.above.high l.ways.1)) l.fn.reached l.reached l.count;
}
