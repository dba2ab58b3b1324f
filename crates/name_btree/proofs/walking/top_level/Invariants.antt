use Rattle.std.proofs.Common.{None, ◌<◌, length}
use Rattle.name_page.specs.Looks.{NeedsNoMore, OnlyWalks}
use Rattle.name_btree.proofs.walks.TopLaws.{IsDown}
use Rattle.name_btree.proofs.walking.top_level.Given as goal

-- so many levels down
abbrev pub invariant-loop-level : goal.invariant-loop-level
invariant-loop-level g l = record {
  calls : OnlyWalks g.T.Pages None l.fn.t l.t;
  memory : NeedsNoMore g.T.Pages None l.fn.t l.t;
  within : 0 < length (g.T.Pages.step l.fn.t).images → l.child.page < length (g.T.Pages.step l.fn.t).images;
  down : g.T.Pages.trusted l.t → IsDown (g.T.Pages.step l.fn.t).images l.level l.child;
}
