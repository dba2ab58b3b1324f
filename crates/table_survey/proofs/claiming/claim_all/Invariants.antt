use Rattle.std.proofs.Common.{None, ℕ, length}
use Rattle.fsd_table.specs.Tree.{IsTree, table_of}
use Rattle.name_page.specs.Looks.{OnlyWalks}
use Rattle.sector_set.specs.Area.{IsOwn}
use Rattle.table_survey.specs.Claims.{IsLeftOf}
use Rattle.table_survey.proofs.PassLaws.{IsPassed}
use Rattle.table_survey.proofs.claiming.claim_all.Given as goal

-- the entries up to the last key are claimed
abbrev pub invariant-loop-found : goal.invariant-loop-found
invariant-loop-found g l = record {
  calls : OnlyWalks g.T.Pages None l.fn.t l.t;
  own : IsOwn l.map;
  left : IsLeftOf l.fn.map l.map;
  pass : g.T.Pages.trusted l.t → (height : ℕ) → IsTree (g.T.Pages.step l.fn.t).images height → IsPassed (table_of (g.T.Pages.step l.fn.t).images height) l.fn.map l.after l.map;
}

abbrev pub decreases-loop-found : goal.decreases-loop-found
decreases-loop-found g l = length l.map.sectors
