use Rattle.std.proofs.Common.{◌≡◌, None, take}
use Rattle.name_btree.specs.Draft.{freed}
use Rattle.name_btree.proofs.draft.free_pages.Given as goal

-- the pages before are spare
abbrev pub invariant-loop-page : goal.invariant-loop-page
invariant-loop-page g l = record { outside : g.T.Pages.outside None l.fn.t l.t; step : g.T.Pages.step l.t ≡ freed (take l.page-index l.pages) (g.T.Pages.step l.fn.t) }
