use Rattle.std.proofs.Common.{◌≡◌, None, take}
use Rattle.name_btree.specs.Draft.{committed}
use Rattle.name_btree.proofs.draft.write_sheets.Given as goal

-- the sheets before are written
abbrev pub invariant-loop-sheet : goal.invariant-loop-sheet
invariant-loop-sheet g l = record { outside : g.T.Pages.outside None l.fn.t l.t; step : g.T.Pages.step l.t ≡ committed (take l.sheet-index l.sheets) (g.T.Pages.step l.fn.t) }
