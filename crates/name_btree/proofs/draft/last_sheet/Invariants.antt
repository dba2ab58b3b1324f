use Rattle.std.proofs.Common.{◌≡◌, take}
use Rattle.name_btree.specs.Draft.{last_sheet}
use Rattle.name_btree.proofs.draft.last_sheet.Given as goal

-- the last of those before
abbrev pub invariant-loop-sheet : goal.invariant-loop-sheet
invariant-loop-sheet l = l.last ≡ last_sheet l.page (take l.sheet-index l.sheets)
