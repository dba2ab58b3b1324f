use Rattle.std.proofs.Common.{◌≡◌, ◌++◌, take}
use Rattle.std.specs.List.{AllByRecursion}
use Rattle.fsd_formats.specs.NamePage.{FitsEntry}
use Rattle.name_page.specs.Edits.{beside}
use Rattle.name_page.proofs.entries.put_side.Given as goal

-- those before that stand on this side
abbrev pub invariant-loop-i : goal.invariant-loop-i
invariant-loop-i l = (l.list.items ≡ l.fn.list.items ++ beside l.side l.key (take l.i l.entries)) × AllByRecursion FitsEntry l.list.items
