use Rattle.std.proofs.Common.{◌≡◌, ◌++◌, take}
use Rattle.std.specs.List.{AllByRecursion}
use Rattle.fsd_formats.specs.NamePage.{FitsEntry}
use Rattle.name_page.proofs.entries.put_all.Given as goal

-- those before
abbrev pub invariant-loop-entry : goal.invariant-loop-entry
invariant-loop-entry l = (l.list.items ≡ l.fn.list.items ++ take l.entry-index l.entries) × AllByRecursion FitsEntry l.list.items
