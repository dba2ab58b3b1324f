use Rattle.std.proofs.Common.{◌≡◌, ◌++◌, take}
use Rattle.std.specs.List.{AllByRecursion}
use Rattle.fsd_formats.specs.NamePage.{FitsSeparator}
use Rattle.name_page.proofs.ways.put_all.Given as goal

-- those before
abbrev pub invariant-loop-separator : goal.invariant-loop-separator
invariant-loop-separator l = (l.list.items ≡ l.fn.list.items ++ take l.separator-index l.separators) × AllByRecursion FitsSeparator l.list.items
