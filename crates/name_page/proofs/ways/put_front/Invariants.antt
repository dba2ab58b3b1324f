use Rattle.std.proofs.Common.{◌≡◌, ◌++◌, take}
use Rattle.std.specs.List.{AllByRecursion}
use Rattle.fsd_formats.specs.NamePage.{FitsSeparator}
use Rattle.name_page.proofs.ways.put_front.Given as goal

-- those before
abbrev pub invariant-loop-i : goal.invariant-loop-i
invariant-loop-i l = (l.list.items ≡ l.fn.list.items ++ take l.i l.ways.1) × AllByRecursion FitsSeparator l.list.items
