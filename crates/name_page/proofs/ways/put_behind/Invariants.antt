use Rattle.std.proofs.Common.{◌≡◌, ◌≤◌, ◌++◌, length, drop}
use Rattle.std.specs.List.{AllByRecursion}
use Rattle.fsd_formats.specs.NamePage.{FitsSeparator}
use Rattle.name_page.proofs.ways.put_behind.Given as goal

-- those before, and then the others
abbrev pub invariant-loop-i : goal.invariant-loop-i
invariant-loop-i l = (l.list.items ++ drop l.i l.ways.1 ≡ l.fn.list.items ++ drop l.count l.ways.1) × (l.i ≤ length l.ways.1) × AllByRecursion FitsSeparator l.list.items
