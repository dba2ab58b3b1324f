use Rattle.std.proofs.Common.{◌≡◌, take}
use Rattle.std.specs.List.{AllByRecursion}
use Rattle.fsd_formats.specs.NamePage.{FitsEntry}
use Rattle.name_page.proofs.entries.listed.Given as goal

-- those before
abbrev pub invariant-loop-i : goal.invariant-loop-i
invariant-loop-i l = (l.list.items ≡ take l.i l.entries) × AllByRecursion FitsEntry l.list.items
