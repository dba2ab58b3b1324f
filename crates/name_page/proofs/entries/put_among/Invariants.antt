use Rattle.std.proofs.Common.{◌≡◌, map, take}
use Rattle.std.specs.List.{AllByRecursion}
use Rattle.fsd_formats.specs.NamePage.{FitsEntry}
use Rattle.name_page.specs.Edits.{put}
use Rattle.name_page.proofs.entries.put_among.Given as goal

-- those before, with the entry among them
abbrev pub invariant-loop-i : goal.invariant-loop-i
invariant-loop-i l = (l.list.items ≡ map (put l.entry) (take l.i l.entries)) × AllByRecursion FitsEntry l.list.items
