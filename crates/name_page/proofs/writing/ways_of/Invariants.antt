use Rattle.std.proofs.Common.{◌≡◌, ◌+◌, ◌*◌, ◌++◌, length, take}
use Rattle.std.specs.List.{flat_map}
use Rattle.fsd_bytes.specs.Bytes.{u32}
use Rattle.fsd_formats.specs.NamePage.{separator_bytes}
use Rattle.name_page.proofs.writing.ways_of.Given as goal

abbrev pub invariant-loop-s : goal.invariant-loop-s
invariant-loop-s l = (l.contents.items ≡ u32 l.first ++ flat_map separator_bytes (take l.s-index l.separators)) × (length l.contents.items ≡ 4 + 49 * l.s-index)
