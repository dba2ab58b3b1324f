use Rattle.std.proofs.Common.{◌≡◌, take}
use Rattle.std.specs.List.{flat_map}
use Rattle.fsd_formats.specs.NamePage.{entry_bytes}
use Rattle.name_page.proofs.writing.contents_of.Given as goal

abbrev pub invariant-loop-e : goal.invariant-loop-e
invariant-loop-e l = l.contents.items ≡ flat_map entry_bytes (take l.e-index l.entries)
