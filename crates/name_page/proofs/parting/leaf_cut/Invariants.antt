use Rattle.std.proofs.Common.{◌≡◌, ◌+◌, ◌≤◌, length, take}
use Rattle.std.specs.List.{flat_map}
use Rattle.fsd_formats.specs.NamePage.{entry_bytes}
use Rattle.name_page.proofs.parting.leaf_cut.Given as goal

-- the bytes of those before, which have room in a leaf and leave enough for another
abbrev pub invariant-loop-i : goal.invariant-loop-i
invariant-loop-i l = (l.used ≡ length (flat_map entry_bytes (take l.i l.entries))) × (l.used ≤ 488) × (l.used + 190 ≤ l.whole)
