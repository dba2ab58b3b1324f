use Rattle.std.proofs.Common.{◌≡◌, ◌*◌, ◌≤◌, length, take}
use Rattle.std.specs.List.{flat_map}
use Rattle.fsd_formats.specs.NamePage.{entry_bytes}
use Rattle.name_page.proofs.entries.used.Given as goal

-- the bytes of those before
abbrev pub invariant-loop-entry : goal.invariant-loop-entry
invariant-loop-entry l = (l.used ≡ length (flat_map entry_bytes (take l.entry-index l.entries))) × (l.used ≤ 108 * l.entry-index)
