use Rattle.std.proofs.Common.{◌≡◌, ◌+◌, ◌++◌, length, take}
use Rattle.std.specs.List.{flat_map}
use Rattle.fsd_formats.specs.NamePage.{entry_bytes}
use Rattle.name_page.specs.Edits.{beside}
use Rattle.name_page.proofs.text.put_side.Given as goal

-- those before that stand on this side
abbrev pub invariant-loop-i : goal.invariant-loop-i
invariant-loop-i l =
    (l.text.bytes.items ≡ l.fn.text.bytes.items ++ flat_map entry_bytes (beside l.side l.key (take l.i l.entries)))
    × (l.text.count ≡ l.fn.text.count + length (beside l.side l.key (take l.i l.entries)))
