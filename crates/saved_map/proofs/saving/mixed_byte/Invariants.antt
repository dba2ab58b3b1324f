use Rattle.std.proofs.Common.{◌≡◌}
use Rattle.fsd_formats.specs.MapSector.{bits_value}
use Rattle.saved_map.specs.Marks.{is_marked}
use Rattle.saved_map.proofs.saving.mixed_byte.Given as goal

abbrev pub invariant-loop-i : goal.invariant-loop-i
invariant-loop-i l = l.byte ≡ bits_value (is_marked l.l l.map.sectors l.free_pages) l.s l.i
