use Rattle.std.proofs.Common.{◌≡◌, ◌+◌, ◌*◌, ◌++◌, length, take}
use Rattle.volume_layout.specs.Layout.{map_bits}
use Rattle.fsd_formats.specs.MapSector.{bits_of, map_head}
use Rattle.saved_map.specs.Marks.{is_marked}
use Rattle.saved_map.proofs.saving.save_sector.Given as goal

abbrev pub invariant-loop-q : goal.invariant-loop-q
invariant-loop-q l = record {
  size : length l.b ≡ 512;
  so_far : take (16 + l.q) l.b ≡ map_head l.head ++ bits_of (is_marked l.l l.map.sectors l.free_pages) (map_bits * l.head.index) l.q;
}
