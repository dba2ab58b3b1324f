use Rattle.std.proofs.Common.{◌≡◌, ◌+◌, ◌<◌, ℕ}
use Rattle.sector_disk.specs.Image.{slice_of}
use Rattle.version_data.specs.Writing.{part_of}
use Rattle.version_data.proofs.writing.lay_row.Given as goal

abbrev pub invariant-loop-j : goal.invariant-loop-j
invariant-loop-j l = (i : ℕ) → i < l.j → slice_of l.row i ≡ part_of l.leader l.bytes (l.first + i)
