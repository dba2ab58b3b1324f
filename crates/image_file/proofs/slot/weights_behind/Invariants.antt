use Rattle.std.proofs.Common.{◌≡◌, ◌+◌, ◌*◌, ◌≤◌, drop}
use Rattle.fsd_formats.specs.Slot.{weighted_sum}
use Rattle.image_file.proofs.slot.weights_behind.Given as goal

-- the sum so far and that of the rest are the sum of all
abbrev pub invariant-loop-i : goal.invariant-loop-i
invariant-loop-i l = record {
  parts : l.before * l.total + l.weights + weighted_sum (l.before + l.i + 1) (drop l.i l.bytes) ≡ weighted_sum (l.before + 1) l.bytes;
  total : l.total ≤ 255 * l.i;
  weights : l.weights ≤ 130560 * l.i;
}
