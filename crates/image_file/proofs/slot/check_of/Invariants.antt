use Rattle.std.proofs.Common.{◌≡◌, ◌+◌, ◌*◌, drop}
use Rattle.fsd_formats.specs.Slot.{weighted_sum}
use Rattle.image_file.proofs.slot.check_of.Given as goal

-- the sum so far and that of the rest are the sum of all
abbrev pub invariant-loop-k : goal.invariant-loop-k
invariant-loop-k l = l.sum + weighted_sum (64 * l.k + 1) (drop (64 * l.k) l.b) ≡ 1 + weighted_sum 1 l.b
