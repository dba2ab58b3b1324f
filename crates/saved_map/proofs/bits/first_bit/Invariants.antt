use Rattle.std.proofs.Common.{◌≡◌, ℕ, ◌-◌, ◌≤◌, ◌<◌, not}
use Rattle.fsd_formats.specs.MapSector.{has_map_bit}
use Rattle.saved_map.proofs.bits.first_bit.Given as goal

abbrev pub invariant-loop-n : goal.invariant-loop-n
invariant-loop-n l = record {
  from : l.at ≤ l.n;
  to : l.n ≤ 3968;
  before : (s : ℕ) → l.at ≤ s → s < l.n → has_map_bit l.b s ≡ not l.wanted;
}

abbrev pub decreases-loop-n : goal.decreases-loop-n
decreases-loop-n l = 3968 - l.n
