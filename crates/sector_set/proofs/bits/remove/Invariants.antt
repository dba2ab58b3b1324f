use Rattle.std.proofs.Common.{◌≡◌, ℕ, ◌*◌, ◌&&◌, not}
use Rattle.std.specs.Prelude.{nat_lt}
use Rattle.sector_set.specs.Bits.{is_set, in_range}
use Rattle.sector_set.proofs.bits.remove.Given as goal

abbrev pub invariant-loop-w : goal.invariant-loop-w
invariant-loop-w l = (s : ℕ) → is_set l.words s ≡ (is_set l.fn.words s && not (in_range l.start l.stop s && nat_lt s (64 * l.w)))
