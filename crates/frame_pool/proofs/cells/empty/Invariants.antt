use Rattle.std.proofs.Common.{◌≡◌, ℕ, ◌<◌, ◌≤◌, length, get_or, None}
use Rattle.frame_pool.specs.Places.{IsFilled}
use Rattle.frame_pool.proofs.cells.empty.Given as goal

abbrev pub invariant-loop-i : goal.invariant-loop-i
invariant-loop-i l = record {
  at : l.cells.at ≡ l.base.ptr;
  long : length l.cells.slots ≡ l.count;
  done : (k : ℕ) → k < l.i → get_or l.cells.slots k None ≡ None;
  left : (k : ℕ) → l.i ≤ k → k < l.count → IsFilled l.cells.slots k;
}
