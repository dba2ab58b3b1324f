use Rattle.std.proofs.Common.{◌≡◌, ℕ, ◌<◌, ◌≤◌, length, get_or, replicate, Some, None}
use Rattle.frame_pool.proofs.cells.fill.Given as goal

abbrev pub invariant-loop-i : goal.invariant-loop-i
invariant-loop-i l = record {
  at : l.cells.at ≡ l.base.ptr;
  long : length l.cells.slots ≡ l.count;
  done : (k : ℕ) → k < l.i → get_or l.cells.slots k None ≡ Some (replicate 512 0);
  left : (k : ℕ) → l.i ≤ k → get_or l.cells.slots k None ≡ None;
}
