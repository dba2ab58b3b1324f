use Rattle.std.proofs.Common.{◌≡◌, ℕ, ◌<◌, ◌≤◌, false, not, length}
use Rattle.std.specs.Prelude.{slice_index_or}
use Rattle.cached_table.proofs.opening.free_unmarked.Given as goal

abbrev pub invariant-loop-page : goal.invariant-loop-page
invariant-loop-page l = record {
  count : length l.free ≡ length l.fn.marks;
  done : (page : ℕ) → page < l.page → slice_index_or l.free page false ≡ not (slice_index_or l.fn.marks page false);
  left : (page : ℕ) → l.page ≤ page → slice_index_or l.free page false ≡ false;
}
