use Rattle.std.proofs.Common.{◌≡◌, ℕ, ◌||◌, false, length}
use Rattle.std.specs.Prelude.{slice_index_or}
use Rattle.sector_set.specs.Bits.{in_range}
use Rattle.saved_map.proofs.taking.free_run.Given as goal

abbrev pub invariant-loop-page : goal.invariant-loop-page
invariant-loop-page l = record {
  size : length l.free_pages ≡ length l.initial.free_pages;
  each : (k : ℕ) → slice_index_or l.free_pages k false ≡ (slice_index_or l.initial.free_pages k false || in_range l.from l.page k);
}
