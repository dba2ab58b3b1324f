use Rattle.std.proofs.Common.{◌≡◌, ◌<◌, ◌≤◌, ℕ, None, false}
use Rattle.std.specs.Prelude.{slice_index_or}
use Rattle.fsd_log.specs.Slots.{lies_in}
use Rattle.log_thirds.proofs.slots.least_in.Given as goal

abbrev pub invariant-loop-page : goal.invariant-loop-page
invariant-loop-page l = (q : ℕ) → l.first ≤ q → q < l.page → lies_in l.start l.count (slice_index_or l.slots q None) ≡ false
