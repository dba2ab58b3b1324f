use Rattle.std.proofs.Common.{◌≡◌, length}
use Rattle.std.specs.Prelude.{find, reverse}
use Rattle.page_cache.specs.Cache.{may_leave}
use Rattle.page_cache.proofs.order.least_used_idle.Given as goal

abbrev pub invariant-loop-page : goal.invariant-loop-page
invariant-loop-page l = find (λ e. may_leave l.dirty e.0 e.1.pins) (reverse l.rest) ≡ find (λ e. may_leave l.dirty e.0 e.1.pins) (reverse l.order.entries)

abbrev pub decreases-loop-page : goal.decreases-loop-page
decreases-loop-page l = length l.rest
