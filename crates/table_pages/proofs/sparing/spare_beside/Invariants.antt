use Rattle.std.proofs.Common.{◌≡◌, ℕ, ◌<◌, true, false}
use Rattle.std.specs.Prelude.{slice_index_or}
use Rattle.page_cache.specs.Cache.{is_among}
use Rattle.table_pages.proofs.sparing.spare_beside.Given as goal

-- the free pages before are among those
abbrev pub invariant-loop-page : goal.invariant-loop-page
invariant-loop-page l = (q : ℕ) → q < l.page-counter → slice_index_or l.free q false ≡ true → is_among l.taken q ≡ true
