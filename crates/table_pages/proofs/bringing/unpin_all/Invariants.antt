use Rattle.std.proofs.Common.{◌≡◌, ℕ, ◌+◌, take}
use Rattle.std.specs.Prelude.{count_by, nat_eq}
use Rattle.page_cache.specs.Cache.{pins_of}
use Rattle.table_pages.specs.Bringing.{OnlyPins}
use Rattle.table_pages.proofs.bringing.unpin_all.Given as goal

-- the pages before are unpinned
abbrev pub invariant-loop-page : goal.invariant-loop-page
invariant-loop-page l = record { pins : (q : ℕ) → pins_of l.cache q + count_by (nat_eq q) (take l.page-index l.pages) ≡ pins_of l.fn.cache q; only : OnlyPins l.fn.cache l.cache }
