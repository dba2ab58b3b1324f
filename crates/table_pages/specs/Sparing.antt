-- Free pages that are kept in the cache.
use Rattle.std.specs.Prelude.{◌≡◌, ℕ, ◌+◌, ◌≤◌, Bool, true, false, List, Option, count_by, nat_eq, slice_index_or}
use Rattle.fsd_bytes.specs.declared.refusal.Refusal.{Refusal}
use Rattle.sector_disk.specs.declared.machine.Machine.{Ghosts as MachineGhosts}
use Rattle.page_cache.specs.declared.source.PageSource.{Ghosts as SourceGhosts}
use Rattle.page_cache.specs.Cache.{CacheValue, pins_of, is_among}
use Rattle.table_pages.specs.Bringing.{FetchesOnly}

-- each of them is free, and none stands there twice
pub record AreSpare (free : List Bool) (spares : List ℕ) : Type 0 where
  pub are : (page : ℕ) → is_among spares page ≡ true → slice_index_or free page false ≡ true
  pub once : (page : ℕ) → count_by (nat_eq page) spares ≤ 1

-- pages were read from the source, and free ones of them were pinned and put into the list
pub record SparesOnly {D E : Type 0} (M : MachineGhosts D) (S : SourceGhosts E) (source : E) (free : List Bool) (refusal : Option Refusal) (m m' : D) (old new : CacheValue) (was are : List ℕ) : Type 0 where
  pub fetches : FetchesOnly M S source refusal m m' old new
  pub pins : (page : ℕ) → pins_of new page + count_by (nat_eq page) was ≡ pins_of old page + count_by (nat_eq page) are
  pub spares : AreSpare free are
