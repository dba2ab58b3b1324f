-- What a look-up leaves of a cache, and why one fails.
use Rattle.std.specs.Prelude.{◌≡◌, ◌⊎◌, ⊤, ℕ, ◌<◌, Bool, true, false, nat_eq, List, Option, Some, IsSome, Contains, length, slice_get, Result, Ok, Err}
use Rattle.std.specs.List.{AllByRecursion}
use Rattle.fsd_bytes.specs.declared.refusal.Refusal.{Refusal}
use Rattle.fsd_bytes.specs.declared.refusal.Refusal.TheVariants.{Device, Memory, Unsound}
use Rattle.fsd_formats.specs.declared.entry.Entry.{Entry}
use Rattle.sector_disk.specs.declared.machine.Machine.{Ghosts as MachineGhosts}
use Rattle.sector_disk.specs.Calls.{OnlyReads}
use Rattle.sector_disk.specs.Machine.{Moment}
use Rattle.page_cache.specs.declared.source.PageSource.{Ghosts as SourceGhosts}
use Rattle.page_cache.specs.Cache.{AreNewest, CacheValue, IsResident, cached_bytes, is_among, newest_bytes}
use Rattle.page_cache.specs.Accepted.{cached_content}
use Rattle.table_pages.specs.Bringing.{IsTrusted, given_by, home_in}
use Rattle.table_pages.specs.Kept.{IsReady, images_given}
use Rattle.table_pages.specs.Reads.{Fills, LosesFor, StoodWhole, outer_device}
use Rattle.fsd_forest.specs.Met.{search_of}
use Rattle.fsd_table.specs.Pages.{content_fits, entries_of}
use Rattle.fsd_table.specs.Table.{BreaksTable, Visit, visits}
use Rattle.name_page.specs.Pages.{IsOuter, is_spare}
use Rattle.name_btree.specs.declared.fault.TreeFault.{TreeFault}
use Rattle.name_btree.specs.declared.fault.TreeFault.TheVariants.{Pages, Broken}
use Rattle.name_btree.specs.Fault.{IsOnWay}
use Rattle.name_btree.specs.declared.lookup.FoundEntry.{FoundEntry}
use Rattle.name_btree.specs.Lookup.{found_entry}

-- the page breaks the table, or it is free and a path reaches it
abbrev pub BarsPages : List (List ℕ) → List Bool → ℕ → Type 0
BarsPages images free page = BreaksTable images page ⊎ ((is_spare free page ≡ true) × IsOnWay images page)

-- the outside has refused a page, or the one that the fault names is barred
abbrev pub FaultIn : List (List ℕ) → List Bool → (home_a : ℕ) → TreeFault → Type 0
FaultIn images free home_a (Pages refusal) = IsOuter refusal ⊎ ((page : ℕ) × (refusal ≡ Unsound (home_in home_a page)) × BarsPages images free page)
FaultIn images free home_a (Broken page) = BreaksTable images page

-- the refusal that a fault is
abbrev pub refusal_in : (home_a : ℕ) → TreeFault → Refusal
refusal_in home_a (Pages refusal) = refusal
refusal_in home_a (Broken page) = Unsound (home_in home_a page)

-- the page is one of so many, and in the cache, where the grammar accepts it
abbrev pub HasIn : CacheValue → (count page : ℕ) → Type 0
HasIn c count page = (page < count) × IsSome (cached_content c count page)

-- so are all that the search for the highest version of a name meets
pub record HasPathIn (count : ℕ) (name : List ℕ) (c : CacheValue) : Type 0 where
  pub all : AllByRecursion (HasIn c count) (search_of (cached_content c count) name)

-- each page of the table is in the cache, but for those that are free
pub record HasAllUsed (free : List Bool) (c : CacheValue) : Type 0 where
  pub each : (page : ℕ) → page < length free → is_spare free page ≡ false → IsResident c page

-- either will do, so that a search for the name takes no memory
abbrev pub HasEnoughIn : (free : List Bool) (name : List ℕ) → CacheValue → Type 0
HasEnoughIn free name c = HasPathIn (length free) name c ⊎ HasAllUsed free c

-- so many pages, with the bytes of those that the cache has
pub record HavePages (c : CacheValue) (count : ℕ) (pages : List (List ℕ)) : Type 0 where
  pub size : length pages ≡ count
  pub same : (page : ℕ) (bytes : List ℕ) → page < count → cached_bytes c page ≡ Some bytes → slice_get pages page ≡ Some bytes

-- so many pages, one with these bytes, and the others with what the cache has
pub record HaveOthers (c : CacheValue) (count page : ℕ) (bytes : List ℕ) (pages : List (List ℕ)) : Type 0 where
  pub size : length pages ≡ count
  pub here : slice_get pages page ≡ Some bytes
  pub same : (other : ℕ) (x : List ℕ) → other < count → nat_eq other page ≡ false → cached_bytes c other ≡ Some x → slice_get pages other ≡ Some x

module _ {D E : Type 0} (M : MachineGhosts D) (S : SourceGhosts E) (source : E) where
  -- the bytes of so many pages: those in the cache, else what the source would give
  abbrev pub images_by : D → CacheValue → (count : ℕ) → List (List ℕ)
  images_by m c count = images_given (newest_bytes c (given_by M S source m)) count

  -- Pages were read into the cache, and nothing else, until the outside refused one so, if it did: those that are dirty
  -- stay as they were, and where the outside is trusted all do. A table can be made over it again.
  pub record LooksOnly (refusal : Option Refusal) (m m' : D) (old new : CacheValue) (free : List Bool) : Type 0 where
    pub reads : OnlyReads M (outer_device refusal) m m'
    pub loses : LosesFor M S source refusal m'
    pub fills : Fills M S source m m' old new
    pub ready : IsReady M S m' new source free
    pub dirty : new.dirty ≡ old.dirty
    pub kept : (page : ℕ) → page < length free → is_among old.dirty page ≡ true → cached_bytes new page ≡ cached_bytes old page
    pub clean : IsTrusted M S source m old m' → AreNewest (given_by M S source m') new
    pub stays : IsTrusted M S source m old m' → images_by m' new (length free) ≡ images_by m old (length free)

  -- the page had these bytes in the cache, or in one of its copies
  abbrev pub Had : Moment → CacheValue → ℕ → List ℕ → Type 0
  Had from old page bytes = (cached_bytes old page ≡ Some bytes) ⊎ StoodWhole M S source from page bytes

  -- Whatever the other pages have: the page whose home A is there is free, and what the cache has now shows that a path
  -- reaches it; or that shows that it breaks the table; or it does so with bytes that it had.
  pub record ShowsPlace (from : Moment) (old new : CacheValue) (free : List Bool) (home_a place : ℕ) : Type 0 where
    pub page : ℕ
    pub home : place ≡ home_in home_a page
    pub how : ((is_spare free page ≡ true) × ((pages : List (List ℕ)) → HavePages new (length free) pages → IsOnWay pages page))
        ⊎ (((pages : List (List ℕ)) → HavePages new (length free) pages → BreaksTable pages page)
        ⊎ ((bytes : List ℕ) × (page < length free) × Had from old page bytes × ((pages : List (List ℕ)) → HaveOthers new (length free) page bytes pages → BreaksTable pages page)))

  -- so it is of the place that a fault names as unsound
  abbrev pub ShowsFault : (m m' : D) (old new : CacheValue) → List Bool → (home_a : ℕ) → TreeFault → Type 0
  ShowsFault m m' old new free home_a fault = M.honest m' → (place : ℕ) → refusal_in home_a fault ≡ Unsound place → ShowsPlace (M.now m) old new free home_a place

  -- So it is of the pages by this cache and the source.
  pub record FaultsOver (m : D) (c : CacheValue) (free : List Bool) (home_a : ℕ) (fault : TreeFault) : Type 0 where
    pub cause : FaultIn (images_by m c (length free)) free home_a fault

-- ---- what is shown by the pages that were read

-- a path leads to the leaf at the page, which has the entry and keeps within its bounds
abbrev pub LeadsTo : List (List ℕ) → FoundEntry → Type 0
LeadsTo pages f = (visit : Visit) × Contains (visits pages) visit × (visit.page ≡ f.page) × Contains (entries_of visit.content) f.entry × (content_fits visit.low visit.high visit.content ≡ true)

-- ---- what is told

abbrev pub told_from : {T : Type 0} → (home_a : ℕ) → Result T TreeFault → Result T Refusal
told_from home_a (Ok x) = Ok x
told_from home_a (Err fault) = Err (refusal_in home_a fault)

-- this entry is found, or a fault came from outside
abbrev pub FindsEntry : Option Entry → Result (Option FoundEntry) Refusal → Type 0
FindsEntry e (Ok found) = found_entry found ≡ e
FindsEntry e (Err (Device s)) = ⊤
FindsEntry e (Err Memory) = ⊤
FindsEntry e (Err other) = ⊥
