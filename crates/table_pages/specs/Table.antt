-- A table over a cache as the tree sees it.
use Rattle.std.specs.Prelude.{◌≡◌, ◌⊎◌, ℕ, ◌<◌, Bool, true, false, List, [], Option, Some, None, length, slice_index_or}
use Rattle.std.specs.Borrow.{MutBor}
use Rattle.fsd_bytes.specs.declared.refusal.Refusal.{Refusal}
use Rattle.fsd_bytes.specs.declared.refusal.Refusal.TheVariants.{Unsound}
use Rattle.sector_disk.specs.declared.machine.Machine.{Ghosts as MachineGhosts}
use Rattle.page_cache.specs.declared.source.PageSource.{Ghosts as SourceGhosts}
use Rattle.page_cache.specs.Cache.{CacheValue, AreNewest, IsResident, is_among, newest_bytes, with_written}
use Rattle.name_page.specs.Pages.{Step}
use Rattle.sector_disk.specs.Calls.{OnlyReads}
use Rattle.table_pages.specs.Reads.{outer_device, LosesFor, Fills, HadRefused}
use Rattle.table_pages.specs.Bringing.{IsTrusted, OnlyPins, given_by, home_in}
use Rattle.table_pages.specs.Kept.{IsReady, images_given, kept_written}
use Rattle.table_pages.specs.declared.table.Table.{Table}

-- the pages before the first step: those that are dirty are changed, and nothing else was done
abbrev pub fresh_step : (source : ℕ → Option (List ℕ)) (cache : CacheValue) (free : List Bool) (home_a : ℕ) → Step
fresh_step source cache free home_a =
    record { images = images_given (newest_bytes cache source) (length free); spares = free; home_a = home_a; reached = []; changed = cache.dirty; promised = 0; refusal = None; most_reached = 80; most_changed = 96 }

module _ {D E : Type 0} {M : MachineGhosts D} {S : SourceGhosts E} where
  -- A page is what the cache has of it, else what the source would give;
  -- it was changed where it is dirty, and at most 96 pages are.
  abbrev pub step_of : Table D E M S → Step
  step_of t = record {
    images = images_given (newest_bytes t.cache.now (given_by M S t.source.now t.m.now)) (length t.free.now);
    spares = t.free.now;
    home_a = t.home_a;
    reached = t.reached.items;
    changed = t.cache.now.dirty;
    promised = t.promised;
    refusal = t.refusal;
    most_reached = 80;
    most_changed = 96;
  }

  -- the machine and the cache that it reaches its pages by, and its free pages, as they are
  abbrev pub machine_of : Table D E M S → D
  machine_of t = t.m.now

  abbrev pub cache_of : Table D E M S → CacheValue
  cache_of t = t.cache.now

  abbrev pub free_of : Table D E M S → List Bool
  free_of t = t.free.now

  -- the table with the bytes of one of its pages written
  abbrev pub table_written : Table D E M S → ℕ → List ℕ → Table D E M S
  table_written t page bytes = record t { cache = record t.cache { now = with_written page bytes t.cache.now }; kept = kept_written M S t.made_over.value t.made_with.value t.m.now t.cache.now t.source.now t.free.now t.reached.items t.spares.items t.promised t.kept page bytes }

  -- The page whose home A is there is free, or is dirty;
  -- or the grammar refuses what it had in the cache, or in one of its copies.
  pub record BarsPlace (old new : Table D E M S) (place : ℕ) : Type 0 where
    pub page : ℕ
    pub within : page < length new.free.now
    pub home : place ≡ home_in new.home_a page
    pub why : (slice_index_or new.free.now page false ≡ true) ⊎ ((is_among new.cache.now.dirty page ≡ true) ⊎ HadRefused M S old.source.now (M.now old.m.now) old.cache.now (length new.free.now) page)

  -- Over the same machine, cache, source and free pages, where pages were read from the disk, and nothing else, until
  -- the outside refused one so, if it did.
  pub record ReadsOnly (refusal : Option Refusal) (old new : Table D E M S) : Type 0 where
    pub reads : OnlyReads M (outer_device refusal) old.m.now new.m.now
    pub loses : LosesFor M S new.source.now refusal new.m.now
    pub fills : Fills M S old.source.now old.m.now new.m.now old.cache.now new.cache.now
    pub source : new.source.now ≡ old.source.now
    pub machine : new.m.ghost_name ≡ old.m.ghost_name
    pub cache : new.cache.ghost_name ≡ old.cache.ghost_name
    pub free : new.free.ghost_name ≡ old.free.ghost_name
    pub made_over : new.made_over.value ≡ old.made_over.value
    pub made_with : new.made_with.value ≡ old.made_with.value
    pub count : length new.free.now ≡ length old.free.now
    pub home_a : new.home_a ≡ old.home_a
    pub taken : (page : ℕ) → slice_index_or old.free.now page false ≡ true → (slice_index_or new.free.now page false ≡ true) ⊎ (is_among new.cache.now.dirty page ≡ true)
    pub barred : M.honest new.m.now → (place : ℕ) → new.refusal ≡ Some (Unsound place) → (old.refusal ≡ Some (Unsound place)) ⊎ BarsPlace old new place

  -- the page is one of the table, and in the cache
  abbrev pub HasPage : Table D E M S → ℕ → Type 0
  HasPage t page = (page < length t.free.now) × IsResident t.cache.now page

  -- trusted since it was made
  abbrev pub Trusted : Table D E M S → Type 0
  Trusted t = IsTrusted M S t.source.now t.made_over.value t.made_with.value t.m.now

  -- it was made over these
  pub record IsOver (m : MutBor D) (cache : MutBor CacheValue) (source : E) (free : MutBor (List Bool)) (t : Table D E M S) : Type 0 where
    pub machine : t.m ≡ m
    pub cached : t.cache ≡ cache
    pub from : t.source.now ≡ source
    pub spared : t.free ≡ free
    pub made_over : t.made_over.value ≡ m.now
    pub made_with : t.made_with.value ≡ cache.now

  -- This is left once the table rests: no page is pinned any more, and another table can be made over the same. Where
  -- the outside is trusted, what is not dirty is what the source has.
  pub record LeavesTable (t : Table D E M S) (m : D) (cache : CacheValue) (free : List Bool) : Type 0 where
    pub machine : m ≡ t.m.now
    pub pins : OnlyPins t.cache.now cache
    pub flags : free ≡ t.free.now
    pub ready : IsReady M S m cache t.source.now free
    pub clean : Trusted t → AreNewest (given_by M S t.source.now m) cache
