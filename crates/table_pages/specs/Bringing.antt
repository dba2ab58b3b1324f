-- What is left where pages are brought into the cache, and why one is not brought.
use Rattle.std.specs.Prelude.{◌≡◌, ◌⊎◌, ℕ, ◌+◌, ◌%◌, ◌^◌, ◌<◌, ◌≤◌, Bool, true, false, List, Option, None, length, count_by, nat_eq, slice_index_or, Some, IsSome}
use Rattle.fsd_bytes.specs.declared.refusal.Refusal.{Refusal}
use Rattle.fsd_bytes.specs.declared.refusal.Refusal.TheVariants.{Device, Lost, Memory}
use Rattle.fsd_formats.specs.NamePage.{Content}
use Rattle.sector_disk.specs.declared.machine.Machine.{Ghosts as MachineGhosts}
use Rattle.sector_disk.specs.Calls.{OnlyReads}
use Rattle.page_cache.specs.declared.fault.CacheFault.{CacheFault}
use Rattle.page_cache.specs.declared.fault.CacheFault.TheVariants.{Load, Memory as CacheMemory}
use Rattle.sector_disk.specs.declared.machine.LoadFault.TheVariants.{Device as LoadDevice, Lost as LoadLost}
use Rattle.page_cache.specs.declared.source.PageSource.{Ghosts as SourceGhosts}
use Rattle.page_cache.specs.Accepted.{cached_content}
use Rattle.page_cache.specs.Cache.{CacheValue, IsResident, AreNewest, KeepsNewest, cached_bytes, pins_of, is_among}
use Rattle.table_pages.specs.Reads.{outer_device, LosesFor, Fills}

-- ---- the cache

-- No page is less pinned, none becomes dirty or clean, and what is dirty or pinned has its bytes.
pub record Brings (old new : CacheValue) : Type 0 where
  pub dirty : new.dirty ≡ old.dirty
  pub pins : (page : ℕ) → pins_of old page ≤ pins_of new page
  pub keeps : (page : ℕ) → IsResident old page → (is_among old.dirty page ≡ true) ⊎ (0 < pins_of old page) → cached_bytes new page ≡ cached_bytes old page

-- the same pages are in the cache, with the same bytes
abbrev pub KeepsBytes : (old new : CacheValue) → Type 0
KeepsBytes old new = (page : ℕ) → cached_bytes new page ≡ cached_bytes old page

-- the page is free, or in the cache
abbrev pub IsAtHand : (free : List Bool) → CacheValue → ℕ → Type 0
IsAtHand free c page = (slice_index_or free page false ≡ true) ⊎ IsResident c page

-- the page was at hand, so that nothing was asked of the machine
pub record IsHit {D : Type 0} (m m' : D) (old new : CacheValue) : Type 0 where
  pub machine : m' ≡ m
  pub bytes : KeepsBytes old new

-- the pages that are pinned, each as often as it stands here, leave room for so many more
pub record HasRoomFor (more : ℕ) (c : CacheValue) : Type 0 where
  pub frames : 192 ≤ c.frames
  pub keep : List ℕ
  pub pins : (page : ℕ) → pins_of c page ≡ count_by (nat_eq page) keep
  pub few : length keep + more ≤ 96

-- pins alone are set
pub record OnlyPins (old new : CacheValue) : Type 0 where
  pub frames : new.frames ≡ old.frames
  pub dirty : new.dirty ≡ old.dirty
  pub bytes : (page : ℕ) → cached_bytes new page ≡ cached_bytes old page

-- ---- with what happens outside

module _ {D E : Type 0} (M : MachineGhosts D) (S : SourceGhosts E) (source : E) where
  -- what the source would give now
  abbrev pub given_by : D → ℕ → Option (List ℕ)
  given_by m page = S.newest source (M.now m).image page

  -- The machine is honest; on the disk of another, from which it has gone on, what the source knows was so, and what
  -- was not dirty in a cache there was what the source has.
  pub record IsTrusted (first : D) (cache : CacheValue) (m : D) : Type 0 where
    pub honest : M.honest m
    pub knows : S.knows source (M.now first)
    pub clean : AreNewest (given_by first) cache

  -- pages were read from the source into the cache, until the outside refused one so, if it did
  pub record FetchesOnly (refusal : Option Refusal) (m m' : D) (old new : CacheValue) : Type 0 where
    pub reads : OnlyReads M (outer_device refusal) m m'
    pub loses : LosesFor M S source refusal m'
    pub fills : Fills M S source m m' old new
    pub brings : Brings old new
    pub newest : M.honest m' → S.knows source (M.now m) → KeepsNewest (given_by m) old new

-- the refusal that a fault of the cache is
abbrev pub refusal_for : CacheFault → Refusal
refusal_for (Load (LoadDevice place)) = Device place
refusal_for (Load (LoadLost a b)) = Lost a b
refusal_for CacheMemory = Memory

-- ---- the grammar

-- what is in the cache stays there, and what the grammar accepts stays so
pub record KeepsContent (old new : CacheValue) : Type 0 where
  pub there : (page : ℕ) → IsResident old page → IsResident new page
  pub accepted : (pages page : ℕ) (x : Content) → cached_content old pages page ≡ Some x → cached_content new pages page ≡ Some x

-- the page is free, or the grammar refuses what the cache has of it
abbrev pub IsPageRefused : List Bool → CacheValue → ℕ → Type 0
IsPageRefused free c page = (slice_index_or free page false ≡ true) ⊎ (IsResident c page × (cached_content c (length free) page ≡ None))

-- the sector of its home A
abbrev pub home_in : (home_a page : ℕ) → ℕ
home_in home_a page = (home_a + page) % 2 ^ 32

-- ---- what the call that brings a page in use says

-- The page is not free, it is in the cache, and the grammar accepts it.
pub record IsBrought (free : List Bool) (c : CacheValue) (page : ℕ) : Type 0 where
  pub there : IsResident c page
  pub used : slice_index_or free page false ≡ false
  pub accepted : IsSome (cached_content c (length free) page)

-- A page at hand takes nothing of the machine, and no memory.
pub record FindsAtHand {D : Type 0} (refusal : Option Refusal) (m m' : D) (old new : CacheValue) : Type 0 where
  pub hit : IsHit m m' old new
  pub memory : refusal ≡ Some Memory → ⊥
