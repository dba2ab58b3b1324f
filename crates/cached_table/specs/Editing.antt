-- What an edit of the table leaves of a cache.
use Rattle.std.specs.Prelude.{◌≡◌, ℕ, ◌+◌, ◌-◌, ◌<◌, ◌≤◌, Bool, List, Option, Some, None, length}
use Rattle.fsd_bytes.specs.declared.refusal.Refusal.{Refusal}
use Rattle.fsd_formats.specs.declared.entry.Entry.{Entry}
use Rattle.sector_disk.specs.declared.machine.Machine.{Ghosts as MachineGhosts}
use Rattle.sector_disk.specs.Calls.{OnlyReads}
use Rattle.page_cache.specs.declared.source.PageSource.{Ghosts as SourceGhosts}
use Rattle.page_cache.specs.Cache.{AreNewest, CacheValue}
use Rattle.fsd_table.specs.Table.{BreaksTable}
use Rattle.fsd_table.specs.Tree.{IsTree, table_of}
use Rattle.fsd_bytes.specs.declared.key.Key.{Key}
use Rattle.fsd_files.specs.Answers.{entries_with_keep, highest_entry}
use Rattle.name_page.specs.Pages.{Step, first_step, with_one}
use Rattle.name_btree.specs.declared.fault.TreeFault.{TreeFault}
use Rattle.name_btree.specs.Fault.{BarsTable, HasTreeCause}
use Rattle.name_btree.specs.Map.{HasTable, IsTable}
use Rattle.version_table.specs.declared.fault.VersionFault.{VersionFault}
use Rattle.version_table.specs.declared.fault.VersionFault.TheVariants.{Table, NoSuch, VersionsUsedUp}
use Rattle.table_pages.specs.Bringing.{IsTrusted, given_by}
use Rattle.table_pages.specs.Kept.{IsReady}
use Rattle.table_pages.specs.Reads.{Fills, LosesFor, outer_device}
use Rattle.cached_table.specs.Looking.{FaultIn, images_by}

-- pages with these flags, before anything is done
abbrev pub as_step : List (List ℕ) → List Bool → Step
as_step images flags = first_step images flags 0 0 0

module _ {D E : Type 0} (M : MachineGhosts D) (S : SourceGhosts E) (source : E) where
  -- Pages were read into the cache until the outside refused one so, if it did, and some were changed there: a page
  -- that was dirty is. A table can be made over it again.
  pub record EditsOnly (refusal : Option Refusal) (m m' : D) (old new : CacheValue) (free flags : List Bool) : Type 0 where
    pub reads : OnlyReads M (outer_device refusal) m m'
    pub loses : LosesFor M S source refusal m'
    pub fills : Fills M S source m m' old new
    pub size : length flags ≡ length free
    pub ready : IsReady M S m' new source flags
    pub clean : IsTrusted M S source m old m' → AreNewest (given_by M S source m') new

  -- Where the outside is trusted, the table that the pages are becomes what this makes of it.
  pub record EditsTable (m m' : D) (old new : CacheValue) (free flags : List Bool) (edit : List Entry → List Entry) : Type 0 where
    pub makes : IsTrusted M S source m old m' → (height : ℕ) →
        let images = images_by M S source m old (length free) in
        IsTable (as_step images free) height → HasTable (as_step (images_by M S source m' new (length flags)) flags) (edit (table_of images height))

  -- Where the outside is trusted, it refused a page, or the one that the fault names is barred.
  pub record FaultsEdit (m m' : D) (old new : CacheValue) (flags : List Bool) (home_a : ℕ) (fault : TreeFault) : Type 0 where
    pub cause : IsTrusted M S source m old m' → FaultIn (images_by M S source m' new (length flags)) flags home_a fault

  -- Where it is trusted, the pages are no tree that has a version of the name.
  pub record HasNoVersion (m m' : D) (old : CacheValue) (free : List Bool) (name : List ℕ) : Type 0 where
    pub none : IsTrusted M S source m old m' → (height : ℕ) → let images = images_by M S source m old (length free) in IsTree images height → highest_entry name (table_of images height) ≡ None

  -- why no keep was set: so it is
  abbrev pub FaultsKeep : (m m' : D) (old new : CacheValue) (free flags : List Bool) (home_a : ℕ) (name : List ℕ) → VersionFault → Type 0
  FaultsKeep m m' old new free flags home_a name (Table fault) = FaultsEdit m m' old new flags home_a fault
  FaultsKeep m m' old new free flags home_a name NoSuch = HasNoVersion m m' old free name
  FaultsKeep m m' old new free flags home_a name VersionsUsedUp = ⊥

-- Of the 96 pages that may be dirty at most so many are left fewer.
pub record DirtiesAtMost (more : ℕ) (old new : CacheValue) : Type 0 where
  pub few : 96 - length old.dirty ≤ 96 - length new.dirty + more

-- ---- another keep

-- At most one page more was changed, and none has become spare or was taken.
pub record ChangesOne (old new : Step) : Type 0 where
  pub page : ℕ
  pub there : page < length old.images
  pub spares : new.spares ≡ old.spares
  pub changed : new.changed ≡ with_one old.changed page

-- The highest version of a name, whose key this is, has the keep.
pub record SetsKeep (old new : Step) (name : List ℕ) (keep : ℕ) (key : Key) (height : ℕ) : Type 0 where
  pub entry : Entry
  pub highest : highest_entry name (table_of old.images height) ≡ Some entry
  pub key_is : entry.key ≡ key
  pub set : HasTable new (entries_with_keep entry.key keep (table_of old.images height))

-- the same in a cache: at most one page more is dirty, one of so many
pub record DirtiesOne (count : ℕ) (old new : CacheValue) : Type 0 where
  pub page : ℕ
  pub there : page < count
  pub changed : new.dirty ≡ with_one old.dirty page

-- Where the outside is trusted, the highest version of a name has the keep.
pub record SetsKeepIn {D E : Type 0} (M : MachineGhosts D) (S : SourceGhosts E) (source : E) (m m' : D) (old new : CacheValue) (free flags : List Bool) (name : List ℕ) (keep : ℕ) (key : Key) : Type 0 where
  pub sets : IsTrusted M S source m old m' → (height : ℕ) →
      let before = as_step (images_by M S source m old (length free)) free in
      IsTable before height → SetsKeep before (as_step (images_by M S source m' new (length flags)) flags) name keep key height

-- Where the outside is trusted, the pages gave a refusal with its cause;
-- or they are no tree that has a version of the name.
abbrev pub KeepFails : (trusted : Type 0) → (old new : Step) → (name : List ℕ) → VersionFault → Type 0
KeepFails trusted old new name (Table fault) = trusted → HasTreeCause new (BreaksTable new.images) (BarsTable new) fault
KeepFails trusted old new name NoSuch = trusted → (height : ℕ) → IsTree old.images height → highest_entry name (table_of old.images height) ≡ None
KeepFails trusted old new name VersionsUsedUp = ⊥

-- ---- no edit

-- No page was changed, has become spare or was taken; where they are trusted the pages stay.
pub record ChangesNone (trusted : Type 0) (old new : Step) : Type 0 where
  pub changed : new.changed ≡ old.changed
  pub spares : new.spares ≡ old.spares
  pub images : trusted → new.images ≡ old.images

-- The same in a cache.
pub record StaysInCache {D E : Type 0} (M : MachineGhosts D) (S : SourceGhosts E) (source : E) (m m' : D) (old new : CacheValue) (free flags : List Bool) : Type 0 where
  pub dirty : new.dirty ≡ old.dirty
  pub same_flags : flags ≡ free
  pub images : IsTrusted M S source m old m' → images_by M S source m' new (length flags) ≡ images_by M S source m old (length free)

-- ---- what another keep makes, and why it is not set

-- The highest version of the name is given the keep, and this is its key.
pub record GivesKeep (trusted : Type 0) (old new : Step) (name : List ℕ) (keep : ℕ) (key : Key) : Type 0 where
  pub name_is : key.name ≡ name
  pub one : ChangesOne old new
  pub set : trusted → (height : ℕ) → IsTable old height → SetsKeep old new name keep key height

-- Nothing is changed, for a cause.
pub record KeepsNone (trusted : Type 0) (old new : Step) (name : List ℕ) (fault : VersionFault) : Type 0 where
  pub kept : ChangesNone trusted old new
  pub cause : KeepFails trusted old new name fault

module _ {D E : Type 0} (M : MachineGhosts D) (S : SourceGhosts E) (source : E) where
  -- the same in a cache
  pub record GivesKeepIn (m m' : D) (old new : CacheValue) (free flags : List Bool) (name : List ℕ) (keep : ℕ) (key : Key) : Type 0 where
    pub name_is : key.name ≡ name
    pub one : DirtiesOne (length free) old new
    pub set : SetsKeepIn M S source m m' old new free flags name keep key

  pub record KeepsNoneIn (m m' : D) (old new : CacheValue) (free flags : List Bool) (home_a : ℕ) (name : List ℕ) (fault : VersionFault) : Type 0 where
    pub kept : StaysInCache M S source m m' old new free flags
    pub cause : FaultsKeep M S source m m' old new free flags home_a name fault
