-- What a survey leaves of a cache, and why one fails.
use Rattle.std.specs.Prelude.{◌≡◌, ◌⊎◌, ℕ, ◌<◌, Bool, List, Option, length, count_by}
use Rattle.fsd_bytes.specs.declared.refusal.Refusal.{Refusal}
use Rattle.fsd_bytes.specs.declared.refusal.Refusal.TheVariants as Why
use Rattle.volume_layout.specs.declared.layout.Layout.{Layout}
use Rattle.sector_disk.specs.declared.machine.Machine.{Ghosts as MachineGhosts}
use Rattle.sector_disk.specs.Calls.{OnlyReads}
use Rattle.page_cache.specs.declared.source.PageSource.{Ghosts as SourceGhosts}
use Rattle.page_cache.specs.Cache.{AreNewest, CacheValue, pins_of}
use Rattle.table_pages.specs.Bringing.{IsTrusted, given_by, home_in}
use Rattle.table_pages.specs.Reads.{LosesFor, outer_device}
use Rattle.table_pages.specs.Table.{fresh_step}
use Rattle.table_survey.specs.Survey.{IsSurveyed}
use Rattle.table_survey.specs.declared.surveying.TableCounts.{TableCounts}
use Rattle.fsd_table.specs.Breaks.{Breaks}
use Rattle.fsd_sound.specs.declared.fault.MountFault.{MountFault}
use Rattle.fsd_sound.specs.declared.fault.MountFault.TheVariants.{Device, Lost, Memory, Unsound}
use Rattle.name_page.specs.Pages.{IsOuter}
use Rattle.name_btree.specs.declared.fault.TreeFault.{TreeFault}
use Rattle.name_btree.specs.declared.fault.TreeFault.TheVariants.{Pages, Broken}
use Rattle.cached_table.specs.Looking.{BarsPages, images_by, refusal_in}
use Rattle.sector_set.specs.Area.{Area}
use Rattle.table_survey.specs.Claims.{IsOfData}

-- where it is trusted, the page of so many that the fault names breaks the table, or is barred from it;
-- or the outside has refused one
abbrev pub SurveyFaultIn : (trusted : Type 0) → Layout → (images : List (List ℕ)) → List Bool → (home_a : ℕ) → TreeFault → Type 0
SurveyFaultIn trusted l images free home_a (Pages refusal) = IsOuter refusal ⊎ ((page : ℕ) × (refusal ≡ Why.Unsound (home_in home_a page)) × (trusted → BarsPages images free page))
SurveyFaultIn trusted l images free home_a (Broken page) = (page < length free) × (trusted → Breaks l images page)

module _ {D E : Type 0} (M : MachineGhosts D) (S : SourceGhosts E) (source : E) where
  -- Pages were read into the cache, and nothing else, until the outside refused one so, if it did; none is pinned.
  -- Where the outside is trusted all stay as they were.
  pub record SurveysOnly (refusal : Option Refusal) (m m' : D) (old new : CacheValue) (count : ℕ) : Type 0 where
    pub reads : OnlyReads M (outer_device refusal) m m'
    pub loses : LosesFor M S source refusal m'
    pub frames : new.frames ≡ old.frames
    pub dirty : new.dirty ≡ old.dirty
    pub unpinned : (page : ℕ) → pins_of new page ≡ 0
    pub clean : IsTrusted M S source m old m' → AreNewest (given_by M S source m') new
    pub stays : IsTrusted M S source m old m' → images_by M S source m' new count ≡ images_by M S source m old count

  -- So it is of the pages by the cache and the source at first.
  pub record SurveyFails (l : Layout) (m m' : D) (c : CacheValue) (free : List Bool) (home_a : ℕ) (fault : TreeFault) : Type 0 where
    pub cause : SurveyFaultIn (IsTrusted M S source m c m') l (images_by M S source m c (length free)) free home_a fault

  -- So much is told: the map is of the data area, and the marked pages are counted; where the outside is trusted they
  -- are those of a table that nothing breaks, as it was at first.
  pub record SurveysTable (l : Layout) (m m' : D) (c : CacheValue) (free : List Bool) (home_a : ℕ) (map : Area) (marks : List Bool) (s : TableCounts) : Type 0 where
    pub area_is : IsOfData l map
    pub counted : s.pages ≡ count_by (λ mark. mark) marks
    pub surveyed : IsTrusted M S source m c m' → IsSurveyed l (fresh_step (given_by M S source m) c free home_a) map marks s
    pub unbroken : IsTrusted M S source m c m' → (page : ℕ) → Breaks l (images_by M S source m c (length free)) page → ⊥

-- ---- what is told

-- the fault of a mount that a refusal of a page is: the disk's, a loss, or a page that breaks the table;
-- else a want of memory
abbrev pub mount_fault_for : Refusal → MountFault
mount_fault_for (Why.Device s) = Device s
mount_fault_for (Why.Lost a b) = Lost a b
mount_fault_for (Why.Unsound s) = Unsound s
mount_fault_for other = Memory

abbrev pub mount_fault_in : (home_a : ℕ) → TreeFault → MountFault
mount_fault_in home_a fault = mount_fault_for (refusal_in home_a fault)
