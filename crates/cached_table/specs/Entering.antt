-- The versions that go where one is entered, and why none is.
use Rattle.std.specs.Prelude.{◌≡◌, ◌⊎◌, ⊤, ℕ, ◌<◌, ◌≤◌, min, Bool, List, [], ◌∷◌, ◌++◌, All, Contains, Option, Some, IsFalse, length, count_by}
use Rattle.std.specs.List.{list_any}
use Rattle.fsd_bytes.specs.Keys.{max_u32}
use Rattle.fsd_bytes.specs.declared.key.Key.{Key}
use Rattle.fsd_bytes.specs.declared.refusal.Refusal.{Refusal}
use Rattle.fsd_bytes.specs.declared.refusal.Refusal.TheVariants as Why
use Rattle.run_table.specs.declared.run.Run.{Run}
use Rattle.run_table.specs.RunTable.{sectors_of}
use Rattle.sector_set.specs.Area.{Area, AreOut, together}
use Rattle.sector_set.specs.Meet.{meets}
use Rattle.sector_disk.specs.Machine.{Moment}
use Rattle.sector_disk.specs.declared.machine.Machine.{Ghosts as MachineGhosts}
use Rattle.shadow_frees.specs.Readers.{IsSameOrApart}
use Rattle.shadow_frees.specs.Waits.{AreIdle, Waits}
use Rattle.fsd_formats.specs.declared.entry.Entry.{Entry}
use Rattle.fsd_table.specs.Table.{BreaksTable}
use Rattle.fsd_table.specs.Tree.{IsTree, table_of}
use Rattle.fsd_files.specs.Volume.{entries_at}
use Rattle.name_page.specs.declared.pages.Pages.{Ghosts}
use Rattle.name_page.specs.Looks.{OnlyWalks}
use Rattle.name_page.specs.Pages.{spare_count, outer_refusal}
use Rattle.name_btree.specs.declared.fault.TreeFault.{TreeFault}
use Rattle.name_btree.specs.declared.fault.TreeFault.TheVariants.{Pages, Broken}
use Rattle.name_btree.specs.declared.lookup.FoundEntry.{FoundEntry}
use Rattle.name_btree.specs.Fault.{BarsTable, HasTreeCause, IsOnWay, ShowsCause}
use Rattle.page_cache.specs.declared.source.PageSource.{Ghosts as SourceGhosts}
use Rattle.page_cache.specs.Cache.{CacheValue, cached_bytes}
use Rattle.table_pages.specs.Bringing.{IsTrusted, home_in}
use Rattle.version_table.specs.declared.fault.VersionFault.{VersionFault}
use Rattle.version_table.specs.declared.fault.VersionFault.TheVariants.{Table, NoSuch, VersionsUsedUp}
use Rattle.version_table.specs.declared.oldest.Leaving.{Leaving}
use Rattle.version_table.specs.Met.{IsMetBetween, entries_left}
use Rattle.version_table.specs.declared.planning.Plan.{Plan}
use Rattle.version_table.specs.Plan.{IsPlan, planned_entry, with_planned}
use Rattle.version_table.specs.Table.{MakesTable, OfTable}
use Rattle.version_table.specs.Versions.{next_key}
use Rattle.cached_table.specs.Editing.{EditsTable, StaysInCache}
use Rattle.cached_table.specs.Looking.{BarsPages, Had, HavePages, LeadsTo, LooksOnly, ShowsPlace, images_by, refusal_in}

-- ---- the versions that go

-- the set, of an interval that ends at this place at the latest
abbrev pub up_to : (end : ℕ) → Area → Area
up_to end m = record m { to = min m.to end }

-- the sectors are of the data area, each named once, and neither free nor waiting;
-- and each reader holds these very runs, or none of their sectors
abbrev pub AreTaken : Area → Waits → List Run → Type 0
AreTaken map w runs = AreOut map runs × AreIdle w runs × All (IsSameOrApart runs) w.held

-- whether one of these versions has one of these sectors
abbrev pub share : List Leaving → List Run → Bool
share gone runs = list_any (λ g. meets (sectors_of runs) g.entry.runs) gone

-- the sectors of each are taken, and none is one of an earlier version
abbrev pub AreInTurn : Area → Waits → (seen gone : List Leaving) → Type 0
AreInTurn map w seen [] = ⊤
AreInTurn map w seen (g ∷ gone) = (AreTaken map w g.entry.runs × IsFalse (share seen g.entry.runs)) × AreInTurn map w (seen ++ g ∷ []) gone

-- the set with their sectors
abbrev pub with_gone : Area → List Leaving → Area
with_gone a [] = a
with_gone a (g ∷ gone) = with_gone (together a g.entry.runs) gone

-- one after another they don't wait before they go, and each reader holds such a one whole or not at all
abbrev pub AreIdleInTurn : Waits → List Leaving → Type 0
AreIdleInTurn w [] = ⊤
AreIdleInTurn w (g ∷ gone) = (AreIdle w g.entry.runs × All (IsSameOrApart g.entry.runs) w.held) × AreIdleInTurn (record w { removed = together w.removed g.entry.runs }) gone

-- ---- why none is entered

-- The refusal that a fault of a plan is. A move comes behind a look-up of its version: pages that lack it since have no
-- number left for one. No other plan tells NoSuch.
abbrev pub plan_refusal : (home_a : ℕ) → VersionFault → Refusal
plan_refusal home_a (Table fault) = refusal_in home_a fault
plan_refusal home_a NoSuch = Why.VersionsUsedUp
plan_refusal home_a VersionsUsedUp = Why.VersionsUsedUp

-- versions of the table are to go whose sectors aren't taken so
abbrev pub LosesUntaken : Area → Waits → List Entry → Type 0
LosesUntaken map w table = (keys : List Key) × (gone : List Leaving) × (entries_left gone ≡ entries_at keys table) × (AreInTurn map w [] gone → ⊥)

-- The refusal that a fault of the entry is. It comes behind look-ups: pages that differ since, or that break the table
-- beside those that were looked up, have no number left for a version.
abbrev pub enter_refusal : TreeFault → Refusal
enter_refusal (Pages (Why.Unsound s)) = Why.VersionsUsedUp
enter_refusal (Pages refusal) = refusal
enter_refusal (Broken page) = Why.VersionsUsedUp

-- why these versions may not go: the leaf of one is told whose sectors aren't taken;
-- where two share one, no number is left
abbrev pub TellsUntaken : (home_a : ℕ) → Area → Waits → List Leaving → Refusal → Type 0
TellsUntaken home_a map w gone (Why.Unsound s) = (g : Leaving) × Contains gone g × (s ≡ home_in home_a g.page) × (AreTaken map w g.entry.runs → ⊥)
TellsUntaken home_a map w gone Why.VersionsUsedUp = ⊤
TellsUntaken home_a map w gone other = ⊥

-- so it is told as unsound
abbrev pub ShowsUntaken : (home_a : ℕ) → Area → Waits → List Leaving → Refusal → Type 0
ShowsUntaken home_a map w gone (Why.Unsound s) = (g : Leaving) × Contains gone g × (s ≡ home_in home_a g.page) × (AreTaken map w g.entry.runs → ⊥)
ShowsUntaken home_a map w gone other = ⊤

-- A refusal came from outside; or a page breaks the table, or is spare and reached, or versions go that are not taken;
-- or the numbers of the name are used up; or fewer pages are spare than are asked for, where they aren't.
abbrev pub RefusesFor : (Barred Untaken UsedUp Usable : Type 0) → (free : ℕ) → Refusal → Type 0
RefusesFor Barred Untaken UsedUp Usable free (Why.Device s) = ⊤
RefusesFor Barred Untaken UsedUp Usable free (Why.Lost a b) = ⊤
RefusesFor Barred Untaken UsedUp Usable free Why.Memory = ⊤
RefusesFor Barred Untaken UsedUp Usable free (Why.Unsound s) = Barred ⊎ Untaken
RefusesFor Barred Untaken UsedUp Usable free Why.VersionsUsedUp = UsedUp ⊎ (Barred ⊎ Untaken)
RefusesFor Barred Untaken UsedUp Usable free (Why.NameTableFull n) = (n ≡ free) × (n < 8) × Usable
RefusesFor Barred Untaken UsedUp Usable free other = ⊥

-- the name has no number left
abbrev pub HasNoNumber : (name : List ℕ) → List Entry → Type 0
HasNoNumber name table = max_u32 < (next_key name table).version

-- so it is over pages
abbrev pub EntersNone : {D : Type 0} (P : Ghosts D) → Area → Waits → (name : List ℕ) → (UsedUp : List Entry → Type 0) → (free : ℕ) → (old new : D) → Refusal → Type 0
EntersNone P map w name UsedUp free old new = RefusesFor (P.trusted new → (page : ℕ) × BarsTable (P.step new) page) (OfTable P old new (LosesUntaken map w))
    (OfTable P old new UsedUp) (OfTable P old new (λ table. (next_key name table).version ≤ max_u32)) free

-- What was reached shows why a place is told as unsound: a page of a look-up breaks the table, or is on the way and
-- barred; or a version that goes was met, and its sectors aren't taken.
abbrev pub ShowsRefusal : {D : Type 0} (P : Ghosts D) → Area → Waits → (name : List ℕ) → (home_a : ℕ) → (old new : D) → Refusal → Type 0
ShowsRefusal P map w name home_a old new (Why.Unsound s) =
    ((f : TreeFault) × (refusal_in home_a f ≡ Why.Unsound s) × HasTreeCause (P.step new) (BreaksTable (P.step new).images) (BarsTable (P.step new)) f × ShowsCause (P.step new) BreaksTable IsOnWay f)
    ⊎ ((g : Leaving) × IsMetBetween P name old new g × (s ≡ home_in home_a g.page) × (AreTaken map w g.entry.runs → ⊥))
ShowsRefusal P map w name home_a old new other = ⊤

module _ {D E : Type 0} (M : MachineGhosts D) (S : SourceGhosts E) (source : E) where
  -- The leaf of a version was met: each page that was in the cache then had been there, or stood in one of its copies;
  -- whatever the other pages have, a path leads to the leaf, which has the version.
  pub record ShowsMet (from : Moment) (old : CacheValue) (count : ℕ) (f : FoundEntry) : Type 0 where
    pub cache : CacheValue
    pub had : (page : ℕ) (bytes : List ℕ) → page < count → cached_bytes cache page ≡ Some bytes → Had M S source from old page bytes
    pub leads : (pages : List (List ℕ)) → HavePages cache count pages → LeadsTo pages f

  -- so it is of the place that a refusal tells as unsound
  abbrev pub ShowsUnsound : Area → Waits → (m m' : D) (old new : CacheValue) → List Bool → (home_a : ℕ) → Refusal → Type 0
  ShowsUnsound map w m m' old new free home_a (Why.Unsound s) = M.honest m' →
      ShowsPlace M S source (M.now m) old new free home_a s ⊎ ((f : FoundEntry) × ShowsMet (M.now m) old (length free) f × (f.page < length free) × (s ≡ home_in home_a f.page) × (AreTaken map w f.entry.runs → ⊥))
  ShowsUnsound map w m m' old new free home_a other = ⊤

  -- this holds of the table that there was in a cache
  abbrev pub OfTableIn : (m m' : D) (old : CacheValue) → List Bool → (List Entry → Type 0) → Type 0
  OfTableIn m m' old free Is = IsTrusted M S source m old m' → (height : ℕ) → IsTree (images_by M S source m old (length free)) height → Is (table_of (images_by M S source m old (length free)) height)

  -- so it is of a cache
  abbrev pub NoneFor : Area → Waits → (name : List ℕ) → (m m' : D) (old new : CacheValue) → (free flags : List Bool) → Refusal → Type 0
  NoneFor map w name m m' old new free flags = RefusesFor (IsTrusted M S source m old m' → (page : ℕ) × BarsPages (images_by M S source m' new (length flags)) flags page)
      (OfTableIn m m' old free (LosesUntaken map w)) (OfTableIn m m' old free (λ table. max_u32 < (next_key name table).version))
      (OfTableIn m m' old free (λ table. (next_key name table).version ≤ max_u32)) (count_by (λ spare. spare) free)

  pub record EntersNoneIn (map : Area) (w : Waits) (name : List ℕ) (m m' : D) (old new : CacheValue) (free flags : List Bool) (refusal : Refusal) : Type 0 where
    pub cause : NoneFor map w name m m' old new free flags refusal

-- ---- what an entry makes, and why none is made

-- These versions have taken sectors, and this is made of the table.
pub record EntersPlanned {D : Type 0} (P : Ghosts D) (map : Area) (w : Waits) (freed : List Leaving) (edit : List Entry → List Entry) (old new : D) : Type 0 where
  pub taken : AreInTurn map w [] freed
  pub room : 8 ≤ spare_count (P.step old)
  pub entered : MakesTable P old new edit

-- Pages were reached, and nothing else, until it was refused: these versions have no taken sectors, or an edit failed.
pub record RefusesPlanned {D : Type 0} (P : Ghosts D) (map : Area) (w : Waits) (home_a : ℕ) (freed : List Leaving) (old new : D) (refusal : Refusal) : Type 0 where
  pub kept : OnlyWalks P (outer_refusal refusal) old new
  pub fault : RefusesFor (P.trusted new → (page : ℕ) × BarsTable (P.step new) page) (AreInTurn map w [] freed → ⊥) ⊥ ⊤ (spare_count (P.step old)) refusal
  pub shown : ShowsUntaken home_a map w freed refusal

-- A version is planned for a name and comes into the table, with the entry of a draft; what goes has taken sectors.
pub record EntersAt {D : Type 0} (P : Ghosts D) (map : Area) (w : Waits) (name : List ℕ) (given : Option ℕ) (draft : Entry) (old new : D) (plan : Plan) : Type 0 where
  pub name_is : plan.key.name ≡ name
  pub planned : OfTable P old new (λ table. IsPlan name given table plan)
  pub made : EntersPlanned P map w plan.gone.items (with_planned plan (planned_entry plan draft.serial draft.length draft.runs)) old new

-- Pages were reached, and nothing else, until it was refused, for a cause; what was reached shows it.
pub record RefusesAt {D : Type 0} (P : Ghosts D) (map : Area) (w : Waits) (name : List ℕ) (UsedUp : List Entry → Type 0) (home_a : ℕ) (old new : D) (refusal : Refusal) : Type 0 where
  pub kept : OnlyWalks P (outer_refusal refusal) old new
  pub fault : EntersNone P map w name UsedUp (spare_count (P.step old)) old new refusal
  pub shown : ShowsRefusal P map w name home_a old new refusal

module _ {D E : Type 0} (M : MachineGhosts D) (S : SourceGhosts E) (source : E) where
  -- the same in a cache
  pub record EntersIn (map : Area) (w : Waits) (name : List ℕ) (given : Option ℕ) (draft : Entry) (m m' : D) (old new : CacheValue) (free flags : List Bool) (plan : Plan) : Type 0 where
    pub name_is : plan.key.name ≡ name
    pub planned : OfTableIn M S source m m' old free (λ table. IsPlan name given table plan)
    pub taken : AreInTurn map w [] plan.gone.items
    pub full : 8 ≤ count_by (λ spare. spare) free
    pub made : EditsTable M S source m m' old new free flags (with_planned plan (planned_entry plan draft.serial draft.length draft.runs))

  pub record RefusesIn (map : Area) (w : Waits) (name : List ℕ) (m m' : D) (old new : CacheValue) (free flags : List Bool) (home_a : ℕ) (refusal : Refusal) : Type 0 where
    pub kept : StaysInCache M S source m m' old new free flags
    pub looks : LooksOnly M S source (outer_refusal refusal) m m' old new free
    pub fault : EntersNoneIn M S source map w name m m' old new free flags refusal
    pub shown : ShowsUnsound M S source map w m m' old new free home_a refusal
