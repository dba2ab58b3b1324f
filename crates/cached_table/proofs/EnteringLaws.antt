-- A version that is entered over pages: what is needed of its entry, what it makes, and why none is entered.
use Rattle.std.proofs.Common.{◌≡◌, inl, inr, ℕ, ◌-◌, ◌<◌, length, ◌≤◌, ◌^◌, List, [], Option, None, refl, sym, ap, subst, ◌∙◌, arith}
use Rattle.std.specs.Prelude.{Bool, Result, Ok, Err, IfErr, IfOk, OnErr, count_by}
use Rattle.std.specs.List.{AllByRecursion}
use Rattle.std.proofs.lemmas.Bool.{cases_lt}
use Rattle.std.proofs.lemmas.List.Elements.{All-contains, All-from_recursion}
use Rattle.fsd_bytes.specs.Keys.{max_u32}
use Rattle.fsd_bytes.specs.declared.key.Key.{Key}
use Rattle.fsd_bytes.specs.declared.refusal.Refusal.{Refusal}
use Rattle.fsd_bytes.specs.declared.refusal.Refusal.TheVariants as Why
use Rattle.sector_set.specs.Area.{Area}
use Rattle.shadow_frees.specs.Waits.{Waits}
use Rattle.fsd_formats.specs.declared.entry.Entry.{Entry}
use Rattle.fsd_table.specs.Table.{BreaksTable}
use Rattle.sector_disk.specs.declared.machine.Machine.{Ghosts as MachineGhosts}
use Rattle.page_cache.specs.declared.source.PageSource.{Ghosts as SourceGhosts}
use Rattle.page_cache.specs.Cache.{CacheValue}
use Rattle.name_page.specs.declared.pages.Pages.{Ghosts}
use Rattle.name_page.specs.Looks.{OnlyWalks}
use Rattle.name_page.specs.Pages.{IsOuter, changes, spare_count, outer_in, outer_refusal}
use Rattle.name_btree.specs.declared.fault.TreeFault.{TreeFault}
use Rattle.name_btree.specs.declared.fault.TreeFault.TheVariants.{Pages, Broken}
use Rattle.name_btree.specs.Fault.{BarsTable, FailsSpare, FailsTable, HasTreeCause, IsOnWay, ShowsCause, outer_of}
use Rattle.version_table.specs.declared.fault.VersionFault.{VersionFault}
use Rattle.version_table.specs.declared.fault.VersionFault.TheVariants.{Table, NoSuch, VersionsUsedUp}
use Rattle.version_table.specs.declared.planning.Plan.{Plan}
use Rattle.version_table.specs.Fault.{FailsLook, ShowsLook, outside_in}
use Rattle.version_table.specs.Met.{IsMetBetween, entries_left}
use Rattle.version_table.proofs.MeetLaws.{met_later}
use Rattle.fsd_files.specs.Volume.{entries_at}
use Rattle.fsd_table.specs.Tree.{IsTree, table_of}
use Rattle.name_page.proofs.LookLaws.{Joins, walks_then}
use Rattle.cached_table.proofs.HighestLaws.{makes_before}
use Rattle.version_table.specs.declared.oldest.Leaving.{Leaving}
use Rattle.version_table.specs.Plan.{IsPlan, planned_entry, with_planned}
use Rattle.version_table.specs.Table.{OfTable}
use Rattle.version_table.specs.Versions.{next_key}
use Rattle.cached_table.specs.Entering.{AreInTurn, EntersAt, EntersIn, EntersPlanned, HasNoNumber, LosesUntaken, OfTableIn, RefusesAt, RefusesFor, RefusesIn, RefusesPlanned, ShowsRefusal, ShowsUnsound, ShowsUntaken, TellsUntaken, enter_refusal, plan_refusal}
use Rattle.cached_table.specs.Editing.{EditsTable, StaysInCache}
use Rattle.table_pages.specs.Bringing.{IsTrusted}
use Rattle.cached_table.specs.Looking.{BarsPages, LooksOnly, images_by, refusal_in}
use Rattle.cached_table.proofs.RefusalLaws.{outer_cases}

-- ---- what holds of the table

-- the number of a version that is planned is one
pub is_usable : {D : Type 0} (P : Ghosts D) (old now : D) (name : List ℕ) (given : Option ℕ) (plan : Plan) → plan.key.version < 2 ^ 32 → OfTable P old now (λ table. IsPlan name given table plan)
    → OfTable P old now (λ table. (next_key name table).version ≤ max_u32)
is_usable P old now name given plan small planned trusted height tree = omega (arith, small, ap (λ (k : Key). k.version) (planned trusted height tree).key)

-- where not fewer pages are spare, so many are
pub spare_enough : (free : ℕ) → (free < 8 → ⊥) → 8 ≤ free
spare_enough free none = elim (cases_lt free 8) [ inl few ↦ absurd (none few) | inr enough ↦ enough ]

-- as many pages may be changed as before
pub changes_stay : {D : Type 0} (P : Ghosts D) {refusal : Option Refusal} (old now : D) → OnlyWalks P refusal old now → changes (P.step now) ≡ changes (P.step old)
changes_stay P old now walks = λ i. walks.most_changed i - length (walks.changed i)

-- ---- why none is entered

module _ {D : Type 0} (P : Ghosts D) (Untaken UsedUp Usable : Type 0) (free home_a : ℕ) (new : D) where
  abbrev None_for : Refusal → Type 0
  None_for r = RefusesFor (P.trusted new → (page : ℕ) × BarsTable (P.step new) page) Untaken UsedUp Usable free r

  outer_refuses : (r : Refusal) → IsOuter r → None_for r
  outer_refuses r outer = outer_cases None_for (λ s. tt) (λ a b. tt) tt r outer

  look_refuses : (f : TreeFault) → HasTreeCause (P.step new) (BreaksTable (P.step new).images) (BarsTable (P.step new)) f → None_for (refusal_in home_a f)
  look_refuses (Broken page) broken = inl (λ trusted. (page, inl broken))
  look_refuses (Pages r) cause = elim cause.1 [
    | inl outer ↦ outer_refuses r outer
    | inr bars ↦ subst None_for (sym bars.1) (inl (λ trusted. (bars.0, bars.2)))
  ]

  pub plan_refuses : {Absent Used : Type 0} → (Absent → UsedUp) → (Used → UsedUp) → (f : VersionFault) → FailsLook P new Absent Used f → None_for (plan_refusal home_a f)
  plan_refuses absent used (Table f) cause = look_refuses f cause
  plan_refuses absent used NoSuch none = inl (absent none)
  plan_refuses absent used VersionsUsedUp most = inl (used most)

  -- so it is behind the plan, where no number is left for what the pages have
  abbrev None_entered : TreeFault → Type 0
  None_entered f = None_for (enter_refusal f)

  edit_refuses : (f : TreeFault) → FailsTable P new f → None_entered f
  edit_refuses (Broken page) broken = inr (inl (λ trusted. (page, inl (broken trusted))))
  edit_refuses (Pages r) cause = elim cause.1 [
    | inl outer ↦ outer_cases (λ x. None_entered (Pages x)) (λ s. tt) (λ a b. tt) tt r outer
    | inr bars ↦ subst (λ (x : Refusal). None_entered (Pages x)) (sym bars.1) (inr (inl (λ trusted. (bars.0, bars.2 trusted))))
  ]

  pub enter_refuses : (f : TreeFault) → FailsSpare P free new f → ((f ≡ Pages (Why.NameTableFull free)) → free < 8) → Usable → None_entered f
  enter_refuses f (inl cause) full usable = edit_refuses f cause
  enter_refuses f (inr none) full usable = subst (λ (x : TreeFault). None_entered x) (sym none.0) (refl, full none.0, usable)

  -- versions that are to go are not taken, each alone
  pub gone_refuse : (map : Area) (w : Waits) (gone : List Leaving) (r : Refusal) → TellsUntaken home_a map w gone r → Untaken → None_for r
  gone_refuse map w gone (Why.Unsound s) tells untaken = inr untaken
  gone_refuse map w gone Why.VersionsUsedUp tells untaken = inr (inr untaken)
  gone_refuse map w gone other tells untaken = absurd tells

pub outer_entered : (f : TreeFault) → outer_refusal (enter_refusal f) ≡ outer_of f
outer_entered (Pages (Why.Unsound s)) = refl
outer_entered (Pages other) = refl
outer_entered (Broken page) = refl

pub outer_planned : (home_a : ℕ) (f : VersionFault) → outer_refusal (plan_refusal home_a f) ≡ outside_in f
outer_planned home_a (Table (Pages refusal)) = refl
outer_planned home_a (Table (Broken page)) = refl
outer_planned home_a NoSuch = refl
outer_planned home_a VersionsUsedUp = refl

pub outer_untaken : (home_a : ℕ) (map : Area) (w : Waits) (gone : List Leaving) (r : Refusal) → TellsUntaken home_a map w gone r → outer_refusal r ≡ None
outer_untaken home_a map w gone (Why.Unsound s) tells = refl
outer_untaken home_a map w gone Why.VersionsUsedUp tells = refl
outer_untaken home_a map w gone other tells = absurd tells

-- ---- what shows it

module _ {D : Type 0} (P : Ghosts D) (map : Area) (w : Waits) (name : List ℕ) (home_a : ℕ) (old new : D) where
  abbrev Shows_for : Refusal → Type 0
  Shows_for r = ShowsRefusal P map w name home_a old new r

  -- a look-up's fault
  look_shows : (f : TreeFault) → HasTreeCause (P.step new) (BreaksTable (P.step new).images) (BarsTable (P.step new)) f → ShowsCause (P.step new) BreaksTable IsOnWay f → (r : Refusal) → r ≡ refusal_in home_a f → Shows_for r
  look_shows f cause shown (Why.Unsound s) is = inl (f, sym is, cause, shown)
  look_shows f cause shown other is = tt

  pub plan_shows : (f : VersionFault) (Absent UsedUp : Type 0) → FailsLook P new Absent UsedUp f → ShowsLook (P.step new) f → Shows_for (plan_refusal home_a f)
  plan_shows (Table f) Absent UsedUp cause shown = look_shows f cause shown (refusal_in home_a f) refl
  plan_shows NoSuch Absent UsedUp cause shown = tt
  plan_shows VersionsUsedUp Absent UsedUp cause shown = tt

-- a version that goes
pub gone_shows : (home_a : ℕ) (map : Area) (w : Waits) (gone : List Leaving) (r : Refusal) → TellsUntaken home_a map w gone r → ShowsUntaken home_a map w gone r
gone_shows home_a map w gone (Why.Unsound s) tells = tells
gone_shows home_a map w gone other tells = tt

-- a fault of the entry tells no place
pub enter_shows : (home_a : ℕ) (map : Area) (w : Waits) (gone : List Leaving) (f : TreeFault) → ShowsUntaken home_a map w gone (enter_refusal f)
enter_shows home_a map w gone (Pages (Why.Unsound s)) = tt
enter_shows home_a map w gone (Pages other) = tt
enter_shows home_a map w gone (Broken page) = tt

-- ---- another reading of it

pub refuses_so : {A B C E A' B' C' E' : Type 0} (free free' : ℕ) → free ≡ free' → (A → A') → (B → B') → (C → C') → (E → E') → (r : Refusal) → RefusesFor A B C E free r → RefusesFor A' B' C' E' free' r
refuses_so free free' same a b c e (Why.Device s) h = tt
refuses_so free free' same a b c e (Why.Lost x y) h = tt
refuses_so free free' same a b c e Why.Memory h = tt
refuses_so free free' same a b c e (Why.Unsound s) (inl h) = inl (a h)
refuses_so free free' same a b c e (Why.Unsound s) (inr h) = inr (b h)
refuses_so free free' same a b c e Why.VersionsUsedUp (inl h) = inl (c h)
refuses_so free free' same a b c e Why.VersionsUsedUp (inr (inl h)) = inr (inl (a h))
refuses_so free free' same a b c e Why.VersionsUsedUp (inr (inr h)) = inr (inr (b h))
refuses_so free free' same a b c e (Why.NameTableFull n) h = (h.0 ∙ same, h.1, e h.2)
refuses_so free free' same a b c e other h = h

-- ---- behind a plan

-- the versions that go and were met
pub met_shows : {D : Type 0} (P : Ghosts D) (law : Joins P) (map : Area) (w : Waits) (name : List ℕ) (home_a : ℕ) (old now new : D) (gone : List Leaving) (r : Refusal) → OnlyWalks P (outer_refusal r) now new
    → AllByRecursion (IsMetBetween P name old now) gone → ShowsUntaken home_a map w gone r → ShowsRefusal P map w name home_a old new r
met_shows P law map w name home_a old now new gone (Why.Unsound s) walks met tells =
    inr (tells.0, All-contains (IsMetBetween P name old new) gone tells.0 (All-from_recursion (IsMetBetween P name old new) gone (met_later P law name old now new gone walks met)) tells.1, tells.2, tells.3)
met_shows P law map w name home_a old now new gone other walks met tells = tt

pub refused_behind : {D : Type 0} (P : Ghosts D) (law : Joins P) (map : Area) (w : Waits) (name : List ℕ) (UsedUp : List Entry → Type 0) (home_a : ℕ) (old now new : D) (gone : List Leaving) (r : Refusal) → OnlyWalks P None old now
    → AllByRecursion (IsMetBetween P name old now) gone → (P.trusted now → (height : ℕ) → IsTree (P.step old).images height → (keys : List Key) × (entries_left gone ≡ entries_at keys (table_of (P.step old).images height)))
    → OfTable P old now (λ table. (next_key name table).version ≤ max_u32) → RefusesPlanned P map w home_a gone now new r → RefusesAt P map w name UsedUp home_a old new r
refused_behind P law map w name UsedUp home_a old now new gone r walks met lost usable refuses = record {
  kept = walks_then P law old now new walks refuses.kept;
  fault = refuses_so (spare_count (P.step now)) (spare_count (P.step old)) (ap (λ (f : List Bool). count_by (λ spare. spare) f) walks.spares) (λ barred. barred)
      (λ untaken trusted height tree. let at = lost (refuses.kept.trust trusted) height tree in (at.0, gone, at.1, untaken)) (λ none. absurd none) (λ any trusted. usable (refuses.kept.trust trusted)) r refuses.fault;
  shown = met_shows P law map w name home_a old now new gone r refuses.kept met refuses.shown;
}

pub made_behind : {D : Type 0} (P : Ghosts D) (map : Area) (w : Waits) (gone : List Leaving) (edit : List Entry → List Entry) (old now new : D) → OnlyWalks P None old now → (P.trusted new → P.trusted now) → EntersPlanned P map w gone edit now new → EntersPlanned P map w gone edit old new
made_behind P map w gone edit old now new walks trust made = record {
  taken = made.taken;
  room = subst (λ (n : ℕ). 8 ≤ n) (ap (λ (f : List Bool). count_by (λ spare. spare) f) walks.spares) made.room;
  entered = makes_before P old now walks new edit trust made.entered;
}

-- ---- what is told, of a result

pub refused_walks : {D T : Type 0} (P : Ghosts D) (map : Area) (w : Waits) (name : List ℕ) (UsedUp : List Entry → Type 0) (home_a : ℕ) (old new : D) (r : Result T Refusal)
    → IfErr r (RefusesAt P map w name UsedUp home_a old new) → OnErr r (OnlyWalks P (outer_in r) old new)
refused_walks P map w name UsedUp home_a old new (Ok x) refuses = tt
refused_walks P map w name UsedUp home_a old new (Err why) refuses = refuses.kept

pub refused_each : {D T : Type 0} {P : Ghosts D} {map : Area} {w : Waits} {name : List ℕ} {UsedUp : List Entry → Type 0} {home_a : ℕ} {old new : D} {Is : Refusal → Type 0} (r : Result T Refusal)
    → ((why : Refusal) → RefusesAt P map w name UsedUp home_a old new why → Is why) → IfErr r (RefusesAt P map w name UsedUp home_a old new) → IfErr r Is
refused_each (Ok x) is refuses = tt
refused_each (Err why) is refuses = is why refuses

pub entered_each : {D F : Type 0} {P : Ghosts D} {map : Area} {w : Waits} {name : List ℕ} {given : Option ℕ} {draft : Entry} {old new : D} {Is : Plan → Type 0} (r : Result Plan F)
    → ((plan : Plan) → EntersAt P map w name given draft old new plan → Is plan) → IfOk r (EntersAt P map w name given draft old new) → IfOk r Is
entered_each (Ok plan) is enters = is plan enters
entered_each (Err why) is enters = tt

-- why it is refused, in a cache
pub record NoneIn {D E : Type 0} (M : MachineGhosts D) (S : SourceGhosts E) (source : E) (Untaken UsedUp Usable : Type 0) (m m' : D) (old new : CacheValue) (free flags : List Bool) (refusal : Refusal) : Type 0 where
  pub cause : RefusesFor (IsTrusted M S source m old m' → (page : ℕ) × BarsPages (images_by M S source m' new (length flags)) flags page) Untaken UsedUp Usable (count_by (λ spare. spare) free) refusal

-- and put together, in a cache
module _ {D E : Type 0} (M : MachineGhosts D) (S : SourceGhosts E) (source : E) (map : Area) (w : Waits) (name : List ℕ) (m m' : D) (old new : CacheValue) (free flags : List Bool) where
  pub enters_in : {F : Type 0} (given : Option ℕ) (draft : Entry) (r : Result Plan F) → IfOk r (λ plan. plan.key.name ≡ name) → IfOk r (λ plan. OfTableIn M S source m m' old free (λ table. IsPlan name given table plan))
      → IfOk r (λ plan. AreInTurn map w [] plan.gone.items) → IfOk r (λ plan. 8 ≤ count_by (λ spare. spare) free)
      → IfOk r (λ plan. EditsTable M S source m m' old new free flags (with_planned plan (planned_entry plan draft.serial draft.length draft.runs))) → IfOk r (EntersIn M S source map w name given draft m m' old new free flags)
  enters_in given draft (Ok plan) name_is planned taken full made = record { name_is = name_is; planned = planned; taken = taken; full = full; made = made }
  enters_in given draft (Err why) name_is planned taken full made = tt

  pub refuses_in : {T : Type 0} (home_a : ℕ) (r : Result T Refusal) → OnErr r (StaysInCache M S source m m' old new free flags) → OnErr r (LooksOnly M S source (outer_in r) m m' old new free)
      → IfErr r (NoneIn M S source (OfTableIn M S source m m' old free (LosesUntaken map w)) (OfTableIn M S source m m' old free (HasNoNumber name)) (OfTableIn M S source m m' old free (λ table. (next_key name table).version ≤ max_u32)) m m' old new free flags)
      → IfErr r (ShowsUnsound M S source map w m m' old new free home_a) → IfErr r (RefusesIn M S source map w name m m' old new free flags home_a)
  refuses_in home_a (Ok x) kept looks fault shown = tt
  refuses_in home_a (Err why) kept looks fault shown = record { kept = kept; looks = looks; fault = record { cause = fault.cause }; shown = shown }
