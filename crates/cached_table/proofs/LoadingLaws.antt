-- A version that is loaded over pages: what its entry needs and makes, and why none is.
use Rattle.std.proofs.Common.{◌≡◌, ℕ, Bool, true, false, List, [], map, None, ap, ◌∙◌, sym, subst}
use Rattle.std.specs.Prelude.{Result, Ok, Err, IfErr, OnErr, count_by}
use Rattle.fsd_bytes.specs.declared.key.Key.{Key}
use Rattle.fsd_bytes.specs.declared.refusal.Refusal.{Refusal}
use Rattle.fsd_files.specs.Answers.{entry_of, entry_put}
use Rattle.fsd_files.specs.Volume.{entries_without}
use Rattle.fsd_files.proofs.ListingLaws.{entries_without_none}
use Rattle.fsd_formats.specs.declared.entry.Entry.{Entry}
use Rattle.sector_set.specs.Area.{Area}
use Rattle.shadow_frees.specs.Waits.{Waits}
use Rattle.sector_disk.specs.declared.machine.Machine.{Ghosts as MachineGhosts}
use Rattle.page_cache.specs.declared.source.PageSource.{Ghosts as SourceGhosts}
use Rattle.page_cache.specs.Cache.{CacheValue}
use Rattle.name_page.specs.declared.pages.Pages.{Ghosts}
use Rattle.name_page.specs.Looks.{OnlyWalks}
use Rattle.name_page.specs.Pages.{outer_in, spare_count}
use Rattle.name_page.proofs.LookLaws.{Joins, walks_then}
use Rattle.name_btree.specs.Fault.{BarsTable}
use Rattle.name_btree.specs.Map.{HasTable}
use Rattle.fsd_table.specs.Tree.{table_of}
use Rattle.version_table.specs.declared.oldest.Leaving.{Leaving}
use Rattle.version_table.specs.declared.planning.Plan.{Plan}
use Rattle.version_table.specs.Loading.{IsLoadPlan}
use Rattle.version_table.specs.Plan.{key_left, planned_entry, with_planned}
use Rattle.version_table.specs.Table.{OfTable}
use Rattle.cached_table.specs.Editing.{StaysInCache}
use Rattle.cached_table.specs.Entering.{EntersPlanned, OfTableIn, RefusesFor, RefusesPlanned, ShowsRefusal, ShowsUnsound}
use Rattle.cached_table.specs.Loading.{LoadsAt, LoadsNone, RefusesLoad, entry_drafted}
use Rattle.cached_table.specs.Looking.{LooksOnly}
use Rattle.cached_table.proofs.EnteringLaws.{NoneIn, made_behind, met_shows, refuses_so}

-- ---- what a plan makes

module _ {D : Type 0} {P : Ghosts D} {key : Key} {keep : ℕ} {old new : D} {plan : Plan} (planned : IsLoadPlan P key keep old new plan) (draft : Entry) where
  -- the entry is the draft's, under the key and the keep
  pub drafted : planned_entry plan draft.serial draft.length draft.runs ≡ entry_drafted key keep draft
  drafted = ap (λ (k : Key). entry_drafted k plan.keep draft) planned.key_given ∙ ap (λ (n : ℕ). entry_drafted key n draft) planned.keep_given

  -- no version of the key is there
  pub absent_by : OfTable P old new (λ table. entry_of key table ≡ None)
  absent_by trusted height tree = ap (λ (k : Key). entry_of k (table_of (P.step old).images height)) (sym planned.key_given) ∙ (planned.ready trusted height tree).fresh

  -- it comes, and nothing goes
  pub loaded : (table : List Entry) → with_planned plan (planned_entry plan draft.serial draft.length draft.runs) table ≡ entry_put (entry_drafted key keep draft) table
  loaded table =
      let e = planned_entry plan draft.serial draft.length draft.runs in
      ap (λ (gone : List Leaving). entries_without (map key_left gone) (entry_put e table)) planned.none_goes ∙ entries_without_none (entry_put e table) ∙ ap (λ (x : Entry). entry_put x table) drafted

pub loads_behind : {D : Type 0} (P : Ghosts D) (map : Area) (w : Waits) (key : Key) (keep : ℕ) (draft : Entry) (old now new : D) (plan : Plan) → IsLoadPlan P key keep old now plan → OnlyWalks P None old now → (P.trusted new → P.trusted now)
    → EntersPlanned P map w [] (with_planned plan (planned_entry plan draft.serial draft.length draft.runs)) now new → LoadsAt P key keep draft old new
loads_behind P map w key keep draft old now new plan planned walks trust entered =
    let made = made_behind P map w [] (with_planned plan (planned_entry plan draft.serial draft.length draft.runs)) old now new walks trust entered in
    record {
      absent = λ trusted. absent_by planned draft (trust trusted);
      room = made.room;
      made = λ trusted height table. subst (HasTable (P.step new)) (loaded planned draft (table_of (P.step old).images height)) (made.entered trusted height table);
    }

-- ---- why it is refused behind the plan

pub refused_load : {D : Type 0} (P : Ghosts D) (law : Joins P) (map : Area) (w : Waits) (key : Key) (home_a : ℕ) (old now new : D) (r : Refusal) → OnlyWalks P None old now → OfTable P old now (λ table. entry_of key table ≡ None)
    → RefusesPlanned P map w home_a [] now new r → RefusesLoad P key map w home_a old new r
refused_load P law map w key home_a old now new r walks absent refuses = record {
  kept = walks_then P law old now new walks refuses.kept;
  fault = refuses_so (spare_count (P.step now)) (spare_count (P.step old)) (ap (λ (f : List Bool). count_by (λ spare. spare) f) walks.spares) (λ barred. barred) (λ untaken. untaken tt) (λ none. none)
      (λ any trusted. absent (refuses.kept.trust trusted)) r refuses.fault;
  shown = met_shows P law map w key.name home_a old now new [] r refuses.kept tt refuses.shown;
}

-- ---- what is told, of a result

-- one that did not come is not told as come
pub false_told : {F : Type 0} → ◌≡◌ {A = Result Bool F} (Ok false) (Ok true) → ⊥
false_told is = cc is

module _ {D T : Type 0} (P : Ghosts D) (key : Key) (map : Area) (w : Waits) (home_a : ℕ) (old new : D) where
  pub refusal_walks : (r : Result T Refusal) → IfErr r (RefusesLoad P key map w home_a old new) → OnErr r (OnlyWalks P (outer_in r) old new)
  refusal_walks (Ok x) refuses = tt
  refusal_walks (Err why) refuses = refuses.kept

  pub refusal_fault : (r : Result T Refusal) → IfErr r (RefusesLoad P key map w home_a old new)
      → IfErr r (RefusesFor (P.trusted new → (page : ℕ) × BarsTable (P.step new) page) ⊥ ⊥ (OfTable P old new (λ table. entry_of key table ≡ None)) (spare_count (P.step old)))
  refusal_fault (Ok x) refuses = tt
  refusal_fault (Err why) refuses = refuses.fault

  pub refusal_shown : (r : Result T Refusal) → IfErr r (RefusesLoad P key map w home_a old new) → IfErr r (ShowsRefusal P map w key.name home_a old new)
  refusal_shown (Ok x) refuses = tt
  refusal_shown (Err why) refuses = refuses.shown

-- and put together, in a cache
module _ {D E : Type 0} (M : MachineGhosts D) (S : SourceGhosts E) (source : E) (key : Key) (map : Area) (w : Waits) (m m' : D) (old new : CacheValue) (free flags : List Bool) where
  pub loads_none : {T : Type 0} (home_a : ℕ) (r : Result T Refusal) → OnErr r (StaysInCache M S source m m' old new free flags) → OnErr r (LooksOnly M S source (outer_in r) m m' old new free)
      → IfErr r (NoneIn M S source ⊥ ⊥ (OfTableIn M S source m m' old free (λ table. entry_of key table ≡ None)) m m' old new free flags)
      → IfErr r (ShowsUnsound M S source map w m m' old new free home_a) → IfErr r (LoadsNone M S source key map w m m' old new free flags home_a)
  loads_none home_a (Ok x) kept looks fault shown = tt
  loads_none home_a (Err why) kept looks fault shown = record { kept = kept; looks = looks; fault = fault.cause; shown = shown }
