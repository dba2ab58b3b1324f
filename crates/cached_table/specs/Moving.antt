-- A version that moves to another name in a table over a cache.
use Rattle.std.specs.Prelude.{◌≡◌, ◌⊎◌, ℕ, ◌<◌, ◌≤◌, Bool, List, [], ◌∷◌, None, count_by, length}
use Rattle.fsd_bytes.specs.Keys.{max_u32}
use Rattle.fsd_bytes.specs.declared.key.Key.{Key}
use Rattle.fsd_bytes.specs.declared.refusal.Refusal.{Refusal}
use Rattle.fsd_files.specs.Answers.{entry_of}
use Rattle.sector_set.specs.Area.{Area}
use Rattle.sector_disk.specs.declared.machine.Machine.{Ghosts as MachineGhosts}
use Rattle.shadow_frees.specs.Waits.{Waits}
use Rattle.fsd_formats.specs.declared.entry.Entry.{Entry}
use Rattle.name_page.specs.declared.pages.Pages.{Ghosts}
use Rattle.name_page.specs.Pages.{outer_refusal}
use Rattle.page_cache.specs.declared.source.PageSource.{Ghosts as SourceGhosts}
use Rattle.page_cache.specs.Cache.{CacheValue}
use Rattle.table_pages.specs.Bringing.{IsTrusted}
use Rattle.version_table.specs.declared.oldest.Leaving.{Leaving}
use Rattle.version_table.specs.declared.planning.Plan.{Plan}
use Rattle.version_table.specs.Moving.{IsMovePlan}
use Rattle.version_table.specs.Plan.{planned_entry, with_planned}
use Rattle.version_table.specs.Table.{OfTable}
use Rattle.version_table.specs.Versions.{next_key}
use Rattle.cached_table.specs.Editing.{EditsTable, StaysInCache}
use Rattle.cached_table.specs.Entering.{AreInTurn, EntersPlanned, HasNoNumber, LosesUntaken, OfTableIn, RefusesFor, ShowsUnsound}
use Rattle.cached_table.specs.Looking.{BarsPages, LooksOnly, images_by}

-- the name has no number left, or the table no version of this key
abbrev pub LacksNumber : (key : Key) → (name : List ℕ) → List Entry → Type 0
LacksNumber key name table = HasNoNumber name table ⊎ (entry_of key table ≡ None)

-- A move of a version is planned and made, with its serial, length and runs; what else goes has taken sectors.
pub record MovesAt {D : Type 0} (P : Ghosts D) (map : Area) (w : Waits) (key : Key) (name : List ℕ) (old new : D) (plan : Plan) : Type 0 where
  pub name_is : plan.key.name ≡ name
  pub moved : Leaving
  pub others : List Leaving
  pub goes : plan.gone.items ≡ moved ∷ others
  pub of_key : moved.entry.key ≡ key
  pub planned : OfTable P old new (λ table. IsMovePlan key name table plan)
  pub made : EntersPlanned P map w others (with_planned plan (planned_entry plan moved.entry.serial moved.entry.length moved.entry.runs)) old new

module _ {D E : Type 0} (M : MachineGhosts D) (S : SourceGhosts E) (source : E) where
  -- A version of this key comes under the name's next one, with its serial, length and runs; what else goes has taken
  -- sectors.
  pub record MovesIn (map : Area) (w : Waits) (key : Key) (name : List ℕ) (m m' : D) (old new : CacheValue) (free flags : List Bool) (plan : Plan) : Type 0 where
    pub name_is : plan.key.name ≡ name
    pub moved : Leaving
    pub others : List Leaving
    pub goes : plan.gone.items ≡ moved ∷ others
    pub of_key : moved.entry.key ≡ key
    pub planned : OfTableIn M S source m m' old free (λ table. IsMovePlan key name table plan)
    pub taken : AreInTurn map w [] others
    pub full : 8 ≤ count_by (λ spare. spare) free
    pub made : EditsTable M S source m m' old new free flags (with_planned plan (planned_entry plan moved.entry.serial moved.entry.length moved.entry.runs))

  -- Why it does not. It comes behind a look-up of the version: a table that has none of the key has no number left for it.
  abbrev pub NoneMoves : Area → Waits → (key : Key) → (name : List ℕ) → (m m' : D) → (old new : CacheValue) → (free flags : List Bool) → Refusal → Type 0
  NoneMoves map w key name m m' old new free flags = RefusesFor (IsTrusted M S source m old m' → (page : ℕ) × BarsPages (images_by M S source m' new (length flags)) flags page)
      (OfTableIn M S source m m' old free (LosesUntaken map w))
      (OfTableIn M S source m m' old free (λ table. (max_u32 < (next_key name table).version) ⊎ (entry_of key table ≡ None)))
      (OfTableIn M S source m m' old free (λ table. (next_key name table).version ≤ max_u32)) (count_by (λ spare. spare) free)

  pub record MovesNone (map : Area) (w : Waits) (key : Key) (name : List ℕ) (m m' : D) (old new : CacheValue) (free flags : List Bool) (home_a : ℕ) (refusal : Refusal) : Type 0 where
    pub kept : StaysInCache M S source m m' old new free flags
    pub looks : LooksOnly M S source (outer_refusal refusal) m m' old new free
    pub fault : NoneMoves map w key name m m' old new free flags refusal
    pub shown : ShowsUnsound M S source map w m m' old new free home_a refusal
