-- A version that is loaded into a table over a cache, under a key of its own, and why none is.
use Rattle.std.specs.Prelude.{◌≡◌, ℕ, ◌≤◌, Bool, List, None, Some, length, count_by}
use Rattle.fsd_bytes.specs.declared.key.Key.{Key}
use Rattle.fsd_bytes.specs.declared.refusal.Refusal.{Refusal}
use Rattle.sector_set.specs.Area.{Area}
use Rattle.sector_disk.specs.declared.machine.Machine.{Ghosts as MachineGhosts}
use Rattle.shadow_frees.specs.Waits.{Waits}
use Rattle.fsd_formats.specs.declared.entry.Entry.{Entry}
use Rattle.fsd_files.specs.Answers.{entry_of, entry_put}
use Rattle.name_page.specs.declared.pages.Pages.{Ghosts}
use Rattle.name_page.specs.Looks.{OnlyWalks}
use Rattle.name_page.specs.Pages.{outer_refusal, spare_count}
use Rattle.name_btree.specs.Fault.{BarsTable}
use Rattle.version_table.specs.Table.{MakesTable, OfTable}
use Rattle.name_btree.specs.declared.lookup.FoundEntry.{FoundEntry}
use Rattle.page_cache.specs.declared.source.PageSource.{Ghosts as SourceGhosts}
use Rattle.page_cache.specs.Cache.{CacheValue}
use Rattle.table_pages.specs.Bringing.{IsTrusted}
use Rattle.cached_table.specs.Editing.{EditsTable, StaysInCache}
use Rattle.cached_table.specs.Entering.{OfTableIn, RefusesFor, ShowsRefusal, ShowsUnsound}
use Rattle.cached_table.specs.Finding.{IsFoundIn}
use Rattle.cached_table.specs.Looking.{BarsPages, LooksOnly, images_by}

-- the entry of a version with this key and keep, and with the serial, the bytes and the runs of a draft
abbrev pub entry_drafted : Key → (keep : ℕ) → Entry → Entry
entry_drafted key keep draft = record draft { key = key; keep = keep }

module _ {D E : Type 0} (M : MachineGhosts D) (S : SourceGhosts E) (source : E) where
  -- The table has had no version of this key, and has one then.
  pub record LoadsIn (key : Key) (keep : ℕ) (draft : Entry) (m m' : D) (old new : CacheValue) (free flags : List Bool) : Type 0 where
    pub absent : OfTableIn M S source m m' old free (λ table. entry_of key table ≡ None)
    pub full : 8 ≤ count_by (λ spare. spare) free
    pub made : EditsTable M S source m m' old new free flags (entry_put (entry_drafted key keep draft))

  -- Pages were reached, and nothing else: a version of the key was met in its leaf.
  pub record LoadsThere (key : Key) (m m' : D) (old new : CacheValue) (free flags : List Bool) : Type 0 where
    pub kept : StaysInCache M S source m m' old new free flags
    pub looks : LooksOnly M S source None m m' old new free
    pub found : FoundEntry
    pub told : IsFoundIn new (length free) (λ e. e.key ≡ key) found
    pub there : OfTableIn M S source m m' old free (λ table. entry_of key table ≡ Some found.entry)

  -- Pages were reached, and nothing else, until it was refused, from outside, or since a page breaks the table, or is
  -- spare and reached, or too few pages are spare for a version of the key, which the table lacks.
  pub record LoadsNone (key : Key) (map : Area) (w : Waits) (m m' : D) (old new : CacheValue) (free flags : List Bool) (home_a : ℕ) (refusal : Refusal) : Type 0 where
    pub kept : StaysInCache M S source m m' old new free flags
    pub looks : LooksOnly M S source (outer_refusal refusal) m m' old new free
    pub fault : RefusesFor (IsTrusted M S source m old m' → (page : ℕ) × BarsPages (images_by M S source m' new (length flags)) flags page) ⊥ ⊥ (OfTableIn M S source m m' old free (λ table. entry_of key table ≡ None))
        (count_by (λ spare. spare) free) refusal
    pub shown : ShowsUnsound M S source map w m m' old new free home_a refusal

-- ---- over any pages

-- The table has had no version of this key, and has one then.
pub record LoadsAt {D : Type 0} (P : Ghosts D) (key : Key) (keep : ℕ) (draft : Entry) (old new : D) : Type 0 where
  pub absent : OfTable P old new (λ table. entry_of key table ≡ None)
  pub room : 8 ≤ spare_count (P.step old)
  pub made : MakesTable P old new (entry_put (entry_drafted key keep draft))

-- Pages were reached, and nothing else, until it was refused, for a cause; what was reached shows it.
pub record RefusesLoad {D : Type 0} (P : Ghosts D) (key : Key) (map : Area) (w : Waits) (home_a : ℕ) (old new : D) (refusal : Refusal) : Type 0 where
  pub kept : OnlyWalks P (outer_refusal refusal) old new
  pub fault : RefusesFor (P.trusted new → (page : ℕ) × BarsTable (P.step new) page) ⊥ ⊥ (OfTable P old new (λ table. entry_of key table ≡ None)) (spare_count (P.step old)) refusal
  pub shown : ShowsRefusal P map w key.name home_a old new refusal
