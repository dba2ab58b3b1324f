-- One entry in place of another with the same key.
use Rattle.std.specs.Prelude.{◌≡◌, ◌<◌, ℕ, false, List, [], ◌∷◌, length, map, Option, Some, slice_set}
use Rattle.fsd_bytes.specs.declared.key.Key.{Key}
use Rattle.fsd_bytes.specs.declared.refusal.Refusal.{Refusal}
use Rattle.fsd_bytes.specs.declared.refusal.Refusal.TheVariants.{Memory}
use Rattle.fsd_formats.specs.declared.entry.Entry.{Entry}
use Rattle.fsd_formats.specs.NamePage.{Content, Leaf, entry_bytes}
use Rattle.fsd_table.specs.declared.child.Child.{Child}
use Rattle.fsd_table.specs.Pages.{page_at, entry_keys}
use Rattle.fsd_table.specs.Tree.{table_of, pages_of, IsTree}
use Rattle.fsd_forest.specs.Forest.{Exchange, Stay, IsLocal, Becomes}
use Rattle.name_page.specs.declared.pages.Pages.{Ghosts}
use Rattle.name_page.specs.Pages.{Step, is_spare, with_one, with_page}
use Rattle.name_page.specs.Edits.{put}
use Rattle.name_page.specs.Looks.{HasAllIn}
use Rattle.name_page.specs.declared.cut.Cut.{Cut}
use Rattle.name_page.specs.declared.cut.Cut.TheVariants.{UpTo}
use Rattle.name_page.specs.Lookups.{entry_with}
use Rattle.name_btree.specs.Descent.{FoundLeaf}
use Rattle.name_btree.specs.Map.{IsTable, HasTable}
use Rattle.name_btree.specs.Path.{HasWayTo}
use Rattle.name_btree.specs.Remove.{IsAround}

-- an entry with the key is there, and takes as many bytes
abbrev pub HasAsLong : Entry → List Entry → Type 0
HasAsLong entry table = (old : Entry) × (entry_with entry.key table ≡ Some old) × (length (entry_bytes old) ≡ length (entry_bytes entry))

-- another entry has the key, and takes as many bytes
pub record IsAsLong (entry old : Entry) : Type 0 where
  pub key : old.key ≡ entry.key
  pub long : length (entry_bytes old) ≡ length (entry_bytes entry)

-- what a page has was changed, and nothing else of the pages
pub record IsWritten (old new : Step) (page : ℕ) (x : Content) : Type 0 where
  pub bytes : List ℕ
  pub step : new ≡ with_page page bytes old
  pub content : page_at new.images page ≡ Some x
  pub others : (q : ℕ) → (q ≡ page → ⊥) → page_at new.images q ≡ page_at old.images q

-- one page was written, which was not spare
pub record WritesPage {D : Type 0} (P : Ghosts D) (old new : D) : Type 0 where
  pub page : ℕ
  pub bytes : List ℕ
  pub there : page < length (P.step old).images
  pub used : is_spare (P.step old).spares page ≡ false
  pub spares : (P.step new).spares ≡ (P.step old).spares
  pub changed : (P.step new).changed ≡ with_one (P.step old).changed page
  pub images : P.trusted new → (P.step new).images ≡ slice_set (P.step old).images page bytes

-- the leaf at a key: where its entries are edited at the key and keep their keys, and no other page changes, what
-- stands below the start is so edited
abbrev pub IsLeafAt : Cut → List (List ℕ) → (start : Child) → FoundLeaf → Type 0
IsLeafAt cut pages start found =
    (key : Key) (level : ℕ) → cut ≡ UpTo key → IsAround key pages level start
    → (edit : List Entry → List Entry) (after : List (List ℕ)) → IsLocal key edit → entry_keys (edit found.entries) ≡ entry_keys found.entries
    → page_at after found.page ≡ Some (Leaf (edit found.entries)) → Stay pages after (found.page ∷ []) → Becomes edit pages after [] [] level (start ∷ []) (start ∷ [])

-- a tree of the same height and the same pages, with an edited table
pub record HasEdit (edit : List Entry → List Entry) (pages after : List (List ℕ)) (height : ℕ) : Type 0 where
  pub tree : IsTree after height
  pub table : table_of after height ≡ edit (table_of pages height)
  pub pages_are : Exchange (pages_of pages height) (pages_of after height) [] []

-- of each tree, also beside pages that are not spare, comes one of the same height and pages, and of each table one, with
-- the entry in place of the one with its key
pub record ReplacesEntry {D : Type 0} (P : Ghosts D) (entry : Entry) (old new : D) : Type 0 where
  pub tree : P.trusted new → (height : ℕ) → IsTree (P.step old).images height → HasEdit (map (put entry)) (P.step old).images (P.step new).images height
  pub table : P.trusted new → (height : ℕ) → IsTable (P.step old) height → HasTable (P.step new) (map (put entry) (table_of (P.step old).images height))

-- no memory is wanting where the way to the entry, or each page that is not spare, is in memory
pub record NeedsNoneFor {D : Type 0} (P : Ghosts D) (entry : Entry) (refusal : Option Refusal) (old : D) : Type 0 where
  pub way : (other : Entry) → IsAsLong entry other → HasWayTo P other old → refusal ≡ Some Memory → ⊥
  pub all : HasAllIn P old → refusal ≡ Some Memory → ⊥
