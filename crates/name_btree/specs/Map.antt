-- The table as a map.
use Rattle.std.specs.Prelude.{◌≡◌, ℕ, ◌<◌, not, List, [], ◌∷◌, length}
use Rattle.run_table.specs.Space.{contains}
use Rattle.fsd_bytes.specs.declared.key.Key.{Key}
use Rattle.fsd_formats.specs.declared.entry.Entry.{Entry}
use Rattle.fsd_forest.specs.Forest.{Exchange}
use Rattle.fsd_table.specs.Tree.{table_of, pages_of, IsTree}
use Rattle.name_page.specs.Edits.{without}
use Rattle.name_page.specs.Pages.{Step, is_spare}
use Rattle.name_btree.specs.declared.draft.Draft.{Draft}
use Rattle.name_btree.specs.Draft.{drafted}

-- a tree, and all pages beside it are spare
pub record IsTable (s : Step) (height : ℕ) : Type 0 where
  pub tree : IsTree s.images height
  pub spare : (page : ℕ) → page < length s.images → is_spare s.spares page ≡ not (contains (pages_of s.images height) page)

-- the table of some height
pub record HasTable (s : Step) (table : List Entry) : Type 0 where
  pub height : ℕ
  pub is : IsTable s height
  pub table_is : table_of s.images height ≡ table

-- a table without some keys
abbrev pub without_all : List Key → List Entry → List Entry
without_all [] table = table
without_all (key ∷ keys) table = without_all keys (without key table)

-- a tree without some keys, whose pages that went are to be spare
pub record HasLeft (images : List (List ℕ)) (d : Draft) (keys : List Key) (height : ℕ) : Type 0 where
  pub height_after : ℕ
  pub went : List ℕ
  pub tree : IsTree (drafted d.sheets.items images) height_after
  pub table : table_of (drafted d.sheets.items images) height_after ≡ without_all keys (table_of images height)
  pub pages_are : Exchange (pages_of images height) (pages_of (drafted d.sheets.items images) height_after) [] went
  pub freed : (page : ℕ) → contains d.freed.items page ≡ contains went page

abbrev pub LeavesTree : List (List ℕ) → Draft → List Key → Type 0
LeavesTree images d keys = (height : ℕ) → IsTree images height → HasLeft images d keys height
