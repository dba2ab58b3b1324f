-- What holds of the table, and what becomes of it, where its pages are trusted.
use Rattle.std.specs.Prelude.{ℕ, List}
use Rattle.fsd_formats.specs.declared.entry.Entry.{Entry}
use Rattle.fsd_table.specs.Tree.{IsTree, table_of}
use Rattle.name_btree.specs.Map.{IsTable, HasTable}
use Rattle.name_page.specs.declared.pages.Pages.{Ghosts}

module _ {D : Type 0} (P : Ghosts D) (old new : D) where
  -- this holds of the table that there was
  abbrev pub OfTable : (List Entry → Type 0) → Type 0
  OfTable Holds = P.trusted new → (height : ℕ) → IsTree (P.step old).images height → Holds (table_of (P.step old).images height)

  -- it becomes what this makes of it
  abbrev pub MakesTable : (List Entry → List Entry) → Type 0
  MakesTable edit = P.trusted new → (height : ℕ) → IsTable (P.step old) height → HasTable (P.step new) (edit (table_of (P.step old).images height))
