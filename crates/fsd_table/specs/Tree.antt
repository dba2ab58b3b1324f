-- A table level by level: its leaves stand on level 0, and page 0 on the highest.
use Rattle.std.specs.Prelude.{ℕ, zero, suc, ◌-◌, ◌≤◌, List, [], ◌∷◌, Option, Some, IsTrue}
use Rattle.std.specs.List.{flat_map, AllByRecursion}
use Rattle.run_table.specs.Space.{all_differ}
use Rattle.fsd_formats.specs.declared.entry.Entry.{Entry}
use Rattle.fsd_formats.specs.NamePage.{Content, Leaf, Interior}
use Rattle.fsd_table.specs.declared.child.Child.{Child}
use Rattle.fsd_table.specs.Pages.{page_at, children_of, children, entries_of, keys_fit, entry_keys, separator_keys}
use Rattle.fsd_table.specs.Table.{max_height, top}

-- ---- what is reached from a page of a level

-- the entries of the leaves, in order
abbrev pub entries_below : (level : ℕ) → List (List ℕ) → Child → List Entry
entries_below zero pages c = entries_of (page_at pages c.page)
entries_below (suc level) pages c = flat_map (entries_below level pages) (children_of c.low c.high (page_at pages c.page))

-- the page, and those below it
abbrev pub pages_below : (level : ℕ) → List (List ℕ) → Child → List ℕ
pages_below zero pages c = c.page ∷ []
pages_below (suc level) pages c = c.page ∷ flat_map (pages_below level pages) (children_of c.low c.high (page_at pages c.page))

-- ---- a tree

-- a leaf, whose keys stand between the child's
abbrev pub IsLeaf : Child → Option Content → Type 0
IsLeaf c (Some (Leaf entries)) = IsTrue (keys_fit c.low c.high (entry_keys entries))
IsLeaf c other = ⊥

-- an interior page, whose keys stand between the child's, and whose own children are as said
abbrev pub IsInterior : (Child → Type 0) → Child → Option Content → Type 0
IsInterior P c (Some (Interior first separators)) = IsTrue (keys_fit c.low c.high (separator_keys separators)) × AllByRecursion P (children first c.low c.high separators)
IsInterior P c other = ⊥

-- all leaves so many levels below, and each page between its keys
abbrev pub IsSubtree : (level : ℕ) → List (List ℕ) → Child → Type 0
IsSubtree zero pages c = IsLeaf c (page_at pages c.page)
IsSubtree (suc level) pages c = IsInterior (IsSubtree level pages) c (page_at pages c.page)

-- a tree of so many levels, which reaches no page twice
pub record IsTree (pages : List (List ℕ)) (height : ℕ) : Type 0 where
  pub least : 1 ≤ height
  pub most : height ≤ max_height
  pub subtree : IsSubtree (height - 1) pages top
  pub apart : IsTrue (all_differ (pages_below (height - 1) pages top))

-- ---- its entries

abbrev pub table_of : List (List ℕ) → (height : ℕ) → List Entry
table_of pages height = entries_below (height - 1) pages top

abbrev pub pages_of : List (List ℕ) → (height : ℕ) → List ℕ
pages_of pages height = pages_below (height - 1) pages top
