-- What becomes of subtrees that stand side by side, as pages are changed:
-- others stand in their place, with edited entries.
use Rattle.std.specs.Prelude.{◌≡◌, ◌+◌, ℕ, true, false, List, ◌++◌, Some, map, count_by, ◌==◌, ⊤}
use Rattle.std.specs.List.{flat_map, AllByRecursion}
use Rattle.run_table.specs.Space.{contains}
use Rattle.fsd_bytes.specs.declared.key.Key.{Key}
use Rattle.fsd_bytes.specs.Keys.{key_lt}
use Rattle.fsd_formats.specs.declared.entry.Entry.{Entry}
use Rattle.fsd_table.specs.declared.child.Child.{Child}
use Rattle.fsd_table.specs.Pages.{page_at, children_of}
use Rattle.fsd_table.specs.Tree.{entries_below, pages_below, table_of, pages_of, IsInterior, IsSubtree, IsTree}

-- ---- side by side

abbrev pub heads : List Child → List ℕ
heads cs = map (λ c. c.page) cs

-- the children of pages that stand side by side
abbrev pub inner : List (List ℕ) → List Child → List Child
inner pages cs = flat_map (λ c. children_of c.low c.high (page_at pages c.page)) cs

abbrev pub forest_entries : (level : ℕ) → List (List ℕ) → List Child → List Entry
forest_entries level pages cs = flat_map (entries_below level pages) cs

abbrev pub forest_pages : (level : ℕ) → List (List ℕ) → List Child → List ℕ
forest_pages level pages cs = flat_map (pages_below level pages) cs

-- ---- pages

abbrev pub times_in : ℕ → List ℕ → ℕ
times_in page pages = count_by (λ q. q == page) pages

-- the same pages, but that some came and some went
abbrev pub Exchange : (old new came went : List ℕ) → Type 0
Exchange old new came went = (page : ℕ) → times_in page new + times_in page went ≡ times_in page old + times_in page came

-- all pages but these are as they were
abbrev pub Stay : (pages after : List (List ℕ)) → List ℕ → Type 0
Stay pages after ps = (q : ℕ) → contains ps q ≡ false → page_at after q ≡ page_at pages q

-- these pages are as they were
abbrev pub Keep : (pages after : List (List ℕ)) → List ℕ → Type 0
Keep pages after ps = (q : ℕ) → contains ps q ≡ true → page_at after q ≡ page_at pages q

-- no page is in both
abbrev pub Disjoint : List ℕ → List ℕ → Type 0
Disjoint xs ys = (p : ℕ) → contains xs p ≡ true → contains ys p ≡ false

-- ---- entries

-- what edits a table at a key leaves the entries before and behind it
abbrev pub IsLocal : Key → (List Entry → List Entry) → Type 0
IsLocal key edit =
    (left some right : List Entry) → AllByRecursion (λ e. key_lt e.key key ≡ true) left → AllByRecursion (λ e. key_lt key e.key ≡ true) right
    → edit (left ++ (some ++ right)) ≡ left ++ (edit some ++ right)

-- the keys below a child are before the key, or behind it
abbrev pub EndsUpTo : Key → Child → Type 0
EndsUpTo key c = (k : Key) × (c.high ≡ Some k) × (key_lt key k ≡ false)

abbrev pub BeginsBehind : Key → Child → Type 0
BeginsBehind key c = (k : Key) × (c.low ≡ Some k) × (key_lt key k ≡ true)

-- ---- what becomes of them

-- others stand in the place of some, with the edited entries below; some pages came and some went
pub record Becomes (edit : List Entry → List Entry) (pages after : List (List ℕ)) (came went : List ℕ) (level : ℕ) (old new : List Child) : Type 0 where
  pub subtrees : AllByRecursion (IsSubtree level after) new
  pub pages_are : Exchange (forest_pages level pages old) (forest_pages level after new) came went
  pub entries : forest_entries level after new ≡ edit (forest_entries level pages old)

-- a page whose keys fit, whatever stands below its children
abbrev pub IsAbove : List (List ℕ) → Child → Type 0
IsAbove pages c = IsInterior (λ d. ⊤) c (page_at pages c.page)

-- a tree with the edited table
pub record TreeBecomes (edit : List Entry → List Entry) (pages after : List (List ℕ)) (came went : List ℕ) (height : ℕ) : Type 0 where
  pub height_after : ℕ
  pub tree : IsTree after height_after
  pub table : table_of after height_after ≡ edit (table_of pages height)
  pub pages_are : Exchange (pages_of pages height) (pages_of after height_after) came went
