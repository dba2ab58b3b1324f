-- What a table tells: the entries of the leaves that paths from page 0 reach.
use Rattle.std.specs.Prelude.{◌≡◌, ℕ, zero, suc, ◌+◌, Bool, true, false, not, ◌&&◌, ◌||◌, List, [], ◌∷◌, length, Option, Some, None, nat_le, ◌==◌, if◌then◌else◌, count_by}
use Rattle.std.specs.List.{list_all, flat_map, Contains}
use Rattle.fsd_bytes.specs.declared.key.Key.{Key}
use Rattle.fsd_formats.specs.declared.entry.Entry.{Entry}
use Rattle.fsd_formats.specs.NamePage.{Content, kind_number}
use Rattle.fsd_table.specs.declared.child.Child.{Child}
use Rattle.fsd_table.specs.Pages.{page_at, children_of, entries_of, content_fits}

-- ---- the way through the pages

-- a page that a path from page 0 reaches: how deep, and between which keys
pub record Visit : Type 0 where
  pub page : ℕ
  pub depth : ℕ
  pub low : Option Key
  pub high : Option Key
  pub content : Option Content

-- a child that is reached so deep
abbrev pub visit_of : List (List ℕ) → (depth : ℕ) → Child → Visit
visit_of pages depth c = record { page = c.page; depth = depth; low = c.low; high = c.high; content = page_at pages c.page }

-- the page, and all below it, to a depth
abbrev pub visits_below : ℕ → List (List ℕ) → (depth : ℕ) → Child → List Visit
visits_below zero pages depth c = []
visits_below (suc levels) pages depth c = visit_of pages depth c ∷ flat_map (visits_below levels pages (depth + 1)) (children_of c.low c.high (page_at pages c.page))

abbrev pub max_height : ℕ
max_height = 6

-- page 0, where each path begins
abbrev pub top : Child
top = record { page = 0; low = None; high = None }

-- one level more than a table may have
unfoldable pub visits : List (List ℕ) → List Visit
visits pages = visits_below (suc max_height) pages 1 top

-- a path from page 0 reaches the child so deep
abbrev pub IsVisited : List (List ℕ) → (depth : ℕ) → Child → Type 0
IsVisited pages depth c = Contains (visits pages) (visit_of pages depth c)

-- ---- what breaks a table

-- the page by itself, and between the keys of those above it
abbrev pub visit_fits : Visit → Bool
visit_fits v = nat_le v.depth max_height && content_fits v.low v.high v.content

-- no other path reaches the page
abbrev pub alone : List Visit → Visit → Bool
alone all v = count_by (λ w. w.page == v.page) all == 1

-- a page that isn't read has no kind
abbrev pub kinds_agree : Option Content → Option Content → Bool
kinds_agree (Some a) (Some b) = kind_number a == kind_number b
kinds_agree a b = true

-- no page as deep is of another kind
abbrev pub same_kind : List Visit → Visit → Bool
same_kind all v = list_all (λ w. not (w.depth == v.depth) || kinds_agree w.content v.content) all

abbrev pub in_shape : List Visit → Visit → Bool
in_shape all v = visit_fits v && alone all v && same_kind all v

-- the page is reached so that it breaks the order of the keys or the shape of the table
pub record BreaksTable (pages : List (List ℕ)) (page : ℕ) : Type 0 where
  pub visit : Visit
  pub reached : Contains (visits pages) visit
  pub page_is : visit.page ≡ page
  pub broken : in_shape (visits pages) visit ≡ false

-- ---- what a table tells

-- its entries, and how many pages are reached
pub record Telling : Type 0 where
  pub entries : List Entry
  pub reached : ℕ

-- the telling of a table that is one leaf
abbrev pub one_leaf : List Entry → Telling
one_leaf entries = record { entries = entries; reached = 1 }

abbrev pub entries_in : List Visit → List Entry
entries_in all = flat_map (λ v. entries_of v.content) all

abbrev pub told_by : List Visit → Option Telling
told_by all = if list_all (in_shape all) all then Some (record { entries = entries_in all; reached = length all }) else None

-- what the pages tell, where none that is reached breaks the table
unfoldable pub told_in : List (List ℕ) → Option Telling
told_in pages = told_by (visits pages)
