-- The way to the leaf at a place between keys, and what stands left and right of it.
use Rattle.std.specs.Prelude.{◌≡◌, ℕ, zero, suc, ◌+◌, ◌<◌, IfSome, Bool, false, List, [], ◌∷◌, ◌++◌, Option, Some, None, if◌then◌else◌}
use Rattle.std.specs.List.{AllByRecursion, Contains}
use Rattle.fsd_bytes.specs.declared.key.Key.{Key}
use Rattle.name_page.specs.Cut.{IsLesser, AtLow, AtHigh}
use Rattle.fsd_formats.specs.declared.entry.Entry.{Entry}
use Rattle.fsd_formats.specs.declared.page.Separator.{Separator}
use Rattle.fsd_formats.specs.NamePage.{Interior}
use Rattle.fsd_table.specs.declared.child.Child.{Child}
use Rattle.fsd_table.specs.Pages.{page_at, children_of}
use Rattle.fsd_table.specs.Table.{max_height, top, IsVisited}
use Rattle.fsd_table.specs.Tree.{entries_below, IsSubtree}
use Rattle.fsd_forest.specs.Ways.{end_of}
use Rattle.name_btree.specs.declared.descent.Way.{Way}
use Rattle.name_btree.specs.declared.descent.Neighbour.{Neighbour}
use Rattle.name_btree.specs.declared.descent.LeafBelow.{LeafBelow}
use Rattle.name_page.specs.Pages.{Step, IsReached}

-- behind the last of the separators that stand before the place, with the nearest child on each side,
-- below so many pages
abbrev pub way_to : (Key → Bool) → (above : ℕ) → Option Neighbour → Option Neighbour → ℕ → Option Key → Option Key → List Separator → Way
way_to before above previous next first low high [] = record { child = record { page = first; low = low; high = high }; previous = previous; next = next }
way_to before above previous next first low high (s ∷ separators) =
    let c : Child = record { page = first; low = low; high = Some s.key } in
    let d : Child = record { page = s.child; low = Some s.key; high = end_of high separators } in
    if before s.key then way_to before above (Some (record { child = c; above = above })) next s.child (Some s.key) high separators
    else record { child = c; previous = previous; next = Some (record { child = d; above = above }) }

-- from a start, beside which nothing stands
abbrev pub way_from : Child → Way
way_from start = record { child = start; previous = None; next = None }

-- over interior pages that a step has reached the way to a place goes on, so many levels down
abbrev pub GoesDown : Step → (before : Key → Bool) → (levels above : ℕ) → Way → Way → Type 0
GoesDown s before zero above w end = w ≡ end
GoesDown s before (suc levels) above w end =
    IsReached s w.child.page × (first : ℕ) × (separators : List Separator) × (page_at s.images w.child.page ≡ Some (Interior first separators))
    × GoesDown s before levels (above + 1) (way_to before (above + 1) w.previous w.next first w.child.low w.child.high separators) end

-- a leaf, and the nearest children on each side of the way to it
pub record FoundLeaf : Type 0 where
  pub page : ℕ
  pub entries : List Entry
  pub previous : Option Neighbour
  pub next : Option Neighbour

abbrev pub with_beside : LeafBelow → Way → FoundLeaf
with_beside leaf w = record { page = leaf.page; entries = leaf.entries; previous = w.previous; next = w.next }

-- an interior page, so that other pages stand below it
abbrev pub HasChildren : List (List ℕ) → Child → Type 0
HasChildren pages start = (first : ℕ) × (separators : List Separator) × (page_at pages start.page ≡ Some (Interior first separators))

-- the entries right of a place begin with those below the next child
abbrev pub IsNext : List (List ℕ) → Child → Option Neighbour → List Entry → Type 0
IsNext pages start None right = right ≡ []
IsNext pages start (Some n) right =
    HasChildren pages start × ((level : ℕ) × (level < max_height) × IsSubtree level pages n.child × ((rest : List Entry) × (right ≡ entries_below level pages n.child ++ rest)))

-- those left of it end with those below the previous child
abbrev pub IsPrevious : List (List ℕ) → Child → Option Neighbour → List Entry → Type 0
IsPrevious pages start None left = left ≡ []
IsPrevious pages start (Some n) left =
    HasChildren pages start × ((level : ℕ) × (level < max_height) × IsSubtree level pages n.child × ((rest : List Entry) × (left ≡ rest ++ entries_below level pages n.child)))

-- some entries among those below a child, as they stand at a place between keys
pub record IsAt (before : Key → Bool) (pages : List (List ℕ)) (start : Child) (whole some : List Entry) (previous next : Option Neighbour) : Type 0 where
  pub left : List Entry
  pub right : List Entry
  pub parts : whole ≡ left ++ (some ++ right)
  pub lesser : AllByRecursion (IsLesser before) left
  pub greater : AllByRecursion (λ e. before e.key ≡ false) right
  pub previous_is : IsPrevious pages start previous left
  pub next_is : IsNext pages start next right

-- the leaf at a place
abbrev pub IsLeafOfPlace : (Key → Bool) → List (List ℕ) → Child → FoundLeaf → Type 0
IsLeafOfPlace before pages start found =
    (level : ℕ) → level < max_height → IsSubtree level pages start → IsAt before pages start (entries_below level pages start) found.entries found.previous found.next

-- the first and the last entry below a child
abbrev pub BeginsWithEntry : List (List ℕ) → Child → Entry → Type 0
BeginsWithEntry pages c e = (level : ℕ) → level < max_height → IsSubtree level pages c → (rest : List Entry) × (entries_below level pages c ≡ e ∷ rest)

abbrev pub EndsWithEntry : List (List ℕ) → Child → Entry → Type 0
EndsWithEntry pages c e = (level : ℕ) → level < max_height → IsSubtree level pages c → (rest : List Entry) × (entries_below level pages c ≡ rest ++ e ∷ [])

-- ---- where the way leads

-- a path from page 0 reaches the child, below so many pages
abbrev pub IsNeighbour : List (List ℕ) → Neighbour → Type 0
IsNeighbour pages n = (0 < n.above) × IsVisited pages (n.above + 1) n.child

-- where a path reaches the start, others reach the children beside the way
abbrev pub HasNeighbours : List (List ℕ) → (above : ℕ) → Child → FoundLeaf → Type 0
HasNeighbours pages above start found = IsVisited pages (above + 1) start → IfSome found.previous (IsNeighbour pages) × IfSome found.next (IsNeighbour pages)

-- ---- the way to a place, over any pages

-- it goes from a page to that child of it between whose keys the place stands
pub record GoesTo (before : Key → Bool) (pages : List (List ℕ)) (page c : Child) : Type 0 where
  pub child : Contains (children_of page.low page.high (page_at pages page.page)) c
  pub low : AtLow before c.low
  pub high : AtHigh before c.high

-- from page 0 it leads to the child, so many pages down
abbrev pub LeadsDown : (before : Key → Bool) → List (List ℕ) → (above : ℕ) → Child → Type 0
LeadsDown before pages zero c = c ≡ top
LeadsDown before pages (suc above) c = (page : Child) × LeadsDown before pages above page × GoesTo before pages page c
