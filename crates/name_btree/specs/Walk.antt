-- What a walk over the pages shows.
use Rattle.std.specs.Prelude.{◌≡◌, ℕ, zero, suc, ◌+◌, ◌<◌, Bool, true, false, not, ◌&&◌, List, [], ◌∷◌, ◌++◌, length, map, Some, slice_get, slice_set, slice_index_or}
use Rattle.std.specs.List.{flat_map, AllByRecursion}
use Rattle.run_table.specs.Space.{contains}
use Rattle.fsd_formats.specs.declared.entry.Entry.{Entry}
use Rattle.fsd_formats.specs.NamePage.{Leaf}
use Rattle.fsd_table.specs.declared.child.Child.{Child}
use Rattle.fsd_table.specs.Pages.{page_at}
use Rattle.fsd_table.specs.Table.{Visit, max_height, visits, visits_below, IsVisited, BreaksTable}
use Rattle.fsd_table.specs.Tree.{entries_below, pages_below, table_of, pages_of, IsSubtree, IsTree}
use Rattle.name_page.specs.declared.pages.Pages.{Ghosts}
use Rattle.name_page.specs.Pages.{Step, is_spare, rested}
use Rattle.name_btree.specs.declared.fault.TreeFault.{TreeFault}
use Rattle.name_btree.specs.Descent.{HasChildren}
use Rattle.name_btree.specs.Fault.{HasTreeCause, BarsTable}
use Rattle.name_btree.specs.Still.{HasRefusal}

-- ---- marks, one a page

-- these pages are marked, and no others
abbrev pub AreMarksOf : List ℕ → List Bool → Type 0
AreMarksOf reached marks = (page : ℕ) → page < length marks → slice_get marks page ≡ Some (contains reached page)

-- a page that has no mark of its own counts as marked
abbrev pub is_marked : List Bool → ℕ → Bool
is_marked marks page = slice_index_or marks page true

-- what is marked stays so
abbrev pub KeepsMarks : (old new : List Bool) → Type 0
KeepsMarks old new = (page : ℕ) → is_marked old page ≡ true → is_marked new page ≡ true

-- a page is marked, and what is marked stays so
pub record MarksPage (page : ℕ) (old new : List Bool) : Type 0 where
  pub marked : is_marked new page ≡ true
  pub kept : KeepsMarks old new

-- one after another, none of them marked before
abbrev pub can_mark : List Bool → List ℕ → Bool
can_mark marks [] = true
can_mark marks (page ∷ pages) = not (is_marked marks page) && can_mark (slice_set marks page true) pages

abbrev pub marked : List Bool → List ℕ → List Bool
marked marks [] = marks
marked marks (page ∷ pages) = marked (slice_set marks page true) pages

-- ---- a walk below a child, and below many

abbrev pub IsUsed : List Bool → ℕ → Type 0
IsUsed spares page = is_spare spares page ≡ false

-- a subtree, whose pages were not marked and then are, none of them spare, and so many entries
pub record IsWalkedSubtree (spares : List Bool) (level : ℕ) (pages : List (List ℕ)) (c : Child) (before after : List Bool) (count : ℕ) : Type 0 where
  pub used : AllByRecursion (IsUsed spares) (pages_below level pages c)
  pub subtree : IsSubtree level pages c
  pub unmarked : can_mark before (pages_below level pages c) ≡ true
  pub marks : after ≡ marked before (pages_below level pages c)
  pub count_is : count ≡ length (entries_below level pages c)

pub record AreWalked (spares : List Bool) (level : ℕ) (pages : List (List ℕ)) (cs : List Child) (before after : List Bool) (count : ℕ) : Type 0 where
  pub used : AllByRecursion (IsUsed spares) (flat_map (pages_below level pages) cs)
  pub subtrees : AllByRecursion (IsSubtree level pages) cs
  pub unmarked : can_mark before (flat_map (pages_below level pages) cs) ≡ true
  pub marks : after ≡ marked before (flat_map (pages_below level pages) cs)
  pub count_is : count ≡ length (flat_map (entries_below level pages) cs)

-- ---- what breaks a walk

-- on each level below, some page so deep: a leaf on level 0, and an interior page on a higher one
abbrev pub HasKinds : List (List ℕ) → (depth level : ℕ) → Type 0
HasKinds pages depth zero = (c : Child) × IsVisited pages depth c × ((entries : List Entry) × (page_at pages c.page ≡ Some (Leaf entries)))
HasKinds pages depth (suc level) = ((c : Child) × IsVisited pages depth c × HasChildren pages c) × HasKinds pages (depth + 1) level

-- the level of page 0, down the first children
abbrev pub IsTopLevel : List (List ℕ) → ℕ → Type 0
IsTopLevel pages found = (found < max_height) × HasKinds pages 1 found

-- the walk comes to these children: those pages are marked that it visited before
pub record ComesTo (pages : List (List ℕ)) (level : ℕ) (cs : List Child) (marks : List Bool) : Type 0 where
  pub depth : ℕ
  pub levels : ℕ
  pub enough : level < levels
  pub before : List Visit
  pub after : List Visit
  pub parts : visits pages ≡ before ++ (flat_map (visits_below levels pages depth) cs ++ after)
  pub whole : length marks ≡ length pages
  pub marked : AreMarksOf (map (λ v. v.page) before) marks
  pub kinds : HasKinds pages depth level

-- where the walk comes to these children, this page breaks the table
abbrev pub BreaksWalk : (level : ℕ) → List (List ℕ) → List Child → List Bool → ℕ → Type 0
BreaksWalk level pages cs marks page = ComesTo pages level cs marks → BreaksTable pages page

abbrev pub BarsWalk : Step → (level : ℕ) → List Child → List Bool → ℕ → Type 0
BarsWalk s level cs marks page = ComesTo s.images level cs marks → BarsTable s page

-- why the walk over these children fails
abbrev pub FailsWalk : {D : Type 0} (P : Ghosts D) (new : D) → (level : ℕ) → List Child → List Bool → TreeFault → Type 0
FailsWalk P new level cs marks =
    HasTreeCause (P.step new) (λ page. P.trusted new → BreaksWalk level (P.step new).images cs marks page) (λ page. P.trusted new → BarsWalk (P.step new) level cs marks page)

-- the same, and what the step has where the pages refused one
pub record FailsOver {D : Type 0} (P : Ghosts D) (new : D) (level : ℕ) (cs : List Child) (marks : List Bool) (fault : TreeFault) : Type 0 where
  pub cause : FailsWalk P new level cs marks fault
  pub refused : HasRefusal (rested (P.step new)) (P.step new) fault

-- ---- the whole

-- a tree, all of whose pages are marked and no others, none of them spare, and so many entries
pub record IsCountedTree (s : Step) (marks : List Bool) (count : ℕ) : Type 0 where
  pub height : ℕ
  pub used : AllByRecursion (IsUsed s.spares) (pages_of s.images height)
  pub tree : IsTree s.images height
  pub marks_are : AreMarksOf (pages_of s.images height) marks
  pub count_is : count ≡ length (table_of s.images height)
