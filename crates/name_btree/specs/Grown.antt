-- What becomes of a page that is given more than it had, and of those above it.
use Rattle.std.specs.Prelude.{◌≡◌, ◌⊎◌, ℕ, ◌+◌, ◌≤◌, ◌<◌, ◌==◌, ◌&&◌, nat_lt, Bool, true, false, List, [], ◌∷◌, ◌++◌, length, take, drop, Option, Some, None, if◌then◌else◌, ⊤}
use Rattle.std.specs.List.{flat_map, list_all, AllByRecursion}
use Rattle.run_table.specs.Space.{contains, all_differ}
use Rattle.fsd_bytes.specs.Keys.{is_key}
use Rattle.fsd_formats.specs.declared.entry.Entry.{Entry}
use Rattle.fsd_formats.specs.declared.page.Separator.{Separator}
use Rattle.fsd_formats.specs.NamePage.{Content, Leaf, Interior, is_entry, entry_bytes, are_ascending, least_used, least_separators, FitsSeparator}
use Rattle.fsd_table.specs.declared.child.Child.{Child}
use Rattle.fsd_table.specs.Pages.{page_at, below, entry_keys, separator_keys}
use Rattle.fsd_table.specs.Tree.{entries_below, pages_below, pages_of, table_of, IsSubtree, IsTree}
use Rattle.fsd_forest.specs.Forest.{Stay, Becomes, TreeBecomes}
use Rattle.fsd_forest.specs.Parts.{left_part, right_part}
use Rattle.name_page.specs.Edits.{with_entry}
use Rattle.name_page.specs.Lookups.{entry_with, is_after}
use Rattle.name_page.specs.declared.pages.Pages.{Ghosts}
use Rattle.name_page.specs.Looks.{ShowsEach}
use Rattle.name_page.specs.Pages.{Step, changes, is_one_of, is_spare, with_images, IsReached}
use Rattle.name_btree.specs.declared.draft.Draft.{Draft}
use Rattle.name_btree.specs.declared.draft.Sheet.{Sheet}
use Rattle.name_btree.specs.declared.fault.TreeFault.{TreeFault}
use Rattle.name_btree.specs.declared.fault.TreeFault.TheVariants.{Broken}
use Rattle.name_btree.specs.declared.growing.Grown.{Grown}
use Rattle.name_btree.specs.declared.growing.Grown.TheVariants.{Whole, Parted}
use Rattle.name_btree.specs.Draft.{drafted, AreSheets, IsTreeDraft, TakesSheets, WereTaken}
use Rattle.name_btree.specs.Trim.{MayHave}

-- ---- pages that are taken

-- each page that was spare and isn't now is one of so many at most
pub record TakesAtMost (most : ℕ) (old new : List Bool) : Type 0 where
  pub pages : List ℕ
  pub few : length pages ≤ most
  pub each : (page : ℕ) → is_spare old page ≡ true → is_spare new page ≡ false → contains pages page ≡ true

-- a step that took some pages, and lost nothing else
pub record TakesSpare (old new : Step) (came : List ℕ) : Type 0 where
  pub images : new.images ≡ old.images
  pub most_reached : new.most_reached ≡ old.most_reached
  pub most_changed : new.most_changed ≡ old.most_changed
  pub promised : old.promised ≤ new.promised + length came
  pub changes : changes old ≤ changes new + length came
  pub taken : WereTaken old new came
  pub changed : (q : ℕ) → is_one_of new.changed q ≡ true → (is_one_of old.changed q ≡ true) ⊎ (contains came q ≡ true)
  pub reached : (q : ℕ) → IsReached old q → IsReached new q
  pub own : AllByRecursion (IsReached new) came

-- what stays where spare pages are taken and nothing is reached
pub record OnlyDraws (old new : Step) : Type 0 where
  pub images : new.images ≡ old.images
  pub home : new.home_a ≡ old.home_a
  pub reached : new.reached ≡ old.reached

-- whatever the pages are
abbrev pub Over : Step → (List (List ℕ) → Type 0) → Type 0
Over step P = (pages : List (List ℕ)) → length pages ≡ length step.images → P pages

-- ---- a page and its parts

-- so many pages a page takes at most where it is parted, and so many it takes with those below
abbrev pub most_parted : ℕ → ℕ
most_parted page = if page == 0 then 2 else 1

abbrev pub most_taken : (page levels : ℕ) → ℕ
most_taken page levels = most_parted page + levels

-- where page 0 is parted the front goes elsewhere
abbrev pub front_came : (page left : ℕ) → List ℕ
front_came page left = if page == 0 then left ∷ [] else []

-- the front of a page may be written there, which is the page itself but for page 0
pub record IsFront (step : Step) (page left : ℕ) : Type 0 where
  pub own : IsReached step left
  pub used : is_spare step.spares left ≡ false
  pub place : (page ≡ 0 → ⊥) → left ≡ page

abbrev pub came_of : ℕ → Grown → List ℕ
came_of page Whole = []
came_of page (Parted left s) = front_came page left ++ s.child ∷ []

abbrev pub went_of : ℕ → Grown → List ℕ
went_of page Whole = []
went_of page (Parted left s) = if page == 0 then 0 ∷ [] else []

-- what stands in the place of a child
abbrev pub parts_of : Child → Grown → List Child
parts_of c Whole = c ∷ []
parts_of c (Parted left s) = left_part left c s.key ∷ right_part s.child c s.key ∷ []

-- ---- what goes into a page, or into two

pub record FitsTwoLeaves (page : ℕ) (entries : List Entry) : Type 0 where
  pub each : list_all is_entry entries ≡ true
  pub order : are_ascending (entry_keys entries) ≡ true
  pub least : least_used page ≤ length (flat_map entry_bytes entries)
  pub most : length (flat_map entry_bytes entries) ≤ 678

pub record FitsTwoInteriors (p page first : ℕ) (separators : List Separator) : Type 0 where
  pub each : list_all (λ s. is_key s.key && nat_lt s.child p) separators ≡ true
  pub order : are_ascending (separator_keys separators) ≡ true
  pub low : first < p
  pub least : least_separators page ≤ length separators
  pub most : length separators ≤ 10

-- ---- what they have then

-- a separator that may stand in the table
pub record FitsBetween (step : Step) (left : ℕ) (s : Separator) : Type 0 where
  pub front : IsReached step left
  pub behind : IsReached step s.child
  pub key : is_key s.key ≡ true
  pub fits : FitsSeparator s

abbrev pub IsParted : Step → Grown → Type 0
IsParted step Whole = ⊤
IsParted step (Parted left s) = FitsBetween step left s

-- only page 0 goes elsewhere
abbrev pub StaysInPlace : ℕ → Grown → Type 0
StaysInPlace page Whole = ⊤
StaysInPlace page (Parted left s) = (page ≡ 0 → ⊥) → left ≡ page

-- the page has its sheet, or the two that it was parted in have theirs
pub record IsGrown (old new : Step) (sheets after : List Sheet) (page : ℕ) (g : Grown) : Type 0 where
  pub takes : TakesSpare old new (came_of page g)
  pub few : length after ≤ length sheets + 2
  pub ready : AreSheets new after
  pub stay : Stay (drafted sheets old.images) (drafted after new.images) (page ∷ came_of page g)
  pub sound : IsParted new g
  pub place : StaysInPlace page g

-- two leaves, neither of which is empty
pub record ArePartsOf (pages : List (List ℕ)) (entries : List Entry) (left : ℕ) (s : Separator) : Type 0 where
  pub x : Entry
  pub xs : List Entry
  pub y : Entry
  pub ys : List Entry
  pub parts : entries ≡ (x ∷ xs) ++ y ∷ ys
  pub front : page_at pages left ≡ Some (Leaf (x ∷ xs))
  pub behind : page_at pages s.child ≡ Some (Leaf (y ∷ ys))
  pub key : s.key ≡ y.key

abbrev pub AreLeavesOf : List (List ℕ) → ℕ → List Entry → Grown → Type 0
AreLeavesOf pages page entries Whole = page_at pages page ≡ Some (Leaf entries)
AreLeavesOf pages page entries (Parted left s) = ArePartsOf pages entries left s

-- two interior pages, and the separator that stood between what they have
pub record AreWaysOf (pages : List (List ℕ)) (first : ℕ) (separators : List Separator) (left : ℕ) (s : Separator) : Type 0 where
  pub x : Separator
  pub xs : List Separator
  pub y : Separator
  pub ys : List Separator
  pub many : 10 ≤ length separators
  pub parts : separators ≡ (x ∷ xs) ++ y ∷ ys
  pub front : page_at pages left ≡ Some (Interior first (x ∷ xs))
  pub behind : page_at pages s.child ≡ Some (Interior y.child ys)
  pub key : s.key ≡ y.key

abbrev pub AreInteriorsOf : List (List ℕ) → ℕ → (first : ℕ) → List Separator → Grown → Type 0
AreInteriorsOf pages page first separators Whole = page_at pages page ≡ Some (Interior first separators)
AreInteriorsOf pages page first separators (Parted left s) = AreWaysOf pages first separators left s

-- what a page above has, once one of its children has grown: as before, or one separator more
abbrev pub IsAboveGrown : (pages after : List (List ℕ)) (page first : ℕ) → List Separator → ℕ → (below g : Grown) → Type 0
IsAboveGrown pages after page first separators i Whole g = (g ≡ Whole) × (after ≡ pages)
IsAboveGrown pages after page first separators i (Parted left s) g = AreInteriorsOf after page first (take i separators ++ s ∷ drop i separators) g

-- ---- what stands below a child

-- a subtree that reaches no page twice, and page 0 only at its own top
pub record IsBranch (pages : List (List ℕ)) (level : ℕ) (c : Child) : Type 0 where
  pub subtree : IsSubtree level pages c
  pub apart : all_differ (pages_below level pages c) ≡ true
  pub inner : contains (pages_below level pages c) 0 ≡ true → c.page ≡ 0

abbrev pub AreUsed : Step → List ℕ → Type 0
AreUsed step pages = (page : ℕ) → contains pages page ≡ true → is_spare step.spares page ≡ false

-- the key of a separator stands between those of the child
abbrev pub IsDivided : Child → Grown → Type 0
IsDivided c Whole = ⊤
IsDivided c (Parted left s) = (is_after c.low s.key ≡ true) × (below c.high s.key ≡ true)

-- only an interior page with no room is parted, or a leaf
abbrev pub IsFull : Option Content → Grown → Type 0
IsFull (Some (Interior first separators)) (Parted left s) = 9 ≤ length separators
IsFull other g = ⊤

pub record BranchBecomes (e : Entry) (pages after : List (List ℕ)) (came : List ℕ) (level : ℕ) (c : Child) (g : Grown) : Type 0 where
  pub becomes : Becomes (with_entry e) pages after came (went_of c.page g) level (c ∷ []) (parts_of c g)
  pub stay : Stay pages after (pages_below level pages c ++ came)

-- an entry more stands below
pub record Grows (e : Entry) (old new : Step) (pages after : List (List ℕ)) (levels : ℕ) (c : Child) (g : Grown) : Type 0 where
  pub came : List ℕ
  pub few : length came ≤ most_taken c.page levels
  pub takes : TakesSpare old new came
  pub sound : IsParted new g
  pub place : StaysInPlace c.page g
  pub divided : IsDivided c g
  pub full : IsFull (page_at pages c.page) g
  pub becomes : (level : ℕ) → level ≤ levels → IsBranch pages level c → AreUsed old (pages_below level pages c) → BranchBecomes e pages after came level c g

-- so many sheets more at most, each page that is changed since has one, and no other page is freed
pub record GrowsDraft (old new : Step) (draft after : Draft) (more : ℕ) : Type 0 where
  pub room : length after.sheets.items ≤ length draft.sheets.items + more
  pub freed : after.freed.items ≡ draft.freed.items
  pub drawn : TakesSheets old new draft.sheets.items after.sheets.items

-- the sheets may be written then, and so may the page of the child that has grown
pub record GrowsBelow (old new : Step) (draft after : Draft) (more : ℕ) (c : Child) : Type 0 where
  pub grows : GrowsDraft old new draft after more
  pub sheets : AreSheets new after.sheets.items
  pub page : MayHave new c.page

-- the whole draft may be written then
pub record GrowsTree (old new : Step) (draft after : Draft) (more : ℕ) : Type 0 where
  pub grows : GrowsDraft old new draft after more
  pub whole : IsTreeDraft new after

-- a leaf has its sheet, or two have, with an entry more
pub record GrowsLeaf (e : Entry) (old new : Step) (sheets after : List Sheet) (c : Child) (g : Grown) : Type 0 where
  pub grown : Over old (λ pages. IsGrown (with_images pages old) (with_images pages new) sheets after c.page g)
  pub grows : ShowsEach old (λ pages. Grows e (with_images pages old) (with_images pages new) (drafted sheets pages) (drafted after pages) 0 c g)
  pub drawn : TakesSheets old new sheets after

-- no entry can be put in below the child
abbrev pub BreaksGrowth : Entry → List (List ℕ) → (levels : ℕ) → Child → ℕ → Type 0
BreaksGrowth e pages levels c page = (level : ℕ) → level ≤ levels → IsBranch pages level c → entry_with e.key (entries_below level pages c) ≡ None → ⊥

-- a leaf takes no such entry: nothing is done, and what was reached shows that none can be put in
pub record RefusesEntry {D : Type 0} (P : Ghosts D) (e : Entry) (old new : D) (sheets : List Sheet) (c : Child) (fault : TreeFault) : Type 0 where
  pub same : new ≡ old
  pub page : ℕ
  pub named : fault ≡ Broken page
  pub shown : ShowsEach (P.step old) (λ pages. BreaksGrowth e (drafted sheets pages) 0 c page)

-- the pages are no tree in which the key of an entry is new
abbrev pub BreaksNew : Entry → List (List ℕ) → ℕ → Type 0
BreaksNew e pages page = (height : ℕ) → IsTree pages height → entry_with e.key (table_of pages height) ≡ None → ⊥

-- ---- the whole

-- the drafted pages are a tree with an entry more
pub record Inserts (e : Entry) (old new : Step) (pages after : List (List ℕ)) : Type 0 where
  pub came : List ℕ
  pub few : length came ≤ 7
  pub takes : TakesSpare old new came
  pub tree : (height : ℕ) → IsTree pages height → AreUsed old (pages_of pages height) → TreeBecomes (with_entry e) pages after came [] height
