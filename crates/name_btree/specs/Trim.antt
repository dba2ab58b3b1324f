-- What is left of a page, and what two pages side by side have then.
use Rattle.std.specs.Prelude.{◌≡◌, ◌≢◌, ◌⊎◌, ℕ, ◌+◌, ◌-◌, ◌==◌, if◌then◌else◌, ◌<◌, ◌≤◌, Bool, true, false, ◌&&◌, nat_lt, List, [], ◌∷◌, ◌++◌, length, take, drop, Option, Some, None, slice_get, ⊤}
use Rattle.std.specs.List.{list_all, AllByRecursion}
use Rattle.fsd_bytes.specs.declared.key.Key.{Key}
use Rattle.fsd_bytes.specs.Keys.{is_key, key_lt}
use Rattle.fsd_formats.specs.declared.entry.Entry.{Entry}
use Rattle.fsd_formats.specs.declared.page.Separator.{Separator}
use Rattle.fsd_formats.specs.NamePage.{Content, is_entry, are_ascending, least_separators, FitsEntry, FitsSeparator}
use Rattle.fsd_formats.specs.NamePage as grammar
use Rattle.fsd_table.specs.declared.child.Child.{Child}
use Rattle.fsd_table.specs.Pages.{page_at, children, keys_fit, entry_keys, separator_keys}
use Rattle.fsd_table.specs.Tree.{IsLeaf}
use Rattle.name_page.specs.Pages.{Step, is_spare, IsReached}
use Rattle.name_page.specs.Parting.{used_by}
use Rattle.name_btree.specs.declared.draft.Draft.{Draft}
use Rattle.name_btree.specs.declared.draft.Sheet.{Sheet}
use Rattle.name_btree.specs.declared.trimming.Pair.{Pair}
use Rattle.name_btree.specs.declared.trimming.Trimmed.{Trimmed}
use Rattle.name_btree.specs.declared.trimming.Trimmed.TheVariants.{Whole, Leaf, Interior}
use Rattle.name_btree.specs.Draft.{IsDrafted, drafted_images, with_freed}
use Rattle.fsd_forest.specs.Ways.{child_behind, child_between, end_of}

-- ---- what a page may have, but for how much

pub record AreEntries (entries : List Entry) : Type 0 where
  pub each : list_all is_entry entries ≡ true
  pub ascend : are_ascending (entry_keys entries) ≡ true
  pub fits : AllByRecursion FitsEntry entries

pub record AreWays (p first : ℕ) (separators : List Separator) : Type 0 where
  pub below : list_all (λ s. is_key s.key && nat_lt s.child p) separators ≡ true
  pub ascend : are_ascending (separator_keys separators) ≡ true
  pub first_below : first < p

-- a page that may be written
pub record MayHave (step : Step) (page : ℕ) : Type 0 where
  pub reached : IsReached step page
  pub used : is_spare step.spares page ≡ false

-- what an interior page has that stands between its keys
pub record IsOpenedPage (p : ℕ) (above : Child) (first : ℕ) (separators : List Separator) : Type 0 where
  pub ways : AreWays p first separators
  pub within : keys_fit above.low above.high (separator_keys separators) ≡ true
  pub least : least_separators above.page ≤ length separators
  pub most : length separators ≤ 9

-- ---- what is left of a child

pub record AreFewEntries (c : Child) (entries : List Entry) : Type 0 where
  pub are : AreEntries entries
  pub within : keys_fit c.low c.high (entry_keys entries) ≡ true
  pub few : used_by entries < 190

pub record AreFewWays (p : ℕ) (c : Child) (first : ℕ) (separators : List Separator) : Type 0 where
  pub are : AreWays p first separators
  pub within : keys_fit c.low c.high (separator_keys separators) ≡ true
  pub few : length separators ≤ 3
  pub fits : AllByRecursion FitsSeparator separators

abbrev pub IsLeft : (p : ℕ) → Child → Trimmed → Type 0
IsLeft p c Whole = ⊤
IsLeft p c (Leaf list) = AreFewEntries c list.items
IsLeft p c (Interior first list) = AreFewWays p c first list.items

-- the page has these, or they are too few and nothing is to be written
abbrev pub IsLeafPut : Step → (old new : List Sheet) → ℕ → List Entry → Trimmed → Type 0
IsLeafPut step old new page entries Whole = IsDrafted step old new page (grammar.Leaf entries)
IsLeafPut step old new page entries (Leaf list) = (new ≡ old) × (list.items ≡ entries) × (used_by entries < 190)
IsLeafPut step old new page entries (Interior first list) = ⊥

abbrev pub AreWaysPut : Step → (old new : List Sheet) → ℕ → (first : ℕ) → List Separator → Trimmed → Type 0
AreWaysPut step old new page first separators Whole = IsDrafted step old new page (grammar.Interior first separators)
AreWaysPut step old new page first separators (Leaf list) = ⊥
AreWaysPut step old new page first separators (Interior f list) = (new ≡ old) × (f ≡ first) × (list.items ≡ separators) × (length separators < least_separators page) × AllByRecursion FitsSeparator list.items

-- how many sheets more, where a child may be left over so many levels above the leaves
abbrev pub sheets_below : ℕ → Trimmed → ℕ
sheets_below levels Whole = levels + 2
sheets_below levels other = levels

-- ---- two children side by side

-- the first and the second, and the separator between them
pub record IsPair (above : Child) (first : ℕ) (separators : List Separator) (pair : Pair) : Type 0 where
  pub between : Separator
  pub there : slice_get separators pair.place ≡ Some between
  pub left : pair.left ≡ (child_behind first above.low (take pair.place separators) (Some between.key)).page
  pub right : pair.right ≡ between.child

-- the keys of both
abbrev pub pair_fits : (above : Child) (first : ℕ) (separators : List Separator) → Pair → List Key → Bool
pair_fits above first separators pair keys =
    keys_fit (child_behind first above.low (take pair.place separators) above.high).low (end_of above.high (drop (pair.place + 1) separators)) keys

-- a greater key than one of the first
abbrev pub IsBetween : (above : Child) (first : ℕ) (separators : List Separator) → Pair → Key → Type 0
IsBetween above first separators pair k = (pair_fits above first separators pair (k ∷ []) ≡ true) × (a : Key) × (pair_fits above first separators pair (a ∷ []) ≡ true) × (key_lt a k ≡ true)

-- the separators without that between them, and with another
abbrev pub separators_joined : List Separator → Pair → List Separator
separators_joined separators pair = take pair.place separators ++ drop (pair.place + 1) separators

abbrev pub separators_shared : List Separator → Pair → Key → List Separator
separators_shared separators pair key = take pair.place separators ++ record { key = key; child = pair.right } ∷ drop (pair.place + 1) separators

-- the first has what both had, and the second goes
pub record AreJoined (step : Step) (old new : Draft) (page first : ℕ) (separators : List Separator) (pair : Pair) (x : Content) (left : Trimmed) : Type 0 where
  pub middle : List Sheet
  pub one : IsDrafted step old.sheets.items middle pair.left x
  pub above : AreWaysPut step middle new.sheets.items page first (separators_joined separators pair) left
  pub freed : new.freed.items ≡ with_freed pair.right old.freed.items

-- each has some of what both had, and another key stands between them
pub record AreShared (step : Step) (old new : Draft) (page first : ℕ) (separators : List Separator) (pair : Pair) (x y : Content) (key : Key) (left : Trimmed) : Type 0 where
  pub middle : List Sheet
  pub last : List Sheet
  pub one : IsDrafted step old.sheets.items middle pair.left x
  pub other : IsDrafted step middle last pair.right y
  pub above : IsDrafted step last new.sheets.items page (grammar.Interior first (separators_shared separators pair key))
  pub freed : new.freed.items ≡ old.freed.items
  pub whole : left ≡ Whole

pub record AreParted (step : Step) (old new : Draft) (page first : ℕ) (separators : List Separator) (pair : Pair) (entries : List Entry) (left : Trimmed) : Type 0 where
  pub xs : List Entry
  pub y : Entry
  pub ys : List Entry
  pub parts : entries ≡ xs ++ y ∷ ys
  pub shared : AreShared step old new page first separators pair (grammar.Leaf xs) (grammar.Leaf (y ∷ ys)) y.key left

pub record WaysAreParted (step : Step) (old new : Draft) (page first : ℕ) (separators : List Separator) (pair : Pair) (lead : ℕ) (list : List Separator) (left : Trimmed) : Type 0 where
  pub xs : List Separator
  pub s : Separator
  pub ys : List Separator
  pub parts : list ≡ xs ++ s ∷ ys
  pub shared : AreShared step old new page first separators pair (grammar.Interior lead xs) (grammar.Interior s.child ys) s.key left

-- what becomes of two leaves, and of two interior pages
abbrev pub AreLeavesMended : Step → (old new : Draft) → (page first : ℕ) → List Separator → Pair → List Entry → Trimmed → Type 0
AreLeavesMended step old new page first separators pair entries left =
    AreJoined step old new page first separators pair (grammar.Leaf entries) left ⊎ AreParted step old new page first separators pair entries left

abbrev pub AreWaysMended : Step → (old new : Draft) → (page first : ℕ) → List Separator → Pair → (lead : ℕ) → List Separator → Trimmed → Type 0
AreWaysMended step old new page first separators pair lead list left =
    AreJoined step old new page first separators pair (grammar.Interior lead list) left ⊎ WaysAreParted step old new page first separators pair lead list left

-- ---- a child and its neighbour

-- child i of a page
abbrev pub child_of : (above : Child) → (first : ℕ) → List Separator → ℕ → Child
child_of above first separators i = child_between first above.low above.high (take i separators) (drop i separators)

-- the place of the neighbour of child i
abbrev pub neighbour_of : ℕ → ℕ
neighbour_of i = if i == 0 then 1 else i - 1

-- what child i has and what its neighbour has, in order
abbrev pub both_entries : ℕ → (few others : List Entry) → List Entry
both_entries i few others = if i == 0 then few ++ others else others ++ few

abbrev pub first_at : ℕ → (first second : ℕ) → ℕ
first_at i first second = if i == 0 then first else second

abbrev pub ways_at : ℕ → Key → (first : ℕ) → (few : List Separator) → (second : ℕ) → (others : List Separator) → List Separator
ways_at i key first few second others =
    if i == 0 then few ++ record { key = key; child = second } ∷ others else others ++ record { key = key; child = first } ∷ few

abbrev pub right_at : ℕ → (few others : List Separator) → List Separator
right_at i few others = if i == 0 then others else few

abbrev pub is_behind : Key → List Separator → Bool
is_behind key [] = true
is_behind key (s ∷ separators) = key_lt key s.key

-- the neighbour of a child of few entries is a leaf, and both are mended
pub record LeafIsMended (step : Step) (old new : Draft) (above : Child) (first : ℕ) (separators : List Separator) (i : ℕ) (few : List Entry) (left : Trimmed) : Type 0 where
  pub pair : Pair
  pub place : pair.place ≡ i - 1
  pub is : IsPair above first separators pair
  pub neighbour : Child
  pub there : slice_get (children first above.low above.high separators) (neighbour_of i) ≡ Some neighbour
  pub others : List Entry
  pub has : page_at (drafted_images old step) neighbour.page ≡ Some (grammar.Leaf others)
  pub mended : AreLeavesMended step old new above.page first separators pair (both_entries i few others) left

-- the neighbour of a child of few ways has ways, and both are mended
pub record WayIsMended (step : Step) (old new : Draft) (above : Child) (first : ℕ) (separators : List Separator) (i lead : ℕ) (few : List Separator) (left : Trimmed) : Type 0 where
  pub pair : Pair
  pub place : pair.place ≡ i - 1
  pub is : IsPair above first separators pair
  pub neighbour : Child
  pub there : slice_get (children first above.low above.high separators) (neighbour_of i) ≡ Some neighbour
  pub second : ℕ
  pub others : List Separator
  pub has : page_at (drafted_images old step) neighbour.page ≡ Some (grammar.Interior second others)
  pub behind : is_behind is.between.key (right_at i few others) ≡ true
  pub mended : AreWaysMended step old new above.page first separators pair (first_at i lead second) (ways_at i is.between.key lead few second others) left

-- the neighbour is no leaf, or page 0
abbrev pub HasNoLeaf : List (List ℕ) → List Child → ℕ → ℕ → Type 0
HasNoLeaf pages cs i page = (c : Child) → slice_get cs (neighbour_of i) ≡ Some c → IsLeaf c (page_at pages c.page) → c.page ≢ 0 → ⊥

-- the neighbour has no ways or is page 0, or the ways of both don't ascend
abbrev pub HasNoWays : List (List ℕ) → (above : Child) → (first : ℕ) → List Separator → ℕ → (few : List Separator) → ℕ → Type 0
HasNoWays pages above first separators i few page =
    (c : Child) → slice_get (children first above.low above.high separators) (neighbour_of i) ≡ Some c → c.page ≢ 0
    → (second : ℕ) (others : List Separator) → page_at pages c.page ≡ Some (grammar.Interior second others) → keys_fit c.low c.high (separator_keys others) ≡ true
    → (s : Separator) → slice_get separators (i - 1) ≡ Some s → is_behind s.key (right_at i few others) ≡ true → ⊥

-- a page without content
abbrev pub IsFreeOrNone : Option Content → Type 0
IsFreeOrNone x = (x ≡ Some grammar.Free) ⊎ (x ≡ None)

-- page 0 has what the child has, which goes
pub record IsTakenOver (step : Step) (old new : Draft) (child : ℕ) : Type 0 where
  pub content : Content
  pub was : page_at (drafted_images old step) child ≡ Some content
  pub now : IsDrafted step old.sheets.items new.sheets.items 0 content
  pub freed : new.freed.items ≡ with_freed child old.freed.items

-- what becomes of the page above a child of which this is left
abbrev pub IsTrimmedAbove : Step → (old new : Draft) → (above : Child) → (first : ℕ) → List Separator → ℕ → (below left : Trimmed) → Type 0
IsTrimmedAbove step old new above first separators i Whole left = (left ≡ Whole) × (new ≡ old)
IsTrimmedAbove step old new above first separators i (Leaf list) left = LeafIsMended step old new above first separators i list.items left
IsTrimmedAbove step old new above first separators i (Interior lead list) left = WayIsMended step old new above first separators i lead list.items left

-- the neighbour is nothing that it may be joined with
abbrev pub IsUnlike : List (List ℕ) → (above : Child) → (first : ℕ) → List Separator → ℕ → Trimmed → ℕ → Type 0
IsUnlike pages above first separators i Whole page = ⊥
IsUnlike pages above first separators i (Leaf list) page = HasNoLeaf pages (children first above.low above.high separators) i page
IsUnlike pages above first separators i (Interior lead list) page = HasNoWays pages above first separators i list.items page
