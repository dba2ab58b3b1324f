-- The children of an interior page: those before one, that one, and those behind it.
use Rattle.std.specs.Prelude.{◌≡◌, ◌≤◌, ℕ, true, false, List, [], ◌∷◌, ◌++◌, take, drop, length, Option, Some, slice_get}
use Rattle.std.specs.List.{AllByRecursion}
use Rattle.fsd_bytes.specs.declared.key.Key.{Key}
use Rattle.fsd_bytes.specs.Keys.{key_lt}
use Rattle.fsd_formats.specs.declared.page.Separator.{Separator}
use Rattle.fsd_table.specs.declared.child.Child.{Child}
use Rattle.fsd_table.specs.Pages.{children, not_below, below}
use Rattle.fsd_forest.specs.Forest.{EndsUpTo, BeginsBehind}
use Rattle.fsd_forest.specs.Parts.{left_part, right_part, is_inside}

-- where a first child ends
abbrev pub end_of : Option Key → List Separator → Option Key
end_of high [] = high
end_of high (s ∷ separators) = Some s.key

-- the children before the last of some separators
abbrev pub children_before : ℕ → Option Key → List Separator → List Child
children_before first low [] = []
children_before first low (s ∷ separators) = record { page = first; low = low; high = Some s.key } ∷ children_before s.child (Some s.key) separators

-- the child behind them, up to a key
abbrev pub child_behind : ℕ → Option Key → List Separator → Option Key → Child
child_behind first low [] high = record { page = first; low = low; high = high }
child_behind first low (s ∷ separators) high = child_behind s.child (Some s.key) separators high

-- the children from the first of some separators on
abbrev pub children_from : Option Key → List Separator → List Child
children_from high [] = []
children_from high (s ∷ separators) = children s.child (Some s.key) high separators

-- the child between those separators and these
abbrev pub child_between : (first : ℕ) (low high : Option Key) (before behind : List Separator) → Child
child_between first low high before behind = child_behind first low before (end_of high behind)

-- some children of a page around a key: what is left of them ends up to it, and what is right of them begins behind it
pub record StandsAround (key : Key) (all left some right : List Child) : Type 0 where
  pub children_are : all ≡ left ++ (some ++ right)
  pub ends : AllByRecursion (EndsUpTo key) left
  pub begins : AllByRecursion (BeginsBehind key) right

-- separators up to a key, and such behind it
abbrev pub IsUpToKey : Key → Separator → Type 0
IsUpToKey key s = key_lt key s.key ≡ false

abbrev pub IsBehindKey : Key → Separator → Type 0
IsBehindKey key s = key_lt key s.key ≡ true

-- ---- the laws

-- the children of a page, by those of its separators that stand before a child and behind it
abbrev pub ChildrenBeside : Type 0
ChildrenBeside =
    (first : ℕ) (low high : Option Key) (before behind : List Separator)
    → children first low high (before ++ behind) ≡ children_before first low before ++ ((child_between first low high before behind ∷ []) ++ children_from high behind)

-- two children side by side, and the separator between them
abbrev pub ChildrenBetween : Type 0
ChildrenBetween =
    (first : ℕ) (low high : Option Key) (before : List Separator) (s : Separator) (behind : List Separator)
    → children first low high (before ++ s ∷ behind)
    ≡ children_before first low before ++ ((child_behind first low before (Some s.key) ∷ record { page = s.child; low = Some s.key; high = end_of high behind } ∷ []) ++ children_from high behind)

-- they are the parts of one
abbrev pub ChildrenParted : Type 0
ChildrenParted =
    (first : ℕ) (low high : Option Key) (before : List Separator) (s : Separator) (behind : List Separator)
    → let c : Child = child_between first low high before behind in
    children first low high (before ++ s ∷ behind) ≡ children_before first low before ++ ((left_part c.page c s.key ∷ right_part s.child c s.key ∷ []) ++ children_from high behind)

-- The children of a page are told by its separators: around one child, around two, and around the parts of one.
pub record DividesChildren : Type 0 where
  pub beside : ChildrenBeside
  pub between : ChildrenBetween
  pub parted : ChildrenParted

-- what is left of a key, and right of it
abbrev pub ChildrenEnd : Type 0
ChildrenEnd = (key : Key) (first : ℕ) (low : Option Key) (before : List Separator) → AllByRecursion (IsUpToKey key) before → AllByRecursion (EndsUpTo key) (children_before first low before)

abbrev pub ChildrenBegin : Type 0
ChildrenBegin = (key : Key) (high : Option Key) (behind : List Separator) → AllByRecursion (IsBehindKey key) behind → AllByRecursion (BeginsBehind key) (children_from high behind)

-- the child at a key, by its place
abbrev pub ChildrenAround : Type 0
ChildrenAround =
    (key : Key) (first : ℕ) (low high : Option Key) (separators : List Separator) (i : ℕ) → AllByRecursion (IsUpToKey key) (take i separators) → AllByRecursion (IsBehindKey key) (drop i separators)
    → StandsAround key (children first low high separators) (children_before first low (take i separators)) (child_between first low high (take i separators) (drop i separators) ∷ []) (children_from high (drop i separators))

-- so many children into the list
abbrev pub ChildAt : Type 0
ChildAt =
    (first : ℕ) (low high : Option Key) (separators : List Separator) (i : ℕ) → i ≤ length separators
    → slice_get (children first low high separators) i ≡ Some (child_between first low high (take i separators) (drop i separators))

-- a key between a page's stands between those of the child at it
abbrev pub KeyInside : Type 0
KeyInside =
    (key : Key) (first : ℕ) (low high : Option Key) (before behind : List Separator) → not_below low key ≡ true → below high key ≡ true → AllByRecursion (IsUpToKey key) before → AllByRecursion (IsBehindKey key) behind
    → is_inside (child_between first low high before behind) key ≡ true
