-- A page in two parts, and two pages side by side joined to one.
use Rattle.std.specs.Prelude.{◌≡◌, ◌&&◌, ℕ, Bool, true, List, ◌∷◌, ◌++◌, Option, Some}
use Rattle.fsd_bytes.specs.declared.key.Key.{Key}
use Rattle.fsd_formats.specs.declared.entry.Entry.{Entry}
use Rattle.fsd_formats.specs.declared.page.Separator.{Separator}
use Rattle.fsd_formats.specs.NamePage.{Leaf, Interior, are_ascending}
use Rattle.fsd_table.specs.declared.child.Child.{Child}
use Rattle.fsd_table.specs.Pages.{children, not_below, below, entry_keys, separator_keys}
use Rattle.fsd_table.specs.Tree.{IsLeaf, IsInterior, IsSubtree}

-- ---- the parts

abbrev pub left_part : ℕ → Child → Key → Child
left_part page c k = record { page = page; low = c.low; high = Some k }

abbrev pub right_part : ℕ → Child → Key → Child
right_part page c k = record { page = page; low = Some k; high = c.high }

-- the key stands between the child's
abbrev pub is_inside : Child → Key → Bool
is_inside c k = not_below c.low k && below c.high k

-- ---- the laws

-- a leaf is parted before any of its entries but the first, and two leaves side by side are joined
abbrev pub LeavesPart : Type 0
LeavesPart =
    (c : Child) (page other : ℕ) (xs ys : List Entry) (y : Entry) → are_ascending (entry_keys (xs ++ y ∷ ys)) ≡ true → IsLeaf c (Some (Leaf (xs ++ y ∷ ys)))
    → IsLeaf (left_part page c y.key) (Some (Leaf xs)) × (IsLeaf (right_part other c y.key) (Some (Leaf (y ∷ ys))) × (is_inside c y.key ≡ true))

abbrev pub LeavesJoin : Type 0
LeavesJoin =
    (c : Child) (page other : ℕ) (k : Key) (xs ys : List Entry) → is_inside c k ≡ true → IsLeaf (left_part page c k) (Some (Leaf xs)) → IsLeaf (right_part other c k) (Some (Leaf ys))
    → IsLeaf c (Some (Leaf (xs ++ ys)))

-- so are interior pages, where the separator between the parts goes up, and comes down again
abbrev pub InteriorsPart : Type 0
InteriorsPart =
    (level : ℕ) (pages : List (List ℕ)) (c : Child) (page other first : ℕ) (xs ys : List Separator) (s : Separator) → are_ascending (separator_keys (xs ++ s ∷ ys)) ≡ true
    → IsInterior (IsSubtree level pages) c (Some (Interior first (xs ++ s ∷ ys)))
    → IsInterior (IsSubtree level pages) (left_part page c s.key) (Some (Interior first xs))
    × (IsInterior (IsSubtree level pages) (right_part other c s.key) (Some (Interior s.child ys)) × (is_inside c s.key ≡ true))

abbrev pub InteriorsJoin : Type 0
InteriorsJoin =
    (level : ℕ) (pages : List (List ℕ)) (c : Child) (page other first : ℕ) (xs ys : List Separator) (s : Separator) → is_inside c s.key ≡ true
    → IsInterior (IsSubtree level pages) (left_part page c s.key) (Some (Interior first xs)) → IsInterior (IsSubtree level pages) (right_part other c s.key) (Some (Interior s.child ys))
    → IsInterior (IsSubtree level pages) c (Some (Interior first (xs ++ s ∷ ys)))

-- the children of both parts are those of the whole
abbrev pub ChildrenPart : Type 0
ChildrenPart =
    (first : ℕ) (low high : Option Key) (xs ys : List Separator) (s : Separator)
    → children first low high (xs ++ s ∷ ys) ≡ children first low (Some s.key) xs ++ children s.child (Some s.key) high ys
