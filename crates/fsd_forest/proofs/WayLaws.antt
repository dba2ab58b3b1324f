-- The children of an interior page around a key.
use Rattle.std.proofs.Common.{◌≡◌, ℕ, zero, suc, true, not, List, [], ◌∷◌, ◌++◌, take, drop, Option, Some, refl, sym, ap, ◌∙◌, arith, take-append-drop}
use Rattle.std.specs.List.{AllByRecursion}
use Rattle.std.proofs.lemmas.Bool.{and_from}
use Rattle.fsd_bytes.specs.declared.key.Key.{Key}
use Rattle.fsd_bytes.specs.Keys.{key_lt}
use Rattle.fsd_formats.specs.declared.page.Separator.{Separator}
use Rattle.fsd_table.specs.declared.child.Child.{Child}
use Rattle.fsd_table.specs.Pages.{children, not_below, below}
use Rattle.fsd_forest.specs.Forest.{BeginsBehind}
use Rattle.fsd_forest.specs.Parts.{left_part, right_part}
use Rattle.fsd_forest.specs.Ways.{end_of, children_before, child_behind, children_from, child_between, IsBehindKey}
use Rattle.fsd_forest.specs.Ways.{ChildrenBeside, ChildrenBetween, ChildrenParted, ChildrenEnd, ChildrenBegin, ChildrenAround, ChildAt, KeyInside}

-- ---- children by their separators

pub children_beside : ChildrenBeside
children_beside first low high [] [] = refl
children_beside first low high [] (s ∷ behind) = refl
children_beside first low high (a ∷ before) behind = ap (λ (cs : List Child). record { page = first; low = low; high = Some a.key } ∷ cs) (children_beside a.child (Some a.key) high before behind)

pub children_between : ChildrenBetween
children_between first low high before s behind =
    children_beside first low high before (s ∷ behind)
    ∙ ap (λ (cs : List Child). children_before first low before ++ (child_behind first low before (Some s.key) ∷ cs)) (children_beside s.child (Some s.key) high [] behind)

-- where the child ends doesn't tell its page and where it begins
left_behind : (first : ℕ) (low high : Option Key) (before : List Separator) (k : Key) → child_behind first low before (Some k) ≡ left_part (child_behind first low before high).page (child_behind first low before high) k
left_behind first low high [] k = refl
left_behind first low high (a ∷ before) k = left_behind a.child (Some a.key) high before k

-- and it ends there
pub high_is : (first : ℕ) (low high : Option Key) (before : List Separator) → (child_behind first low before high).high ≡ high
high_is first low high [] = refl
high_is first low high (a ∷ before) = high_is a.child (Some a.key) high before

pub children_parted : ChildrenParted
children_parted first low high before s behind =
    let c : Child = child_between first low high before behind in
    let right : record { page = s.child; low = Some s.key; high = end_of high behind } ≡ right_part s.child c s.key =
    ap (λ (h : Option Key). record { page = s.child; low = Some s.key; high = h }) (sym (high_is first low (end_of high behind) before)) in
    children_between first low high before s behind ∙ (λ i. children_before first low before ++ ((left_behind first low (end_of high behind) before s.key i ∷ right i ∷ []) ++ children_from high behind))

-- ---- around a key

pub children_end : ChildrenEnd
children_end key first low [] a = tt
children_end key first low (s ∷ before) a = ((s.key, refl, a.0), children_end key s.child (Some s.key) before a.1)

begin_from : (key : Key) (first : ℕ) (k : Key) (high : Option Key) (behind : List Separator) → key_lt key k ≡ true → AllByRecursion (IsBehindKey key) behind → AllByRecursion (BeginsBehind key) (children first (Some k) high behind)
begin_from key first k high [] h a = ((k, refl, h), tt)
begin_from key first k high (s ∷ behind) h a = ((k, refl, h), begin_from key s.child s.key high behind a.0 a.1)

pub children_begin : ChildrenBegin
children_begin key high [] a = tt
children_begin key high (s ∷ behind) a = begin_from key s.child s.key high behind a.0 a.1

pub children_around : ChildrenAround
children_around key first low high separators i before behind = record {
  children_are = ap (children first low high) (sym (take-append-drop i separators)) ∙ children_beside first low high (take i separators) (drop i separators);
  ends = children_end key first low (take i separators) before;
  begins = children_begin key high (drop i separators) behind;
}

pub child_at : ChildAt
child_at first low high [] zero h = refl
child_at first low high [] (suc i) h = absurd (omega arith)
child_at first low high (s ∷ separators) zero h = refl
child_at first low high (s ∷ separators) (suc i) h = child_at s.child (Some s.key) high separators i (omega arith)

key_below : (key : Key) (high : Option Key) (behind : List Separator) → below high key ≡ true → AllByRecursion (IsBehindKey key) behind → below (end_of high behind) key ≡ true
key_below key high [] h a = h
key_below key high (s ∷ behind) h a = a.0

pub key_inside : KeyInside
key_inside key first low high [] behind at_low at_high before a = and_from (not_below low key) (below (end_of high behind) key) at_low (key_below key high behind at_high a)
key_inside key first low high (s ∷ before) behind at_low at_high upto a = key_inside key s.child (Some s.key) high before behind (ap not upto.0) at_high upto.1 a
