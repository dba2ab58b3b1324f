-- What stands on the way to a leaf is reached by paths from page 0, and where it fits no table, breaks it.
use Rattle.std.proofs.Common.{◌≡◌, inl, inr, ℕ, ◌+◌, ◌≤◌, ◌<◌, Bool, true, false, cond, List, [], ◌∷◌, Option, Some, refl, sym, subst, arith}
use Rattle.fsd_bytes.specs.declared.refusal.Refusal.TheVariants.{Unsound}
use Rattle.std.specs.Prelude.{IfSome}
use Rattle.std.specs.List.{AllByRecursion}
use Rattle.fsd_forest.specs.Ways.{end_of}
use Rattle.fsd_bytes.specs.declared.key.Key.{Key}
use Rattle.fsd_formats.specs.declared.page.Separator.{Separator}
use Rattle.fsd_formats.specs.NamePage.{Interior}
use Rattle.fsd_table.specs.declared.child.Child.{Child}
use Rattle.fsd_table.specs.Pages.{page_at, children}
use Rattle.fsd_table.specs.Table.{max_height, top, visit_of, IsVisited, BreaksTable}
use Rattle.fsd_table.proofs.BreakLaws.{visited_top, visited_children, above_visited, misfit_breaks, too_deep_breaks}
use Rattle.name_btree.specs.declared.descent.Way.{Way}
use Rattle.name_btree.specs.declared.descent.Neighbour.{Neighbour}
use Rattle.name_btree.specs.Descent.{FoundLeaf}
use Rattle.name_btree.specs.declared.fault.TreeFault.{TreeFault}
use Rattle.name_btree.specs.declared.fault.TreeFault.TheVariants.{Pages, Broken}
use Rattle.name_btree.specs.Descent.{way_to, HasChildren, IsNeighbour, HasNeighbours}
use Rattle.name_btree.specs.Fault.{HasTreeCause, IsCaused, IsMisfit, IsBeside, IsOnWay, BreaksBelow, BreaksBeside, BarsBelow, BarsBeside, BarsTable, BarsPage, ShowsCause, ShowsMisfit}
use Rattle.name_btree.specs.Lookup.{IsBelow}
use Rattle.name_page.specs.Looks.{Agrees, Looks, ShowsEach}
use Rattle.name_page.proofs.LookLaws.{agrees_before}
use Rattle.name_page.specs.Pages.{Step, home_sector}
use Rattle.name_btree.proofs.steps.CauseLaws.{cause_map, bars_table, shows_cause_map}

-- ---- one page

first_is : (P : Child → Type 0) (first : ℕ) (low high : Option Key) (separators : List Separator) → AllByRecursion P (children first low high separators)
    → P (record { page = first; low = low; high = end_of high separators })
first_is P first low high [] each = each.0
first_is P first low high (s ∷ separators) each = each.0

-- the way's child, and those on each side of it
abbrev AllOf : (Child → Type 0) → (Neighbour → Type 0) → Way → Type 0
AllOf P Q w = P w.child × (IfSome w.previous Q × IfSome w.next Q)

all_of : (before : Key → Bool) (above : ℕ) (P : Child → Type 0) (Q : Neighbour → Type 0) → ((d : Child) → P d → Q (record { child = d; above = above })) → (previous next : Option Neighbour)
    (first : ℕ) (low high : Option Key) (separators : List Separator) → AllByRecursion P (children first low high separators) → IfSome previous Q → IfSome next Q
    → AllOf P Q (way_to before above previous next first low high separators)
all_of before above P Q at previous next first low high [] each p n = (each.0, (p, n))
all_of before above P Q at previous next first low high (s ∷ separators) each p n =
    by (all_of before above P Q at (Some (record { child = c; above = above })) next s.child (Some s.key) high separators each.1 (at c each.0) n) (before s.key)
  where
    c : Child
    c = record { page = first; low = low; high = Some s.key }

    d : Child
    d = record { page = s.child; low = Some s.key; high = end_of high separators }

    go : Way
    go = way_to before above (Some (record { child = c; above = above })) next s.child (Some s.key) high separators

    by : AllOf P Q go → (b : Bool) → AllOf P Q (cond b go (record { child = c; previous = previous; next = Some (record { child = d; above = above }) }))
    by later true = later
    by later false = (each.0, (p, at d (first_is P s.child (Some s.key) high separators each.1)))

-- ---- the way so far

-- so many pages below page 0, where a path reaches the start
abbrev pub IsVisitedWay : List (List ℕ) → (above0 : ℕ) → Child → (above : ℕ) → Way → Type 0
IsVisitedWay pages above0 start above w = IsVisited pages (above0 + 1) start → AllOf (IsVisited pages (above + 1)) (IsNeighbour pages) w

pub visited_down : (before : Key → Bool) (pages : List (List ℕ)) (above0 : ℕ) (start : Child) (above : ℕ) (w : Way) (first : ℕ) (separators : List Separator)
    → page_at pages w.child.page ≡ Some (Interior first separators) → above < max_height → IsVisitedWay pages above0 start above w
    → IsVisitedWay pages above0 start (above + 1) (way_to before (above + 1) w.previous w.next first w.child.low w.child.high separators)
visited_down before pages above0 start above w first separators at low on h =
    let o = on h in
    all_of before (above + 1) (IsVisited pages (above + 1 + 1)) (IsNeighbour pages) (λ d v. (omega arith, v)) w.previous w.next first w.child.low w.child.high separators
    (visited_children pages (above + 1) w.child first separators at (deeper above low) o.0) o.1.0 o.1.1
  where
    deeper : (n : ℕ) → n < max_height → n + 1 ≤ max_height
    deeper n h = omega arith

-- ---- faults

module _ (s : Step) where
  pub misfit_below : (fault : TreeFault) (above0 : ℕ) (start : Child) (above : ℕ) (w : Way) → IsVisitedWay s.images above0 start above w
      → HasTreeCause s (IsMisfit s.images w.child) (BarsPage s w.child.page) fault → HasTreeCause s (BreaksBelow s.images above0 start) (BarsBelow s above0 start) fault
  misfit_below fault above0 start above w on h =
      cause_map s (IsMisfit s.images w.child) (BreaksBelow s.images above0 start) (BarsPage s w.child.page) (BarsBelow s above0 start)
      (λ page x v. subst (BreaksTable s.images) (sym x.0) (misfit_breaks s.images (above + 1) w.child (on v).0 x.1)) (λ page x v. bars_table s (above + 1) w.child (on v).0 page x) fault h

  -- whatever the other pages have
  pub shown_below : (fault : TreeFault) (above0 : ℕ) (start : Child) (above : ℕ) (w : Way) → ShowsEach s (λ pages. IsVisitedWay pages above0 start above w)
      → HasTreeCause s (IsMisfit s.images w.child) (BarsPage s w.child.page) fault → ShowsMisfit s w.child fault → ShowsCause s (λ pages. BreaksBelow pages above0 start) (λ pages. IsBelow pages above0 start) fault
  shown_below (Broken page) above0 start above w on h misfit = λ pages agrees v.
      let x = misfit pages agrees in
      subst (BreaksTable pages) (sym x.0) (misfit_breaks pages (above + 1) w.child (on pages agrees v).0 x.1)
  shown_below (Pages refusal) above0 start above w on h misfit = by h.1
    where
      by : IsCaused s (BarsPage s w.child.page) refusal → ShowsCause s (λ pages. BreaksBelow pages above0 start) (λ pages. IsBelow pages above0 start) (Pages refusal)
      by (inl outer) = inl outer
      by (inr x) = inr (w.child.page, subst (λ (p : ℕ). refusal ≡ Unsound (home_sector s p)) x.2.0 x.1, x.2.1, λ pages agrees v. (visit_of pages (above + 1) w.child, (on pages agrees v).0, refl))

  pub shown_top : (fault : TreeFault) (c : Child) → c ≡ top → ShowsCause s (λ pages. BreaksBelow pages 0 c) (λ pages. IsBelow pages 0 c) fault → ShowsCause s BreaksTable IsOnWay fault
  shown_top fault c is h =
      let v : (pages : List (List ℕ)) → IsVisited pages 1 c = λ pages. subst (IsVisited pages 1) (sym is) (visited_top pages) in
      shows_cause_map s (λ pages. BreaksBelow pages 0 c) BreaksTable (λ pages. IsBelow pages 0 c) IsOnWay (λ pages page agrees x. x (v pages)) (λ pages page agrees x. x (v pages)) fault h

  -- below page 0
  pub top_breaks : (fault : TreeFault) (c : Child) → c ≡ top → HasTreeCause s (BreaksBelow s.images 0 c) (BarsBelow s 0 c) fault → HasTreeCause s (BreaksTable s.images) (BarsTable s) fault
  top_breaks fault c is h =
      let v : IsVisited s.images 1 c = subst (IsVisited s.images 1) (sym is) (visited_top s.images) in
      cause_map s (BreaksBelow s.images 0 c) (BreaksTable s.images) (BarsBelow s 0 c) (BarsTable s) (λ page x. x v) (λ page x. x v) fault h

  -- below a child beside the way
  pub neighbour_breaks : (fault : TreeFault) (n : Neighbour) → HasTreeCause s (BreaksBelow s.images n.above n.child) (BarsBelow s n.above n.child) fault
      → HasTreeCause s (BreaksBeside s.images n) (BarsBeside s n) fault
  neighbour_breaks fault n h =
      cause_map s (BreaksBelow s.images n.above n.child) (BreaksBeside s.images n) (BarsBelow s n.above n.child) (BarsBeside s n) (λ page x is. x is.1) (λ page x is. x is.1) fault h

  pub shown_beside : (fault : TreeFault) (n : Neighbour) → ShowsCause s (λ pages. BreaksBelow pages n.above n.child) (λ pages. IsBelow pages n.above n.child) fault
      → ShowsCause s (λ pages. BreaksBeside pages n) (λ pages. IsBeside pages n) fault
  shown_beside fault n h =
      shows_cause_map s (λ pages. BreaksBelow pages n.above n.child) (λ pages. BreaksBeside pages n) (λ pages. IsBelow pages n.above n.child) (λ pages. IsBeside pages n)
      (λ pages page agrees x is. x is.1) (λ pages page agrees x is. x is.1) fault h

pub deep_below : (pages : List (List ℕ)) (above0 : ℕ) (start : Child) (above : ℕ) (w : Way) → IsVisitedWay pages above0 start above w → max_height ≤ above → BreaksBelow pages above0 start w.child.page
deep_below pages above0 start above w on deep v = too_deep_breaks pages (above + 1) w.child (on v).0 (deeper above deep)
  where
    deeper : (n : ℕ) → max_height ≤ n → max_height < n + 1
    deeper n h = omega arith

pub deep_shown : (s : Step) (above0 : ℕ) (start : Child) (above : ℕ) (w : Way) → ShowsEach s (λ pages. IsVisitedWay pages above0 start above w) → max_height ≤ above → ShowsEach s (λ pages. BreaksBelow pages above0 start w.child.page)
deep_shown s above0 start above w on deep pages agrees = deep_below pages above0 start above w (on pages agrees) deep

pub found_beside : (pages : List (List ℕ)) (c : Child) (found : FoundLeaf) → c ≡ top → HasNeighbours pages 0 c found → IfSome found.previous (IsNeighbour pages) × IfSome found.next (IsNeighbour pages)
found_beside pages c found is beside = beside (subst (IsVisited pages 1) (sym is) (visited_top pages))

module _ (s : Step) (c : Child) (found : FoundLeaf) (is : c ≡ top) (beside : HasNeighbours s.images 0 c found) (n : Neighbour) (fault : TreeFault)
    (h : HasTreeCause s (BreaksBeside s.images n) (BarsBeside s n) fault) where
  beside_breaks : IsNeighbour s.images n → HasTreeCause s (BreaksTable s.images) (BarsTable s) fault
  beside_breaks there = cause_map s (BreaksBeside s.images n) (BreaksTable s.images) (BarsBeside s n) (BarsTable s) (λ page x. x there) (λ page x. x there) fault h

  pub next_breaks : found.next ≡ Some n → HasTreeCause s (BreaksTable s.images) (BarsTable s) fault
  next_breaks at = beside_breaks (subst (λ (o : Option Neighbour). IfSome o (IsNeighbour s.images)) at (found_beside s.images c found is beside).1)

  pub previous_breaks : found.previous ≡ Some n → HasTreeCause s (BreaksTable s.images) (BarsTable s) fault
  previous_breaks at = beside_breaks (subst (λ (o : Option Neighbour). IfSome o (IsNeighbour s.images)) at (found_beside s.images c found is beside).0)

-- whatever the other pages have, what was reached of a child beside the way shows the fault
module _ (mid s : Step) (c : Child) (found : FoundLeaf) (is : c ≡ top) (looks : Looks mid s) (beside : ShowsEach mid (λ pages. HasNeighbours pages 0 c found)) (n : Neighbour) where
  shown_there : ShowsEach s (λ pages. IsNeighbour pages n) → (fault : TreeFault) → ShowsCause s (λ pages. BreaksBeside pages n) (λ pages. IsBeside pages n) fault → ShowsCause s BreaksTable IsOnWay fault
  shown_there there fault h =
      shows_cause_map s (λ pages. BreaksBeside pages n) BreaksTable (λ pages. IsBeside pages n) IsOnWay (λ pages page agrees x. x (there pages agrees)) (λ pages page agrees x. x (there pages agrees)) fault h

  shown_beside_way : (pages : List (List ℕ)) → Agrees pages s → IfSome found.previous (IsNeighbour pages) × IfSome found.next (IsNeighbour pages)
  shown_beside_way pages agrees = found_beside pages c found is (beside pages (agrees_before mid s pages looks agrees))

  pub shown_next : found.next ≡ Some n → (fault : TreeFault) → ShowsCause s (λ pages. BreaksBeside pages n) (λ pages. IsBeside pages n) fault → ShowsCause s BreaksTable IsOnWay fault
  shown_next at = shown_there (λ pages agrees. subst (λ (o : Option Neighbour). IfSome o (IsNeighbour pages)) at (shown_beside_way pages agrees).1)

  pub shown_previous : found.previous ≡ Some n → (fault : TreeFault) → ShowsCause s (λ pages. BreaksBeside pages n) (λ pages. IsBeside pages n) fault → ShowsCause s BreaksTable IsOnWay fault
  shown_previous at = shown_there (λ pages agrees. subst (λ (o : Option Neighbour). IfSome o (IsNeighbour pages)) at (shown_beside_way pages agrees).0)

pub root_above : (pages : List (List ℕ)) (n : Neighbour) → IsNeighbour pages n → HasChildren pages top
root_above pages n is = above_visited pages (n.above + 1) n.child (omega (arith, is.0)) is.1
