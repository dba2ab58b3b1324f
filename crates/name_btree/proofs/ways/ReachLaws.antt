-- Where there are pages, those that paths from page 0 reach are among them.
use Rattle.std.proofs.Common.{◌≡◌, ℕ, zero, suc, ◌+◌, ◌<◌, true, false, ◌&&◌, List, [], ◌∷◌, length, Option, Some, None, refl, sym, subst}
use Rattle.std.specs.Prelude.{nat_lt, Result, Ok, Err, IfErr}
use Rattle.std.specs.List.{list_all, AllByRecursion}
use Rattle.std.proofs.lemmas.Bool.{and_parts, ltb-true}
use Rattle.fsd_bytes.specs.Keys.{is_key}
use Rattle.fsd_bytes.specs.Names.{is_between}
use Rattle.fsd_bytes.specs.declared.key.Key.{Key}
use Rattle.fsd_formats.specs.declared.page.Separator.{Separator}
use Rattle.fsd_formats.specs.NamePage.{Content, Free, Leaf, Interior, are_ascending, least_separators}
use Rattle.fsd_table.specs.declared.child.Child.{Child}
use Rattle.fsd_table.specs.Pages.{page_at, children, children_of, separator_keys}
use Rattle.fsd_table.specs.Table.{Visit, visits_below, visits, max_height, top, BreaksTable}
use Rattle.fsd_table.proofs.BoundLaws.{all_weaker}
use Rattle.fsd_table.proofs.PageLaws.{at_is_page}
use Rattle.name_page.specs.Pages.{Step}
use Rattle.name_btree.specs.declared.fault.TreeFault.{TreeFault}
use Rattle.name_btree.specs.declared.fault.TreeFault.TheVariants.{Pages, Broken}
use Rattle.name_btree.specs.Fault.{HasTreeCause, IsAmong, IsMisfit, is_inner}
use Rattle.name_btree.proofs.finding.SearchLaws.{each_at}
use Rattle.fsd_forest.proofs.LowLaws.{all_flat}

-- ---- one page

abbrev pub IsWithin : ℕ → Child → Type 0
IsWithin n c = c.page < n

kids_within : (n first : ℕ) (low high : Option Key) (separators : List Separator) → first < n → list_all (λ s. is_key s.key && nat_lt s.child n) separators ≡ true → AllByRecursion (IsWithin n) (children first low high separators)
kids_within n first low high [] here all = (here, tt)
kids_within n first low high (s ∷ separators) here all =
    let parts = and_parts (is_key s.key && nat_lt s.child n) (list_all (λ s. is_key s.key && nat_lt s.child n) separators) all in
    (here, kids_within n s.child (Some s.key) high separators (ltb-true s.child n (and_parts (is_key s.key) (nat_lt s.child n) parts.0).1) parts.1)

-- the children of an interior page
pub ways_within : (pages : List (List ℕ)) (page first : ℕ) (separators : List Separator) (low high : Option Key) → page_at pages page ≡ Some (Interior first separators) → AllByRecursion (IsWithin (length pages)) (children first low high separators)
ways_within pages page first separators low high at =
    let n = length pages in
    let all = list_all (λ s. is_key s.key && nat_lt s.child n) separators in
    let asc = are_ascending (separator_keys separators) in
    let three = and_parts (all && asc && nat_lt first n) (is_between (least_separators page) 9 (length separators)) (at_is_page pages page (Interior first separators) at) in
    let two = and_parts (all && asc) (nat_lt first n) three.0 in
    kids_within n first low high separators (ltb-true first n two.1) (and_parts all asc two.0).0

kids_of : (pages : List (List ℕ)) (page : ℕ) (low high : Option Key) (x : Option Content) → page_at pages page ≡ x → AllByRecursion (IsWithin (length pages)) (children_of low high x)
kids_of pages page low high None at = tt
kids_of pages page low high (Some Free) at = tt
kids_of pages page low high (Some (Leaf entries)) at = tt
kids_of pages page low high (Some (Interior first separators)) at = ways_within pages page first separators low high at

-- ---- all that is reached

abbrev Visited : ℕ → Visit → Type 0
Visited n v = v.page < n

visits_within : (levels : ℕ) (pages : List (List ℕ)) (depth : ℕ) (c : Child) → IsWithin (length pages) c → AllByRecursion (Visited (length pages)) (visits_below levels pages depth c)
visits_within zero pages depth c here = tt
visits_within (suc levels) pages depth c here =
    let n = length pages in
    let f : Child → List Visit = visits_below levels pages (depth + 1) in
    let cs : List Child = children_of c.low c.high (page_at pages c.page) in
    (here, all_flat (Visited n) f cs (all_weaker (IsWithin n) (λ d. AllByRecursion (Visited n) (f d)) cs (λ d h. visits_within levels pages (depth + 1) d h) (kids_of pages c.page c.low c.high (page_at pages c.page) refl)))

pub broken_within : (pages : List (List ℕ)) → 0 < length pages → (page : ℕ) → BreaksTable pages page → page < length pages
unfolding visits
broken_within pages some page b =
    let all : AllByRecursion (Visited (length pages)) (visits pages) = visits_within (suc max_height) pages 1 top some in
    subst (λ (p : ℕ). p < length pages) b.page_is (subst (Visited (length pages)) b.reached.2 (each_at (Visited (length pages)) (visits pages) b.reached.0 b.visit b.reached.1 all))

-- ---- faults

module _ (s : Step) (Bars : ℕ → Type 0) (n : ℕ) where
  -- a page that doesn't fit the child that leads to it
  pub misfit_among : (c : Child) (fault : TreeFault) → c.page < n → HasTreeCause s (IsMisfit s.images c) Bars fault → IsAmong n fault
  misfit_among c (Pages refusal) here h = tt
  misfit_among c (Broken page) here h = subst (λ (p : ℕ). p < n) (sym h.0) here

  -- a page that breaks the table
  breaks_among : (fault : TreeFault) → n ≡ length s.images → 0 < n → HasTreeCause s (BreaksTable s.images) Bars fault → IsAmong n fault
  breaks_among (Pages refusal) is some h = tt
  breaks_among (Broken page) is some h = subst (λ (k : ℕ). page < k) (sym is) (broken_within s.images (subst (λ (k : ℕ). 0 < k) is some) page h)

-- the refusal came from outside
pub outer_among : (n : ℕ) (fault : TreeFault) → is_inner fault ≡ false → IsAmong n fault
outer_among n (Pages refusal) is = tt
outer_among n (Broken page) is = absurd (let no : true ≡ false = is in cc)

pub fails_among : {X : Type 0} (r : Result X TreeFault) (s : Step) (Bars : ℕ → Type 0) (n : ℕ) → length s.images ≡ n → 0 < n → IfErr r (HasTreeCause s (BreaksTable s.images) Bars) → IfErr r (IsAmong n)
fails_among (Ok x) s Bars n is some h = tt
fails_among (Err fault) s Bars n is some h = breaks_among s Bars n fault (sym is) some h

-- where as many pages were there before
pub among_since : (m n : ℕ) (fault : TreeFault) → m ≡ n → (0 < m → IsAmong m fault) → 0 < n → IsAmong n fault
among_since m n fault is h some = subst (λ (k : ℕ). IsAmong k fault) is (h (subst (λ (k : ℕ). 0 < k) (sym is) some))
