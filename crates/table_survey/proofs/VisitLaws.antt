-- What a tree's visits have, and how many of its pages are marked.
use Rattle.std.proofs.Common.{◌≡◌, inl, inr, ℕ, zero, suc, ◌+◌, ◌-◌, ◌<◌, ◌≤◌, Bool, true, false, cond, List, [], ◌∷◌, ◌++◌, length, map, filter, Option, Some, None, refl, sym, ap, subst, ◌∙◌, arith}
use Rattle.std.specs.Prelude.{count_by, slice_get, slice_index_or, Contains}
use Rattle.std.specs.List.{range_with_len, AllByRecursion}
use Rattle.std.proofs.lemmas.List.{append-nil}
use Rattle.std.proofs.lemmas.List.Sums.{sum_by-cons}
use Rattle.std.proofs.lemmas.Option.{get_or_from_slice_get}
use Rattle.run_table.specs.Space.{contains}
use Rattle.fsd_formats.specs.declared.entry.Entry.{Entry}
use Rattle.fsd_table.specs.declared.child.Child.{Child}
use Rattle.fsd_table.specs.Pages.{page_at, children_of, entries_of}
use Rattle.fsd_table.specs.Table.{Visit, Telling, visits_below, visits, max_height, top, told_in, entries_in}
use Rattle.fsd_table.specs.Tree.{IsTree, table_of, pages_of}
use Rattle.fsd_table.proofs.BoundLaws.{all_flat}
use Rattle.fsd_table.proofs.VisitLaws.{all_in_shape, tree_told, visited_pages}
use Rattle.sector_set.proofs.CountLaws.{count_of_list}
use Rattle.table_survey.proofs.ClaimLaws.{Among}

-- ---- what is visited

abbrev pub HasContent : List (List ℕ) → Visit → Type 0
HasContent pages v = v.content ≡ page_at pages v.page

contents_below : (levels : ℕ) (pages : List (List ℕ)) (depth : ℕ) (c : Child) → AllByRecursion (HasContent pages) (visits_below levels pages depth c)
contents_below zero pages depth c = tt
contents_below (suc levels) pages depth c =
    (refl, all_flat (HasContent pages) (visits_below levels pages (depth + 1)) (contents_below levels pages (depth + 1)) (children_of c.low c.high (page_at pages c.page)))

at_index : (P : Visit → Type 0) (xs : List Visit) (i : ℕ) (v : Visit) → i < length xs → slice_index_or xs i v ≡ v → AllByRecursion P xs → P v
at_index P [] i v low is all = absurd (omega (arith, low))
at_index P (x ∷ xs) zero v low is all = subst P is all.0
at_index P (x ∷ xs) (suc i) v low is all = at_index P xs i v (omega (arith, low)) is all.1

pub visit_content : (pages : List (List ℕ)) (v : Visit) → Contains (visits pages) v → HasContent pages v
unfolding visits
visit_content pages v there = at_index (HasContent pages) (visits pages) there.0 v there.1 there.2 (contents_below (suc max_height) pages 1 top)

-- ---- its entries

among_here : (e : Entry) (xs ys : List Entry) (i : ℕ) → i < length xs → slice_index_or xs i e ≡ e → Among e (xs ++ ys)
among_here e [] ys i low is = absurd (omega (arith, low))
among_here e (x ∷ xs) ys zero low is = inl is
among_here e (x ∷ xs) ys (suc i) low is = inr (among_here e xs ys i (omega (arith, low)) is)

among_later : (e : Entry) (xs ys : List Entry) → Among e ys → Among e (xs ++ ys)
among_later e [] ys h = h
among_later e (x ∷ xs) ys h = inr (among_later e xs ys h)

among_at : (all : List Visit) (v : Visit) (e : Entry) (i : ℕ) → i < length all → slice_index_or all i v ≡ v → Contains (entries_of v.content) e → Among e (entries_in all)
among_at [] v e i low is has = absurd (omega (arith, low))
among_at (w ∷ all) v e zero low is has =
    let here = subst (λ (x : Visit). Contains (entries_of x.content) e) (sym is) has in
    among_here e (entries_of w.content) (entries_in all) here.0 here.1 here.2
among_at (w ∷ all) v e (suc i) low is has = among_later e (entries_of w.content) (entries_in all) (among_at all v e i (omega (arith, low)) is has)

pub among_all : (all : List Visit) (v : Visit) (e : Entry) → Contains all v → Contains (entries_of v.content) e → Among e (entries_in all)
among_all all v e there has = among_at all v e there.0 there.1 there.2 has

-- a tree's entries are those of its visits
pub tree_entries : (pages : List (List ℕ)) (height : ℕ) → IsTree pages height → entries_in (visits pages) ≡ table_of pages height
unfolding told_in
tree_entries pages height t =
    ap entries_or (sym (ap (λ (b : Bool). cond b (Some (record { entries = entries_in (visits pages); reached = length (visits pages) })) None) (all_in_shape pages height t)) ∙ tree_told pages height t)
  where
    entries_or : Option Telling → List Entry
    entries_or None = []
    entries_or (Some t) = t.entries

pub tree_pages : (pages : List (List ℕ)) (height : ℕ) → IsTree pages height → map (λ v. v.page) (visits pages) ≡ pages_of pages height
unfolding visits
tree_pages pages height t =
    ap (map (λ v. v.page)) (sym (append-nil (visits_below (suc max_height) pages 1 top)))
    ∙ visited_pages (height - 1) (suc max_height) 1 pages (top ∷ []) (low height t.most) (t.subtree, tt)
    ∙ append-nil (pages_of pages height)
  where
    low : (height : ℕ) → height ≤ max_height → height - 1 < suc max_height
    low height h = omega arith

-- ---- how many flags are set

pub count_from : (P : ℕ → Bool) (flags : List Bool) (from : ℕ) → ((i : ℕ) → i < length flags → P (from + i) ≡ slice_index_or flags i false) → length (filter P (range_with_len from (length flags))) ≡ count_by (λ flag. flag) flags
count_from P [] from same = refl
count_from P (flag ∷ flags) from same =
    let here : from ≡ from + 0 = omega arith in
    by (P from) flag (ap P here ∙ same 0 (omega arith)) (count_from P flags (from + 1) (λ i lt. let there : (from + 1) + i ≡ from + suc i = omega arith in ap P there ∙ same (suc i) (omega arith)))
  where
    by : (p f : Bool) → p ≡ f → length (filter P (range_with_len (from + 1) (length flags))) ≡ count_by (λ flag. flag) flags
        → length (cond p (from ∷ filter P (range_with_len (from + 1) (length flags))) (filter P (range_with_len (from + 1) (length flags)))) ≡ count_by (λ flag. flag) (f ∷ flags)
    by true true e rest = omega (arith, rest, sum_by-cons (λ (b : Bool). cond b 1 0) true flags)
    by false false e rest = omega (arith, rest, sum_by-cons (λ (b : Bool). cond b 1 0) false flags)
    by true false e rest = absurd (cc e)
    by false true e rest = absurd (cc e)

-- as many as there are pages that differ
pub marks_count : (pages : List ℕ) (marks : List Bool) → Rattle.run_table.specs.Space.all_differ pages ≡ true → ((page : ℕ) → contains pages page ≡ true → page < length marks)
    → ((page : ℕ) → page < length marks → slice_get marks page ≡ Some (contains pages page)) → count_by (λ mark. mark) marks ≡ length pages
marks_count pages marks differ inside are =
    sym (count_from (contains pages) marks 0 (λ i lt. let e : 0 + i ≡ i = omega arith in ap (contains pages) e ∙ sym (get_or_from_slice_get marks i (contains pages i) false (are i lt))))
    ∙ ap (λ (n : ℕ). length (filter (contains pages) (range_with_len 0 n))) all
    ∙ count_of_list pages 0 (length marks) differ (λ page there. (omega arith, inside page there))
  where
    all : length marks ≡ length marks - 0
    all = omega arith
