-- What is told is a tree: its leaves stand as deep as the leftmost one.
use Rattle.std.proofs.Common.{◌≡◌, ◌⊎◌, inl, inr, ℕ, zero, suc, ◌+◌, ◌-◌, ◌≤◌, ◌<◌, Bool, true, false, cond, not, ◌&&◌, ◌||◌, List, [], ◌∷◌, length, map, Option, Some, None, refl, sym, ap, subst, ◌∙◌, arith}
use Rattle.std.specs.Prelude.{IsTrue, ◌==◌, count_by}
use Rattle.std.specs.List.{list_all, AllByRecursion}
use Rattle.std.proofs.lemmas.Bool.{and_parts, and_from, cases_lt, eqb-true, false_from_ne_true, not_from_false, or_cases}
use Rattle.std.proofs.lemmas.Bool.Decides.{nat_tests}
use Rattle.std.proofs.lemmas.List.{append-nil}
use Rattle.std.proofs.lemmas.List.Sums.{sum_by-cons}
use Rattle.run_table.specs.Space.{contains, all_differ}
use Rattle.fsd_formats.specs.declared.entry.Entry.{Entry}
use Rattle.fsd_formats.specs.declared.page.Separator.{Separator}
use Rattle.fsd_formats.specs.NamePage.{Content, Free, Leaf, Interior}
use Rattle.fsd_table.specs.declared.child.Child.{Child}
use Rattle.fsd_table.specs.Pages.{page_at, children, content_fits}
use Rattle.fsd_table.specs.Table.{Visit, Telling, visits_below, visits, max_height, top, alone, kinds_agree, same_kind, visit_fits, in_shape, told_in, IsVisited, BreaksTable}
use Rattle.fsd_table.specs.Tree.{IsLeaf, IsInterior, IsSubtree, IsTree, pages_below, pages_of, table_of}
use Rattle.fsd_table.proofs.BoundLaws.{all_weaker}
use Rattle.fsd_table.proofs.BreakLaws.{visited_top, visited_children, misfit_breaks, too_deep_breaks, kind_breaks}
use Rattle.fsd_table.proofs.ToldLaws.{broken_tells_nothing, shape_of_told}
use Rattle.fsd_table.proofs.VisitLaws.{count_map, tree_told, visited_pages}
use Rattle.fsd_table.proofs.FewLaws.{few_pages, some_page}

module _ (pages : List (List ℕ)) (whole : (page : ℕ) → BreaksTable pages page → ⊥) where
  -- ---- what is so of each page that is reached

  fits : (depth : ℕ) (c : Child) → IsVisited pages depth c → content_fits c.low c.high (page_at pages c.page) ≡ true
  fits depth c h = by (content_fits c.low c.high (page_at pages c.page)) refl
    where
      by : (b : Bool) → content_fits c.low c.high (page_at pages c.page) ≡ b → content_fits c.low c.high (page_at pages c.page) ≡ true
      by true e = e
      by false e = absurd (whole c.page (misfit_breaks pages depth c h e))

  is_low : (depth : ℕ) (c : Child) → IsVisited pages depth c → depth ≤ max_height
  is_low depth c h = elim (cases_lt max_height depth) [
    | inl deep ↦ absurd (whole c.page (too_deep_breaks pages depth c h deep))
    | inr low ↦ low
  ]

  alike : (depth : ℕ) (c d : Child) → IsVisited pages depth c → IsVisited pages depth d → kinds_agree (page_at pages d.page) (page_at pages c.page) ≡ true
  alike depth c d h other = by (kinds_agree (page_at pages d.page) (page_at pages c.page)) refl
    where
      by : (b : Bool) → kinds_agree (page_at pages d.page) (page_at pages c.page) ≡ b → kinds_agree (page_at pages d.page) (page_at pages c.page) ≡ true
      by true e = e
      by false e = absurd (whole c.page (kind_breaks pages depth c d h other e))

  -- ---- the leftmost leaf

  record LeafAt (depth : ℕ) : Type 0 where
    child : Child
    reached : IsVisited pages depth child
    entries : List Entry
    is : page_at pages child.page ≡ Some (Leaf entries)

  record InteriorAt (depth : ℕ) : Type 0 where
    child : Child
    reached : IsVisited pages depth child
    first : ℕ
    separators : List Separator
    is : page_at pages child.page ≡ Some (Interior first separators)

  record Bottom (from : ℕ) : Type 0 where
    depth : ℕ
    behind : from ≤ depth
    leaf : LeafAt depth
    above : (k : ℕ) → from ≤ k → k < depth → InteriorAt k

  first_child : (depth first : ℕ) (c : Child) (separators : List Separator) → AllByRecursion (IsVisited pages depth) (children first c.low c.high separators) → (d : Child) × IsVisited pages depth d
  first_child depth first c [] all = (record { page = first; low = c.low; high = c.high }, all.0)
  first_child depth first c (s ∷ separators) all = (record { page = first; low = c.low; high = Some s.key }, all.0)

  descend : (levels depth : ℕ) (c : Child) → levels + depth ≡ suc max_height → IsVisited pages depth c → Bottom depth
  descend zero depth c sum h = absurd (let low = is_low depth c h in omega (arith, low, sum))
  descend (suc levels) depth c sum h = by (page_at pages c.page) refl (fits depth c h) (λ d visited. descend levels (depth + 1) d (omega (arith, sum)) visited)
    where
      by : (x : Option Content) → page_at pages c.page ≡ x → content_fits c.low c.high x ≡ true → ((d : Child) → IsVisited pages (depth + 1) d → Bottom (depth + 1)) → Bottom depth
      by None is fit below = absurd cc
      by (Some Free) is fit below = absurd cc
      by (Some (Leaf entries)) is fit below = record { depth = depth; behind = omega arith; leaf = record { child = c; reached = h; entries = entries; is = is }; above = λ k low high. absurd (omega (arith, low, high)) }
      by (Some (Interior first separators)) is fit below =
          let d = first_child (depth + 1) first c separators (visited_children pages depth c first separators is (is_low depth c h) h) in
          let rest = below d.0 d.1 in
          let more = rest.behind in
          record {
            depth = rest.depth;
            behind = omega (arith, more);
            leaf = rest.leaf;
            above = λ k low high. elim (cases_lt depth k) [
              | inl later ↦ rest.above k (omega (arith, later)) high
              | inr here ↦ (let same : depth ≡ k = omega (arith, low, here) in subst InteriorAt same (record { child = c; reached = h; first = first; separators = separators; is = is }))
            ];
          }

  bottom : Bottom 1
  bottom = descend max_height 1 top (omega arith) (visited_top pages)

  -- ---- all others stand as deep

  leaf_like : (c : Child) (x : Option Content) (entries : List Entry) → content_fits c.low c.high x ≡ true → kinds_agree (Some (Leaf entries)) x ≡ true → IsLeaf c x
  leaf_like c None entries fit like = absurd cc
  leaf_like c (Some Free) entries fit like = absurd cc
  leaf_like c (Some (Leaf xs)) entries fit like = fit
  leaf_like c (Some (Interior first separators)) entries fit like = absurd cc

  subtrees : (level depth : ℕ) → depth + level ≡ bottom.depth → 1 ≤ depth → (c : Child) → IsVisited pages depth c → IsSubtree level pages c
  subtrees zero depth sum some c h =
      let b = bottom.leaf in
      let here : IsVisited pages depth b.child = subst (λ (n : ℕ). IsVisited pages n b.child) (omega (arith, sum)) b.reached in
      leaf_like c (page_at pages c.page) b.entries (fits depth c h) (ap (λ (x : Option Content). kinds_agree x (page_at pages c.page)) (sym b.is) ∙ alike depth c b.child h here)
  subtrees (suc level) depth sum some c h =
      let a = bottom.above depth some (omega (arith, sum)) in
      by a.first a.separators (page_at pages c.page) refl (fits depth c h) (ap (λ (x : Option Content). kinds_agree x (page_at pages c.page)) (sym a.is) ∙ alike depth c a.child h a.reached) (λ d visited. subtrees level (depth + 1) (omega (arith, sum)) (omega arith) d visited)
    where
      by : (f : ℕ) (ss : List Separator) (x : Option Content) → page_at pages c.page ≡ x → content_fits c.low c.high x ≡ true → kinds_agree (Some (Interior f ss)) x ≡ true
          → ((d : Child) → IsVisited pages (depth + 1) d → IsSubtree level pages d) → IsInterior (IsSubtree level pages) c x
      by f ss None is fit like below = absurd cc
      by f ss (Some Free) is fit like below = absurd cc
      by f ss (Some (Leaf entries)) is fit like below = absurd cc
      by f ss (Some (Interior first separators)) is fit like below =
          (fit, all_weaker (IsVisited pages (depth + 1)) (IsSubtree level pages) (children first c.low c.high separators) below (visited_children pages depth c first separators is (is_low depth c h) h))

  -- ---- no page twice

  height_is : bottom.depth ≤ max_height
  height_is = is_low bottom.depth bottom.leaf.child bottom.leaf.reached

  whole_tree : IsSubtree (bottom.depth - 1) pages top
  whole_tree = let behind = bottom.behind in subtrees (bottom.depth - 1) 1 (omega (arith, behind)) (omega arith) top (visited_top pages)

  pages_are : map (λ v. v.page) (visits pages) ≡ pages_below (bottom.depth - 1) pages top
  unfolding visits
  pages_are =
      let low = height_is in
      let is = visited_pages (bottom.depth - 1) (suc max_height) 1 pages (top ∷ []) (omega (arith, low)) (whole_tree, tt) in
      ap (map (λ v. v.page)) (sym (append-nil (visits_below (suc max_height) pages 1 top))) ∙ is ∙ append-nil (pages_below (bottom.depth - 1) pages top)

-- a list in which what is there is there once
differ_from : (xs : List ℕ) → ((x : ℕ) → IsTrue (contains xs x) → count_by (λ t. t == x) xs ≤ 1) → all_differ xs ≡ true
differ_from [] once = refl
differ_from (x ∷ xs) once =
    and_from (not (contains xs x)) (all_differ xs)
    (not_from_false (contains xs x) (false_from_ne_true (contains xs x) (λ again.
    let few = once x (first_there x xs) in
    let here = counts_cons x x xs (same x) in
    let more = counted x xs again in
    omega (arith, few, here, more))))
    (differ_from xs (λ y there. let few = once y (later_there x y xs there) in let less = counts_more x y xs in omega (arith, few, less)))
  where
    same : (x : ℕ) → (x == x) ≡ true
    same x = grind (arith, nat_tests)

    first_there : (x : ℕ) (xs : List ℕ) → IsTrue (contains (x ∷ xs) x)
    first_there x xs = ap (λ (b : Bool). b || contains xs x) (same x)

    later_there : (x y : ℕ) (xs : List ℕ) → IsTrue (contains xs y) → IsTrue (contains (x ∷ xs) y)
    later_there x y xs h = Rattle.std.proofs.lemmas.Bool.or_right (x == y) (contains xs y) h

    counts_is : (x y : ℕ) (xs : List ℕ) → count_by (λ t. t == y) (x ∷ xs) ≡ cond (x == y) 1 0 + count_by (λ t. t == y) xs
    counts_is x y xs = sum_by-cons (λ (t : ℕ). cond (t == y) 1 0) x xs

    counts_cons : (x y : ℕ) (xs : List ℕ) → (x == y) ≡ true → count_by (λ t. t == y) (x ∷ xs) ≡ 1 + count_by (λ t. t == y) xs
    counts_cons x y xs e = counts_is x y xs ∙ ap (λ (b : Bool). cond b 1 0 + count_by (λ t. t == y) xs) e

    counts_more : (x y : ℕ) (xs : List ℕ) → count_by (λ t. t == y) xs ≤ count_by (λ t. t == y) (x ∷ xs)
    counts_more x y xs = let is = counts_is x y xs in omega (arith, is)

    counted : (y : ℕ) (xs : List ℕ) → IsTrue (contains xs y) → 1 ≤ count_by (λ t. t == y) xs
    counted y [] h = absurd cc
    counted y (z ∷ xs) h = by (counted y xs) (or_cases (z == y) (contains xs y) h)
      where
        by : (IsTrue (contains xs y) → 1 ≤ count_by (λ t. t == y) xs) → IsTrue (z == y) ⊎ IsTrue (contains xs y) → 1 ≤ count_by (λ t. t == y) (z ∷ xs)
        by rest (inl here) = let is = counts_cons z y xs here in omega (arith, is)
        by rest (inr later) = let is = counts_is z y xs in let more = rest later in omega (arith, is, more)

once_in : (all xs : List Visit) (x : ℕ) → list_all (in_shape all) xs ≡ true → IsTrue (contains (map (λ v. v.page) xs) x) → count_by (λ w. w.page == x) all ≡ 1
once_in all [] x shape there = absurd cc
once_in all (v ∷ xs) x shape there = by (λ more. once_in all xs x parts.1 more) (or_cases (v.page == x) (contains (map (λ v. v.page) xs) x) there)
  where
    parts : (in_shape all v ≡ true) × (list_all (in_shape all) xs ≡ true)
    parts = and_parts (in_shape all v) (list_all (in_shape all) xs) shape

    by : (IsTrue (contains (map (λ v. v.page) xs) x) → count_by (λ w. w.page == x) all ≡ 1) → IsTrue (v.page == x) ⊎ IsTrue (contains (map (λ v. v.page) xs) x) → count_by (λ w. w.page == x) all ≡ 1
    by rest (inr later) = rest later
    by rest (inl here) =
        let alone_is = (and_parts (visit_fits v) (alone all v) (and_parts (visit_fits v && alone all v) (same_kind all v) parts.0).0).1 in
        ap (λ (n : ℕ). count_by (λ w. w.page == n) all) (sym (eqb-true v.page x here)) ∙ eqb-true (count_by (λ w. w.page == v.page) all) 1 alone_is

-- what is told is a tree
pub told_tree : (pages : List (List ℕ)) (t : Telling) → told_in pages ≡ Some t → (height : ℕ) × IsTree pages height
told_tree pages t told =
    let whole : (page : ℕ) → BreaksTable pages page → ⊥ = λ page b. let none = broken_tells_nothing pages page b in cc in
    let b = bottom pages whole in
    let behind = b.behind in (
      b.depth,
      record {
        least = behind;
        most = height_is pages whole;
        subtree = whole_tree pages whole;
        apart = ap all_differ (sym (pages_are pages whole)) ∙ differ_from (map (λ v. v.page) (visits pages)) (λ x there.
            let one = once_in (visits pages) (visits pages) x (shape_of_told pages t told) there in
            let same = count_map x (visits pages) in
            omega (arith, one, same));
      },
    )

-- so its pages are few
pub told_few : (pages : List (List ℕ)) (t : Telling) → told_in pages ≡ Some t → (1 ≤ t.reached) × (t.reached ≤ length t.entries + 1)
told_few pages t told =
    let tree = told_tree pages t told in
    let is = sym told ∙ tree_told pages tree.0 tree.1 in
    let reached : t.reached ≡ length (pages_of pages tree.0) = ap (reached_in) is in
    let entries : length t.entries ≡ length (table_of pages tree.0) = ap entries_in is in
    let some = some_page pages tree.0 in
    let few = few_pages pages tree.0 tree.1 in
    (omega (arith, reached, some), omega (arith, reached, entries, few))
  where
    reached_in : Option Telling → ℕ
    reached_in None = 0
    reached_in (Some t) = t.reached

    entries_in : Option Telling → ℕ
    entries_in None = 0
    entries_in (Some t) = length t.entries
