-- A table of so many pages is not deep: each page but page 0 leads to five at least.
use Rattle.std.proofs.Common.{◌≡◌, ℕ, zero, suc, ◌+◌, ◌-◌, ◌*◌, ◌≤◌, ◌<◌, Bool, true, false, cond, ◌&&◌, not, List, [], ◌∷◌, length, Option, Some, None, refl, sym, ap, subst, inl, inr, ◌∙◌, arith, length-append}
use Rattle.std.specs.Prelude.{◌==◌, slice_get, option_and_then, nat_le, nat_lt}
use Rattle.std.specs.List.{flat_map, list_all, AllByRecursion}
use Rattle.std.proofs.lemmas.Bool.{and_parts, or_parts, leb-true, cases_lt, not-true}
use Rattle.std.proofs.lemmas.List.Folds.{list_any-append}
use Rattle.std.proofs.lemmas.Option.{slice_get_within}
use Rattle.run_table.specs.Space.{contains, all_differ}
use Rattle.fsd_bytes.specs.Keys.{is_key}
use Rattle.fsd_bytes.specs.Names.{is_between}
use Rattle.fsd_formats.specs.declared.page.Separator.{Separator}
use Rattle.fsd_formats.specs.NamePage.{Content, Free, Leaf, Interior, is_page, are_ascending, least_separators, read_page}
use Rattle.fsd_table.specs.declared.child.Child.{Child}
use Rattle.fsd_table.specs.Pages.{page_at, children, children_of, separator_keys}
use Rattle.fsd_table.specs.Table.{top, max_height}
use Rattle.fsd_table.specs.Tree.{IsLeaf, IsInterior, IsSubtree, pages_below}
use Rattle.fsd_table.proofs.BoundLaws.{all_append, all_weaker}
use Rattle.fsd_table.proofs.PageLaws.{at_is_page, length_of_children, subtrees_of}
use Rattle.fsd_forest.specs.Forest.{forest_pages}
use Rattle.fsd_forest.specs.Laws.{TreesAreLow}
use Rattle.fsd_forest.proofs.CountLaws.{few_below, differ_counts}

-- ---- pages that are reached are among the pages

page_within : (pages : List (List ℕ)) (page : ℕ) (x : Content) → page_at pages page ≡ Some x → page < length pages
unfolding page_at
page_within pages page x e = by (slice_get pages page) refl e
  where
    by : (o : Option (List ℕ)) → slice_get pages page ≡ o → option_and_then (read_page page (length pages)) o ≡ Some x → page < length pages
    by None is e = absurd cc
    by (Some bytes) is e = slice_get_within pages page bytes is

leaf_within : (pages : List (List ℕ)) (c : Child) (x : Option Content) → page_at pages c.page ≡ x → IsLeaf c x → c.page < length pages
leaf_within pages c None at h = absurd h
leaf_within pages c (Some x) at h = page_within pages c.page x at

interior_within : (pages : List (List ℕ)) (P : Child → Type 0) (c : Child) (x : Option Content) → page_at pages c.page ≡ x → IsInterior P c x → c.page < length pages
interior_within pages P c None at h = absurd h
interior_within pages P c (Some x) at h = page_within pages c.page x at

pub all_flat : {X Y : Type 0} (P : Y → Type 0) (f : X → List Y) (cs : List X) → AllByRecursion (λ d. AllByRecursion P (f d)) cs → AllByRecursion P (flat_map f cs)
all_flat P f [] a = tt
all_flat P f (c ∷ cs) a = all_append P (f c) (flat_map f cs) a.0 (all_flat P f cs a.1)

pub all_within : (level : ℕ) (pages : List (List ℕ)) (c : Child) → IsSubtree level pages c → AllByRecursion (λ p. p < length pages) (pages_below level pages c)
all_within zero pages c h = (leaf_within pages c (page_at pages c.page) refl h, tt)
all_within (suc level) pages c h =
    let kids : List Child = children_of c.low c.high (page_at pages c.page) in
    let P : Child → Type 0 = λ d. AllByRecursion (λ p. p < length pages) (pages_below level pages d) in (
      interior_within pages (IsSubtree level pages) c (page_at pages c.page) refl h,
      all_flat (λ p. p < length pages) (pages_below level pages) kids (all_weaker (IsSubtree level pages) P kids (all_within level pages) (subtrees_of (IsSubtree level pages) c (page_at pages c.page) h)),
    )

-- ---- how many pages a level wants

abbrev pub least_pages : (level : ℕ) → ℕ
least_pages zero = 1
least_pages (suc level) = 1 + 5 * least_pages level

interior_long : (page p first : ℕ) (separators : List Separator) → is_page page p (Interior first separators) ≡ true → (page == 0) ≡ false → 4 ≤ length separators
interior_long page p first separators e other =
    let all = list_all (λ s. is_key s.key && nat_lt s.child p) separators in
    let within = and_parts (all && are_ascending (separator_keys separators) && nat_lt first p) (is_between (least_separators page) 9 (length separators)) e in
    let least = leb-true (least_separators page) (length separators) (and_parts (nat_le (least_separators page) (length separators)) (nat_le (length separators) 9) within.1).0 in
    subst (λ (b : Bool). cond b 1 4 ≤ length separators) other least

wide : (pages : List (List ℕ)) (P : Child → Type 0) (c : Child) (x : Option Content) → page_at pages c.page ≡ x → IsInterior P c x → (c.page == 0) ≡ false → 5 ≤ length (children_of c.low c.high x)
wide pages P c None at h other = absurd h
wide pages P c (Some Free) at h other = absurd h
wide pages P c (Some (Leaf entries)) at h other = absurd h
wide pages P c (Some (Interior first separators)) at h other =
    omega (arith, length_of_children first c.low c.high separators, interior_long c.page (length pages) first separators (at_is_page pages c.page (Interior first separators) at) other)

more_by : (n m a b : ℕ) → m ≤ a → n * m ≤ b → suc n * m ≤ a + b
more_by n m a b h k = grind (arith, h, k)

-- children without page 0 below them, each with so many pages
flat_many : (level : ℕ) (pages : List (List ℕ)) (m : ℕ) → ((d : Child) → IsSubtree level pages d → contains (pages_below level pages d) 0 ≡ false → m ≤ length (pages_below level pages d)) → (cs : List Child)
    → AllByRecursion (IsSubtree level pages) cs → contains (forest_pages level pages cs) 0 ≡ false → length cs * m ≤ length (forest_pages level pages cs)
flat_many level pages m each [] subs none = omega arith
flat_many level pages m each (c ∷ cs) subs none =
    let f : Child → List ℕ = pages_below level pages in
    let parts = or_parts (contains (f c) 0) (contains (flat_map f cs) 0) (sym (list_any-append (λ t. t == 0) (f c) (flat_map f cs)) ∙ none) in
    let more = more_by (length cs) m (length (f c)) (length (flat_map f cs)) (each c subs.0 parts.0) (flat_many level pages m each cs subs.1 parts.1) in
    omega (arith, more, length-append (f c) (flat_map f cs))

times_more : (n k m : ℕ) → n ≤ k → n * m ≤ k * m
times_more n k m h = grind (arith, h)

pub many_below : (level : ℕ) (pages : List (List ℕ)) (c : Child) → IsSubtree level pages c → contains (pages_below level pages c) 0 ≡ false → least_pages level ≤ length (pages_below level pages c)
many_below zero pages c h none = omega arith
many_below (suc level) pages c h none =
    let x : Option Content = page_at pages c.page in
    let kids : List Child = children_of c.low c.high x in
    let parts = or_parts (c.page == 0) (contains (forest_pages level pages kids) 0) none in
    let flat = flat_many level pages (least_pages level) (many_below level pages) kids (subtrees_of (IsSubtree level pages) c x h) parts.1 in
    omega (arith, flat, times_more 5 (length kids) (least_pages level) (wide pages (IsSubtree level pages) c x refl h parts.0))

-- page 0 may lead to more
many_at_top : (level : ℕ) (pages : List (List ℕ)) (first : ℕ) (separators : List Separator) → IsSubtree (suc level) pages top → all_differ (pages_below (suc level) pages top) ≡ true
    → page_at pages 0 ≡ Some (Interior first separators) → 9 ≤ length separators → 1 + 10 * least_pages level ≤ length (pages_below (suc level) pages top)
many_at_top level pages first separators sub apart at long =
    let kids : List Child = children first None None separators in
    let here = subst (IsInterior (IsSubtree level pages) top) at sub in
    let now : pages_below (suc level) pages top ≡ 0 ∷ forest_pages level pages kids = ap (λ (x : Option Content). 0 ∷ forest_pages level pages (children_of None None x)) at in
    let none : contains (forest_pages level pages kids) 0 ≡ false =
    not-true (contains (forest_pages level pages kids) 0) (and_parts (not (contains (forest_pages level pages kids) 0)) (all_differ (forest_pages level pages kids)) (ap all_differ (sym now) ∙ apart)).0 in
    let flat = flat_many level pages (least_pages level) (many_below level pages) kids here.1 none in
    omega (arith, flat, times_more 10 (length kids) (least_pages level) (omega (arith, long, length_of_children first None None separators)), ap length now)

too_many : (pages : List (List ℕ)) (height first : ℕ) (separators : List Separator) → height - 1 ≡ suc 4 → IsSubtree (height - 1) pages top → all_differ (pages_below (height - 1) pages top) ≡ true
    → page_at pages 0 ≡ Some (Interior first separators) → 9 ≤ length separators → 7811 ≤ length pages
too_many pages height first separators is sub apart at long =
    let here = subst (λ (n : ℕ). IsSubtree n pages top) is sub in
    let differ : all_differ (pages_below (suc 4) pages top) ≡ true = ap (λ (n : ℕ). all_differ (pages_below n pages top)) (sym is) ∙ apart in
    let many : 1 + 10 * least_pages 4 ≤ length (pages_below (suc 4) pages top) = many_at_top 4 pages first separators here differ at long in
    let few = few_below (length pages) (pages_below (suc 4) pages top) (all_within (suc 4) pages top here) (differ_counts (pages_below (suc 4) pages top) differ) in
    let so_many : least_pages 4 ≡ 781 = refl in
    omega (arith, many, few, so_many)

pub trees_are_low : TreesAreLow
trees_are_low pages height first separators t room at long =
    let most = t.most in
    elim (cases_lt height max_height) [
      | inl h ↦ h
      | inr h ↦ absurd (omega (arith, room, too_many pages height first separators (omega (arith, h, most)) t.subtree t.apart at long))
    ]
