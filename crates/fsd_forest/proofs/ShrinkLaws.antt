-- What becomes of a tree whose page 0 takes over what its only child has.
use Rattle.std.proofs.Common.{◌≡◌, ℕ, zero, suc, ◌+◌, ◌-◌, true, false, List, [], ◌∷◌, Option, None, sym, ap, subst, inl, inr, ◌∙◌, arith}
use Rattle.std.specs.Prelude.{◌==◌}
use Rattle.std.proofs.lemmas.Bool.{or_right, or_cases, eqb-true, false_from_ne_true, both_ways}
use Rattle.run_table.specs.Space.{contains, all_differ}
use Rattle.fsd_formats.specs.NamePage.{Content}
use Rattle.fsd_table.specs.declared.child.Child.{Child}
use Rattle.fsd_table.specs.Pages.{page_at, children_of, entries_of}
use Rattle.fsd_table.specs.Table.{top}
use Rattle.fsd_table.specs.Tree.{IsLeaf, IsInterior, IsSubtree, entries_below, pages_below}
use Rattle.fsd_forest.specs.Forest.{inner, times_in, forest_entries, forest_pages, Exchange, Keep, Stay}
use Rattle.fsd_forest.specs.Laws.{TreesShrink}
use Rattle.fsd_forest.proofs.CountLaws.{count_cons, count_nothing, one_where, counts_out, differ_counts, counts_differ}
use Rattle.fsd_forest.proofs.KeepLaws.{kept_interior, kept_below}
use Rattle.fsd_forest.proofs.RiseLaws.{pages_rise, entries_rise}
use Rattle.fsd_forest.proofs.TreeLaws.{alone}

-- a page without bounds
abbrev whole : ℕ → Child
whole page = record { page = page; low = None; high = None }

-- what stood below a page stands below page 0
record IsMoved (between after : List (List ℕ)) (level first : ℕ) : Type 0 where
  subtree : IsSubtree level after top
  entries : entries_below level after top ≡ entries_below level between (whole first)
  reached : (p : ℕ) → times_in p (pages_below level after top) + one_where (first == p) ≡ times_in p (pages_below level between (whole first)) + one_where (0 == p)

not_zero : (xs : List ℕ) (q : ℕ) → contains xs 0 ≡ false → contains xs q ≡ true → contains (0 ∷ []) q ≡ false
not_zero xs q none there = false_from_ne_true (contains (0 ∷ []) q) (λ h. elim (or_cases (0 == q) false h) [
  | inl e ↦ both_ways (contains xs 0) none (subst (λ (t : ℕ). contains xs t ≡ true) (sym (eqb-true 0 q e)) there)
  | inr e ↦ absurd cc
])

moved : (between after : List (List ℕ)) (level first : ℕ) → page_at after 0 ≡ page_at between first → Stay between after (0 ∷ []) → contains (pages_below level between (whole first)) 0 ≡ false
    → IsSubtree level between (whole first) → IsMoved between after level first
moved between after zero first at stay none sub = record {
  subtree = subst (IsLeaf top) (sym at) sub;
  entries = ap entries_of at;
  reached = λ p. omega (arith, count_cons p 0 [], count_cons p first []);
}
moved between after (suc level) first at stay none sub =
    let x : Option Content = page_at between first in
    let rest : List ℕ = forest_pages level between (children_of None None x) in
    let keep : Keep between after rest = λ q e. stay q (not_zero (first ∷ rest) q none (or_right (first == q) (contains rest q) e)) in
    let all = kept_interior between after level (whole first) x (λ d. kept_below between after level d) keep sub in
    let now : pages_below (suc level) after top ≡ 0 ∷ rest =
    ap (λ (y : Option Content). 0 ∷ forest_pages level after (children_of None None y)) at ∙ ap (λ (ps : List ℕ). 0 ∷ ps) all.1.reached in
    record {
      subtree = subst (IsInterior (IsSubtree level after) top) (sym at) all.0;
      entries = ap (λ (y : Option Content). forest_entries level after (children_of None None y)) at ∙ all.1.entries;
      reached = λ p. omega (arith, ap (times_in p) now, count_cons p 0 rest, count_cons p first rest);
    }

-- page 0 and what is below it, where pages below it differ from it
record IsTop (pages : List (List ℕ)) (level : ℕ) : Type 0 where
  counts : (p : ℕ) → times_in p (pages_below (suc level) pages top) ≡ one_where (0 == p) + times_in p (forest_pages level pages (inner pages (top ∷ [])))
  none : times_in 0 (forest_pages level pages (inner pages (top ∷ []))) ≡ 0
  entries : entries_below (suc level) pages top ≡ forest_entries level pages (inner pages (top ∷ []))

top_counts : (pages : List (List ℕ)) (level : ℕ) → all_differ (pages_below (suc level) pages top) ≡ true → IsTop pages level
top_counts pages level apart =
    let counts : (p : ℕ) → times_in p (pages_below (suc level) pages top) ≡ one_where (0 == p) + times_in p (forest_pages level pages (inner pages (top ∷ []))) = λ p.
    omega (arith, ap (times_in p) (alone (pages_below (suc level) pages) top), pages_rise p level pages (top ∷ []), count_cons p 0 [], count_nothing p) in
    record {
      counts = counts;
      none = omega (arith, counts 0, differ_counts (pages_below (suc level) pages top) apart 0);
      entries = sym (alone (entries_below (suc level) pages) top) ∙ entries_rise level pages (top ∷ []);
    }

pub trees_shrink : TreesShrink
trees_shrink edit pages between after went height first t two e at stay =
    let level = height - 2 in
    let above : height - 1 ≡ suc level = omega (arith, two) in
    let same : height - 1 - 1 ≡ level = omega (arith, two) in
    let most = t.most in
    let old = top_counts pages level (ap (λ (n : ℕ). all_differ (pages_below n pages top)) (sym above) ∙ t.apart) in
    let some : List ℕ = pages_below level between (whole first) in
    let lone : (p : ℕ) → times_in p (forest_pages level between (whole first ∷ [])) ≡ times_in p some = λ p. ap (times_in p) (alone (pages_below level between) (whole first)) in
    let none : contains some 0 ≡ false = counts_out 0 some (omega (arith, e.pages_are 0, lone 0, old.none, count_nothing 0)) in
    let m = moved between after level first at stay none e.subtrees.0 in
    let pages_are : Exchange (pages_below (height - 1) pages top) (pages_below (height - 1 - 1) after top) [] (first ∷ went) = λ p.
    omega (arith, e.pages_are p, lone p, m.reached p, old.counts p, count_cons p first went, ap (λ (n : ℕ). times_in p (pages_below n pages top)) above, ap (λ (n : ℕ). times_in p (pages_below n after top)) same) in
    record {
      height_after = height - 1;
      tree = record {
        least = omega (arith, two);
        most = omega (arith, most);
        subtree = subst (λ (n : ℕ). IsSubtree n after top) (sym same) m.subtree;
        apart = counts_differ (pages_below (height - 1 - 1) after top) (λ p. omega (arith, pages_are p, count_nothing p, differ_counts (pages_below (height - 1) pages top) t.apart p));
      };
      table = ap (λ (n : ℕ). entries_below n after top) same ∙ m.entries ∙ sym (alone (entries_below level between) (whole first)) ∙ e.entries ∙ ap edit (sym old.entries)
          ∙ ap (λ (n : ℕ). edit (entries_below n pages top)) (sym above);
      pages_are = pages_are;
    }
