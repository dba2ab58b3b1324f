-- Subtrees whose pages are all as they were.
use Rattle.std.proofs.Common.{◌≡◌, ℕ, zero, suc, true, false, List, [], ◌∷◌, ◌++◌, Option, Some, None, refl, sym, ap, subst, ◌∙◌}
use Rattle.std.specs.Prelude.{◌==◌}
use Rattle.std.specs.List.{flat_map, AllByRecursion}
use Rattle.std.proofs.lemmas.Bool.{or_left, or_right, eq-eqb}
use Rattle.std.proofs.lemmas.List.Folds.{list_any-append}
use Rattle.run_table.specs.Space.{contains}
use Rattle.fsd_formats.specs.NamePage.{Content, Free, Leaf, Interior}
use Rattle.fsd_table.specs.declared.child.Child.{Child}
use Rattle.fsd_table.specs.Pages.{page_at, children, children_of, entries_of}
use Rattle.fsd_table.specs.Tree.{entries_below, pages_below, IsLeaf, IsInterior, IsSubtree}
use Rattle.fsd_forest.specs.Forest.{forest_entries, forest_pages, Keep}

pub in_left : (xs ys : List ℕ) (p : ℕ) → contains xs p ≡ true → contains (xs ++ ys) p ≡ true
in_left xs ys p e = list_any-append (λ t. t == p) xs ys ∙ or_left (contains xs p) (contains ys p) e

pub in_right : (xs ys : List ℕ) (p : ℕ) → contains ys p ≡ true → contains (xs ++ ys) p ≡ true
in_right xs ys p e = list_any-append (λ t. t == p) xs ys ∙ or_right (contains xs p) (contains ys p) e

-- what stands below a child is as it was
pub record Same (pages after : List (List ℕ)) (level : ℕ) (c : Child) : Type 0 where
  pub subtree : IsSubtree level after c
  pub entries : entries_below level after c ≡ entries_below level pages c
  pub reached : pages_below level after c ≡ pages_below level pages c

-- and below children side by side
pub record AllSame (pages after : List (List ℕ)) (level : ℕ) (cs : List Child) : Type 0 where
  pub subtrees : AllByRecursion (IsSubtree level after) cs
  pub entries : forest_entries level after cs ≡ forest_entries level pages cs
  pub reached : forest_pages level after cs ≡ forest_pages level pages cs

all_kept : (pages after : List (List ℕ)) (level : ℕ) → ((d : Child) → Keep pages after (pages_below level pages d) → IsSubtree level pages d → Same pages after level d) → (cs : List Child)
    → Keep pages after (forest_pages level pages cs) → AllByRecursion (IsSubtree level pages) cs → AllSame pages after level cs
all_kept pages after level each [] keep subs = record { subtrees = tt; entries = refl; reached = refl }
all_kept pages after level each (d ∷ cs) keep subs =
    let f : Child → List ℕ = pages_below level pages in
    let here = each d (λ q e. keep q (in_left (f d) (flat_map f cs) q e)) subs.0 in
    let rest = all_kept pages after level each cs (λ q e. keep q (in_right (f d) (flat_map f cs) q e)) subs.1 in
    record {
      subtrees = (here.subtree, rest.subtrees);
      entries = λ i. here.entries i ++ rest.entries i;
      reached = λ i. here.reached i ++ rest.reached i;
    }

pub kept_interior : (pages after : List (List ℕ)) (level : ℕ) (c : Child) (x : Option Content) → ((d : Child) → Keep pages after (pages_below level pages d) → IsSubtree level pages d → Same pages after level d)
    → Keep pages after (forest_pages level pages (children_of c.low c.high x)) → IsInterior (IsSubtree level pages) c x
    → IsInterior (IsSubtree level after) c x × AllSame pages after level (children_of c.low c.high x)
kept_interior pages after level c None each keep h = absurd h
kept_interior pages after level c (Some Free) each keep h = absurd h
kept_interior pages after level c (Some (Leaf entries)) each keep h = absurd h
kept_interior pages after level c (Some (Interior first separators)) each keep h =
    let all = all_kept pages after level each (children first c.low c.high separators) keep h.1 in
    ((h.0, all.subtrees), all)

pub kept_below : (pages after : List (List ℕ)) (level : ℕ) (c : Child) → Keep pages after (pages_below level pages c) → IsSubtree level pages c → Same pages after level c
kept_below pages after zero c keep sub =
    let at = keep c.page (or_left (c.page == c.page) false (eq-eqb c.page c.page refl)) in
    record { subtree = subst (IsLeaf c) (sym at) sub; entries = ap entries_of at; reached = refl }
kept_below pages after (suc level) c keep sub =
    let x : Option Content = page_at pages c.page in
    let rest : List ℕ = forest_pages level pages (children_of c.low c.high x) in
    let at = keep c.page (or_left (c.page == c.page) (contains rest c.page) (eq-eqb c.page c.page refl)) in
    let all = kept_interior pages after level c x (λ d. kept_below pages after level d) (λ q e. keep q (or_right (c.page == q) (contains rest q) e)) sub in
    record {
      subtree = subst (IsInterior (IsSubtree level after) c) (sym at) all.0;
      entries = ap (λ (y : Option Content). forest_entries level after (children_of c.low c.high y)) at ∙ all.1.entries;
      reached = ap (λ (y : Option Content). c.page ∷ forest_pages level after (children_of c.low c.high y)) at ∙ ap (λ (ps : List ℕ). c.page ∷ ps) all.1.reached;
    }

pub kept_all : (pages after : List (List ℕ)) (level : ℕ) (cs : List Child) → Keep pages after (forest_pages level pages cs) → AllByRecursion (IsSubtree level pages) cs → AllSame pages after level cs
kept_all pages after level cs keep subs = all_kept pages after level (λ d. kept_below pages after level d) cs keep subs
