-- What becomes of pages one level up, from what becomes of their children.
use Rattle.std.proofs.Common.{◌≡◌, ℕ, suc, ◌+◌, List, [], ◌∷◌, ◌++◌, Option, Some, None, refl, sym, ap, ◌∙◌, arith}
use Rattle.std.specs.Prelude.{⊤}
use Rattle.std.specs.List.{flat_map, AllByRecursion}
use Rattle.std.proofs.lemmas.List.Concat.{flat_map-append}
use Rattle.fsd_formats.specs.NamePage.{Content, Free, Leaf, Interior}
use Rattle.fsd_table.specs.declared.child.Child.{Child}
use Rattle.fsd_table.specs.Pages.{page_at, children_of}
use Rattle.fsd_table.specs.Tree.{entries_below, pages_below, IsInterior, IsSubtree}
use Rattle.fsd_table.proofs.BoundLaws.{all_split}
use Rattle.fsd_forest.specs.Forest.{heads, inner, times_in, forest_entries, forest_pages, IsAbove}
use Rattle.fsd_forest.specs.Laws.{Rises}
use Rattle.fsd_forest.proofs.CountLaws.{count_cons, count_append, count_nothing}

-- ---- what stands two levels below

pub flat_flat : {X : Type 0} (g : Child → List X) (k : Child → List Child) (cs : List Child) → flat_map (λ c. flat_map g (k c)) cs ≡ flat_map g (flat_map k cs)
flat_flat g k [] = refl
flat_flat g k (c ∷ cs) = ap (λ xs. flat_map g (k c) ++ xs) (flat_flat g k cs) ∙ sym (flat_map-append g (k c) (flat_map k cs))

-- the children of a page
abbrev pub children_at : List (List ℕ) → Child → List Child
children_at pages c = children_of c.low c.high (page_at pages c.page)

-- the entries below are those below the children
pub entries_rise : (level : ℕ) (pages : List (List ℕ)) (cs : List Child) → forest_entries (suc level) pages cs ≡ forest_entries level pages (inner pages cs)
entries_rise level pages cs = flat_flat (entries_below level pages) (children_at pages) cs

-- the pages below are these themselves, and those below the children
mixed_count : (p : ℕ) (k : Child → List ℕ) (cs : List Child) → times_in p (flat_map (λ c. c.page ∷ k c) cs) ≡ times_in p (heads cs) + times_in p (flat_map k cs)
mixed_count p k [] = omega (arith, count_nothing p)
mixed_count p k (c ∷ cs) =
    omega (arith, count_append p (c.page ∷ k c) (flat_map (λ c. c.page ∷ k c) cs), count_cons p c.page (k c), mixed_count p k cs, count_cons p c.page (heads cs), count_append p (k c) (flat_map k cs))

pub pages_rise : (p level : ℕ) (pages : List (List ℕ)) (cs : List Child) → times_in p (forest_pages (suc level) pages cs) ≡ times_in p (heads cs) + times_in p (forest_pages level pages (inner pages cs))
pages_rise p level pages cs =
    let f : Child → List ℕ = pages_below level pages in
    mixed_count p (λ c. flat_map f (children_at pages c)) cs ∙ ap (λ (ps : List ℕ). times_in p (heads cs) + times_in p ps) (flat_flat f (children_at pages) cs)

-- ---- pages above subtrees

above_subtrees : (level : ℕ) (pages : List (List ℕ)) (c : Child) (x : Option Content) → IsInterior (λ d. ⊤) c x → AllByRecursion (IsSubtree level pages) (children_of c.low c.high x)
    → IsInterior (IsSubtree level pages) c x
above_subtrees level pages c None h subs = absurd h
above_subtrees level pages c (Some Free) h subs = absurd h
above_subtrees level pages c (Some (Leaf entries)) h subs = absurd h
above_subtrees level pages c (Some (Interior first separators)) h subs = (h.0, subs)

all_above : (level : ℕ) (pages : List (List ℕ)) (cs : List Child) → AllByRecursion (IsAbove pages) cs → AllByRecursion (IsSubtree level pages) (inner pages cs) → AllByRecursion (IsSubtree (suc level) pages) cs
all_above level pages [] above subs = tt
all_above level pages (c ∷ cs) above subs =
    let parts = all_split (IsSubtree level pages) (children_at pages c) (inner pages cs) subs in
    (above_subtrees level pages c (page_at pages c.page) above.0 parts.0, all_above level pages cs above.1 parts.1)

pub rises : Rises
rises edit pages after came went came_above went_above level old new above heads_are e = record {
  subtrees = all_above level after new above e.subtrees;
  pages_are = λ p.
      omega (arith, e.pages_are p, heads_are p, pages_rise p level pages old, pages_rise p level after new, count_append p came_above came, count_append p went_above went);
  entries = entries_rise level after new ∙ e.entries ∙ ap edit (sym (entries_rise level pages old));
}
