-- Pages whose children around a key are changed.
use Rattle.std.proofs.Common.{◌≡◌, ℕ, suc, ◌+◌, List, [], ◌∷◌, ◌++◌, refl, sym, ap, subst, ◌∙◌, arith}
use Rattle.std.specs.List.{flat_map, AllByRecursion}
use Rattle.std.proofs.lemmas.List.Concat.{flat_map-append}
use Rattle.run_table.specs.Space.{all_differ}
use Rattle.fsd_table.specs.declared.child.Child.{Child}
use Rattle.fsd_table.specs.Pages.{page_at}
use Rattle.fsd_table.specs.Tree.{pages_below, IsSubtree}
use Rattle.fsd_table.proofs.BoundLaws.{all_append, all_split}
use Rattle.fsd_forest.specs.Forest.{heads, inner, times_in, forest_pages, Becomes}
use Rattle.fsd_forest.specs.Steps.{StepsUp, PageStepsUp, SidesStay, PageSidesStay}
use Rattle.fsd_forest.proofs.CountLaws.{count_append, there_counts, counts_out, differ_counts}
use Rattle.fsd_forest.proofs.ForestLaws.{widens, count_three}
use Rattle.fsd_table.proofs.PageLaws.{subtrees_of}
use Rattle.fsd_forest.proofs.RiseLaws.{rises, pages_rise, children_at}
use Rattle.fsd_forest.proofs.TreeLaws.{alone}

inner_subtrees : (level : ℕ) (pages : List (List ℕ)) (cs : List Child) → AllByRecursion (IsSubtree (suc level) pages) cs → AllByRecursion (IsSubtree level pages) (inner pages cs)
inner_subtrees level pages [] subs = tt
inner_subtrees level pages (c ∷ cs) subs =
    all_append (IsSubtree level pages) (children_at pages c) (inner pages cs) (subtrees_of (IsSubtree level pages) c (page_at pages c.page) subs.0) (inner_subtrees level pages cs subs.1)

pub steps_up : StepsUp
steps_up key edit pages after came went came_above went_above level cs ds left old new right local subs around now above heads_are keep e =
    let P : Child → Type 0 = IsSubtree level pages in
    let parts = all_split P left (old ++ right) (subst (AllByRecursion P) around.children_are (inner_subtrees level pages cs subs)) in
    let right_subs = (all_split P old right parts.1).1 in
    let wide = widens key edit pages after came went level left old new right local parts.0 right_subs around.ends around.begins keep e in
    rises edit pages after came went came_above went_above level cs ds above heads_are
    (subst (λ (xs : List Child). Becomes edit pages after came went level xs (inner after ds)) (sym around.children_are)
    (subst (λ (xs : List Child). Becomes edit pages after came went level (left ++ (old ++ right)) xs) (sym now) wide))

pub page_steps_up : PageStepsUp
page_steps_up key edit pages after came went level c left old new right local sub around now above keep e =
    steps_up key edit pages after came went [] [] level (c ∷ []) (c ∷ []) left old new right local (sub, tt)
    (record { children_are = alone (children_at pages) c ∙ around.children_are; ends = around.ends; begins = around.begins }) (alone (children_at after) c ∙ now) (above, tt) (λ p. refl) keep e

-- ---- what stands on both sides

sides_count : (p level : ℕ) (pages : List (List ℕ)) (left old right : List Child)
    → times_in p (forest_pages level pages (left ++ (old ++ right))) ≡ times_in p (forest_pages level pages (left ++ right)) + times_in p (forest_pages level pages old)
sides_count p level pages left old right =
    let f : Child → List ℕ = pages_below level pages in
    omega (arith, count_three p f left old right, ap (times_in p) (flat_map-append f left right), count_append p (flat_map f left) (flat_map f right))

pub sides_stay : SidesStay
sides_stay pages after fresh level cs left old right were apart stay q there =
    let f : List Child → List ℕ = forest_pages level pages in
    let changed : List ℕ = heads cs ++ (f old ++ fresh) in
    let none : times_in q changed ≡ 0 =
    omega (
      arith,
      count_append q (heads cs) (f old ++ fresh),
      count_append q (f old) fresh,
      there_counts q (f (left ++ right)) there,
      sides_count q level pages left old right,
      ap (λ (xs : List Child). times_in q (f xs)) were,
      pages_rise q level pages cs,
      count_append q (forest_pages (suc level) pages cs) fresh,
      differ_counts (forest_pages (suc level) pages cs ++ fresh) apart q,
    ) in
    stay q (counts_out q changed none)

pub page_sides_stay : PageSidesStay
page_sides_stay pages after fresh level c left old right were apart stay =
    sides_stay pages after fresh level (c ∷ []) left old right (alone (children_at pages) c ∙ were) (ap (λ (ps : List ℕ). all_differ (ps ++ fresh)) (alone (pages_below (suc level) pages) c) ∙ apart) stay
