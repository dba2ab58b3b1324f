-- What becomes of a tree, from what becomes of the subtrees below its page 0.
use Rattle.std.proofs.Common.{◌≡◌, ℕ, suc, ◌-◌, List, [], ◌∷◌, Option, Some, refl, sym, ap, subst, ◌∙◌, arith}
use Rattle.std.specs.List.{flat_map, AllByRecursion}
use Rattle.std.proofs.lemmas.List.{append-nil}
use Rattle.fsd_formats.specs.declared.page.Separator.{Separator}
use Rattle.fsd_formats.specs.NamePage.{Content, Interior}
use Rattle.fsd_table.specs.declared.child.Child.{Child}
use Rattle.fsd_table.specs.Pages.{page_at, children_of}
use Rattle.fsd_table.specs.Table.{top}
use Rattle.fsd_table.specs.Tree.{IsInterior, IsSubtree, entries_below, pages_below}
use Rattle.fsd_forest.specs.Forest.{times_in, forest_entries, forest_pages, Exchange}
use Rattle.fsd_forest.specs.Parts.{left_part, right_part}
use Rattle.fsd_forest.specs.Laws.{TreesBecome, TreesGrow}
use Rattle.fsd_forest.proofs.CountLaws.{count_cons, exchange_differ}

-- a child alone
pub alone : {X : Type 0} (f : Child → List X) (c : Child) → flat_map f (c ∷ []) ≡ f c
alone f c = append-nil (f c)

pub trees_become : TreesBecome
trees_become edit pages after came went height t apart e =
    let f : Child → List ℕ = pages_below (height - 1) pages in
    let f2 : Child → List ℕ = pages_below (height - 1) after in
    let pages_are : Exchange (f top) (f2 top) came went = λ p. omega (arith, e.pages_are p, ap (times_in p) (alone f top), ap (times_in p) (alone f2 top)) in
    record {
      height_after = height;
      tree = record { least = t.least; most = t.most; subtree = e.subtrees.0; apart = exchange_differ (f top) (f2 top) came went pages_are apart };
      table = sym (alone (entries_below (height - 1) after) top) ∙ e.entries ∙ ap edit (alone (entries_below (height - 1) pages) top);
      pages_are = pages_are;
    }

-- ---- one level more

-- page 0 stands above two others
record IsHigher (after : List (List ℕ)) (level : ℕ) (cs : List Child) : Type 0 where
  subtree : IsSubtree (suc level) after top
  reached : pages_below (suc level) after top ≡ 0 ∷ forest_pages level after cs
  table : entries_below (suc level) after top ≡ forest_entries level after cs

higher : (after : List (List ℕ)) (level left : ℕ) (s : Separator) → page_at after 0 ≡ Some (Interior left (s ∷ [])) → AllByRecursion (IsSubtree level after) (left_part left top s.key ∷ right_part s.child top s.key ∷ [])
    → IsHigher after level (left_part left top s.key ∷ right_part s.child top s.key ∷ [])
higher after level left s at subs = record {
  subtree = subst (IsInterior (IsSubtree level after) top) (sym at) (refl, subs);
  reached = ap (λ (x : Option Content). 0 ∷ forest_pages level after (children_of top.low top.high x)) at;
  table = ap (λ (x : Option Content). forest_entries level after (children_of top.low top.high x)) at;
}

pub trees_grow : TreesGrow
trees_grow edit pages after came height left s t low apart at e =
    let cs : List Child = left_part left top s.key ∷ right_part s.child top s.key ∷ [] in
    let f : Child → List ℕ = pages_below (height - 1) pages in
    let h = higher after (height - 1) left s at e.subtrees in
    let least = t.least in
    let same : suc (height - 1) ≡ suc height - 1 = omega (arith, least) in
    let now : ℕ → List ℕ = λ n. pages_below n after top in
    let pages_are : Exchange (f top) (now (suc height - 1)) came [] = λ p.
    omega (arith, e.pages_are p, ap (times_in p) (alone f top), ap (λ (n : ℕ). times_in p (now n)) same, ap (times_in p) h.reached, count_cons p 0 (forest_pages (height - 1) after cs), count_cons p 0 []) in
    record {
      height_after = suc height;
      tree = record {
        least = omega arith;
        most = omega (arith, low);
        subtree = subst (λ (n : ℕ). IsSubtree n after top) same h.subtree;
        apart = exchange_differ (f top) (now (suc height - 1)) came [] pages_are apart;
      };
      table = ap (λ (n : ℕ). entries_below n after top) (sym same) ∙ h.table ∙ e.entries ∙ ap edit (alone (entries_below (height - 1) pages) top);
      pages_are = pages_are;
    }
