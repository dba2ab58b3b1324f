-- What becomes of the child at a key becomes of the page above it.
use Rattle.std.proofs.Common.{◌≡◌, ℕ, suc, ◌≤◌, false, List, [], ◌∷◌, length, take, drop, Option, Some, refl, sym, subst, ◌∙◌, arith}
use Rattle.std.specs.Prelude.{◌==◌, slice_get}
use Rattle.std.specs.List.{AllByRecursion}
use Rattle.std.proofs.lemmas.Bool.{eq-eqb}
use Rattle.run_table.specs.Space.{contains}
use Rattle.fsd_bytes.specs.declared.key.Key.{Key}
use Rattle.fsd_formats.specs.declared.entry.Entry.{Entry}
use Rattle.fsd_formats.specs.declared.page.Separator.{Separator}
use Rattle.fsd_formats.specs.NamePage.{Content, Interior}
use Rattle.fsd_table.specs.declared.child.Child.{Child}
use Rattle.fsd_table.specs.Pages.{page_at, children, children_of}
use Rattle.fsd_table.specs.Tree.{pages_below, IsInterior, IsSubtree}
use Rattle.fsd_forest.specs.Forest.{forest_pages, Stay, IsLocal, Becomes}
use Rattle.fsd_forest.specs.Ways.{StandsAround, IsUpToKey, IsBehindKey, children_before, children_from}
use Rattle.fsd_forest.proofs.CountLaws.{count_cons, count_append, count_nothing, counts_out, out_counts, differ_counts, one_if}
use Rattle.fsd_forest.proofs.WayLaws.{children_around}
use Rattle.name_btree.specs.Remove.{IsAround}
use Rattle.name_btree.proofs.mending.NeighbourLaws.{raised}
use Rattle.name_btree.proofs.mending.LeafTreeLaws.{stays_above, below_counts}
use Rattle.name_btree.proofs.mending.PairLaws.{child_is_at}

-- what stands below a child is edited, and all other pages stay
pub record IsEdited (edit : List Entry → List Entry) (pages after : List (List ℕ)) (went : List ℕ) (level : ℕ) (c : Child) : Type 0 where
  pub becomes : Becomes edit pages after [] went level (c ∷ []) (c ∷ [])
  pub stay : Stay pages after (pages_below level pages c)

pub child_edited : (key : Key) (edit : List Entry → List Entry) (pages after : List (List ℕ)) (went : List ℕ) (level : ℕ) (above : Child) (first : ℕ) (xs : List Separator) (i : ℕ) (child : Child)
    → IsLocal key edit → IsAround key pages (suc level) above → page_at pages above.page ≡ Some (Interior first xs) → i ≤ length xs
    → AllByRecursion (IsUpToKey key) (take i xs) → AllByRecursion (IsBehindKey key) (drop i xs) → slice_get (children first above.low above.high xs) i ≡ Some child
    → IsEdited edit pages after went level child → IsEdited edit pages after went (suc level) above
child_edited key edit pages after went level above first xs i child local around at within ends begins child_is e =
    let f : Child → List ℕ = pages_below level pages in
    let ls : List Child = children_before first above.low (take i xs) in
    let rs : List Child = children_from above.high (drop i xs) in
    let fits = (subst (IsInterior (IsSubtree level pages) above) at around.subtree).0 in
    let same = child_is_at above first xs i child within child_is in
    let stands0 = children_around key first above.low above.high xs i ends begins in
    let stands1 = subst (λ (c : Child). StandsAround key (children first above.low above.high xs) ls (c ∷ []) rs) (sym same) stands0 in
    let stands = subst (λ (x : Option Content). StandsAround key (children_of above.low above.high x) ls (child ∷ []) rs) (sym at) stands1 in
    let stay2 : Stay pages after (above.page ∷ forest_pages level pages (child ∷ [])) = λ q out.
    e.stay q (counts_out q (f child) (omega (arith, out_counts q (above.page ∷ forest_pages level pages (child ∷ [])) out, count_cons q above.page (forest_pages level pages (child ∷ [])), count_append q (f child) [], count_nothing q))) in
    let r = raised key edit pages after went level above ls (child ∷ []) (child ∷ []) rs first xs local around stands stands1.children_are fits stay2 e.becomes in
    let out : contains (f child) above.page ≡ false = counts_out above.page (f child) (omega (
      arith,
      below_counts above.page level pages above ls (child ∷ []) rs stands.children_are,
      differ_counts (pages_below (suc level) pages above) around.apart above.page,
      one_if (above.page == above.page) (eq-eqb above.page above.page refl),
      count_append above.page (f child) [],
      count_nothing above.page,
    )) in
    record { becomes = r.whole (e.stay above.page out ∙ at); stay = stays_above pages after level above ls (child ∷ []) rs stands.children_are stay2 }
