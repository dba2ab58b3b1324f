-- A page above a key's child and its neighbour.
use Rattle.std.proofs.Common.{◌≡◌, ℕ, zero, suc, ◌+◌, ◌-◌, ◌≤◌, true, false, ◌&&◌, List, [], ◌∷◌, ◌++◌, length, take, drop, Option, Some, sym, ap, subst, ◌∙◌, arith}
use Rattle.std.proofs.lemmas.Option.{same_Some}
use Rattle.std.specs.Prelude.{◌==◌, slice_get, ⊤}
use Rattle.std.specs.List.{flat_map, AllByRecursion}
use Rattle.std.proofs.lemmas.Bool.{and_parts, not-true, not-false}
use Rattle.std.proofs.lemmas.List.{append-nil}
use Rattle.run_table.specs.Space.{contains, all_differ}
use Rattle.fsd_bytes.specs.declared.key.Key.{Key}
use Rattle.fsd_bytes.specs.Keys.{key_lt}
use Rattle.fsd_formats.specs.declared.entry.Entry.{Entry}
use Rattle.fsd_formats.specs.declared.page.Separator.{Separator}
use Rattle.fsd_formats.specs.NamePage.{Content, Interior}
use Rattle.fsd_table.specs.declared.child.Child.{Child}
use Rattle.fsd_table.specs.Pages.{page_at, children, children_of, keys_fit, not_below, below, separator_keys}
use Rattle.fsd_table.specs.Tree.{pages_below, IsInterior, IsSubtree}
use Rattle.fsd_table.proofs.BoundLaws.{all_weaker, all_split}
use Rattle.fsd_forest.specs.Forest.{forest_pages, times_in, Stay, Keep, IsLocal, Becomes}
use Rattle.fsd_forest.specs.Ways.{StandsAround, IsUpToKey, IsBehindKey, children_before, children_from}
use Rattle.fsd_table.proofs.PageLaws.{subtrees_of}
use Rattle.fsd_forest.proofs.CountLaws.{count_cons, count_append, there_counts, counts_there, differ_counts, counts_differ, one_if}
use Rattle.fsd_forest.proofs.ForestLaws.{widens}
use Rattle.fsd_forest.proofs.StepLaws.{page_steps_up, page_sides_stay}
use Rattle.fsd_forest.proofs.WayLaws.{children_between, children_end, children_begin, key_inside}
use Rattle.name_page.specs.declared.cut.Cut.TheVariants.{UpTo}
use Rattle.name_page.specs.Cut.{is_before}
use Rattle.name_page.specs.Edits.{without, is_on}
use Rattle.name_page.specs.declared.entries.Side.TheVariants.{Greater}
use Rattle.name_page.proofs.CutLaws.{greater}
use Rattle.name_page.proofs.SideLaws.{without_part}
use Rattle.name_btree.specs.declared.trimming.Pair.{Pair}
use Rattle.name_btree.specs.Remove.{IsAround}
use Rattle.name_btree.specs.Trim.{IsPair}
use Rattle.name_btree.proofs.mending.PairLaws.{parts_at, left_child, right_child, child_is_at}
use Rattle.name_btree.proofs.walks.WalkLaws.{all_at}

-- ---- the edit

pub is_local : (key : Key) → IsLocal key (without key)
is_local key left some right lesser behind =
    sym (without_part key left some right lesser (all_weaker (λ e. key_lt key e.key ≡ true) (λ e. is_on Greater key e ≡ true) right (λ e h. greater e.key key ∙ h) behind))

-- ---- separators beside the key

pub up_to : (key : Key) (xs : List Separator) → AllByRecursion (λ s. is_before (UpTo key) s.key ≡ true) xs → AllByRecursion (IsUpToKey key) xs
up_to key xs a = all_weaker (λ s. is_before (UpTo key) s.key ≡ true) (IsUpToKey key) xs (λ s h. sym (greater s.key key) ∙ not-true _ h) a

pub past : (key : Key) (xs : List Separator) → AllByRecursion (λ s. is_before (UpTo key) s.key ≡ false) xs → AllByRecursion (IsBehindKey key) xs
past key xs a = all_weaker (λ s. is_before (UpTo key) s.key ≡ false) (IsBehindKey key) xs (λ s h. sym (greater s.key key) ∙ not-false _ h) a

-- those before an earlier place, and behind a later one
fewer : (P : Separator → Type 0) (xs : List Separator) (i j : ℕ) → j ≤ i → AllByRecursion P (take i xs) → AllByRecursion P (take j xs)
fewer P [] zero zero h a = tt
fewer P [] zero (suc j) h a = tt
fewer P [] (suc i) zero h a = tt
fewer P [] (suc i) (suc j) h a = tt
fewer P (x ∷ xs) zero zero h a = tt
fewer P (x ∷ xs) zero (suc j) h a = absurd (omega arith)
fewer P (x ∷ xs) (suc i) zero h a = tt
fewer P (x ∷ xs) (suc i) (suc j) h a = (a.0, fewer P xs i j (omega arith) a.1)

later : (P : Separator → Type 0) (xs : List Separator) (i j : ℕ) → i ≤ j → AllByRecursion P (drop i xs) → AllByRecursion P (drop j xs)
later P [] zero zero h a = tt
later P [] zero (suc j) h a = tt
later P [] (suc i) zero h a = tt
later P [] (suc i) (suc j) h a = tt
later P (x ∷ xs) zero zero h a = a
later P (x ∷ xs) zero (suc j) h a = later P xs zero j (omega arith) a.1
later P (x ∷ xs) (suc i) zero h a = absurd (omega arith)
later P (x ∷ xs) (suc i) (suc j) h a = later P xs i j (omega arith) a

-- ---- the pair among the children

pub pair_stands : (key : Key) (above : Child) (first : ℕ) (xs : List Separator) (pair : Pair) (is : IsPair above first xs pair) (i : ℕ) → pair.place ≡ i - 1 → AllByRecursion (IsUpToKey key) (take i xs) → AllByRecursion (IsBehindKey key) (drop i xs)
    → StandsAround key (children first above.low above.high xs) (children_before first above.low (take pair.place xs)) (left_child above first xs pair is.between ∷ right_child above xs pair is.between ∷ []) (children_from above.high (drop (pair.place + 1) xs))
pair_stands key above first xs pair is i place ends begins = record {
  children_are = ap (children first above.low above.high) (parts_at xs pair.place is.between is.there) ∙ children_between first above.low above.high (take pair.place xs) is.between (drop (pair.place + 1) xs);
  ends = children_end key first above.low (take pair.place xs) (fewer (IsUpToKey key) xs i pair.place (omega (arith, place)) ends);
  begins = children_begin key above.high (drop (pair.place + 1) xs) (later (IsBehindKey key) xs i (pair.place + 1) (omega (arith, place)) begins);
}

-- ---- the child

pub count_one : (p : ℕ) (f : Child → List ℕ) (cs : List Child) (i : ℕ) (c : Child) → slice_get cs i ≡ Some c → times_in p (f c) ≤ times_in p (flat_map f cs)
count_one p f [] i c at = absurd cc
count_one p f (d ∷ cs) zero c at =
    let same : f d ≡ f c = ap f (same_Some d c at) in
    omega (arith, ap (times_in p) same, count_append p (f d) (flat_map f cs))
count_one p f (d ∷ cs) (suc i) c at = omega (arith, count_one p f cs i c at, count_append p (f d) (flat_map f cs))

pub child_around : (key : Key) (pages : List (List ℕ)) (level : ℕ) (above : Child) (first : ℕ) (xs : List Separator) (i : ℕ) (child : Child) → IsAround key pages (suc level) above → page_at pages above.page ≡ Some (Interior first xs)
    → i ≤ length xs → AllByRecursion (IsUpToKey key) (take i xs) → AllByRecursion (IsBehindKey key) (drop i xs) → slice_get (children first above.low above.high xs) i ≡ Some child → IsAround key pages level child
child_around key pages level above first xs i child around at within ends begins is =
    let f : Child → List ℕ = pages_below level pages in
    let cs : List Child = children first above.low above.high xs in
    let sub = subst (IsInterior (IsSubtree level pages) above) at around.subtree in
    let split : pages_below (suc level) pages above ≡ above.page ∷ flat_map f cs = ap (λ (x : Option Content). above.page ∷ flat_map f (children_of above.low above.high x)) at in
    let apart : all_differ (above.page ∷ flat_map f cs) ≡ true = ap all_differ (sym split) ∙ around.apart in
    let most : (p : ℕ) → times_in p (above.page ∷ flat_map f cs) ≤ 1 = differ_counts (above.page ∷ flat_map f cs) apart in
    let few : (p : ℕ) → times_in p (f child) ≤ times_in p (flat_map f cs) = λ p. count_one p f cs i child is in
    let child_is = child_is_at above first xs i child within is in
    let inside = key_inside key first above.low above.high (take i xs) (drop i xs) around.low around.high ends begins in
    let both = subst (λ (c : Child). (not_below c.low key && below c.high key) ≡ true) (sym child_is) inside in
    let parts = and_parts (not_below child.low key) (below child.high key) both in
    record {
      subtree = all_at (IsSubtree level pages) cs i child is sub.1;
      low = parts.0;
      high = parts.1;
      apart = counts_differ (f child) (λ p. omega (arith, few p, most p, count_cons p above.page (flat_map f cs)));
      inner = λ there. absurd (
          let here : 1 ≤ times_in 0 (flat_map f cs) = omega (arith, there_counts 0 (f child) there, few 0) in
          let whole : 1 ≤ times_in 0 (above.page ∷ flat_map f cs) = omega (arith, here, count_cons 0 above.page (flat_map f cs)) in
          let zero_is : above.page ≡ 0 = around.inner (ap (λ (ps : List ℕ). contains ps 0) split ∙ counts_here 0 (above.page ∷ flat_map f cs) whole) in
          omega (arith, most 0, here, count_cons 0 above.page (flat_map f cs), one_if (above.page == 0) (grind arith))
          );
    }
  where
    counts_here : (p : ℕ) (ps : List ℕ) → 1 ≤ times_in p ps → contains ps p ≡ true
    counts_here p ps h = counts_there p ps h

-- ---- one level up

-- what others make of the page above, in the place of the pair
pub record Raised (edit : List Entry → List Entry) (pages after : List (List ℕ)) (went : List ℕ) (level : ℕ) (above : Child) (first : ℕ) (separators : List Separator) : Type 0 where
  pub inner : Becomes edit pages after [] went level (children_of above.low above.high (page_at pages above.page)) (children first above.low above.high separators)
  pub whole : page_at after above.page ≡ Some (Interior first separators) → Becomes edit pages after [] went (suc level) (above ∷ []) (above ∷ [])

pub all_top : (cs : List Child) → AllByRecursion (λ (d : Child). ⊤) cs
all_top [] = tt
all_top (c ∷ cs) = (tt, all_top cs)

pub raised : (key : Key) (edit : List Entry → List Entry) (pages after : List (List ℕ)) (went : List ℕ) (level : ℕ) (above : Child) (left old new right : List Child) (first : ℕ) (separators : List Separator) → IsLocal key edit → IsAround key pages (suc level) above
    → StandsAround key (children_of above.low above.high (page_at pages above.page)) left old right → children first above.low above.high separators ≡ left ++ (new ++ right) → keys_fit above.low above.high (separator_keys separators) ≡ true
    → Stay pages after (above.page ∷ forest_pages level pages old) → Becomes edit pages after [] went level old new → Raised edit pages after went level above first separators
raised key edit pages after went level above left old new right first separators local around stands are fit stay becomes =
    let apart : all_differ (pages_below (suc level) pages above ++ []) ≡ true = ap all_differ (append-nil (pages_below (suc level) pages above)) ∙ around.apart in
    let stay2 : Stay pages after (above.page ∷ (forest_pages level pages old ++ [])) = subst (λ (ps : List ℕ). Stay pages after (above.page ∷ ps)) (sym (append-nil (forest_pages level pages old))) stay in
    let keep : Keep pages after (forest_pages level pages (left ++ right)) = page_sides_stay pages after [] level above left old right stands.children_are apart stay2 in
    let subs = subst (AllByRecursion (IsSubtree level pages)) stands.children_are (subtrees_of (IsSubtree level pages) above (page_at pages above.page) around.subtree) in
    let outer = all_split (IsSubtree level pages) left (old ++ right) subs in
    let last = all_split (IsSubtree level pages) old right outer.1 in
    let wide = widens key edit pages after [] went level left old new right local outer.0 last.1 stands.ends stands.begins keep becomes in
    record {
      inner = subst (λ (cs : List Child). Becomes edit pages after [] went level cs (children first above.low above.high separators)) (sym stands.children_are)
          (subst (Becomes edit pages after [] went level (left ++ (old ++ right))) (sym are) wide);
      whole = λ now.
          page_steps_up key edit pages after [] went level above left old new right local around.subtree stands
          (ap (children_of above.low above.high) now ∙ are) (subst (IsInterior (λ (d : Child). ⊤) above) (sym now) (fit, all_top (children first above.low above.high separators))) keep becomes;
    }
