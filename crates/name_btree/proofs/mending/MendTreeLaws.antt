-- What becomes of the page above a child that is mended.
use Rattle.std.proofs.Common.{◌≡◌, ℕ, suc, ◌+◌, Bool, true, ◌||◌, ◌&&◌, List, [], ◌∷◌, ◌++◌, take, drop, Option, Some, sym, ap, subst, ◌∙◌}
use Rattle.std.proofs.lemmas.Bool.{and_parts, and_from}
use Rattle.run_table.specs.Space.{contains}
use Rattle.fsd_bytes.specs.declared.key.Key.{Key}
use Rattle.fsd_formats.specs.declared.page.Separator.{Separator}
use Rattle.fsd_formats.specs.NamePage.{Content, are_ascending}
use Rattle.fsd_table.specs.declared.child.Child.{Child}
use Rattle.fsd_table.specs.Pages.{page_at, children, children_of, keys_fit, not_below, below, separator_keys}
use Rattle.fsd_table.proofs.BoundLaws.{ascend_tail, later_fit, separator_keys_append}
use Rattle.fsd_table.proofs.KeyLaws.{not_below_more, below_less}
use Rattle.fsd_forest.specs.Forest.{forest_pages, Stay, Becomes}
use Rattle.fsd_forest.specs.Parts.{left_part, right_part}
use Rattle.fsd_forest.specs.Ways.{StandsAround, children_before, child_behind, children_from, end_of}
use Rattle.fsd_forest.proofs.WayLaws.{children_beside, children_between}
use Rattle.name_page.specs.Edits.{without}
use Rattle.name_page.specs.Pages.{Step}
use Rattle.name_btree.specs.declared.draft.Draft.{Draft}
use Rattle.name_btree.specs.declared.draft.Sheet.{Sheet}
use Rattle.name_btree.specs.declared.trimming.Pair.{Pair}
use Rattle.name_btree.specs.declared.trimming.Trimmed.{Trimmed}
use Rattle.name_btree.specs.declared.trimming.Trimmed.TheVariants.{Whole, Leaf, Interior}
use Rattle.name_btree.specs.Draft.{drafted}
use Rattle.name_btree.specs.Remove.{IsAround, IsTrimmed, LeftBecomes}
use Rattle.name_btree.specs.Trim.{IsPair, IsOpenedPage, pair_fits, separators_joined, separators_shared, AreJoined, AreShared, AreWaysPut}
use Rattle.name_btree.proofs.mending.ParentLaws.{joined_fit}
use Rattle.name_btree.proofs.mending.NeighbourLaws.{is_local, Raised, raised}
use Rattle.name_btree.proofs.mending.LeafTreeLaws.{stays_above, freed_has}
use Rattle.name_btree.proofs.mending.PairLaws.{parts_at, left_child, right_child}
use Rattle.name_btree.proofs.mending.PutTreeLaws.{pair_child, joined_child, shared_child}
use Rattle.fsd_forest.proofs.PartLaws.{fit_append}
use Rattle.name_page.proofs.CutPageLaws.{keys_front}

-- ---- a key of the pair stands between the keys of the page above

wider_low : (first : ℕ) (low high h : Option Key) (front : List Separator) (k : Key) → are_ascending (separator_keys front) ≡ true → keys_fit low high (separator_keys front) ≡ true → not_below (child_behind first low front h).low k ≡ true → not_below low k ≡ true
wider_low first low high h [] k asc fit e = e
wider_low first low high h (x ∷ front) k asc fit e =
    let parts = and_parts (not_below low x.key && below high x.key) (keys_fit low high (separator_keys front)) fit in
    let at_x = wider_low x.child (Some x.key) high h front k (ascend_tail x.key (separator_keys front) asc) (later_fit x.key low high (separator_keys front) asc parts.1) e in
    not_below_more low x.key k (and_parts (not_below low x.key) (below high x.key) parts.0).0 at_x

wider_high : (low high : Option Key) (back : List Separator) (k : Key) → keys_fit low high (separator_keys back) ≡ true → below (end_of high back) k ≡ true → below high k ≡ true
wider_high low high [] k fit e = e
wider_high low high (b ∷ back) k fit e =
    let parts = and_parts (not_below low b.key && below high b.key) (keys_fit low high (separator_keys back)) fit in
    below_less high b.key k (and_parts (not_below low b.key) (below high b.key) parts.0).1 e

pub shared_fit : (p first : ℕ) (above : Child) (xs : List Separator) (pair : Pair) → IsPair above first xs pair → IsOpenedPage p above first xs → (k : Key) → pair_fits above first xs pair (k ∷ []) ≡ true
    → keys_fit above.low above.high (separator_keys (separators_shared xs pair k)) ≡ true
shared_fit p first above xs pair is o k fit =
    let front : List Separator = take pair.place xs in
    let back : List Separator = drop (pair.place + 1) xs in
    let s : Separator = is.between in
    let new : Separator = record { key = k; child = pair.right } in
    let same = parts_at xs pair.place s is.there in
    let F : List Separator → Bool = λ ys. keys_fit above.low above.high (separator_keys ys) in
    let whole : F (front ++ s ∷ back) ≡ true = ap F (sym same) ∙ o.within in
    let halves = and_parts (F front) (F (s ∷ back)) (sym (fit_append above.low above.high (separator_keys front) (separator_keys (s ∷ back))) ∙ ap (keys_fit above.low above.high) (sym (separator_keys_append front (s ∷ back))) ∙ whole) in
    let behind = (and_parts (not_below above.low s.key && below above.high s.key) (F back) halves.1).1 in
    let asc : are_ascending (separator_keys front ++ separator_keys (s ∷ back)) ≡ true = ap are_ascending (sym (separator_keys_append front (s ∷ back))) ∙ ap (λ ys. are_ascending (separator_keys ys)) (sym same) ∙ o.ways.ascend in
    let lowest : Option Key = (child_behind first above.low front above.high).low in
    let highest : Option Key = end_of above.high back in
    let one = and_parts (not_below lowest k) (below highest k) (and_parts (not_below lowest k && below highest k) true fit).0 in
    let low = wider_low first above.low above.high above.high front k (keys_front (separator_keys front) (separator_keys (s ∷ back)) asc) halves.0 one.0 in
    let high = wider_high above.low above.high back k behind one.1 in
    ap (keys_fit above.low above.high) (separator_keys_append front (new ∷ back)) ∙ fit_append above.low above.high (separator_keys front) (separator_keys (new ∷ back))
    ∙ and_from (F front) (F (new ∷ back)) halves.0 (and_from (not_below above.low k && below above.high k) (F back) (and_from (not_below above.low k) (below above.high k) low high) behind)

-- ---- the page above

left_becomes : (step : Step) (key : Key) (pages : List (List ℕ)) (mid : List Sheet) (new : Draft) (went : List ℕ) (level : ℕ) (above : Child) (first : ℕ) (separators : List Separator) (left : Trimmed)
    → Raised (without key) pages (drafted new.sheets.items step.images) went level above first separators → AreWaysPut step mid new.sheets.items above.page first separators left
    → LeftBecomes (without key) pages (drafted new.sheets.items step.images) went (suc level) above left
left_becomes step key pages mid new went level above first separators Whole r h = r.whole h.content
left_becomes step key pages mid new went level above first separators (Leaf list) r h = absurd h
left_becomes step key pages mid new went level above first separators (Interior f list) r h =
    let after : List (List ℕ) = drafted new.sheets.items step.images in
    let P : ℕ → List Separator → Type 0 = λ n ys. Becomes (without key) pages after [] went level (children_of above.low above.high (page_at pages above.page)) (children n above.low above.high ys) in
    subst (λ (n : ℕ). P n list.items) (sym h.1) (subst (P first) (sym h.2) r.inner)

pub joined_trimmed : (step : Step) (key : Key) (pages : List (List ℕ)) (mid new : Draft) (old0 went : List ℕ) (level p : ℕ) (above : Child) (first : ℕ) (xs : List Separator) (pair : Pair) (is : IsPair above first xs pair) (x : Content) (left : Trimmed)
    → IsAround key pages (suc level) above → IsOpenedPage p above first xs
    → StandsAround key (children_of above.low above.high (page_at pages above.page)) (children_before first above.low (take pair.place xs)) (left_child above first xs pair is.between ∷ right_child above xs pair is.between ∷ []) (children_from above.high (drop (pair.place + 1) xs))
    → AreJoined step mid new above.page first xs pair x left → (pair.right ≡ 0 → ⊥) → ((q : ℕ) → contains mid.freed.items q ≡ (contains old0 q || contains went q))
    → Stay pages (drafted new.sheets.items step.images) (above.page ∷ forest_pages level pages (left_child above first xs pair is.between ∷ right_child above xs pair is.between ∷ []))
    → Becomes (without key) pages (drafted new.sheets.items step.images) [] (pair.right ∷ went) level (left_child above first xs pair is.between ∷ right_child above xs pair is.between ∷ []) (pair_child above first xs pair ∷ [])
    → IsTrimmed key pages (drafted new.sheets.items step.images) old0 new.freed.items (suc level) above left
joined_trimmed step key pages mid new old0 went level p above first xs pair is x left around o stands j some freed stay becomes =
    let after : List (List ℕ) = drafted new.sheets.items step.images in
    let front : List Separator = take pair.place xs in
    let back : List Separator = drop (pair.place + 1) xs in
    let ls : List Child = children_before first above.low front in
    let rs : List Child = children_from above.high back in
    let old : List Child = left_child above first xs pair is.between ∷ right_child above xs pair is.between ∷ [] in
    let are : children first above.low above.high (front ++ back) ≡ ls ++ ((pair_child above first xs pair ∷ []) ++ rs) =
    children_beside first above.low above.high front back ∙ ap (λ (c : Child). ls ++ ((c ∷ []) ++ rs)) (joined_child above first xs pair is) in
    let r = raised key (without key) pages after (pair.right ∷ went) level above ls old (pair_child above first xs pair ∷ []) rs first (separators_joined xs pair) (is_local key) around stands are (joined_fit p first above xs pair is o) stay becomes in
    record {
      went = pair.right ∷ went;
      freed = λ q. ap (λ (ps : List ℕ). contains ps q) j.freed ∙ freed_has pair.right old0 mid.freed.items went some freed q;
      stay = stays_above pages after level above ls old rs stands.children_are stay;
      becomes = left_becomes step key pages j.middle new (pair.right ∷ went) level above first (separators_joined xs pair) left r j.above;
    }

pub shared_trimmed : (step : Step) (key : Key) (pages : List (List ℕ)) (mid new : Draft) (old0 went : List ℕ) (level p : ℕ) (above : Child) (first : ℕ) (xs : List Separator) (pair : Pair) (is : IsPair above first xs pair) (x y : Content) (k : Key) (left : Trimmed)
    → IsAround key pages (suc level) above → IsOpenedPage p above first xs
    → StandsAround key (children_of above.low above.high (page_at pages above.page)) (children_before first above.low (take pair.place xs)) (left_child above first xs pair is.between ∷ right_child above xs pair is.between ∷ []) (children_from above.high (drop (pair.place + 1) xs))
    → AreShared step mid new above.page first xs pair x y k left → pair_fits above first xs pair (k ∷ []) ≡ true → ((q : ℕ) → contains mid.freed.items q ≡ (contains old0 q || contains went q))
    → Stay pages (drafted new.sheets.items step.images) (above.page ∷ forest_pages level pages (left_child above first xs pair is.between ∷ right_child above xs pair is.between ∷ []))
    → Becomes (without key) pages (drafted new.sheets.items step.images) [] went level (left_child above first xs pair is.between ∷ right_child above xs pair is.between ∷ [])
    (left_part pair.left (pair_child above first xs pair) k ∷ right_part pair.right (pair_child above first xs pair) k ∷ [])
    → IsTrimmed key pages (drafted new.sheets.items step.images) old0 new.freed.items (suc level) above left
shared_trimmed step key pages mid new old0 went level p above first xs pair is x y k left around o stands s fit freed stay becomes =
    let after : List (List ℕ) = drafted new.sheets.items step.images in
    let front : List Separator = take pair.place xs in
    let back : List Separator = drop (pair.place + 1) xs in
    let ls : List Child = children_before first above.low front in
    let rs : List Child = children_from above.high back in
    let c : Child = pair_child above first xs pair in
    let old : List Child = left_child above first xs pair is.between ∷ right_child above xs pair is.between ∷ [] in
    let next : List Child = left_part pair.left c k ∷ right_part pair.right c k ∷ [] in
    let are : children first above.low above.high (front ++ record { key = k; child = pair.right } ∷ back) ≡ ls ++ (next ++ rs) =
    children_between first above.low above.high front (record { key = k; child = pair.right }) back ∙ ap (λ (d : Child). ls ++ ((d ∷ right_part pair.right c k ∷ []) ++ rs)) (shared_child above first xs pair k is) in
    let r = raised key (without key) pages after went level above ls old next rs first (separators_shared xs pair k) (is_local key) around stands are (shared_fit p first above xs pair is o k fit) stay becomes in
    record {
      went = went;
      freed = λ q. ap (λ (ps : List ℕ). contains ps q) s.freed ∙ freed q;
      stay = stays_above pages after level above ls old rs stands.children_are stay;
      becomes = subst (LeftBecomes (without key) pages after went (suc level) above) (sym s.whole) (r.whole s.above.content);
    }
