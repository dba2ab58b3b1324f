-- A tree without a key, one level up.
use Rattle.std.proofs.Common.{◌≡◌, inl, inr, ℕ, zero, suc, ◌+◌, ◌-◌, ◌≤◌, Bool, true, false, cond, ◌||◌, ◌&&◌, List, [], ◌∷◌, ◌++◌, length, take, drop, Option, Some, refl, sym, ap, subst, ◌∙◌, arith}
use Rattle.std.specs.Prelude.{slice_get}
use Rattle.std.specs.List.{AllByRecursion}
use Rattle.std.proofs.lemmas.Bool.{and_parts, and_from}
use Rattle.run_table.specs.Space.{contains}
use Rattle.fsd_bytes.specs.declared.key.Key.{Key}
use Rattle.fsd_formats.specs.declared.entry.Entry.{Entry}
use Rattle.fsd_formats.specs.declared.page.Separator.{Separator}
use Rattle.fsd_formats.specs.NamePage.{Content, are_ascending}
use Rattle.fsd_formats.specs.NamePage as grammar
use Rattle.fsd_table.specs.declared.child.Child.{Child}
use Rattle.fsd_table.specs.Pages.{page_at, children, children_of, keys_fit, not_below, below, entry_keys, separator_keys, entries_of}
use Rattle.fsd_table.specs.Tree.{pages_below, IsLeaf, IsInterior, IsSubtree}
use Rattle.fsd_table.proofs.PageLaws.{at_is_page, leaf_ascends}
use Rattle.fsd_table.proofs.BoundLaws.{entry_keys_append, separator_keys_append}
use Rattle.fsd_forest.specs.Forest.{inner, times_in, forest_pages, Stay, Becomes}
use Rattle.fsd_forest.specs.Ways.{StandsAround, IsUpToKey, IsBehindKey, children_before, child_behind, children_from, end_of}
use Rattle.fsd_forest.proofs.CountLaws.{count_cons, count_append, count_nothing, counts_out}
use Rattle.name_page.specs.Edits.{without}
use Rattle.name_page.specs.Pages.{Step}
use Rattle.name_btree.specs.declared.draft.Draft.{Draft}
use Rattle.name_btree.specs.declared.trimming.Pair.{Pair}
use Rattle.name_btree.specs.declared.trimming.Trimmed.{Trimmed}
use Rattle.name_btree.specs.declared.trimming.Trimmed.TheVariants.{Whole, Leaf, Interior}
use Rattle.name_btree.specs.Draft.{drafted}
use Rattle.name_page.specs.declared.cut.Cut.TheVariants.{UpTo}
use Rattle.name_page.specs.Cut.{is_before}
use Rattle.name_btree.specs.Remove.{IsAround, IsTrimmed, IsTrimmedBelow, BreaksAround}
use Rattle.name_btree.specs.Trim.{IsPair, IsOpenedPage, IsLeft, AreFewEntries, AreFewWays, pair_fits, both_entries, ways_at, first_at, LeafIsMended, WayIsMended, IsTrimmedAbove}
use Rattle.name_btree.proofs.mending.NeighbourLaws.{is_local, pair_stands, child_around, up_to, past}
use Rattle.name_btree.proofs.mending.LeafTreeLaws.{leaves_joined, leaves_shared, are_apart, pair_stays, one_same}
use Rattle.name_btree.proofs.mending.MendLaws.{pair_inside, left_page, right_page, ways_are_at}
use Rattle.name_btree.proofs.mending.MendTreeLaws.{joined_trimmed, shared_trimmed}
use Rattle.name_btree.proofs.mending.PairLaws.{left_child, right_child, AreSides, AtLeft, AtRight, sides_are, low_same}
use Rattle.name_btree.proofs.mending.PutTreeLaws.{pair_child, joined_has, shared_has, entries_edited}
use Rattle.name_btree.proofs.mending.RaiseLaws.{child_edited}
use Rattle.name_btree.proofs.mending.TrimLaws.{keys_touch, page_ways, good_at}
use Rattle.name_btree.proofs.walks.WalkLaws.{all_at}
use Rattle.name_btree.proofs.mending.WayTreeLaws.{counted_once, ways_become, ways_joined, ways_shared, Others}
use Rattle.fsd_forest.proofs.PartLaws.{fit_append, keys_joined}
use Rattle.fsd_forest.proofs.WayLaws.{high_is}

-- ---- keys of both leaves

record LeafKeys (above : Child) (first : ℕ) (xs : List Separator) (pair : Pair) (list : List Entry) : Type 0 where
  ascend : are_ascending (entry_keys list) ≡ true
  within : pair_fits above first xs pair (entry_keys list) ≡ true

both_keys : (p first : ℕ) (above : Child) (xs : List Separator) (pair : Pair) (is : IsPair above first xs pair) → IsOpenedPage p above first xs → (ls rs : List Entry) → are_ascending (entry_keys ls) ≡ true → are_ascending (entry_keys rs) ≡ true
    → keys_fit (left_child above first xs pair is.between).low (left_child above first xs pair is.between).high (entry_keys ls) ≡ true → keys_fit (Some is.between.key) (end_of above.high (drop (pair.place + 1) xs)) (entry_keys rs) ≡ true
    → LeafKeys above first xs pair (ls ++ rs)
both_keys p first above xs pair is o ls rs a b under over =
    let k : Key = is.between.key in
    let lowest : Option Key = (child_behind first above.low (take pair.place xs) above.high).low in
    let highest : Option Key = end_of above.high (drop (pair.place + 1) xs) in
    let l : Child = left_child above first xs pair is.between in
    let under1 = subst (λ (low : Option Key). keys_fit low l.high (entry_keys ls) ≡ true) (low_same first above.low (Some k) above.high (take pair.place xs)) under in
    let under2 = subst (λ (high : Option Key). keys_fit lowest high (entry_keys ls) ≡ true) (high_is first above.low (Some k) (take pair.place xs)) under1 in
    record {
      ascend = ap are_ascending (entry_keys_append ls rs) ∙ keys_touch lowest highest (entry_keys ls) k (entry_keys rs) a under2 b over;
      within = ap (keys_fit lowest highest) (entry_keys_append ls rs) ∙ keys_joined lowest highest (entry_keys ls) (entry_keys rs) k (pair_inside p first above xs pair is o) under2 over;
    }

leaf_keys : (p first : ℕ) (above : Child) (xs : List Separator) (pair : Pair) (is : IsPair above first xs pair) → IsOpenedPage p above first xs → (i : ℕ) (child neighbour : Child) → AreSides above first xs pair is.between i child neighbour
    → (few others : List Entry) → are_ascending (entry_keys few) ≡ true → are_ascending (entry_keys others) ≡ true → keys_fit child.low child.high (entry_keys few) ≡ true → keys_fit neighbour.low neighbour.high (entry_keys others) ≡ true
    → LeafKeys above first xs pair (both_entries i few others)
leaf_keys p first above xs pair is o i child neighbour (AtLeft e at next) few others a b fit fit2 =
    let F : List Entry → Child → Type 0 = λ es c. keys_fit c.low c.high (entry_keys es) ≡ true in
    subst (λ (t : Bool). LeafKeys above first xs pair (cond t (few ++ others) (others ++ few))) (sym e) (both_keys p first above xs pair is o few others a b (subst (F few) at fit) (subst (F others) next fit2))
leaf_keys p first above xs pair is o i child neighbour (AtRight e at next) few others a b fit fit2 =
    let F : List Entry → Child → Type 0 = λ es c. keys_fit c.low c.high (entry_keys es) ≡ true in
    subst (λ (t : Bool). LeafKeys above first xs pair (cond t (few ++ others) (others ++ few))) (sym e) (both_keys p first above xs pair is o others few b a (subst (F others) next fit2) (subst (F few) at fit))

fit_one : (low high : Option Key) (ks : List Key) (k : Key) (ls : List Key) → keys_fit low high (ks ++ k ∷ ls) ≡ true → keys_fit low high (k ∷ []) ≡ true
fit_one low high ks k ls fit =
    let halves = and_parts (keys_fit low high ks) (keys_fit low high (k ∷ ls)) (sym (fit_append low high ks (k ∷ ls)) ∙ fit) in
    and_from (not_below low k && below high k) true (and_parts (not_below low k && below high k) (keys_fit low high ls) halves.1).0 refl

-- ---- leaves

pub leaf_mended : (step : Step) (key : Key) (pages : List (List ℕ)) (mid new : Draft) (old0 : List ℕ) (above : Child) (first : ℕ) (xs : List Separator) (i : ℕ) (child : Child) (few : List Entry) (left : Trimmed)
    → IsAround key pages (suc zero) above → page_at pages above.page ≡ Some (grammar.Interior first xs) → IsOpenedPage (length pages) above first xs
    → AllByRecursion (IsUpToKey key) (take i xs) → AllByRecursion (IsBehindKey key) (drop i xs) → slice_get (children first above.low above.high xs) i ≡ Some child → AreFewEntries child few
    → ((q : ℕ) → contains mid.freed.items q ≡ (contains old0 q || contains [] q)) → few ≡ without key (entries_of (page_at pages child.page)) → Stay pages (drafted mid.sheets.items step.images) []
    → LeafIsMended step mid new above first xs i few left → IsTrimmed key pages (drafted new.sheets.items step.images) old0 new.freed.items (suc zero) above left
leaf_mended step key pages mid new old0 above first xs i child few left around at o ends begins child_is small freed few_is stay m =
    let after : List (List ℕ) = drafted new.sheets.items step.images in
    let between : List (List ℕ) = drafted mid.sheets.items step.images in
    let pair = m.pair in
    let is = m.is in
    let neighbour = m.neighbour in
    let cs : List Child = children first above.low above.high xs in
    let ls : List Child = children_before first above.low (take pair.place xs) in
    let rs : List Child = children_from above.high (drop (pair.place + 1) xs) in
    let old : List Child = left_child above first xs pair is.between ∷ right_child above xs pair is.between ∷ [] in
    let sides = sides_are above first xs pair is i child neighbour m.place child_is m.there in
    let stands0 = pair_stands key above first xs pair is i m.place ends begins in
    let stands = subst (λ (x : Option Content). StandsAround key (children_of above.low above.high x) ls old rs) (sym at) stands0 in
    let apart = are_apart key pages zero above first xs pair is ls rs around stands.children_are in
    let has : page_at pages neighbour.page ≡ Some (grammar.Leaf m.others) = sym (stay neighbour.page refl) ∙ m.has in
    let subs = subst (IsInterior (IsSubtree zero pages) above) at around.subtree in
    let fit = subst (IsLeaf neighbour) has (all_at (IsSubtree zero pages) cs _ neighbour m.there subs.1) in
    let asc = leaf_ascends neighbour.page (length pages) m.others (at_is_page pages neighbour.page (grammar.Leaf m.others) has) in
    let keys = leaf_keys (length pages) first above xs pair is o i child neighbour sides few m.others small.are.ascend asc small.within fit in
    let edited = entries_edited key pages above first xs pair is i child neighbour sides m.place ends begins few m.others few_is has fit in
    elim m.mended [
      | inl j ↦
          let h = joined_has step mid new above.page first xs pair _ left j apart.left_above in
          let stay2 = pair_stays pages between after zero above first xs pair is [] (λ q. omega (arith, count_nothing q)) stay (λ q a b d. h.others q a d) in
          joined_trimmed step key pages mid new old0 [] zero (length pages) above first xs pair is _ left around o stands j apart.right_inner freed stay2
          (leaves_joined key pages after above first xs pair is (both_entries i few m.others) h.content keys.within edited)
      | inr s ↦
          let h = shared_has step mid new above.page first xs pair _ _ _ left s.shared apart.left_above apart.right_above apart.left_right in
          let stay2 = pair_stays pages between after zero above first xs pair is [] (λ q. omega (arith, count_nothing q)) stay h.others in
          let lowest : Option Key = (child_behind first above.low (take pair.place xs) above.high).low in
          let highest : Option Key = end_of above.high (drop (pair.place + 1) xs) in
          let asc2 = ap (λ (es : List Entry). are_ascending (entry_keys es)) (sym s.parts) ∙ keys.ascend in
          let fit2 = ap (λ (es : List Entry). pair_fits above first xs pair (entry_keys es)) (sym s.parts) ∙ keys.within in
          let one = fit_one lowest highest (entry_keys s.xs) s.y.key (entry_keys s.ys) (ap (keys_fit lowest highest) (sym (entry_keys_append s.xs (s.y ∷ s.ys))) ∙ fit2) in
          shared_trimmed step key pages mid new old0 [] zero (length pages) above first xs pair is _ _ s.y.key left around o stands s.shared one freed stay2
          (leaves_shared key pages after above first xs pair is s.xs s.y s.ys h.left h.right asc2 fit2 (sym s.parts ∙ edited))
    ]

-- ---- a child that has all

pub whole_mended : (step : Step) (key : Key) (pages : List (List ℕ)) (new : Draft) (old0 went : List ℕ) (level : ℕ) (above : Child) (first : ℕ) (xs : List Separator) (i : ℕ) (child : Child)
    → IsAround key pages (suc level) above → page_at pages above.page ≡ Some (grammar.Interior first xs) → i ≤ length xs
    → AllByRecursion (IsUpToKey key) (take i xs) → AllByRecursion (IsBehindKey key) (drop i xs) → slice_get (children first above.low above.high xs) i ≡ Some child
    → ((q : ℕ) → contains new.freed.items q ≡ (contains old0 q || contains went q)) → Stay pages (drafted new.sheets.items step.images) (pages_below level pages child)
    → Becomes (without key) pages (drafted new.sheets.items step.images) [] went level (child ∷ []) (child ∷ [])
    → IsTrimmed key pages (drafted new.sheets.items step.images) old0 new.freed.items (suc level) above Whole
whole_mended step key pages new old0 went level above first xs i child around at within ends begins child_is freed stay becomes =
    let after : List (List ℕ) = drafted new.sheets.items step.images in
    let e = child_edited key (without key) pages after went level above first xs i child (is_local key) around at within ends begins child_is (record { becomes = becomes; stay = stay }) in
    record { went = went; freed = freed; stay = e.stay; becomes = e.becomes }

-- ---- interior pages

others_of : (between after : List (List ℕ)) (above : Child) (first : ℕ) (xs : List Separator) (pair : Pair) (is : IsPair above first xs pair) (i : ℕ) (child neighbour : Child) → AreSides above first xs pair is.between i child neighbour
    → ((q : ℕ) → (q ≡ pair.left → ⊥) → (q ≡ pair.right → ⊥) → (q ≡ above.page → ⊥) → page_at after q ≡ page_at between q) → Others between after above.page child neighbour
others_of between after above first xs pair is i child neighbour sides h q a b d =
    h q (left_page (λ (n : ℕ). q ≡ n → ⊥) above first xs pair is i child neighbour sides a b) (right_page (λ (n : ℕ). q ≡ n → ⊥) above first xs pair is i child neighbour sides a b) d

child_counts : (q level : ℕ) (pages : List (List ℕ)) (above : Child) (first : ℕ) (xs : List Separator) (pair : Pair) (s : Separator) (i : ℕ) (child neighbour : Child) → AreSides above first xs pair s i child neighbour
    → times_in q (pages_below level pages child) ≤ times_in q (forest_pages level pages (left_child above first xs pair s ∷ right_child above xs pair s ∷ []))
child_counts q level pages above first xs pair s i child neighbour (AtLeft e at next) =
    let f : Child → List ℕ = pages_below level pages in
    let a : Child = left_child above first xs pair s in
    let b : Child = right_child above xs pair s in
    omega (arith, ap (λ (c : Child). times_in q (f c)) at, count_append q (f a) (f b ++ []))
child_counts q level pages above first xs pair s i child neighbour (AtRight e at next) =
    let f : Child → List ℕ = pages_below level pages in
    let a : Child = left_child above first xs pair s in
    let b : Child = right_child above xs pair s in
    omega (arith, ap (λ (c : Child). times_in q (f c)) at, count_append q (f a) (f b ++ []), count_append q (f b) [], count_nothing q)

pub way_mended : (step : Step) (key : Key) (pages : List (List ℕ)) (mid new : Draft) (old0 went : List ℕ) (l : ℕ) (above : Child) (first : ℕ) (xs : List Separator) (i : ℕ) (child : Child) (lead : ℕ) (few : List Separator) (left : Trimmed)
    → IsAround key pages (suc (suc l)) above → page_at pages above.page ≡ Some (grammar.Interior first xs) → IsOpenedPage (length pages) above first xs
    → AllByRecursion (IsUpToKey key) (take i xs) → AllByRecursion (IsBehindKey key) (drop i xs) → slice_get (children first above.low above.high xs) i ≡ Some child → AreFewWays (length pages) child lead few
    → ((q : ℕ) → contains mid.freed.items q ≡ (contains old0 q || contains went q)) → Stay pages (drafted mid.sheets.items step.images) (pages_below (suc l) pages child)
    → Becomes (without key) pages (drafted mid.sheets.items step.images) [] went l (children_of child.low child.high (page_at pages child.page)) (children lead child.low child.high few)
    → WayIsMended step mid new above first xs i lead few left → IsTrimmed key pages (drafted new.sheets.items step.images) old0 new.freed.items (suc (suc l)) above left
way_mended step key pages mid new old0 went l above first xs i child lead few left around at o ends begins child_is small freed stay becomes m =
    let after : List (List ℕ) = drafted new.sheets.items step.images in
    let between : List (List ℕ) = drafted mid.sheets.items step.images in
    let pair = m.pair in
    let is = m.is in
    let k : Key = is.between.key in
    let neighbour = m.neighbour in
    let cs : List Child = children first above.low above.high xs in
    let ls : List Child = children_before first above.low (take pair.place xs) in
    let rs : List Child = children_from above.high (drop (pair.place + 1) xs) in
    let old : List Child = left_child above first xs pair is.between ∷ right_child above xs pair is.between ∷ [] in
    let sides = sides_are above first xs pair is i child neighbour m.place child_is m.there in
    let stands0 = pair_stands key above first xs pair is i m.place ends begins in
    let stands = subst (λ (x : Option Content). StandsAround key (children_of above.low above.high x) ls old rs) (sym at) stands0 in
    let apart = are_apart key pages (suc l) above first xs pair is ls rs around stands.children_are in
    let once = counted_once key pages l above first xs pair is.between i child neighbour sides around ls rs stands.children_are in
    let out : contains (pages_below (suc l) pages child) neighbour.page ≡ false = counts_out neighbour.page (pages_below (suc l) pages child)
    (omega (arith, once neighbour.page, one_same neighbour.page neighbour.page refl, count_cons neighbour.page child.page (forest_pages l pages (children_of child.low child.high (page_at pages child.page))))) in
    let has : page_at pages neighbour.page ≡ Some (grammar.Interior m.second m.others) = sym (stay neighbour.page out) ∙ m.has in
    let subs = subst (IsInterior (IsSubtree (suc l) pages) above) at around.subtree in
    let sub = subst (IsInterior (IsSubtree l pages) neighbour) has (all_at (IsSubtree (suc l) pages) cs _ neighbour m.there subs.1) in
    let others_ways = page_ways neighbour.page (length pages) m.second m.others (at_is_page pages neighbour.page (grammar.Interior m.second m.others) has) in
    let both = ways_are_at (length pages) first above xs pair is o i child neighbour sides lead few m.second m.others small others_ways.ways sub.0 (good_at (length pages) first xs pair.place is.between o.ways is.there) m.behind in
    let lead2 : ℕ = first_at i lead m.second in
    let list : List Separator = ways_at i k lead few m.second m.others in
    elim m.mended [
      | inl j ↦
          let h = joined_has step mid new above.page first xs pair _ left j apart.left_above in
          let stay2 = pair_stays pages between after (suc l) above first xs pair is (pages_below (suc l) pages child) (λ q. child_counts q (suc l) pages above first xs pair is.between i child neighbour sides) stay (λ q a b d. h.others q a d) in
          let changed = others_of between after above first xs pair is i child neighbour sides (λ q a b d. h.others q a d) in
          let b = ways_become key pages between after went l above first xs pair is i child neighbour sides m.place ends begins once changed stay lead few m.second m.others has sub becomes in
          joined_trimmed step key pages mid new old0 went (suc l) (length pages) above first xs pair is _ left around o stands j apart.right_inner freed stay2
          (ways_joined key pages after went l above first xs pair is lead2 list h.content both.within b)
      | inr s ↦
          let h = shared_has step mid new above.page first xs pair _ _ _ left s.shared apart.left_above apart.right_above apart.left_right in
          let stay2 = pair_stays pages between after (suc l) above first xs pair is (pages_below (suc l) pages child) (λ q. child_counts q (suc l) pages above first xs pair is.between i child neighbour sides) stay h.others in
          let changed = others_of between after above first xs pair is i child neighbour sides h.others in
          let b = ways_become key pages between after went l above first xs pair is i child neighbour sides m.place ends begins once changed stay lead few m.second m.others has sub becomes in
          let pc : Child = pair_child above first xs pair in
          let b2 = subst (λ (zs : List Separator). Becomes (without key) pages after [] went l (inner pages old) (children lead2 pc.low pc.high zs)) s.parts b in
          let lowest : Option Key = (child_behind first above.low (take pair.place xs) above.high).low in
          let highest : Option Key = end_of above.high (drop (pair.place + 1) xs) in
          let asc2 = ap (λ (es : List Separator). are_ascending (separator_keys es)) (sym s.parts) ∙ both.are.ascend in
          let fit2 = ap (λ (es : List Separator). pair_fits above first xs pair (separator_keys es)) (sym s.parts) ∙ both.within in
          let one = fit_one lowest highest (separator_keys s.xs) s.s.key (separator_keys s.ys) (ap (keys_fit lowest highest) (sym (separator_keys_append s.xs (s.s ∷ s.ys))) ∙ fit2) in
          shared_trimmed step key pages mid new old0 went (suc l) (length pages) above first xs pair is _ _ s.s.key left around o stands s.shared one freed stay2
          (ways_shared key pages after went l above first xs pair is lead2 s.xs s.s s.ys h.left h.right asc2 fit2 b2)
    ]

-- ---- whatever is left of the child

pub mended_trimmed : (step : Step) (key : Key) (pages : List (List ℕ)) (mid new : Draft) (old0 : List ℕ) (level : ℕ) (above : Child) (first : ℕ) (xs : List Separator) (i : ℕ) (child : Child) (below left : Trimmed)
    → IsAround key pages (suc level) above → page_at pages above.page ≡ Some (grammar.Interior first xs) → IsOpenedPage (length pages) above first xs → i ≤ length xs
    → AllByRecursion (IsUpToKey key) (take i xs) → AllByRecursion (IsBehindKey key) (drop i xs) → slice_get (children first above.low above.high xs) i ≡ Some child → IsLeft (length pages) child below
    → IsTrimmed key pages (drafted mid.sheets.items step.images) old0 mid.freed.items level child below → IsTrimmedAbove step mid new above first xs i below left
    → IsTrimmed key pages (drafted new.sheets.items step.images) old0 new.freed.items (suc level) above left
mended_trimmed step key pages mid new old0 level above first xs i child Whole left around at o within ends begins child_is small t m =
    let P : Draft → Trimmed → Type 0 = λ d x. IsTrimmed key pages (drafted d.sheets.items step.images) old0 d.freed.items (suc level) above x in
    subst (P new) (sym m.0) (subst (λ (d : Draft). P d Whole) (sym m.1) (whole_mended step key pages mid old0 t.went level above first xs i child around at within ends begins child_is t.freed t.stay t.becomes))
mended_trimmed step key pages mid new old0 zero above first xs i child (Leaf list) left around at o within ends begins child_is small t m =
    let freed : (q : ℕ) → contains mid.freed.items q ≡ (contains old0 q || contains [] q) = λ q. t.freed q ∙ ap (λ (ps : List ℕ). contains old0 q || contains ps q) t.becomes.0 in
    leaf_mended step key pages mid new old0 above first xs i child list.items left around at o ends begins child_is small freed t.becomes.1 t.becomes.2 m
mended_trimmed step key pages mid new old0 (suc l) above first xs i child (Leaf list) left around at o within ends begins child_is small t m = absurd t.becomes
mended_trimmed step key pages mid new old0 zero above first xs i child (Interior lead list) left around at o within ends begins child_is small t m = absurd t.becomes
mended_trimmed step key pages mid new old0 (suc l) above first xs i child (Interior lead list) left around at o within ends begins child_is small t m =
    way_mended step key pages mid new old0 t.went l above first xs i child lead list.items left around at o ends begins child_is small t.freed t.stay t.becomes m

-- ---- below a child of so many levels at most

pub trimmed_above : (step : Step) (images0 images1 : List (List ℕ)) → step.images ≡ images0 → images1 ≡ images0 → (key : Key) (draft mid new : Draft) (levels : ℕ) (above : Child) (first : ℕ) (xs : List Separator) (i : ℕ) (child : Child) (below left : Trimmed)
    → page_at (drafted draft.sheets.items images0) above.page ≡ Some (grammar.Interior first xs) → IsOpenedPage (length (drafted draft.sheets.items images0)) above first xs → i ≤ length xs
    → AllByRecursion (λ s. is_before (UpTo key) s.key ≡ true) (take i xs) → AllByRecursion (λ s. is_before (UpTo key) s.key ≡ false) (drop i xs) → slice_get (children first above.low above.high xs) i ≡ Some child
    → IsLeft (length (drafted draft.sheets.items images0)) child below
    → IsTrimmedBelow key (drafted draft.sheets.items images1) (drafted mid.sheets.items images1) draft.freed.items mid.freed.items (levels - 1) child below → IsTrimmedAbove step mid new above first xs i below left
    → IsTrimmedBelow key (drafted draft.sheets.items images0) (drafted new.sheets.items images0) draft.freed.items new.freed.items levels above left
trimmed_above step images0 images1 same3 same1 key draft mid new levels above first xs i child below left at o within before behind child_is small t m zero most around = absurd (subst (IsLeaf above) at around.subtree)
trimmed_above step images0 images1 same3 same1 key draft mid new levels above first xs i child below left at o within before behind child_is small t m (suc l) most around =
    let pages : List (List ℕ) = drafted draft.sheets.items images0 in
    let ends = up_to key (take i xs) before in
    let begins = past key (drop i xs) behind in
    let inner_around = child_around key pages l above first xs i child around at within ends begins child_is in
    let around1 = subst (λ (x : List (List ℕ)). IsAround key (drafted draft.sheets.items x) l child) (sym same1) inner_around in
    let t1 = t l (omega (arith, most)) around1 in
    let t2 = subst (λ (x : List (List ℕ)). IsTrimmed key (drafted draft.sheets.items x) (drafted mid.sheets.items x) draft.freed.items mid.freed.items l child below) same1 t1 in
    let t3 = subst (λ (x : List (List ℕ)). IsTrimmed key pages (drafted mid.sheets.items x) draft.freed.items mid.freed.items l child below) (sym same3) t2 in
    subst (λ (x : List (List ℕ)). IsTrimmed key pages (drafted new.sheets.items x) draft.freed.items new.freed.items (suc l) above left) same3
    (mended_trimmed step key pages mid new draft.freed.items l above first xs i child below left around at o within ends begins child_is small t3 m)

-- what breaks below a child breaks below the page above it
pub breaks_above : (images : List (List ℕ)) (key : Key) (draft : Draft) (levels : ℕ) (above : Child) (first : ℕ) (xs : List Separator) (i : ℕ) (child : Child) (page : ℕ)
    → page_at (drafted draft.sheets.items images) above.page ≡ Some (grammar.Interior first xs) → i ≤ length xs
    → AllByRecursion (λ s. is_before (UpTo key) s.key ≡ true) (take i xs) → AllByRecursion (λ s. is_before (UpTo key) s.key ≡ false) (drop i xs) → slice_get (children first above.low above.high xs) i ≡ Some child
    → BreaksAround key (drafted draft.sheets.items images) (levels - 1) child page → BreaksAround key (drafted draft.sheets.items images) levels above page
breaks_above images key draft levels above first xs i child page at within before behind child_is h zero most around = subst (IsLeaf above) at around.subtree
breaks_above images key draft levels above first xs i child page at within before behind child_is h (suc l) most around =
    h l (omega (arith, most)) (child_around key (drafted draft.sheets.items images) l above first xs i child around at within (up_to key (take i xs) before) (past key (drop i xs) behind) child_is)
