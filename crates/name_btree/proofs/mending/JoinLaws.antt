-- In a tree a child of too little has a neighbour that it is joined with.
use Rattle.std.proofs.Common.{◌≡◌, ℕ, zero, suc, ◌+◌, ◌-◌, ◌<◌, ◌≤◌, Bool, true, false, cond, List, [], ◌∷◌, ◌++◌, length, take, drop, Option, Some, None, refl, sym, ap, subst, ◌∙◌, arith}
use Rattle.std.specs.Prelude.{◌==◌, slice_get}
use Rattle.std.specs.List.{flat_map, AllByRecursion}
use Rattle.run_table.specs.Space.{contains}
use Rattle.fsd_bytes.specs.declared.key.Key.{Key}
use Rattle.fsd_formats.specs.declared.entry.Entry.{Entry}
use Rattle.fsd_formats.specs.declared.page.Separator.{Separator}
use Rattle.fsd_formats.specs.NamePage.{Content}
use Rattle.fsd_formats.specs.NamePage as grammar
use Rattle.fsd_table.specs.declared.child.Child.{Child}
use Rattle.fsd_table.specs.Pages.{page_at, children, children_of, keys_fit, separator_keys, entries_of}
use Rattle.fsd_table.specs.Tree.{pages_below, entries_below, IsLeaf, IsInterior, IsSubtree}
use Rattle.fsd_table.proofs.BoundLaws.{Fits, entries_between}
use Rattle.fsd_table.proofs.KeyLaws.{le_lt}
use Rattle.fsd_table.proofs.PageLaws.{at_is_page}
use Rattle.fsd_forest.specs.Forest.{times_in, forest_pages}
use Rattle.fsd_forest.specs.Ways.{StandsAround, IsUpToKey, IsBehindKey, children_before, child_behind, children_from}
use Rattle.fsd_forest.proofs.CountLaws.{count_cons, count_append, count_nothing, counts_there, counts_out, differ_counts, one_where}
use Rattle.fsd_table.proofs.PageLaws.{length_of_children}
use Rattle.name_btree.specs.declared.trimming.Pair.{Pair}
use Rattle.name_btree.specs.declared.trimming.Trimmed.{Trimmed}
use Rattle.name_btree.specs.declared.trimming.Trimmed.TheVariants.{Whole, Leaf, Interior}
use Rattle.name_btree.specs.Remove.{IsAround, IsTrimmed, IsTrimmedBelow, BreaksAround}
use Rattle.name_btree.specs.declared.draft.Draft.{Draft}
use Rattle.name_btree.specs.Draft.{drafted}
use Rattle.name_page.proofs.EndsLaws.{some_there}
use Rattle.name_page.specs.declared.cut.Cut.TheVariants.{UpTo}
use Rattle.name_page.specs.Cut.{is_before}
use Rattle.name_btree.specs.Trim.{IsPair, IsOpenedPage, neighbour_of, right_at, is_behind, IsUnlike}
use Rattle.name_btree.proofs.mending.NeighbourLaws.{pair_stands, count_one, child_around, up_to, past}
use Rattle.name_btree.proofs.mending.LeafTreeLaws.{one_same, head_counts}
use Rattle.name_btree.proofs.mending.PairLaws.{left_child, right_child, AreSides, AtLeft, AtRight, sides_are}
use Rattle.name_btree.proofs.mending.TrimLaws.{least_at, leaf_least}
use Rattle.name_btree.proofs.walks.WalkLaws.{all_at}
use Rattle.name_btree.proofs.mending.WayTreeLaws.{counted_once}

-- ---- some entry stands below a page other than page 0

pub record HasEntry (entries : List Entry) : Type 0 where
  pub first : Entry
  pub rest : List Entry
  pub are : entries ≡ first ∷ rest

leaf_entry : (pages : List (List ℕ)) (c : Child) (x : Option Content) → page_at pages c.page ≡ x → IsLeaf c x → (c.page ≡ 0 → ⊥) → HasEntry (entries_of x)
leaf_entry pages c None at h some = absurd h
leaf_entry pages c (Some grammar.Free) at h some = absurd h
leaf_entry pages c (Some (grammar.Interior first xs)) at h some = absurd h
leaf_entry pages c (Some (grammar.Leaf [])) at h some =
    let least = least_at c.page 0 some (leaf_least c.page (length pages) [] (at_is_page pages c.page (grammar.Leaf []) at)) in absurd (omega (arith, least))
leaf_entry pages c (Some (grammar.Leaf (e ∷ es))) at h some = record { first = e; rest = es; are = refl }

some_entry : (l : ℕ) (pages : List (List ℕ)) (c : Child) → IsSubtree l pages c → times_in 0 (pages_below l pages c) ≤ 0 → HasEntry (entries_below l pages c)
some_entry zero pages c sub none = leaf_entry pages c (page_at pages c.page) refl sub (λ e. absurd (omega (arith, none, head_counts 0 zero pages c, one_same c.page 0 e)))
some_entry (suc l) pages c sub none =
    by (λ d. some_entry l pages d) (page_at pages c.page) sub (omega (arith, none, count_cons 0 c.page (forest_pages l pages (children_of c.low c.high (page_at pages c.page)))))
  where
    joined : (d : Child) (ds : List Child) → HasEntry (entries_below l pages d) → HasEntry (flat_map (entries_below l pages) (d ∷ ds))
    joined d ds h = record { first = h.first; rest = h.rest ++ flat_map (entries_below l pages) ds; are = ap (λ (es : List Entry). es ++ flat_map (entries_below l pages) ds) h.are }

    by : ((d : Child) → IsSubtree l pages d → times_in 0 (pages_below l pages d) ≤ 0 → HasEntry (entries_below l pages d)) → (x : Option Content) → IsInterior (IsSubtree l pages) c x → times_in 0 (forest_pages l pages (children_of c.low c.high x)) ≤ 0 → HasEntry (flat_map (entries_below l pages) (children_of c.low c.high x))
    by each None h n = absurd h
    by each (Some grammar.Free) h n = absurd h
    by each (Some (grammar.Leaf es)) h n = absurd h
    by each (Some (grammar.Interior first [])) h n =
        let d : Child = record { page = first; low = c.low; high = c.high } in
        joined d [] (each d h.1.0 (omega (arith, n, count_append 0 (pages_below l pages d) [])))
    by each (Some (grammar.Interior first (s ∷ xs))) h n =
        let d : Child = record { page = first; low = c.low; high = Some s.key } in
        let ds : List Child = children s.child (Some s.key) c.high xs in
        joined d ds (each d h.1.0 (omega (arith, n, count_append 0 (pages_below l pages d) (forest_pages l pages ds))))

-- so the first of some separators is greater than the key from which on its page stands
heads_behind : (l : ℕ) (pages : List (List ℕ)) (second : ℕ) (k : Key) (high : Option Key) (ys : List Separator) → AllByRecursion (IsSubtree l pages) (children second (Some k) high ys)
    → times_in 0 (forest_pages l pages (children second (Some k) high ys)) ≤ 0 → is_behind k ys ≡ true
heads_behind l pages second k high [] subs none = refl
heads_behind l pages second k high (y ∷ ys) subs none =
    let d : Child = record { page = second; low = Some k; high = Some y.key } in
    let h = some_entry l pages d subs.0 (omega (arith, none, count_append 0 (pages_below l pages d) (forest_pages l pages (children y.child (Some y.key) high ys)))) in
    let all = subst (AllByRecursion (Fits (Some k) (Some y.key))) h.are (entries_between l pages d subs.0) in
    le_lt k h.first.key y.key all.0.0 all.0.1

-- ---- the neighbour

at_inner : (key : Key) (pages : List (List ℕ)) (level : ℕ) (above : Child) (first : ℕ) (xs : List Separator) (j : ℕ) (d : Child) → IsAround key pages (suc level) above → page_at pages above.page ≡ Some (grammar.Interior first xs)
    → slice_get (children first above.low above.high xs) j ≡ Some d → times_in 0 (pages_below level pages d) ≤ 0
at_inner key pages level above first xs j d around at is =
    let f : Child → List ℕ = pages_below level pages in
    let cs : List Child = children first above.low above.high xs in
    let split : pages_below (suc level) pages above ≡ above.page ∷ flat_map f cs = ap (λ (x : Option Content). above.page ∷ flat_map f (children_of above.low above.high x)) at in
    let most = differ_counts (pages_below (suc level) pages above) around.apart 0 in
    let few = count_one 0 f cs j d is in
    let sum = count_cons 0 above.page (flat_map f cs) in
    let whole = ap (times_in 0) split in
    by (times_in 0 (f d)) refl most few sum whole
  where
    by : (n : ℕ) → times_in 0 (pages_below level pages d) ≡ n → times_in 0 (pages_below (suc level) pages above) ≤ 1 → times_in 0 (pages_below level pages d) ≤ times_in 0 (flat_map (pages_below level pages) (children first above.low above.high xs))
        → times_in 0 (above.page ∷ flat_map (pages_below level pages) (children first above.low above.high xs)) ≡ one_where (above.page == 0) + times_in 0 (flat_map (pages_below level pages) (children first above.low above.high xs))
        → times_in 0 (pages_below (suc level) pages above) ≡ times_in 0 (above.page ∷ flat_map (pages_below level pages) (children first above.low above.high xs)) → times_in 0 (pages_below level pages d) ≤ 0
    by zero e most few sum whole = omega (arith, e)
    by (suc n) e most few sum whole =
        let zero_is = around.inner (counts_there 0 (pages_below (suc level) pages above) (omega (arith, e, few, sum, whole))) in
        absurd (omega (arith, e, most, few, sum, whole, one_same above.page 0 zero_is))

pub record HasNeighbour (above : Child) (first : ℕ) (xs : List Separator) (i : ℕ) (child : Child) : Type 0 where
  pub pair : Pair
  pub place : pair.place ≡ i - 1
  pub is : IsPair above first xs pair
  pub neighbour : Child
  pub there : slice_get (children first above.low above.high xs) (neighbour_of i) ≡ Some neighbour

has_neighbour : (p : ℕ) (above : Child) (first : ℕ) (xs : List Separator) (i : ℕ) (child : Child) → IsOpenedPage p above first xs → i ≤ length xs → HasNeighbour above first xs i child
has_neighbour p above first xs i child o within =
    let some : 1 ≤ length xs = by_page (above.page == 0) o.least in
    let s = some_there xs (i - 1) (omega (arith, some, within)) in
    let pair : Pair = record { place = i - 1; left = (child_behind first above.low (take (i - 1) xs) (Some s.0.key)).page; right = s.0.child } in
    let n = some_there (children first above.low above.high xs) (neighbour_of i) (by_i (i == 0) (length_of_children first above.low above.high xs) some within) in
    record { pair = pair; place = refl; is = record { between = s.0; there = s.1; left = refl; right = refl }; neighbour = n.0; there = n.1 }
  where
    by_page : (b : Bool) → cond b 1 4 ≤ length xs → 1 ≤ length xs
    by_page true h = h
    by_page false h = omega (arith, h)

    by_i : (b : Bool) → length (children first above.low above.high xs) ≡ suc (length xs) → 1 ≤ length xs → i ≤ length xs → cond b 1 (i - 1) < length (children first above.low above.high xs)
    by_i true e some h = omega (arith, e, some)
    by_i false e some h = omega (arith, e, some, h)

record WaysOf (l : ℕ) (pages : List (List ℕ)) (c : Child) (x : Option Content) : Type 0 where
  second : ℕ
  others : List Separator
  is : x ≡ Some (grammar.Interior second others)
  fit : keys_fit c.low c.high (separator_keys others) ≡ true
  subs : AllByRecursion (IsSubtree l pages) (children second c.low c.high others)

ways_of : (l : ℕ) (pages : List (List ℕ)) (c : Child) (x : Option Content) → IsInterior (IsSubtree l pages) c x → WaysOf l pages c x
ways_of l pages c None h = absurd h
ways_of l pages c (Some grammar.Free) h = absurd h
ways_of l pages c (Some (grammar.Leaf es)) h = absurd h
ways_of l pages c (Some (grammar.Interior second others)) h = record { second = second; others = others; is = refl; fit = h.0; subs = h.1 }

pub unlike_breaks : (key : Key) (pages between : List (List ℕ)) (old0 new0 : List ℕ) (level p : ℕ) (above : Child) (first : ℕ) (xs : List Separator) (i : ℕ) (child : Child) (below : Trimmed) (page : ℕ)
    → IsAround key pages (suc level) above → page_at pages above.page ≡ Some (grammar.Interior first xs) → IsOpenedPage p above first xs → i ≤ length xs
    → AllByRecursion (IsUpToKey key) (take i xs) → AllByRecursion (IsBehindKey key) (drop i xs) → slice_get (children first above.low above.high xs) i ≡ Some child
    → IsTrimmed key pages between old0 new0 level child below → IsUnlike between above first xs i below page → ⊥
unlike_breaks key pages between old0 new0 level p above first xs i child Whole page around at o within ends begins child_is t u = u
unlike_breaks key pages between old0 new0 zero p above first xs i child (Leaf list) page around at o within ends begins child_is t u =
    let n = has_neighbour p above first xs i child o within in
    let none = at_inner key pages zero above first xs (neighbour_of i) n.neighbour around at n.there in
    let subs = subst (IsInterior (IsSubtree zero pages) above) at around.subtree in
    let leaf = all_at (IsSubtree zero pages) (children first above.low above.high xs) (neighbour_of i) n.neighbour n.there subs.1 in
    u n.neighbour n.there (subst (IsLeaf n.neighbour) (sym (t.becomes.2 n.neighbour.page refl)) leaf) (λ e. absurd (omega (arith, none, head_counts 0 zero pages n.neighbour, one_same n.neighbour.page 0 e)))
unlike_breaks key pages between old0 new0 (suc l) p above first xs i child (Leaf list) page around at o within ends begins child_is t u = t.becomes
unlike_breaks key pages between old0 new0 zero p above first xs i child (Interior lead list) page around at o within ends begins child_is t u = t.becomes
unlike_breaks key pages between old0 new0 (suc l) p above first xs i child (Interior lead list) page around at o within ends begins child_is t u =
    let n = has_neighbour p above first xs i child o within in
    let c : Child = n.neighbour in
    let is = n.is in
    let none = at_inner key pages (suc l) above first xs (neighbour_of i) c around at n.there in
    let none_child = at_inner key pages (suc l) above first xs i child around at child_is in
    let subs = subst (IsInterior (IsSubtree (suc l) pages) above) at around.subtree in
    let w = ways_of l pages c (page_at pages c.page) (all_at (IsSubtree (suc l) pages) (children first above.low above.high xs) (neighbour_of i) c n.there subs.1) in
    let ls : List Child = children_before first above.low (take n.pair.place xs) in
    let rs : List Child = children_from above.high (drop (n.pair.place + 1) xs) in
    let old : List Child = left_child above first xs n.pair is.between ∷ right_child above xs n.pair is.between ∷ [] in
    let sides = sides_are above first xs n.pair is i child c n.place child_is n.there in
    let stands0 = pair_stands key above first xs n.pair is i n.place ends begins in
    let stands = subst (λ (x : Option Content). StandsAround key (children_of above.low above.high x) ls old rs) (sym at) stands0 in
    let once = counted_once key pages l above first xs n.pair is.between i child c sides around ls rs stands.children_are c.page in
    let out : contains (pages_below (suc l) pages child) c.page ≡ false = counts_out c.page (pages_below (suc l) pages child)
    (omega (arith, once, one_same c.page c.page refl, count_cons c.page child.page (forest_pages l pages (children_of child.low child.high (page_at pages child.page))))) in
    let has : page_at between c.page ≡ Some (grammar.Interior w.second w.others) = t.stay c.page out ∙ w.is in
    let low_others : times_in 0 (forest_pages l pages (children w.second c.low c.high w.others)) ≤ 0 =
    omega (arith, none, count_cons 0 c.page (forest_pages l pages (children_of c.low c.high (page_at pages c.page))), ap (λ (x : Option Content). times_in 0 (forest_pages l pages (children_of c.low c.high x))) w.is) in
    let low_few : times_in 0 (forest_pages l between (children lead child.low child.high list.items)) ≤ 0 =
    omega (arith, none_child, count_cons 0 child.page (forest_pages l pages (children_of child.low child.high (page_at pages child.page))), t.becomes.pages_are 0, count_nothing 0) in
    u c n.there (λ e. absurd (omega (arith, none, head_counts 0 (suc l) pages c, one_same c.page 0 e))) w.second w.others has w.fit is.between (ap (slice_get xs) (sym n.place) ∙ is.there)
    (behind sides w.second w.others w.subs low_others t.becomes.subtrees low_few)
  where
    behind : {s : Separator} {pair : Pair} {c : Child} → AreSides above first xs pair s i child c → (second : ℕ) (others : List Separator) → AllByRecursion (IsSubtree l pages) (children second c.low c.high others)
        → times_in 0 (forest_pages l pages (children second c.low c.high others)) ≤ 0 → AllByRecursion (IsSubtree l between) (children lead child.low child.high list.items)
        → times_in 0 (forest_pages l between (children lead child.low child.high list.items)) ≤ 0 → is_behind s.key (right_at i list.items others) ≡ true
    behind {s = s} {pair = pair} {c = c} (AtLeft e a b) second others subs none subs2 none2 =
        let d : Child = right_child above xs pair s in
        ap (λ (t : Bool). is_behind s.key (cond t others list.items)) e
        ∙ heads_behind l pages second s.key d.high others (subst (λ (x : Child). AllByRecursion (IsSubtree l pages) (children second x.low x.high others)) b subs) (subst (λ (x : Child). times_in 0 (forest_pages l pages (children second x.low x.high others)) ≤ 0) b none)
    behind {s = s} {pair = pair} {c = c} (AtRight e a b) second others subs none subs2 none2 =
        let d : Child = right_child above xs pair s in
        ap (λ (t : Bool). is_behind s.key (cond t others list.items)) e
        ∙ heads_behind l between lead s.key d.high list.items (subst (λ (x : Child). AllByRecursion (IsSubtree l between) (children lead x.low x.high list.items)) a subs2)
        (subst (λ (x : Child). times_in 0 (forest_pages l between (children lead x.low x.high list.items)) ≤ 0) a none2)

pub unlike_above : (images0 images1 images2 : List (List ℕ)) → images1 ≡ images0 → images2 ≡ images1 → (key : Key) (draft mid : Draft) (levels p : ℕ) (above : Child) (first : ℕ) (xs : List Separator) (i : ℕ) (child : Child) (below : Trimmed)
    → page_at (drafted draft.sheets.items images0) above.page ≡ Some (grammar.Interior first xs) → IsOpenedPage p above first xs → i ≤ length xs
    → AllByRecursion (λ s. is_before (UpTo key) s.key ≡ true) (take i xs) → AllByRecursion (λ s. is_before (UpTo key) s.key ≡ false) (drop i xs) → slice_get (children first above.low above.high xs) i ≡ Some child
    → IsTrimmedBelow key (drafted draft.sheets.items images1) (drafted mid.sheets.items images1) draft.freed.items mid.freed.items (levels - 1) child below
    → (page : ℕ) → IsUnlike (drafted mid.sheets.items images2) above first xs i below page → BreaksAround key (drafted draft.sheets.items images0) levels above page
unlike_above images0 images1 images2 same1 same2 key draft mid levels p above first xs i child below at o within before behind child_is t page u zero most around = subst (IsLeaf above) at around.subtree
unlike_above images0 images1 images2 same1 same2 key draft mid levels p above first xs i child below at o within before behind child_is t page u (suc l) most around =
    let ends = up_to key (take i xs) before in
    let begins = past key (drop i xs) behind in
    let inner_around = child_around key (drafted draft.sheets.items images0) l above first xs i child around at within ends begins child_is in
    let t1 = t l (omega (arith, most)) (subst (λ (x : List (List ℕ)). IsAround key (drafted draft.sheets.items x) l child) (sym same1) inner_around) in
    let t2 = subst (λ (x : List (List ℕ)). IsTrimmed key (drafted draft.sheets.items x) (drafted mid.sheets.items x) draft.freed.items mid.freed.items l child below) same1 t1 in
    let u2 = subst (λ (x : List (List ℕ)). IsUnlike (drafted mid.sheets.items x) above first xs i below page) (same2 ∙ same1) u in
    unlike_breaks key (drafted draft.sheets.items images0) (drafted mid.sheets.items images0) draft.freed.items mid.freed.items l p above first xs i child below page around at o within ends begins child_is t2 u2
