-- What becomes of the children of two interior pages that are mended.
use Rattle.std.proofs.Common.{◌≡◌, ℕ, suc, ◌+◌, ◌-◌, ◌≤◌, Bool, true, false, cond, not, ◌&&◌, List, [], ◌∷◌, ◌++◌, take, drop, Option, Some, refl, sym, ap, subst, ◌∙◌, arith}
use Rattle.std.specs.Prelude.{◌==◌, ⊤}
use Rattle.std.specs.List.{AllByRecursion}
use Rattle.std.proofs.lemmas.Bool.{and_parts, not-true}
use Rattle.std.proofs.lemmas.List.{append-nil}
use Rattle.fsd_bytes.specs.declared.key.Key.{Key}
use Rattle.fsd_bytes.specs.Keys.{key_lt}
use Rattle.fsd_formats.specs.declared.page.Separator.{Separator}
use Rattle.fsd_formats.specs.NamePage.{Content, Interior, are_ascending}
use Rattle.fsd_table.specs.declared.child.Child.{Child}
use Rattle.fsd_table.specs.Pages.{page_at, children, children_of, keys_fit, not_below, below, separator_keys}
use Rattle.fsd_table.specs.Tree.{pages_below, IsInterior, IsSubtree}
use Rattle.fsd_table.proofs.BoundLaws.{all_append}
use Rattle.fsd_table.proofs.KeyLaws.{lt_le, lt_is_le}
use Rattle.fsd_forest.specs.Forest.{inner, times_in, forest_pages, Stay, Keep, Becomes, EndsUpTo, BeginsBehind}
use Rattle.fsd_forest.specs.Parts.{left_part, right_part}
use Rattle.fsd_forest.specs.Ways.{IsUpToKey, IsBehindKey, children_before}
use Rattle.fsd_forest.proofs.CountLaws.{count_cons, count_append, count_nothing, there_counts, differ_counts, counts_out, one_where}
use Rattle.fsd_forest.proofs.ForestLaws.{widens}
use Rattle.fsd_forest.proofs.KeepLaws.{kept_all}
use Rattle.fsd_forest.proofs.PartLaws.{children_part, interiors_part}
use Rattle.fsd_forest.proofs.RiseLaws.{rises}
use Rattle.fsd_forest.proofs.WayLaws.{children_end, children_begin, high_is}
use Rattle.name_page.specs.Edits.{without}
use Rattle.name_btree.specs.declared.trimming.Pair.{Pair}
use Rattle.name_btree.specs.Remove.{IsAround}
use Rattle.name_btree.specs.Trim.{IsPair, pair_fits, first_at, ways_at}
use Rattle.name_btree.proofs.mending.NeighbourLaws.{is_local, all_top}
use Rattle.name_btree.proofs.mending.LeafTreeLaws.{below_counts, joined_heads, shared_heads, one_same}
use Rattle.name_btree.proofs.mending.PairLaws.{left_child, right_child, AreSides, AtLeft, AtRight, low_same}
use Rattle.name_btree.proofs.mending.PutTreeLaws.{pair_child, front_at, back_at}

-- ---- children beside the key

all_behind : (key k : Key) (high : Option Key) (xs : List Separator) → key_lt key k ≡ true → keys_fit (Some k) high (separator_keys xs) ≡ true → AllByRecursion (IsBehindKey key) xs
all_behind key k high [] h fit = tt
all_behind key k high (x ∷ xs) h fit =
    let parts = and_parts (not (key_lt x.key k) && below high x.key) (keys_fit (Some k) high (separator_keys xs)) fit in
    (lt_le key k x.key h (and_parts (not (key_lt x.key k)) (below high x.key) parts.0).0, all_behind key k high xs h parts.1)

all_before : (key k : Key) (low : Option Key) (xs : List Separator) → key_lt key k ≡ false → keys_fit low (Some k) (separator_keys xs) ≡ true → AllByRecursion (IsUpToKey key) xs
all_before key k low [] h fit = tt
all_before key k low (x ∷ xs) h fit =
    let parts = and_parts (not_below low x.key && key_lt x.key k) (keys_fit low (Some k) (separator_keys xs)) fit in
    let under = lt_le x.key k key (and_parts (not_below low x.key) (key_lt x.key k) parts.0).1 (ap not h) in
    (not-true (key_lt key x.key) (lt_is_le x.key key under), all_before key k low xs h parts.1)

-- children up to a key are those before a separator of it
closed : (first : ℕ) (low : Option Key) (xs : List Separator) (s : Separator) → children first low (Some s.key) xs ≡ children_before first low (xs ++ s ∷ [])
closed first low [] s = refl
closed first low (x ∷ xs) s = ap (λ (cs : List Child). record { page = first; low = low; high = Some x.key } ∷ cs) (closed x.child (Some x.key) xs s)

ends_all : (key : Key) (second : ℕ) (low : Option Key) (s : Separator) (xs : List Separator) → key_lt key s.key ≡ false → keys_fit low (Some s.key) (separator_keys xs) ≡ true → AllByRecursion (EndsUpTo key) (children second low (Some s.key) xs)
ends_all key second low s xs h fit =
    subst (AllByRecursion (EndsUpTo key)) (sym (closed second low xs s)) (children_end key second low (xs ++ s ∷ []) (all_append (IsUpToKey key) xs (s ∷ []) (all_before key s.key low xs h fit) (h, tt)))

begins_all : (key : Key) (high : Option Key) (s : Separator) (xs : List Separator) → key_lt key s.key ≡ true → keys_fit (Some s.key) high (separator_keys xs) ≡ true → AllByRecursion (BeginsBehind key) (children s.child (Some s.key) high xs)
begins_all key high s xs h fit = children_begin key high (s ∷ xs) (h, all_behind key s.key high xs h fit)

-- ---- pages

abbrev below_of : (l : ℕ) → List (List ℕ) → Child → List Child
below_of l pages c = children_of c.low c.high (page_at pages c.page)

-- the page above, the child and its neighbour, and what is below these
abbrev all_count : (q l : ℕ) → List (List ℕ) → (above : ℕ) → (child neighbour : Child) → ℕ
all_count q l pages above child neighbour =
    one_where (above == q) + ((one_where (child.page == q) + times_in q (forest_pages l pages (below_of l pages child))) + (one_where (neighbour.page == q) + times_in q (forest_pages l pages (below_of l pages neighbour))))

two_counts : (q l : ℕ) (pages : List (List ℕ)) (a b : Child) → times_in q (forest_pages (suc l) pages (a ∷ b ∷ []))
    ≡ (one_where (a.page == q) + times_in q (forest_pages l pages (below_of l pages a))) + (one_where (b.page == q) + times_in q (forest_pages l pages (below_of l pages b)))
two_counts q l pages a b =
    let f : Child → List ℕ = pages_below (suc l) pages in
    let in_a = count_cons q a.page (forest_pages l pages (below_of l pages a)) in
    let in_b = count_cons q b.page (forest_pages l pages (below_of l pages b)) in
    omega (arith, count_append q (f a) (f b ++ []), count_append q (f b) [], count_nothing q, in_a, in_b)

pub counted_once : (key : Key) (pages : List (List ℕ)) (l : ℕ) (above : Child) (first : ℕ) (xs : List Separator) (pair : Pair) (s : Separator) (i : ℕ) (child neighbour : Child) → AreSides above first xs pair s i child neighbour
    → IsAround key pages (suc (suc l)) above → (left right : List Child) → children_of above.low above.high (page_at pages above.page) ≡ left ++ ((left_child above first xs pair s ∷ right_child above xs pair s ∷ []) ++ right)
    → (q : ℕ) → all_count q l pages above.page child neighbour ≤ 1
counted_once key pages l above first xs pair s i child neighbour (AtLeft e at next) around left right are q =
    let a : Child = left_child above first xs pair s in
    let b : Child = right_child above xs pair s in
    let most = differ_counts (pages_below (suc (suc l)) pages above) around.apart q in
    let some = below_counts q (suc l) pages above left (a ∷ b ∷ []) right are in
    omega (arith, most, some, two_counts q l pages a b, ap (λ (c : Child). one_where (c.page == q) + times_in q (forest_pages l pages (below_of l pages c))) at, ap (λ (c : Child). one_where (c.page == q) + times_in q (forest_pages l pages (below_of l pages c))) next)
counted_once key pages l above first xs pair s i child neighbour (AtRight e at next) around left right are q =
    let a : Child = left_child above first xs pair s in
    let b : Child = right_child above xs pair s in
    let most = differ_counts (pages_below (suc (suc l)) pages above) around.apart q in
    let some = below_counts q (suc l) pages above left (a ∷ b ∷ []) right are in
    omega (arith, most, some, two_counts q l pages a b, ap (λ (c : Child). one_where (c.page == q) + times_in q (forest_pages l pages (below_of l pages c))) at, ap (λ (c : Child). one_where (c.page == q) + times_in q (forest_pages l pages (below_of l pages c))) next)

-- ---- the child's children as they are once more is changed

-- all that changed since is the page above, the child and its neighbour
abbrev pub Others : (between after : List (List ℕ)) → (above : ℕ) → (child neighbour : Child) → Type 0
Others between after above child neighbour = (q : ℕ) → (q ≡ child.page → ⊥) → (q ≡ neighbour.page → ⊥) → (q ≡ above → ⊥) → page_at after q ≡ page_at between q

child_shifts : (key : Key) (pages between after : List (List ℕ)) (went : List ℕ) (l above : ℕ) (child neighbour : Child) (new : List Child) → ((q : ℕ) → all_count q l pages above child neighbour ≤ 1) → Others between after above child neighbour
    → Becomes (without key) pages between [] went l (below_of l pages child) new → Becomes (without key) pages after [] went l (below_of l pages child) new
child_shifts key pages between after went l above child neighbour new once others b =
    let keep : Keep between after (forest_pages l between new) = λ q there.
    let some : 1 ≤ times_in q (forest_pages l pages (below_of l pages child)) = omega (arith, there_counts q (forest_pages l between new) there, b.pages_are q, count_nothing q) in
    others q (λ e. absurd (omega (arith, once q, some, one_same child.page q (sym e)))) (λ e. absurd (omega (arith, once q, some, one_same neighbour.page q (sym e)))) (λ e. absurd (omega (arith, once q, some, one_same above q (sym e)))) in
    let same = kept_all between after l new keep b.subtrees in
    record {
      subtrees = same.subtrees;
      pages_are = λ q. ap (λ (ps : List ℕ). times_in q ps + times_in q went) same.reached ∙ b.pages_are q;
      entries = same.entries ∙ b.entries;
    }

neighbour_keeps : (pages between after : List (List ℕ)) (l above : ℕ) (child neighbour : Child) → ((q : ℕ) → all_count q l pages above child neighbour ≤ 1) → Others between after above child neighbour → Stay pages between (pages_below (suc l) pages child)
    → Keep pages after (forest_pages l pages (below_of l pages neighbour))
neighbour_keeps pages between after l above child neighbour once others stay q there =
    let some = there_counts q (forest_pages l pages (below_of l pages neighbour)) there in
    others q (λ e. absurd (omega (arith, once q, some, one_same child.page q (sym e)))) (λ e. absurd (omega (arith, once q, some, one_same neighbour.page q (sym e)))) (λ e. absurd (omega (arith, once q, some, one_same above q (sym e))))
    ∙ stay q (counts_out q (pages_below (suc l) pages child) (omega (arith, once q, some, count_cons q child.page (forest_pages l pages (below_of l pages child)))))

-- ---- the children of both

pub ways_become : (key : Key) (pages between after : List (List ℕ)) (went : List ℕ) (l : ℕ) (above : Child) (first : ℕ) (xs : List Separator) (pair : Pair) (is : IsPair above first xs pair) (i : ℕ) (child neighbour : Child)
    → AreSides above first xs pair is.between i child neighbour → pair.place ≡ i - 1 → AllByRecursion (IsUpToKey key) (take i xs) → AllByRecursion (IsBehindKey key) (drop i xs)
    → ((q : ℕ) → all_count q l pages above.page child neighbour ≤ 1) → Others between after above.page child neighbour → Stay pages between (pages_below (suc l) pages child)
    → (lead : ℕ) (few : List Separator) (second : ℕ) (others : List Separator) → page_at pages neighbour.page ≡ Some (Interior second others) → IsInterior (IsSubtree l pages) neighbour (Some (Interior second others))
    → Becomes (without key) pages between [] went l (below_of l pages child) (children lead child.low child.high few)
    → Becomes (without key) pages after [] went l (inner pages (left_child above first xs pair is.between ∷ right_child above xs pair is.between ∷ []))
    (children (first_at i lead second) (pair_child above first xs pair).low (pair_child above first xs pair).high (ways_at i is.between.key lead few second others))
ways_become key pages between after went l above first xs pair is i child neighbour (AtLeft e at next) place ends begins once changed stay lead few second others was sub b =
    let k : Key = is.between.key in
    let s : Separator = record { key = k; child = second } in
    let C : Child → List Child = below_of l pages in
    let pc : Child = pair_child above first xs pair in
    let a : Child = left_child above first xs pair is.between in
    let d : Child = right_child above xs pair is.between in
    let zero_i : i ≡ 0 = grind arith in
    let over : key_lt key k ≡ true = back_at (IsBehindKey key) xs pair.place is.between is.there (subst (λ (n : ℕ). AllByRecursion (IsBehindKey key) (drop n xs)) zero_i begins) in
    let new0 : List Child = children lead child.low child.high few in
    let b2 = child_shifts key pages between after went l above.page child neighbour new0 once changed b in
    let cn : List Child = children second neighbour.low neighbour.high others in
    let cn_is : C neighbour ≡ cn = ap (children_of neighbour.low neighbour.high) was in
    let fit = subst (λ (c : Child). keys_fit c.low c.high (separator_keys others) ≡ true) next sub.0 in
    let begin0 : AllByRecursion (BeginsBehind key) (children second (Some k) pc.high others) = begins_all key pc.high s others over fit in
    let begin1 : AllByRecursion (BeginsBehind key) cn = subst (λ (c : Child). AllByRecursion (BeginsBehind key) (children second c.low c.high others)) (sym next) begin0 in
    let begin2 : AllByRecursion (BeginsBehind key) (C neighbour) = subst (AllByRecursion (BeginsBehind key)) (sym cn_is) begin1 in
    let subs : AllByRecursion (IsSubtree l pages) (C neighbour) = subst (AllByRecursion (IsSubtree l pages)) (sym cn_is) sub.1 in
    let wide = widens key (without key) pages after [] went l [] (C child) new0 (C neighbour) (is_local key) tt subs tt begin2 (neighbour_keeps pages between after l above.page child neighbour once changed stay) b2 in
    let old_is : C child ++ C neighbour ≡ inner pages (a ∷ d ∷ []) = ap (λ (c : Child). C c ++ C neighbour) at ∙ ap (λ (c : Child). C a ++ C c) next ∙ ap (λ (cs : List Child). C a ++ cs) (sym (append-nil (C d))) in
    let low_is : child.low ≡ pc.low = ap (λ (c : Child). c.low) at ∙ low_same first above.low (Some k) above.high (take pair.place xs) in
    let high_to : child.high ≡ Some k = ap (λ (c : Child). c.high) at ∙ high_is first above.low (Some k) (take pair.place xs) in
    let new0_is : new0 ≡ children lead pc.low (Some k) few = ap (λ (o : Option Key). children lead o child.high few) low_is ∙ ap (λ (o : Option Key). children lead pc.low o few) high_to in
    let cn2 : C neighbour ≡ children second (Some k) pc.high others = cn_is ∙ ap (λ (c : Child). children second c.low c.high others) next in
    let new_is : new0 ++ C neighbour ≡ children (first_at i lead second) pc.low pc.high (ways_at i k lead few second others) =
    ap (λ (cs : List Child). cs ++ C neighbour) new0_is ∙ ap (λ (cs : List Child). children lead pc.low (Some k) few ++ cs) cn2 ∙ sym (children_part lead pc.low pc.high few others s)
    ∙ ap (λ (t : Bool). children (cond t lead second) pc.low pc.high (cond t (few ++ record { key = k; child = second } ∷ others) (others ++ record { key = k; child = lead } ∷ few))) (sym e) in
    subst (λ (cs : List Child). Becomes (without key) pages after [] went l cs (children (first_at i lead second) pc.low pc.high (ways_at i k lead few second others))) old_is
    (subst (Becomes (without key) pages after [] went l (C child ++ C neighbour)) new_is wide)
ways_become key pages between after went l above first xs pair is i child neighbour (AtRight e at next) place ends begins once changed stay lead few second others was sub b =
    let k : Key = is.between.key in
    let s : Separator = record { key = k; child = lead } in
    let C : Child → List Child = below_of l pages in
    let pc : Child = pair_child above first xs pair in
    let a : Child = left_child above first xs pair is.between in
    let d : Child = right_child above xs pair is.between in
    let some_i : i ≡ 0 → ⊥ = grind arith in
    let under : key_lt key k ≡ false = front_at (IsUpToKey key) xs i pair.place is.between (omega (arith, place, some_i)) is.there ends in
    let new0 : List Child = children lead child.low child.high few in
    let b2 = child_shifts key pages between after went l above.page child neighbour new0 once changed b in
    let cn : List Child = children second neighbour.low neighbour.high others in
    let cn_is : C neighbour ≡ cn = ap (children_of neighbour.low neighbour.high) was in
    let low_is : neighbour.low ≡ pc.low = ap (λ (c : Child). c.low) next ∙ low_same first above.low (Some k) above.high (take pair.place xs) in
    let high_to : neighbour.high ≡ Some k = ap (λ (c : Child). c.high) next ∙ high_is first above.low (Some k) (take pair.place xs) in
    let cn2 : C neighbour ≡ children second pc.low (Some k) others = cn_is ∙ ap (λ (o : Option Key). children second o neighbour.high others) low_is ∙ ap (λ (o : Option Key). children second pc.low o others) high_to in
    let fit1 = subst (λ (o : Option Key). keys_fit o neighbour.high (separator_keys others) ≡ true) low_is sub.0 in
    let fit2 = subst (λ (o : Option Key). keys_fit pc.low o (separator_keys others) ≡ true) high_to fit1 in
    let end2 : AllByRecursion (EndsUpTo key) (C neighbour) = subst (AllByRecursion (EndsUpTo key)) (sym cn2) (ends_all key second pc.low s others under fit2) in
    let subs : AllByRecursion (IsSubtree l pages) (C neighbour) = subst (AllByRecursion (IsSubtree l pages)) (sym cn_is) sub.1 in
    let keep = neighbour_keeps pages between after l above.page child neighbour once changed stay in
    let keep2 : Keep pages after (forest_pages l pages (C neighbour ++ [])) = subst (λ (cs : List Child). Keep pages after (forest_pages l pages cs)) (sym (append-nil (C neighbour))) keep in
    let wide = widens key (without key) pages after [] went l (C neighbour) (C child) new0 [] (is_local key) subs tt end2 tt keep2 b2 in
    let old_is : C neighbour ++ (C child ++ []) ≡ inner pages (a ∷ d ∷ []) = ap (λ (c : Child). C c ++ (C child ++ [])) next ∙ ap (λ (c : Child). C a ++ (C c ++ [])) at in
    let new0_is : new0 ≡ children lead (Some k) pc.high few = ap (λ (c : Child). children lead c.low c.high few) at in
    let new_is : C neighbour ++ (new0 ++ []) ≡ children (first_at i lead second) pc.low pc.high (ways_at i k lead few second others) =
    ap (λ (cs : List Child). C neighbour ++ cs) (append-nil new0 ∙ new0_is) ∙ ap (λ (cs : List Child). cs ++ children lead (Some k) pc.high few) cn2 ∙ sym (children_part second pc.low pc.high others few s)
    ∙ ap (λ (t : Bool). children (cond t lead second) pc.low pc.high (cond t (few ++ record { key = k; child = second } ∷ others) (others ++ record { key = k; child = lead } ∷ few))) (sym e) in
    subst (λ (cs : List Child). Becomes (without key) pages after [] went l cs (children (first_at i lead second) pc.low pc.high (ways_at i k lead few second others))) old_is
    (subst (Becomes (without key) pages after [] went l (C neighbour ++ (C child ++ []))) new_is wide)

-- ---- one page or two above them

pub ways_joined : (key : Key) (pages after : List (List ℕ)) (went : List ℕ) (l : ℕ) (above : Child) (first : ℕ) (xs : List Separator) (pair : Pair) (is : IsPair above first xs pair) (lead : ℕ) (list : List Separator)
    → page_at after pair.left ≡ Some (Interior lead list) → pair_fits above first xs pair (separator_keys list) ≡ true
    → Becomes (without key) pages after [] went l (inner pages (left_child above first xs pair is.between ∷ right_child above xs pair is.between ∷ [])) (children lead (pair_child above first xs pair).low (pair_child above first xs pair).high list)
    → Becomes (without key) pages after [] (pair.right ∷ went) (suc l) (left_child above first xs pair is.between ∷ right_child above xs pair is.between ∷ []) (pair_child above first xs pair ∷ [])
ways_joined key pages after went l above first xs pair is lead list now fit b =
    let pc : Child = pair_child above first xs pair in
    let old : List Child = left_child above first xs pair is.between ∷ right_child above xs pair is.between ∷ [] in
    let new_is : children lead pc.low pc.high list ≡ inner after (pc ∷ []) = sym (append-nil (children_of pc.low pc.high (page_at after pair.left)) ∙ ap (children_of pc.low pc.high) now) in
    rises (without key) pages after [] went [] (pair.right ∷ []) l old (pc ∷ []) (subst (IsInterior (λ (d : Child). ⊤) pc) (sym now) (fit, all_top (children lead pc.low pc.high list)), tt) (joined_heads above first xs pair is)
    (subst (Becomes (without key) pages after [] went l (inner pages old)) new_is b)

pub ways_shared : (key : Key) (pages after : List (List ℕ)) (went : List ℕ) (l : ℕ) (above : Child) (first : ℕ) (xs : List Separator) (pair : Pair) (is : IsPair above first xs pair) (lead : ℕ) (ls : List Separator) (s : Separator) (rs : List Separator)
    → page_at after pair.left ≡ Some (Interior lead ls) → page_at after pair.right ≡ Some (Interior s.child rs) → are_ascending (separator_keys (ls ++ s ∷ rs)) ≡ true → pair_fits above first xs pair (separator_keys (ls ++ s ∷ rs)) ≡ true
    → Becomes (without key) pages after [] went l (inner pages (left_child above first xs pair is.between ∷ right_child above xs pair is.between ∷ [])) (children lead (pair_child above first xs pair).low (pair_child above first xs pair).high (ls ++ s ∷ rs))
    → Becomes (without key) pages after [] went (suc l) (left_child above first xs pair is.between ∷ right_child above xs pair is.between ∷ [])
    (left_part pair.left (pair_child above first xs pair) s.key ∷ right_part pair.right (pair_child above first xs pair) s.key ∷ [])
ways_shared key pages after went l above first xs pair is lead ls s rs now next asc fit b =
    let pc : Child = pair_child above first xs pair in
    let old : List Child = left_child above first xs pair is.between ∷ right_child above xs pair is.between ∷ [] in
    let lp : Child = left_part pair.left pc s.key in
    let rp : Child = right_part pair.right pc s.key in
    let parts = interiors_part l after pc pair.left pair.right lead ls rs s asc (fit, b.subtrees) in
    let cl : List Child = children lead pc.low (Some s.key) ls in
    let cr : List Child = children s.child (Some s.key) pc.high rs in
    let new_is : children lead pc.low pc.high (ls ++ s ∷ rs) ≡ inner after (lp ∷ rp ∷ []) =
    children_part lead pc.low pc.high ls rs s ∙ ap (λ (cs : List Child). cl ++ cs) (sym (append-nil cr)) ∙ ap (λ (o : Option Content). cl ++ (children_of rp.low rp.high o ++ [])) (sym next)
    ∙ ap (λ (o : Option Content). children_of lp.low lp.high o ++ (children_of rp.low rp.high (page_at after pair.right) ++ [])) (sym now) in
    let I : Child → Option Content → Type 0 = IsInterior (λ (d : Child). ⊤) in
    rises (without key) pages after [] went [] [] l old (lp ∷ rp ∷ [])
    (subst (I lp) (sym now) (parts.0.0, all_top cl), (subst (I rp) (sym next) (parts.1.0.0, all_top cr), tt)) (shared_heads above first xs pair is s.key)
    (subst (Becomes (without key) pages after [] went l (inner pages old)) new_is b)
