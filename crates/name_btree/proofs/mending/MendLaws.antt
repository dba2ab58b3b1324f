-- What a child and its neighbour have, in order.
use Rattle.std.proofs.Common.{◌≡◌, ℕ, ◌+◌, ◌<◌, ◌≤◌, Bool, true, false, cond, ◌&&◌, List, [], ◌∷◌, ◌++◌, length, take, drop, Option, Some, sym, ap, subst, ◌∙◌, arith, length-append}
use Rattle.std.proofs.lemmas.Option.{same_Some}
use Rattle.std.specs.Prelude.{◌==◌, slice_get}
use Rattle.std.specs.List.{AllByRecursion}
use Rattle.std.proofs.lemmas.Bool.{and_parts, and_from}
use Rattle.fsd_bytes.specs.declared.key.Key.{Key}
use Rattle.fsd_bytes.specs.Keys.{is_key}
use Rattle.fsd_formats.specs.declared.entry.Entry.{Entry}
use Rattle.fsd_formats.specs.declared.page.Separator.{Separator}
use Rattle.fsd_formats.specs.NamePage.{Interior, is_page, are_ascending}
use Rattle.fsd_table.specs.declared.child.Child.{Child}
use Rattle.fsd_table.specs.Pages.{keys_fit, not_below, below, entry_keys, separator_keys}
use Rattle.fsd_table.proofs.BoundLaws.{entry_keys_append, separator_keys_append}
use Rattle.fsd_forest.specs.Ways.{child_behind, end_of}
use Rattle.name_page.specs.Pages.{Step, is_spare, IsReached}
use Rattle.name_page.specs.Parting.{used_by}
use Rattle.name_btree.specs.declared.draft.Draft.{Draft}
use Rattle.name_btree.specs.declared.trimming.Pair.{Pair}
use Rattle.name_btree.specs.Draft.{MayGo, IsTreeDraft}
use Rattle.name_btree.specs.Trim.{AreEntries, AreWays, MayHave, IsOpenedPage, AreFewEntries, AreFewWays, IsPair, pair_fits, both_entries, ways_at, first_at, right_at, is_behind}
use Rattle.name_btree.proofs.drafts.DraftLaws.{sheets_kept}
use Rattle.name_btree.proofs.mending.PairLaws.{parts_at, left_child, AreSides, AtLeft, AtRight, low_same, key_inside}
use Rattle.name_page.proofs.CutPageLaws.{used_apart}
use Rattle.name_btree.proofs.mending.TrimLaws.{PageEntries, least_at, entries_touch, page_ways, ways_touch, good_at}
use Rattle.fsd_forest.proofs.PartLaws.{fit_append, keys_joined, left_wider, right_wider}
use Rattle.fsd_forest.proofs.WayLaws.{high_is}

-- ---- steps that only look

pub draft_kept : (old new : Step) (d : Draft) → ((q : ℕ) → IsReached old q → IsReached new q) → new.spares ≡ old.spares → length new.images ≡ length old.images → IsTreeDraft old d → IsTreeDraft new d
draft_kept old new d kept spares images is = record {
  sheets = sheets_kept old new d.sheets.items kept spares images is.sheets;
  freed = each d.freed.items is.freed;
  apart = is.apart;
}
  where
    each : (pages : List ℕ) → AllByRecursion (MayGo old) pages → AllByRecursion (MayGo new) pages
    each [] a = tt
    each (p ∷ pages) a =
        let first : MayGo new p = record { reached = kept p a.0.reached; used = ap (λ (x : List Bool). is_spare x p) spares ∙ a.0.used; inner = a.0.inner } in
        (first, each pages a.1)

pub page_kept : (old new : Step) (page : ℕ) → ((q : ℕ) → IsReached old q → IsReached new q) → new.spares ≡ old.spares → MayHave old page → MayHave new page
page_kept old new page kept spares is = record { reached = kept page is.reached; used = ap (λ (x : List Bool). is_spare x page) spares ∙ is.used }

-- ---- both pages

pub left_page : (P : ℕ → Type 0) (above : Child) (first : ℕ) (xs : List Separator) (pair : Pair) (is : IsPair above first xs pair) (i : ℕ) (child neighbour : Child) → AreSides above first xs pair is.between i child neighbour → P child.page → P neighbour.page → P pair.left
left_page P above first xs pair is i child neighbour (AtLeft e a b) p q = subst P (ap (λ (c : Child). c.page) a ∙ sym is.left) p
left_page P above first xs pair is i child neighbour (AtRight e a b) p q = subst P (ap (λ (c : Child). c.page) b ∙ sym is.left) q

pub right_page : (P : ℕ → Type 0) (above : Child) (first : ℕ) (xs : List Separator) (pair : Pair) (is : IsPair above first xs pair) (i : ℕ) (child neighbour : Child) → AreSides above first xs pair is.between i child neighbour → P child.page → P neighbour.page → P pair.right
right_page P above first xs pair is i child neighbour (AtLeft e a b) p q = subst P (ap (λ (c : Child). c.page) b ∙ sym is.right) q
right_page P above first xs pair is i child neighbour (AtRight e a b) p q = subst P (ap (λ (c : Child). c.page) a ∙ sym is.right) p

-- ---- keys below one, and keys from it on

-- the key between the pair stands between the pair's
pub pair_inside : (p first : ℕ) (above : Child) (xs : List Separator) (pair : Pair) (is : IsPair above first xs pair) → IsOpenedPage p above first xs
    → (not_below (child_behind first above.low (take pair.place xs) above.high).low is.between.key && below (end_of above.high (drop (pair.place + 1) xs)) is.between.key) ≡ true
pair_inside p first above xs pair is o =
    let same = parts_at xs pair.place is.between is.there in
    key_inside first above.low above.high above.high (take pair.place xs) is.between (drop (pair.place + 1) xs)
    (ap (λ (ys : List Separator). are_ascending (separator_keys ys)) (sym same) ∙ o.ways.ascend) (ap (λ (ys : List Separator). keys_fit above.low above.high (separator_keys ys)) (sym same) ∙ o.within)

-- ---- leaves

pub record AreBothLeaves (above : Child) (first : ℕ) (xs : List Separator) (pair : Pair) (entries : List Entry) : Type 0 where
  pub are : AreEntries entries
  pub least : 190 ≤ used_by entries
  pub most : used_by entries ≤ 678
  pub within : pair_fits above first xs pair (entry_keys entries) ≡ true

both_leaves : (p first : ℕ) (above : Child) (xs : List Separator) (pair : Pair) (is : IsPair above first xs pair) → IsOpenedPage p above first xs → (ls rs : List Entry) → AreEntries ls → AreEntries rs
    → keys_fit (left_child above first xs pair is.between).low (Some is.between.key) (entry_keys ls) ≡ true → keys_fit (Some is.between.key) (end_of above.high (drop (pair.place + 1) xs)) (entry_keys rs) ≡ true
    → 190 ≤ used_by ls + used_by rs → used_by ls + used_by rs ≤ 678 → AreBothLeaves above first xs pair (ls ++ rs)
both_leaves p first above xs pair is o ls rs a b under over least most =
    let front : List Separator = take pair.place xs in
    let lowest : Option Key = (child_behind first above.low front above.high).low in
    let highest : Option Key = end_of above.high (drop (pair.place + 1) xs) in
    let low_is = low_same first above.low (Some is.between.key) above.high front in
    let under2 : keys_fit lowest (Some is.between.key) (entry_keys ls) ≡ true = subst (λ (low : Option Key). keys_fit low (Some is.between.key) (entry_keys ls) ≡ true) low_is under in
    let sum = used_apart ls rs in
    record {
      are = entries_touch lowest highest ls is.between.key rs a b under2 over;
      least = omega (arith, sum, least);
      most = omega (arith, sum, most);
      within = ap (keys_fit lowest highest) (entry_keys_append ls rs) ∙ keys_joined lowest highest (entry_keys ls) (entry_keys rs) is.between.key (pair_inside p first above xs pair is o) under2 over;
    }

pub leaves_at : (p first : ℕ) (above : Child) (xs : List Separator) (pair : Pair) (is : IsPair above first xs pair) → IsOpenedPage p above first xs → (i : ℕ) (child neighbour : Child) → AreSides above first xs pair is.between i child neighbour
    → (few others : List Entry) → AreFewEntries child few → PageEntries neighbour.page others → (neighbour.page ≡ 0 → ⊥) → keys_fit neighbour.low neighbour.high (entry_keys others) ≡ true → AreBothLeaves above first xs pair (both_entries i few others)
leaves_at p first above xs pair is o i child neighbour sides few others a b some fit =
    let least : 190 ≤ used_by others = least_at neighbour.page (used_by others) some b.least in
    let few_is : used_by few < 190 = a.few in
    let most : used_by others ≤ 488 = b.most in
    by sides least few_is most
  where
    Both : Bool → Type 0
    Both b = AreBothLeaves above first xs pair (cond b (few ++ others) (others ++ few))

    Fit : List Entry → Child → Type 0
    Fit es c = keys_fit c.low c.high (entry_keys es) ≡ true

    by : AreSides above first xs pair is.between i child neighbour → 190 ≤ used_by others → used_by few < 190 → used_by others ≤ 488 → AreBothLeaves above first xs pair (both_entries i few others)
    by (AtLeft e at next) least few_is most =
        let under = subst (Fit few) at a.within in
        let over = subst (Fit others) next fit in
        let high = high_is first above.low (Some is.between.key) (take pair.place xs) in
        let under2 = subst (λ (h : Option Key). keys_fit (left_child above first xs pair is.between).low h (entry_keys few) ≡ true) high under in
        subst Both (sym e) (both_leaves p first above xs pair is o few others a.are b.are under2 over (omega arith) (omega arith))
    by (AtRight e at next) least few_is most =
        let over = subst (Fit few) at a.within in
        let under = subst (Fit others) next fit in
        let high = high_is first above.low (Some is.between.key) (take pair.place xs) in
        let under2 = subst (λ (h : Option Key). keys_fit (left_child above first xs pair is.between).low h (entry_keys others) ≡ true) high under in
        subst Both (sym e) (both_leaves p first above xs pair is o others few b.are a.are under2 over (omega arith) (omega arith))

-- ---- interior pages

pub record AreBothWays (p : ℕ) (above : Child) (first : ℕ) (xs : List Separator) (pair : Pair) (lead : ℕ) (list : List Separator) : Type 0 where
  pub are : AreWays p lead list
  pub within : pair_fits above first xs pair (separator_keys list) ≡ true

both_ways : (p first : ℕ) (above : Child) (xs : List Separator) (pair : Pair) (is : IsPair above first xs pair) → IsOpenedPage p above first xs → (lead second : ℕ) (ls rs : List Separator) → AreWays p lead ls → AreWays p second rs
    → keys_fit (left_child above first xs pair is.between).low (Some is.between.key) (separator_keys ls) ≡ true → keys_fit (Some is.between.key) (end_of above.high (drop (pair.place + 1) xs)) (separator_keys rs) ≡ true
    → is_key is.between.key ≡ true → is_behind is.between.key rs ≡ true
    → AreBothWays p above first xs pair lead (ls ++ record { key = is.between.key; child = second } ∷ rs)
both_ways p first above xs pair is o lead second ls rs a b under over good behind =
    let front : List Separator = take pair.place xs in
    let k : Key = is.between.key in
    let s : Separator = record { key = k; child = second } in
    let lowest : Option Key = (child_behind first above.low front above.high).low in
    let highest : Option Key = end_of above.high (drop (pair.place + 1) xs) in
    let low_is = low_same first above.low (Some k) above.high front in
    let under2 : keys_fit lowest (Some k) (separator_keys ls) ≡ true = subst (λ (low : Option Key). keys_fit low (Some k) (separator_keys ls) ≡ true) low_is under in
    let inside = pair_inside p first above xs pair is o in
    let both = and_parts (not_below lowest k) (below highest k) inside in
    record {
      are = ways_touch p lead second lowest highest ls k rs a b good under2 behind;
      within = ap (keys_fit lowest highest) (separator_keys_append ls (s ∷ rs)) ∙ fit_append lowest highest (separator_keys ls) (separator_keys (s ∷ rs))
          ∙ and_from (keys_fit lowest highest (separator_keys ls)) (keys_fit lowest highest (separator_keys (s ∷ rs))) (left_wider lowest highest k (separator_keys ls) both.1 under2)
          (and_from (not_below lowest k && below highest k) (keys_fit lowest highest (separator_keys rs)) inside (right_wider lowest highest k (separator_keys rs) both.0 over));
    }

pub ways_are_at : (p first : ℕ) (above : Child) (xs : List Separator) (pair : Pair) (is : IsPair above first xs pair) → IsOpenedPage p above first xs → (i : ℕ) (child neighbour : Child) → AreSides above first xs pair is.between i child neighbour
    → (lead : ℕ) (few : List Separator) (second : ℕ) (others : List Separator) → AreFewWays p child lead few → AreWays p second others → keys_fit neighbour.low neighbour.high (separator_keys others) ≡ true
    → is_key is.between.key ≡ true → is_behind is.between.key (right_at i few others) ≡ true
    → AreBothWays p above first xs pair (first_at i lead second) (ways_at i is.between.key lead few second others)
ways_are_at p first above xs pair is o i child neighbour sides lead few second others a b fit good behind = by sides
  where
    k : Key
    k = is.between.key

    Both : Bool → Type 0
    Both b = AreBothWays p above first xs pair (cond b lead second) (cond b (few ++ record { key = is.between.key; child = second } ∷ others) (others ++ record { key = is.between.key; child = lead } ∷ few))

    Fit : List Separator → Child → Type 0
    Fit es c = keys_fit c.low c.high (separator_keys es) ≡ true

    by : AreSides above first xs pair is.between i child neighbour → AreBothWays p above first xs pair (first_at i lead second) (ways_at i is.between.key lead few second others)
    by (AtLeft e at next) =
        let under = subst (Fit few) at a.within in
        let over = subst (Fit others) next fit in
        let high = high_is first above.low (Some is.between.key) (take pair.place xs) in
        let under2 = subst (λ (h : Option Key). keys_fit (left_child above first xs pair is.between).low h (separator_keys few) ≡ true) high under in
        let ahead : is_behind is.between.key others ≡ true = subst (λ (b : Bool). is_behind is.between.key (cond b others few) ≡ true) e behind in
        subst Both (sym e) (both_ways p first above xs pair is o lead second few others a.are b under2 over good ahead)
    by (AtRight e at next) =
        let over = subst (Fit few) at a.within in
        let under = subst (Fit others) next fit in
        let high = high_is first above.low (Some is.between.key) (take pair.place xs) in
        let under2 = subst (λ (h : Option Key). keys_fit (left_child above first xs pair is.between).low h (separator_keys others) ≡ true) high under in
        let ahead : is_behind is.between.key few ≡ true = subst (λ (b : Bool). is_behind is.between.key (cond b others few) ≡ true) e behind in
        subst Both (sym e) (both_ways p first above xs pair is o second lead others few b a.are under2 over good ahead)

-- ---- what is known of them where they are found

pub ways_count : (i : ℕ) (key : Key) (lead : ℕ) (few : List Separator) (second : ℕ) (others : List Separator) → length (ways_at i key lead few second others) ≡ length few + length others + 1
ways_count i key lead few second others = by (i == 0)
  where
    by : (b : Bool) → length (cond b (few ++ record { key = key; child = second } ∷ others) (others ++ record { key = key; child = lead } ∷ few)) ≡ length few + length others + 1
    by true = length-append few (record { key = key; child = second } ∷ others) ∙ omega arith
    by false = length-append others (record { key = key; child = lead } ∷ few) ∙ omega arith

pub ways_found : (p first : ℕ) (above : Child) (xs : List Separator) (pair : Pair) (is : IsPair above first xs pair) → IsOpenedPage p above first xs → (i : ℕ) (child neighbour : Child) → AreSides above first xs pair is.between i child neighbour
    → (lead : ℕ) (few : List Separator) (second : ℕ) (others : List Separator) → AreFewWays p child lead few → is_page neighbour.page p (Interior second others) ≡ true → keys_fit neighbour.low neighbour.high (separator_keys others) ≡ true
    → (got : Separator) → slice_get xs pair.place ≡ Some got → is_behind got.key (right_at i few others) ≡ true
    → (lead2 : ℕ) (list : List Separator) → lead2 ≡ first_at i lead second → list ≡ ways_at i got.key lead few second others → AreBothWays p above first xs pair lead2 list
ways_found p first above xs pair is o i child neighbour sides lead few second others a page fit got at behind lead2 list lead_is list_is =
    let same : is.between ≡ got = same_Some is.between got (sym is.there ∙ at) in
    let b = page_ways neighbour.page p second others page in
    let behind2 : is_behind is.between.key (right_at i few others) ≡ true = subst (λ (s : Separator). is_behind s.key (right_at i few others) ≡ true) (sym same) behind in
    let both = ways_are_at p first above xs pair is o i child neighbour sides lead few second others a b.ways fit (good_at p first xs pair.place is.between o.ways is.there) behind2 in
    let list_is2 : list ≡ ways_at i is.between.key lead few second others = list_is ∙ ap (λ (s : Separator). ways_at i s.key lead few second others) (sym same) in
    subst (λ (n : ℕ). AreBothWays p above first xs pair n list) (sym lead_is) (subst (AreBothWays p above first xs pair (first_at i lead second)) (sym list_is2) both)
