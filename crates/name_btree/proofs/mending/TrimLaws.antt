-- What pages may have that are joined, parted or left with less.
use Rattle.std.proofs.Common.{◌≡◌, ℕ, suc, ◌+◌, ◌<◌, ◌≤◌, Bool, true, false, cond, not, ◌&&◌, List, [], ◌∷◌, ◌++◌, length, take, drop, Option, Some, refl, sym, ap, subst, ◌∙◌, ◌-◌, arith, length-append, take-append-drop, length-take, length-drop}
use Rattle.std.specs.Prelude.{◌==◌, nat_lt, nat_le, slice_get}
use Rattle.std.specs.List.{list_all, AllByRecursion}
use Rattle.std.proofs.lemmas.Bool.{and_parts, and_from, le-leb, lt-ltb, leb-true, ltb-true, eqb-true}
use Rattle.std.proofs.lemmas.List.Folds.{list_all-append}
use Rattle.std.proofs.lemmas.Option.{slice_get_within}
use Rattle.fsd_bytes.specs.declared.key.Key.{Key}
use Rattle.fsd_bytes.specs.Keys.{is_key, key_lt}
use Rattle.fsd_bytes.specs.Names.{is_between}
use Rattle.fsd_formats.specs.declared.entry.Entry.{Entry}
use Rattle.fsd_formats.specs.declared.page.Separator.{Separator}
use Rattle.fsd_formats.specs.NamePage.{Leaf, Interior, is_page, is_entry, are_ascending, least_used, least_separators, room, FitsEntry}
use Rattle.fsd_table.specs.declared.child.Child.{Child}
use Rattle.fsd_table.specs.Pages.{keys_fit, not_below, below, entry_keys, separator_keys}
use Rattle.name_page.specs.Parting.{used_by}
use Rattle.fsd_table.proofs.BoundLaws.{all_append, ascend_tail, entry_keys_append, separator_keys_append}
use Rattle.fsd_table.proofs.KeyLaws.{lt_le}
use Rattle.fsd_forest.specs.Ways.{child_behind, end_of}
use Rattle.name_btree.specs.declared.trimming.Pair.{Pair}
use Rattle.name_btree.specs.Trim.{AreEntries, AreWays, IsOpenedPage, IsPair, pair_fits, IsBetween, separators_joined, separators_shared, is_behind}
use Rattle.name_btree.proofs.mending.PairLaws.{parts_at, ascend_without, ascend_with}
use Rattle.fsd_forest.proofs.PartLaws.{first_under, fit_append}
use Rattle.name_page.proofs.CutPageLaws.{keys_behind, keys_front, least_ways, all_below}

-- ---- keys

-- keys below one, that one, and keys from it on
pub keys_meet : (low high : Option Key) (ks : List Key) (k : Key) (ls : List Key) → are_ascending ks ≡ true → keys_fit low (Some k) ks ≡ true → are_ascending (k ∷ ls) ≡ true → are_ascending (ks ++ k ∷ ls) ≡ true
keys_meet low high [] k ls a fit b = b
keys_meet low high (x ∷ []) k ls a fit b =
    let one = (and_parts (not_below low x && key_lt x k) true fit).0 in
    and_from (key_lt x k) (are_ascending (k ∷ ls)) (and_parts (not_below low x) (key_lt x k) one).1 b
keys_meet low high (x ∷ y ∷ ks) k ls a fit b =
    let parts = and_parts (key_lt x y) (are_ascending (y ∷ ks)) a in
    let fits = and_parts (not_below low x && key_lt x k) (keys_fit low (Some k) (y ∷ ks)) fit in
    and_from (key_lt x y) (are_ascending (y ∷ (ks ++ k ∷ ls))) parts.0 (keys_meet low high (y ∷ ks) k ls parts.1 fits.1 b)

-- keys below one, and keys from it on
pub keys_touch : (low high : Option Key) (ks : List Key) (k : Key) (ls : List Key) → are_ascending ks ≡ true → keys_fit low (Some k) ks ≡ true → are_ascending ls ≡ true → keys_fit (Some k) high ls ≡ true → are_ascending (ks ++ ls) ≡ true
keys_touch low high [] k ls a fit b over = b
keys_touch low high (x ∷ []) k [] a fit b over = refl
keys_touch low high (x ∷ []) k (y ∷ ls) a fit b over =
    let one = (and_parts (not_below low x && key_lt x k) true fit).0 in
    let two = (and_parts (not (key_lt y k) && below high y) (keys_fit (Some k) high ls) over).0 in
    and_from (key_lt x y) (are_ascending (y ∷ ls)) (lt_le x k y (and_parts (not_below low x) (key_lt x k) one).1 (and_parts (not (key_lt y k)) (below high y) two).0) b
keys_touch low high (x ∷ y ∷ ks) k ls a fit b over =
    let parts = and_parts (key_lt x y) (are_ascending (y ∷ ks)) a in
    let fits = and_parts (not_below low x && key_lt x k) (keys_fit low (Some k) (y ∷ ks)) fit in
    and_from (key_lt x y) (are_ascending (y ∷ (ks ++ ls))) parts.0 (keys_touch low high (y ∷ ks) k ls parts.1 fits.1 b over)

-- ---- ways

-- what stands on both sides of a separator, and the separator
record WaysParts (p : ℕ) (xs : List Separator) (s : Separator) (ys : List Separator) : Type 0 where
  front : all_below p xs ≡ true
  key : is_key s.key ≡ true
  child : s.child < p
  behind : all_below p ys ≡ true

ways_parts : (p : ℕ) (xs : List Separator) (s : Separator) (ys : List Separator) → all_below p (xs ++ s ∷ ys) ≡ true → WaysParts p xs s ys
ways_parts p xs s ys e =
    let halves = and_parts (all_below p xs) (all_below p (s ∷ ys)) (sym (list_all-append (λ s. is_key s.key && nat_lt s.child p) xs (s ∷ ys)) ∙ e) in
    let second = and_parts (is_key s.key && nat_lt s.child p) (all_below p ys) halves.1 in
    let one = and_parts (is_key s.key) (nat_lt s.child p) second.0 in
    record { front = halves.0; key = one.0; child = ltb-true s.child p one.1; behind = second.1 }

below_from : (p : ℕ) (xs : List Separator) (s : Separator) (ys : List Separator) → all_below p xs ≡ true → is_key s.key ≡ true → s.child < p → all_below p ys ≡ true → all_below p (xs ++ s ∷ ys) ≡ true
below_from p xs s ys a key child b =
    list_all-append (λ s. is_key s.key && nat_lt s.child p) xs (s ∷ ys)
    ∙ and_from (all_below p xs) (all_below p (s ∷ ys)) a (and_from (is_key s.key && nat_lt s.child p) (all_below p ys) (and_from (is_key s.key) (nat_lt s.child p) key (lt-ltb s.child p child)) b)

pub ways_without : (p first : ℕ) (xs : List Separator) (s : Separator) (ys : List Separator) → AreWays p first (xs ++ s ∷ ys) → AreWays p first (xs ++ ys)
ways_without p first xs s ys w =
    let parts = ways_parts p xs s ys w.below in
    record {
      below = list_all-append (λ s. is_key s.key && nat_lt s.child p) xs ys ∙ and_from (all_below p xs) (all_below p ys) parts.front parts.behind;
      ascend = ap are_ascending (separator_keys_append xs ys)
          ∙ ascend_without (separator_keys xs) s.key (separator_keys ys) (ap are_ascending (sym (separator_keys_append xs (s ∷ ys))) ∙ w.ascend);
      first_below = w.first_below;
    }

pub ways_front : (p first : ℕ) (xs ys : List Separator) → AreWays p first (xs ++ ys) → AreWays p first xs
ways_front p first xs ys w = record {
  below = (and_parts (all_below p xs) (all_below p ys) (sym (list_all-append (λ s. is_key s.key && nat_lt s.child p) xs ys) ∙ w.below)).0;
  ascend = keys_front (separator_keys xs) (separator_keys ys) (ap are_ascending (sym (separator_keys_append xs ys)) ∙ w.ascend);
  first_below = w.first_below;
}

pub ways_behind : (p first : ℕ) (xs : List Separator) (s : Separator) (ys : List Separator) → AreWays p first (xs ++ s ∷ ys) → AreWays p s.child ys
ways_behind p first xs s ys w =
    let parts = ways_parts p xs s ys w.below in
    record {
      below = parts.behind;
      ascend = ascend_tail s.key (separator_keys ys) (keys_behind (separator_keys xs) (separator_keys (s ∷ ys)) (ap are_ascending (sym (separator_keys_append xs (s ∷ ys))) ∙ w.ascend));
      first_below = parts.child;
    }

pub ways_page : (page p first : ℕ) (xs : List Separator) → AreWays p first xs → least_separators page ≤ length xs → length xs ≤ 9 → is_page page p (Interior first xs) ≡ true
ways_page page p first xs w least most =
    and_from (all_below p xs && are_ascending (separator_keys xs) && nat_lt first p) (is_between (least_separators page) 9 (length xs))
    (and_from (all_below p xs && are_ascending (separator_keys xs)) (nat_lt first p) (and_from (all_below p xs) (are_ascending (separator_keys xs)) w.below w.ascend) (lt-ltb first p w.first_below))
    (and_from (nat_le (least_separators page) (length xs)) (nat_le (length xs) 9) (le-leb (least_separators page) (length xs) least) (le-leb (length xs) 9 most))

pub record PageWays (page p first : ℕ) (xs : List Separator) : Type 0 where
  pub ways : AreWays p first xs
  pub least : least_separators page ≤ length xs
  pub most : length xs ≤ 9

pub page_ways : (page p first : ℕ) (xs : List Separator) → is_page page p (Interior first xs) ≡ true → PageWays page p first xs
page_ways page p first xs e =
    let outer = and_parts (all_below p xs && are_ascending (separator_keys xs) && nat_lt first p) (is_between (least_separators page) 9 (length xs)) e in
    let three = and_parts (all_below p xs && are_ascending (separator_keys xs)) (nat_lt first p) outer.0 in
    let two = and_parts (all_below p xs) (are_ascending (separator_keys xs)) three.0 in
    let count = and_parts (nat_le (least_separators page) (length xs)) (nat_le (length xs) 9) outer.1 in
    record {
      ways = record { below = two.0; ascend = two.1; first_below = ltb-true first p three.1 };
      least = leb-true (least_separators page) (length xs) count.0;
      most = leb-true (length xs) 9 count.1;
    }

-- any page may have four or more
-- ---- the ways of the page above a pair

split_count : {X : Type 0} (xs : List X) (i : ℕ) (x y : X) → slice_get xs i ≡ Some x → length (take i xs ++ y ∷ drop (i + 1) xs) ≡ length xs
split_count xs i x y e =
    let same : length (take i xs ++ y ∷ drop (i + 1) xs) ≡ length (take i xs ++ x ∷ drop (i + 1) xs) =
    length-append (take i xs) (y ∷ drop (i + 1) xs) ∙ sym (length-append (take i xs) (x ∷ drop (i + 1) xs)) in
    same ∙ ap length (sym (parts_at xs i x e))

pub joined_ways : (p first : ℕ) (above : Child) (xs : List Separator) (pair : Pair) → IsPair above first xs pair → AreWays p first xs → AreWays p first (separators_joined xs pair)
joined_ways p first above xs pair is w = ways_without p first (take pair.place xs) is.between (drop (pair.place + 1) xs) (subst (AreWays p first) (parts_at xs pair.place is.between is.there) w)

pub shared_page : (p first : ℕ) (above : Child) (xs : List Separator) (pair : Pair) (key : Key) → IsOpenedPage p above first xs → IsPair above first xs pair → is_key key ≡ true → pair.right < p
    → IsBetween above first xs pair key → is_page above.page p (Interior first (separators_shared xs pair key)) ≡ true
shared_page p first above xs pair key o is good low between =
    let front : List Separator = take pair.place xs in
    let behind : List Separator = drop (pair.place + 1) xs in
    let new : Separator = record { key = key; child = pair.right } in
    let w = subst (AreWays p first) (parts_at xs pair.place is.between is.there) o.ways in
    let parts = ways_parts p front is.between behind w.below in
    let count = split_count xs pair.place is.between new is.there in
    let lowest : Option Key = (child_behind first above.low front above.high).low in
    let highest : Option Key = end_of above.high behind in
    let under = and_parts (not_below lowest between.1) (below highest between.1) (and_parts (not_below lowest between.1 && below highest between.1) true between.2).0 in
    let over = and_parts (not_below lowest key) (below highest key) (and_parts (not_below lowest key && below highest key) true between.0).0 in
    let ways : AreWays p first (front ++ new ∷ behind) = record {
      below = below_from p front new behind parts.front good low parts.behind;
      ascend = ascend_with first above.low above.high above.high front is.between new behind between.1 w.ascend under.0 between.3 over.1;
      first_below = o.ways.first_below;
    } in
    ways_page above.page p first (front ++ new ∷ behind) ways (subst (λ (n : ℕ). least_separators above.page ≤ n) (sym count) o.least) (subst (λ (n : ℕ). n ≤ 9) (sym count) o.most)

-- ---- what is parted

pub front_page : (page p first : ℕ) (list : List Separator) (cut : ℕ) → AreWays p first list → 4 ≤ cut → cut ≤ 9 → cut ≤ length list → is_page page p (Interior first (take cut list)) ≡ true
front_page page p first list cut w least most within =
    let count : length (take cut list) ≡ cut = length-take cut list ∙ omega arith in
    ways_page page p first (take cut list) (ways_front p first (take cut list) (drop cut list) (subst (AreWays p first) (sym (take-append-drop cut list)) w))
    (least_ways page (length (take cut list)) (omega (arith, count, least))) (omega (arith, count, most))

pub behind_page : (page p first : ℕ) (list : List Separator) (cut : ℕ) (s : Separator) → AreWays p first list → slice_get list cut ≡ Some s → cut + 5 ≤ length list → length list ≤ cut + 10 → is_page page p (Interior s.child (drop (cut + 1) list)) ≡ true
behind_page page p first list cut s w at least most =
    let count : length (drop (cut + 1) list) ≡ length list - (cut + 1) = length-drop (cut + 1) list in
    ways_page page p s.child (drop (cut + 1) list) (ways_behind p first (take cut list) s (drop (cut + 1) list) (subst (AreWays p first) (parts_at list cut s at) w))
    (least_ways page (length (drop (cut + 1) list)) (omega (arith, count, least))) (omega (arith, count, most))

-- a key among others that fit the pair, behind the first
pub between_keys : (above : Child) (first : ℕ) (xs : List Separator) (pair : Pair) (ks : List Key) (k : Key) (ls : List Key) → 0 < length ks → are_ascending (ks ++ k ∷ ls) ≡ true → pair_fits above first xs pair (ks ++ k ∷ ls) ≡ true → IsBetween above first xs pair k
between_keys above first xs pair [] k ls some asc fit = absurd (omega arith)
between_keys above first xs pair (a ∷ ks) k ls some asc fit =
    let lowest : Option Key = (child_behind first above.low (take pair.place xs) above.high).low in
    let highest : Option Key = end_of above.high (drop (pair.place + 1) xs) in
    let one = and_parts (not_below lowest a && below highest a) (keys_fit lowest highest (ks ++ k ∷ ls)) fit in
    let rest = and_parts (keys_fit lowest highest ks) (keys_fit lowest highest (k ∷ ls)) (sym (fit_append lowest highest ks (k ∷ ls)) ∙ one.1) in
    let two = and_parts (not_below lowest k && below highest k) (keys_fit lowest highest ls) rest.1 in
    (and_from (not_below lowest k && below highest k) true two.0 refl, a, and_from (not_below lowest a && below highest a) true one.0 refl, first_under a ks ls k asc)

-- ---- leaves

pub record PageEntries (page : ℕ) (xs : List Entry) : Type 0 where
  pub are : AreEntries xs
  pub least : least_used page ≤ used_by xs
  pub most : used_by xs ≤ 488

pub page_entries : (page p : ℕ) (xs : List Entry) → is_page page p (Leaf xs) ≡ true → AllByRecursion FitsEntry xs → PageEntries page xs
page_entries page p xs e fits =
    let outer = and_parts (list_all is_entry xs && are_ascending (entry_keys xs)) (is_between (least_used page) room (used_by xs)) e in
    let two = and_parts (list_all is_entry xs) (are_ascending (entry_keys xs)) outer.0 in
    let count = and_parts (nat_le (least_used page) (used_by xs)) (nat_le (used_by xs) 488) outer.1 in
    record {
      are = record { each = two.0; ascend = two.1; fits = fits };
      least = leb-true (least_used page) (used_by xs) count.0;
      most = leb-true (used_by xs) 488 count.1;
    }

pub least_at : (page n : ℕ) → (page ≡ 0 → ⊥) → least_used page ≤ n → 190 ≤ n
least_at page n some h = by (page == 0) refl h
  where
    by : (b : Bool) → (page == 0) ≡ b → cond b 0 190 ≤ n → 190 ≤ n
    by true e h = absurd (some (eqb-true page 0 e))
    by false e h = h

pub entries_touch : (low high : Option Key) (xs : List Entry) (k : Key) (ys : List Entry) → AreEntries xs → AreEntries ys → keys_fit low (Some k) (entry_keys xs) ≡ true → keys_fit (Some k) high (entry_keys ys) ≡ true → AreEntries (xs ++ ys)
entries_touch low high xs k ys a b under over = record {
  each = list_all-append is_entry xs ys ∙ and_from (list_all is_entry xs) (list_all is_entry ys) a.each b.each;
  ascend = ap are_ascending (entry_keys_append xs ys) ∙ keys_touch low high (entry_keys xs) k (entry_keys ys) a.ascend under b.ascend over;
  fits = all_append FitsEntry xs ys a.fits b.fits;
}

pub ways_touch : (p first second : ℕ) (low high : Option Key) (xs : List Separator) (k : Key) (ys : List Separator) → AreWays p first xs → AreWays p second ys → is_key k ≡ true
    → keys_fit low (Some k) (separator_keys xs) ≡ true → is_behind k ys ≡ true → AreWays p first (xs ++ record { key = k; child = second } ∷ ys)
ways_touch p first second low high xs k ys a b good under over =
    let s : Separator = record { key = k; child = second } in
    record {
      below = below_from p xs s ys a.below good b.first_below b.below;
      ascend = ap are_ascending (separator_keys_append xs (s ∷ ys)) ∙ keys_meet low high (separator_keys xs) k (separator_keys ys) a.ascend under (ahead ys b.ascend over);
      first_below = a.first_below;
    }
  where
    ahead : (ys : List Separator) → are_ascending (separator_keys ys) ≡ true → is_behind k ys ≡ true → are_ascending (k ∷ separator_keys ys) ≡ true
    ahead [] asc h = refl
    ahead (y ∷ ys) asc h = and_from (key_lt k y.key) (are_ascending (separator_keys (y ∷ ys))) h asc

-- a key of a list that is parted there
pub entry_between : (above : Child) (first : ℕ) (xs : List Separator) (pair : Pair) (list : List Entry) (cut : ℕ) (y : Entry) → 0 < cut → slice_get list cut ≡ Some y → are_ascending (entry_keys list) ≡ true
    → pair_fits above first xs pair (entry_keys list) ≡ true → IsBetween above first xs pair y.key
entry_between above first xs pair list cut y some at asc fit =
    let same : entry_keys list ≡ entry_keys (take cut list) ++ y.key ∷ entry_keys (drop (cut + 1) list) = ap entry_keys (parts_at list cut y at) ∙ entry_keys_append (take cut list) (y ∷ drop (cut + 1) list) in
    between_keys above first xs pair (entry_keys (take cut list)) y.key (entry_keys (drop (cut + 1) list))
    (omega (arith, count_keys (take cut list), length-take cut list, slice_get_within list cut y at))
    (ap are_ascending (sym same) ∙ asc) (ap (pair_fits above first xs pair) (sym same) ∙ fit)
  where
    count_keys : (es : List Entry) → length (entry_keys es) ≡ length es
    count_keys [] = refl
    count_keys (e ∷ es) = ap suc (count_keys es)

pub separator_between : (above : Child) (first : ℕ) (xs : List Separator) (pair : Pair) (list : List Separator) (cut : ℕ) (s : Separator) → 0 < cut → slice_get list cut ≡ Some s → are_ascending (separator_keys list) ≡ true
    → pair_fits above first xs pair (separator_keys list) ≡ true → IsBetween above first xs pair s.key
separator_between above first xs pair list cut s some at asc fit =
    let same : separator_keys list ≡ separator_keys (take cut list) ++ s.key ∷ separator_keys (drop (cut + 1) list) = ap separator_keys (parts_at list cut s at) ∙ separator_keys_append (take cut list) (s ∷ drop (cut + 1) list) in
    between_keys above first xs pair (separator_keys (take cut list)) s.key (separator_keys (drop (cut + 1) list))
    (omega (arith, count_keys (take cut list), length-take cut list, slice_get_within list cut s at))
    (ap are_ascending (sym same) ∙ asc) (ap (pair_fits above first xs pair) (sym same) ∙ fit)
  where
    count_keys : (es : List Separator) → length (separator_keys es) ≡ length es
    count_keys [] = refl
    count_keys (e ∷ es) = ap suc (count_keys es)

pub good_at : (p first : ℕ) (xs : List Separator) (i : ℕ) (s : Separator) → AreWays p first xs → slice_get xs i ≡ Some s → is_key s.key ≡ true
good_at p first xs i s w at = (ways_parts p (take i xs) s (drop (i + 1) xs) (ap (all_below p) (sym (parts_at xs i s at)) ∙ w.below)).key

pub least_ways_at : (page n : ℕ) → (page ≡ 0 → ⊥) → least_separators page ≤ n → 4 ≤ n
least_ways_at page n some h = by (page == 0) refl h
  where
    by : (b : Bool) → (page == 0) ≡ b → cond b 1 4 ≤ n → 4 ≤ n
    by true e h = absurd (some (eqb-true page 0 e))
    by false e h = h

pub least_of_page : (page p first : ℕ) (xs : List Separator) → (page ≡ 0 → ⊥) → is_page page p (Interior first xs) ≡ true → 4 ≤ length xs
least_of_page page p first xs some e =
    let outer = and_parts (all_below p xs && are_ascending (separator_keys xs) && nat_lt first p) (is_between (least_separators page) 9 (length xs)) e in
    least_ways_at page (length xs) some (leb-true (least_separators page) (length xs) (and_parts (nat_le (least_separators page) (length xs)) (nat_le (length xs) 9) outer.1).0)

pub leaf_least : (page p : ℕ) (xs : List Entry) → is_page page p (Leaf xs) ≡ true → least_used page ≤ used_by xs
leaf_least page p xs e =
    let outer = and_parts (list_all is_entry xs && are_ascending (entry_keys xs)) (is_between (least_used page) room (used_by xs)) e in
    leb-true (least_used page) (used_by xs) (and_parts (nat_le (least_used page) (used_by xs)) (nat_le (used_by xs) 488) outer.1).0
