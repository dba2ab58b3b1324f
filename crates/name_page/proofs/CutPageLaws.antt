-- What is too much for one page, in two.
use Rattle.std.proofs.Common.{◌≡◌, ℕ, suc, ◌+◌, ◌≤◌, ◌<◌, true, Bool, false, cond, ◌&&◌, List, [], ◌∷◌, ◌++◌, length, take, drop, Some, refl, sym, ap, subst, ◌∙◌, arith, length-append, take-append-drop, length-take, length-drop}
use Rattle.std.specs.Prelude.{◌==◌, nat_lt, slice_get}
use Rattle.std.specs.List.{flat_map, list_all}
use Rattle.std.proofs.lemmas.Bool.{and_parts, and_from, le-leb}
use Rattle.std.proofs.lemmas.Grind.{flat_map-append}
use Rattle.std.proofs.lemmas.List.Folds.{list_all-append}
use Rattle.fsd_bytes.specs.declared.key.Key.{Key}
use Rattle.fsd_bytes.specs.Keys.{is_key, key_lt}
use Rattle.fsd_bytes.specs.Names.{is_between}
use Rattle.fsd_formats.specs.declared.entry.Entry.{Entry}
use Rattle.fsd_formats.specs.declared.page.Separator.{Separator}
use Rattle.fsd_formats.specs.NamePage.{Leaf, Interior, is_page, is_entry, are_ascending, entry_bytes, least_used, least_separators, room}
use Rattle.fsd_table.specs.Pages.{entry_keys, separator_keys}
use Rattle.fsd_table.proofs.BoundLaws.{ascend_tail, entry_keys_append, separator_keys_append}
use Rattle.name_page.specs.Parting.{AreLeaves, AreInteriors, used_by}
use Rattle.name_page.proofs.LeafLaws.{is_between_from}
use Rattle.name_page.proofs.ListLaws.{drop_at}

-- ---- keys in two parts

pub keys_front : (xs ys : List Key) → are_ascending (xs ++ ys) ≡ true → are_ascending xs ≡ true
keys_front [] ys e = refl
keys_front (x ∷ []) ys e = refl
keys_front (x ∷ y ∷ xs) ys e =
    let parts = and_parts (key_lt x y) (are_ascending (y ∷ (xs ++ ys))) e in
    and_from (key_lt x y) (are_ascending (y ∷ xs)) parts.0 (keys_front (y ∷ xs) ys parts.1)

pub keys_behind : (xs ys : List Key) → are_ascending (xs ++ ys) ≡ true → are_ascending ys ≡ true
keys_behind [] ys e = e
keys_behind (x ∷ xs) ys e = keys_behind xs ys (ascend_tail x (xs ++ ys) e)

-- ---- leaves

-- any page may have so much
pub least_of : (page n : ℕ) → 190 ≤ n → least_used page ≤ n
least_of page n h = by (page == 0)
  where
    by : (b : Bool) → cond b 0 190 ≤ n
    by true = omega arith
    by false = h

pub leaf_page : (page : ℕ) (xs : List Entry) → list_all is_entry xs ≡ true → are_ascending (entry_keys xs) ≡ true → least_used page ≤ used_by xs → used_by xs ≤ room → is_page page 0 (Leaf xs) ≡ true
leaf_page page xs all asc least most =
    and_from (list_all is_entry xs && are_ascending (entry_keys xs)) (is_between (least_used page) room (used_by xs)) (and_from (list_all is_entry xs) (are_ascending (entry_keys xs)) all asc)
    (is_between_from (least_used page) room (used_by xs) least most)

pub used_apart : (xs ys : List Entry) → used_by (xs ++ ys) ≡ used_by xs + used_by ys
used_apart xs ys = ap length (flat_map-append entry_bytes xs ys) ∙ length-append (flat_map entry_bytes xs) (flat_map entry_bytes ys)

leaves_of : (xs ys : List Entry) → list_all is_entry (xs ++ ys) ≡ true → are_ascending (entry_keys (xs ++ ys)) ≡ true → 488 < used_by (xs ++ ys) → used_by (xs ++ ys) ≤ 678 → 190 ≤ used_by xs → used_by xs ≤ 488 → used_by xs + 190 ≤ used_by (xs ++ ys)
    → AreLeaves xs ys
leaves_of xs ys all asc many few least most left page =
    let sum = used_apart xs ys in
    let each = and_parts (list_all is_entry xs) (list_all is_entry ys) (sym (list_all-append is_entry xs ys) ∙ all) in
    let keys : are_ascending (entry_keys xs ++ entry_keys ys) ≡ true = ap are_ascending (sym (entry_keys_append xs ys)) ∙ asc in (
      leaf_page page xs each.0 (keys_front (entry_keys xs) (entry_keys ys) keys) (least_of page (used_by xs) least) (omega (arith, most)),
      leaf_page page ys each.1 (keys_behind (entry_keys xs) (entry_keys ys) keys) (least_of page (used_by ys) (omega (arith, sum, left))) (omega (arith, sum, few, least)),
    )

pub leaves_at : (entries : List Entry) (i : ℕ) → list_all is_entry entries ≡ true → are_ascending (entry_keys entries) ≡ true → 488 < used_by entries → used_by entries ≤ 678 → 190 ≤ used_by (take i entries)
    → used_by (take i entries) ≤ 488 → used_by (take i entries) + 190 ≤ used_by entries → AreLeaves (take i entries) (drop i entries)
leaves_at entries i all asc many few least most left =
    let whole : entries ≡ take i entries ++ drop i entries = sym (take-append-drop i entries) in
    leaves_of (take i entries) (drop i entries) (ap (list_all is_entry) (sym whole) ∙ all) (ap (λ (xs : List Entry). are_ascending (entry_keys xs)) (sym whole) ∙ asc)
    (subst (λ (n : ℕ). 488 < n) (ap used_by whole) many) (subst (λ (n : ℕ). n ≤ 678) (ap used_by whole) few) least most
    (subst (λ (n : ℕ). used_by (take i entries) + 190 ≤ n) (ap used_by whole) left)

-- ---- interior pages

-- all have keys, and lead to one of p pages
abbrev pub all_below : ℕ → List Separator → Bool
all_below p xs = list_all (λ s. is_key s.key && nat_lt s.child p) xs

pub least_ways : (page n : ℕ) → 4 ≤ n → least_separators page ≤ n
least_ways page n h = by (page == 0)
  where
    by : (b : Bool) → cond b 1 4 ≤ n
    by true = omega (arith, h)
    by false = h

an_interior : (page p first : ℕ) (xs : List Separator) → all_below p xs ≡ true → are_ascending (separator_keys xs) ≡ true → nat_lt first p ≡ true → 4 ≤ length xs → length xs ≤ 9 → is_page page p (Interior first xs) ≡ true
an_interior page p first xs all asc low least most =
    and_from (all_below p xs && are_ascending (separator_keys xs) && nat_lt first p) (is_between (least_separators page) 9 (length xs))
    (and_from (all_below p xs && are_ascending (separator_keys xs)) (nat_lt first p) (and_from (all_below p xs) (are_ascending (separator_keys xs)) all asc) low)
    (is_between_from (least_separators page) 9 (length xs) (least_ways page (length xs) least) most)

interiors_of : (p first : ℕ) (xs : List Separator) (s : Separator) (ys : List Separator) → all_below p (xs ++ s ∷ ys) ≡ true → are_ascending (separator_keys (xs ++ s ∷ ys)) ≡ true → first < p → 4 ≤ length xs → length xs ≤ 9 → 4 ≤ length ys → length ys ≤ 9
    → AreInteriors p first xs s.child ys
interiors_of p first xs s ys all asc low least most least_behind most_behind page =
    let each = and_parts (all_below p xs) (all_below p (s ∷ ys)) (sym (list_all-append (λ s. is_key s.key && nat_lt s.child p) xs (s ∷ ys)) ∙ all) in
    let later = and_parts (is_key s.key && nat_lt s.child p) (all_below p ys) each.1 in
    let keys : are_ascending (separator_keys xs ++ separator_keys (s ∷ ys)) ≡ true = ap are_ascending (sym (separator_keys_append xs (s ∷ ys))) ∙ asc in (
      an_interior page p first xs each.0 (keys_front (separator_keys xs) (separator_keys (s ∷ ys)) keys) (le-leb (suc first) p (omega arith)) least most,
      an_interior page p s.child ys later.1 (ascend_tail s.key (separator_keys ys) (keys_behind (separator_keys xs) (separator_keys (s ∷ ys)) keys)) (and_parts (is_key s.key) (nat_lt s.child p) later.0).1
          least_behind most_behind,
    )

parts_at : (xs : List Separator) (i : ℕ) (s : Separator) → slice_get xs i ≡ Some s → xs ≡ take i xs ++ s ∷ drop (i + 1) xs
parts_at xs i s e = sym (take-append-drop i xs) ∙ ap (λ (ys : List Separator). take i xs ++ ys) (drop_at xs i s e)

pub interiors_at : (p first i : ℕ) (xs : List Separator) (s : Separator) → length xs ≡ 10 → 4 ≤ i → i ≤ 5 → slice_get xs i ≡ Some s → all_below p xs ≡ true → are_ascending (separator_keys xs) ≡ true → first < p
    → AreInteriors p first (take i xs) s.child (drop (i + 1) xs)
interiors_at p first i xs s ten least most at all asc low =
    let whole = parts_at xs i s at in
    let front : length (take i xs) ≡ i = length_front xs i ten most in
    let behind : length (drop (i + 1) xs) + i + 1 ≡ 10 = length_behind xs i ten most in
    interiors_of p first (take i xs) s (drop (i + 1) xs) (ap (all_below p) (sym whole) ∙ all) (ap (λ (ys : List Separator). are_ascending (separator_keys ys)) (sym whole) ∙ asc) low
    (omega (arith, front, least)) (omega (arith, front, most)) (omega (arith, behind, most)) (omega (arith, behind, least))
  where
    length_front : (xs : List Separator) (i : ℕ) → length xs ≡ 10 → i ≤ 5 → length (take i xs) ≡ i
    length_front xs i ten most = grind (arith, length-take)

    length_behind : (xs : List Separator) (i : ℕ) → length xs ≡ 10 → i ≤ 5 → length (drop (i + 1) xs) + i + 1 ≡ 10
    length_behind xs i ten most = omega (arith, length-drop (i + 1) xs)
