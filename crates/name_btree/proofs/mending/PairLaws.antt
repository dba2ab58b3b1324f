-- Two children side by side, and the separators beside the one between them.
use Rattle.std.proofs.Common.{◌≡◌, ℕ, zero, suc, ◌+◌, ◌-◌, ◌<◌, ◌≤◌, Bool, true, false, ◌&&◌, List, [], ◌∷◌, ◌++◌, length, get_or, take, drop, Option, Some, refl, sym, ap, ◌∙◌, cond, arith, take-append-drop}
use Rattle.std.proofs.lemmas.Option.{same_Some}
use Rattle.std.specs.Prelude.{◌==◌, slice_get}
use Rattle.std.proofs.lemmas.Bool.{and_parts, and_from}
use Rattle.fsd_bytes.specs.declared.key.Key.{Key}
use Rattle.fsd_bytes.specs.Keys.{key_lt}
use Rattle.fsd_formats.specs.declared.page.Separator.{Separator}
use Rattle.fsd_formats.specs.NamePage.{are_ascending}
use Rattle.fsd_table.specs.declared.child.Child.{Child}
use Rattle.fsd_table.specs.Pages.{children, keys_fit, not_below, below, separator_keys}
use Rattle.fsd_table.proofs.BoundLaws.{ascend_tail, ascend_skip, later_fit}
use Rattle.fsd_table.proofs.KeyLaws.{le_lt}
use Rattle.name_btree.specs.declared.trimming.Pair.{Pair}
use Rattle.fsd_forest.specs.Ways.{child_behind, end_of}
use Rattle.fsd_forest.proofs.WayLaws.{child_at}
use Rattle.name_btree.specs.Trim.{IsPair, neighbour_of, child_of}
use Rattle.name_btree.proofs.walks.WalkLaws.{child_later}
use Rattle.name_page.proofs.EndsLaws.{some_there}
use Rattle.name_page.proofs.ListLaws.{drop_at}

-- ---- the children at places

pub child_is_at : (above : Child) (first : ℕ) (xs : List Separator) (i : ℕ) (child : Child) → i ≤ length xs → slice_get (children first above.low above.high xs) i ≡ Some child → child ≡ child_of above first xs i
child_is_at above first xs i child within is = same_Some child _ (sym is ∙ child_at first above.low above.high xs i within)

child_before : (first : ℕ) (low high : Option Key) (xs : List Separator) (i : ℕ) (s : Separator) → slice_get xs i ≡ Some s → slice_get (children first low high xs) i ≡ Some (child_behind first low (take i xs) (Some s.key))
child_before first low high [] i s e = absurd cc
child_before first low high (x ∷ xs) zero s e =
    let made : Separator → Option Child = λ (y : Separator). Some (record { page = first; low = low; high = Some y.key }) in
    ap made (same_Some x s e)
child_before first low high (x ∷ xs) (suc i) s e = child_before x.child (Some x.key) high xs i s e

pub parts_at : {X : Type 0} (xs : List X) (i : ℕ) (x : X) → slice_get xs i ≡ Some x → xs ≡ take i xs ++ x ∷ drop (i + 1) xs
parts_at xs i x e = sym (take-append-drop i xs) ∙ ap (λ ys. take i xs ++ ys) (drop_at xs i x e)

-- the left and the right one
abbrev pub left_child : Child → ℕ → List Separator → Pair → Separator → Child
left_child above first xs pair s = child_behind first above.low (take pair.place xs) (Some s.key)

abbrev pub right_child : Child → List Separator → Pair → Separator → Child
right_child above xs pair s = record { page = s.child; low = Some s.key; high = end_of above.high (drop (pair.place + 1) xs) }

pub pair_is : (above : Child) (first : ℕ) (xs : List Separator) (place left right : ℕ) (c d : Child) → place < length xs
    → slice_get (children first above.low above.high xs) place ≡ Some c → slice_get (children first above.low above.high xs) (place + 1) ≡ Some d
    → left ≡ c.page → right ≡ d.page → IsPair above first xs (record { place = place; left = left; right = right })
pair_is above first xs place left right c d within at_c at_d l r =
    let s = some_there xs place within in
    let c_is = same_Some c _ (sym at_c ∙ child_before first above.low above.high xs place s.0 s.1) in
    let d_is = same_Some d _ (sym at_d ∙ child_later first above.low above.high xs (place + 1) place s.0 (omega arith) s.1) in
    record { between = s.0; there = s.1; left = l ∙ ap (λ (x : Child). x.page) c_is; right = r ∙ ap (λ (x : Child). x.page) d_is }

-- child i is the left one or the right one, and its neighbour the other
pub data AreSides (above : Child) (first : ℕ) (xs : List Separator) (pair : Pair) (s : Separator) (i : ℕ) (child neighbour : Child) : Type 0 where
  AtLeft : (i == 0) ≡ true → child ≡ left_child above first xs pair s → neighbour ≡ right_child above xs pair s → AreSides above first xs pair s i child neighbour
  AtRight : (i == 0) ≡ false → child ≡ right_child above xs pair s → neighbour ≡ left_child above first xs pair s → AreSides above first xs pair s i child neighbour

pub sides_are : (above : Child) (first : ℕ) (xs : List Separator) (pair : Pair) (is : IsPair above first xs pair) (i : ℕ) (child neighbour : Child) → pair.place ≡ i - 1
    → slice_get (children first above.low above.high xs) i ≡ Some child → slice_get (children first above.low above.high xs) (neighbour_of i) ≡ Some neighbour
    → AreSides above first xs pair is.between i child neighbour
sides_are above first xs pair is i child neighbour place at beside_at = by (i == 0) refl
  where
    cs : List Child
    cs = children first above.low above.high xs

    left_at : slice_get (children first above.low above.high xs) pair.place ≡ Some (left_child above first xs pair is.between)
    left_at = child_before first above.low above.high xs pair.place is.between is.there

    right_at : slice_get (children first above.low above.high xs) (pair.place + 1) ≡ Some (right_child above xs pair is.between)
    right_at = child_later first above.low above.high xs (pair.place + 1) pair.place is.between (omega arith) is.there

    by : (b : Bool) → (i == 0) ≡ b → AreSides above first xs pair is.between i child neighbour
    by true e =
        let zero_i : i ≡ 0 = grind arith in
        let here : pair.place ≡ i = omega arith in
        let there : pair.place + 1 ≡ neighbour_of i = (let one : pair.place + 1 ≡ 1 = omega arith in one ∙ sym (ap (λ (b : Bool). cond b 1 (i - 1)) e)) in
        AtLeft e (same_Some child _ (sym at ∙ ap (slice_get cs) (sym here) ∙ left_at)) (same_Some neighbour _ (sym beside_at ∙ ap (slice_get cs) (sym there) ∙ right_at))
    by false e =
        let some_i : i ≡ 0 → ⊥ = grind arith in
        let here : pair.place + 1 ≡ i = omega (arith, some_i) in
        let there : pair.place ≡ neighbour_of i = place ∙ sym (ap (λ (b : Bool). cond b 1 (i - 1)) e) in
        AtRight e (same_Some child _ (sym at ∙ ap (slice_get cs) (sym here) ∙ right_at)) (same_Some neighbour _ (sym beside_at ∙ ap (slice_get cs) (sym there) ∙ left_at))

-- ---- keys of the pair

pub low_same : (first : ℕ) (low high high2 : Option Key) (xs : List Separator) → (child_behind first low xs high).low ≡ (child_behind first low xs high2).low
low_same first low high high2 [] = refl
low_same first low high high2 (x ∷ xs) = low_same x.child (Some x.key) high high2 xs

-- the key between them stands between those of the pair
pub key_inside : (first : ℕ) (low high high2 : Option Key) (front : List Separator) (s : Separator) (behind : List Separator) → are_ascending (separator_keys (front ++ s ∷ behind)) ≡ true
    → keys_fit low high (separator_keys (front ++ s ∷ behind)) ≡ true → (not_below (child_behind first low front high2).low s.key && below (end_of high behind) s.key) ≡ true
key_inside first low high high2 [] s [] asc fit = (and_parts (not_below low s.key && below high s.key) true fit).0
key_inside first low high high2 [] s (b ∷ behind) asc fit =
    let one = (and_parts (not_below low s.key && below high s.key) (keys_fit low high (separator_keys (b ∷ behind))) fit).0 in
    and_from (not_below low s.key) (key_lt s.key b.key) (and_parts (not_below low s.key) (below high s.key) one).0 (and_parts (key_lt s.key b.key) (are_ascending (separator_keys (b ∷ behind))) asc).0
key_inside first low high high2 (x ∷ front) s behind asc fit =
    let ks : List Key = separator_keys (front ++ s ∷ behind) in
    key_inside x.child (Some x.key) high high2 front s behind (ascend_tail x.key ks asc) (later_fit x.key low high ks asc (and_parts (not_below low x.key && below high x.key) (keys_fit low high ks) fit).1)

-- ---- without the separator between them, or with another

pub ascend_without : (ks : List Key) (k : Key) (ls : List Key) → are_ascending (ks ++ k ∷ ls) ≡ true → are_ascending (ks ++ ls) ≡ true
ascend_without [] k ls asc = ascend_tail k ls asc
ascend_without (a ∷ []) k ls asc = ascend_skip a k ls asc
ascend_without (a ∷ b ∷ ks) k ls asc =
    let parts = and_parts (key_lt a b) (are_ascending (b ∷ (ks ++ k ∷ ls))) asc in
    and_from (key_lt a b) (are_ascending (b ∷ (ks ++ ls))) parts.0 (ascend_without (b ∷ ks) k ls parts.1)

ascend_head_with : (high : Option Key) (s new : Separator) (behind : List Separator) → are_ascending (separator_keys (s ∷ behind)) ≡ true → below (end_of high behind) new.key ≡ true → are_ascending (separator_keys (new ∷ behind)) ≡ true
ascend_head_with high s new [] asc over = refl
ascend_head_with high s new (b ∷ behind) asc over = and_from (key_lt new.key b.key) (are_ascending (separator_keys (b ∷ behind))) over (and_parts (key_lt s.key b.key) (are_ascending (separator_keys (b ∷ behind))) asc).1

pub ascend_with : (first : ℕ) (low high high2 : Option Key) (front : List Separator) (s new : Separator) (behind : List Separator) (a : Key) → are_ascending (separator_keys (front ++ s ∷ behind)) ≡ true
    → not_below (child_behind first low front high2).low a ≡ true → key_lt a new.key ≡ true → below (end_of high behind) new.key ≡ true → are_ascending (separator_keys (front ++ new ∷ behind)) ≡ true
ascend_with first low high high2 [] s new behind a asc not_under under over = ascend_head_with high s new behind asc over
ascend_with first low high high2 (x ∷ []) s new behind a asc not_under under over =
    let ks : List Key = separator_keys (s ∷ behind) in
    and_from (key_lt x.key new.key) (are_ascending (separator_keys (new ∷ behind))) (le_lt x.key a new.key not_under under)
    (ascend_head_with high s new behind (ascend_tail x.key ks asc) over)
ascend_with first low high high2 (x ∷ y ∷ front) s new behind a asc not_under under over =
    let parts = and_parts (key_lt x.key y.key) (are_ascending (separator_keys (y ∷ (front ++ s ∷ behind)))) asc in
    and_from (key_lt x.key y.key) (are_ascending (separator_keys (y ∷ (front ++ new ∷ behind)))) parts.0 (ascend_with x.child (Some x.key) high high2 (y ∷ front) s new behind a parts.1 not_under under over)

-- ---- places

pub head_of : {X : Type 0} (xs : List X) (i : ℕ) (ys : List X) (d : X) → ys ≡ drop i xs → get_or xs i d ≡ get_or ys 0 d
head_of {X = X} xs i ys d e = by xs i ∙ ap (λ zs. get_or zs 0 d) (sym e)
  where
    by : (xs : List X) (i : ℕ) → get_or xs i d ≡ get_or (drop i xs) 0 d
    by [] zero = refl
    by [] (suc i) = refl
    by (x ∷ xs) zero = refl
    by (x ∷ xs) (suc i) = by xs i
