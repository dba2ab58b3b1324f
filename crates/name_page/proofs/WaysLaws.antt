-- What interior pages ask of their separators, and such pages in two parts.
use Rattle.std.proofs.Common.{◌≡◌, ℕ, ◌+◌, Bool, true, false, ◌&&◌, List, [], ◌∷◌, ◌++◌, length, take, drop, Some, refl, sym, ap, subst, ◌∙◌, take-append-drop}
use Rattle.std.specs.Prelude.{nat_lt, slice_get}
use Rattle.std.specs.List.{list_all, AllByRecursion}
use Rattle.std.proofs.lemmas.Bool.{and_parts, and_from}
use Rattle.std.proofs.lemmas.List.{take_more}
use Rattle.std.proofs.lemmas.Option.{slice_get_within, get_or_from_slice_get}
use Rattle.fsd_bytes.specs.declared.key.Key.{Key}
use Rattle.fsd_bytes.specs.Keys.{is_key, key_lt}
use Rattle.fsd_bytes.specs.Names.{is_between}
use Rattle.fsd_formats.specs.declared.page.Separator.{Separator}
use Rattle.fsd_formats.specs.NamePage.{Interior, is_page, are_ascending, least_separators}
use Rattle.fsd_table.specs.Pages.{separator_keys}
use Rattle.fsd_table.proofs.BoundLaws.{all_append, ascend_tail}
use Rattle.fsd_table.proofs.KeyLaws.{lt_is_le}
use Rattle.name_page.proofs.CutLaws.{IsMonotone, behind}
use Rattle.name_page.proofs.ListLaws.{drop_at}

-- ---- what an interior page asks of its separators

only_keys : (p : ℕ) (separators : List Separator) → list_all (λ s. is_key s.key && nat_lt s.child p) separators ≡ true → list_all (λ s. is_key s.key) separators ≡ true
only_keys p [] e = refl
only_keys p (s ∷ separators) e =
    let parts = and_parts (is_key s.key && nat_lt s.child p) (list_all (λ s. is_key s.key && nat_lt s.child p) separators) e in
    and_from (is_key s.key) (list_all (λ s. is_key s.key) separators) (and_parts (is_key s.key) (nat_lt s.child p) parts.0).0 (only_keys p separators parts.1)

pub ways_keys : (page p first : ℕ) (separators : List Separator) → is_page page p (Interior first separators) ≡ true → list_all (λ s. is_key s.key) separators ≡ true
ways_keys page p first separators e =
    let all = list_all (λ s. is_key s.key && nat_lt s.child p) separators in
    let one = and_parts (all && are_ascending (separator_keys separators) && nat_lt first p) (is_between (least_separators page) 9 (length separators)) e in
    let two = and_parts (all && are_ascending (separator_keys separators)) (nat_lt first p) one.0 in
    only_keys p separators (and_parts all (are_ascending (separator_keys separators)) two.0).0

-- ---- separators behind a place

all_behind : (before : Key → Bool) → IsMonotone before → (s : Separator) (xs : List Separator) → before s.key ≡ false → are_ascending (s.key ∷ separator_keys xs) ≡ true → AllByRecursion (λ t. before t.key ≡ false) xs
all_behind before mono s [] h asc = tt
all_behind before mono s (t ∷ xs) h asc =
    let parts = and_parts (key_lt s.key t.key) (are_ascending (t.key ∷ separator_keys xs)) asc in
    let first : before t.key ≡ false = behind before mono s.key t.key h (lt_is_le s.key t.key parts.0) in
    (first, all_behind before mono t xs first parts.1)

ascend_later : (xs ys : List Separator) → are_ascending (separator_keys (xs ++ ys)) ≡ true → are_ascending (separator_keys ys) ≡ true
ascend_later [] ys e = e
ascend_later (x ∷ xs) ys e = ascend_later xs ys (ascend_tail x.key (separator_keys (xs ++ ys)) e)

pub stand_behind : (before : Key → Bool) → IsMonotone before → (xs : List Separator) (i : ℕ) (s : Separator) → slice_get xs i ≡ Some s → before s.key ≡ false → are_ascending (separator_keys xs) ≡ true
    → AllByRecursion (λ t. before t.key ≡ false) (drop i xs)
stand_behind before mono xs i s at h asc =
    let whole : take i xs ++ drop i xs ≡ xs = take-append-drop i xs in
    let later = ascend_later (take i xs) (drop i xs) (ap (λ (ys : List Separator). are_ascending (separator_keys ys)) whole ∙ asc) in
    let from : drop i xs ≡ s ∷ drop (i + 1) xs = drop_at xs i s at in
    let rest = all_behind before mono s (drop (i + 1) xs) h (ap (λ (ys : List Separator). are_ascending (separator_keys ys)) (sym from) ∙ later) in
    subst (AllByRecursion (λ t. before t.key ≡ false)) (sym from) (h, rest)

pub stand_before : (before : Key → Bool) (xs : List Separator) (i : ℕ) (s : Separator) → slice_get xs i ≡ Some s → before s.key ≡ true → AllByRecursion (λ t. before t.key ≡ true) (take i xs)
    → AllByRecursion (λ t. before t.key ≡ true) (take (i + 1) xs)
stand_before before xs i s at h all =
    let more : take (i + 1) xs ≡ take i xs ++ s ∷ [] = take_more xs i s (slice_get_within xs i s at) ∙ ap (λ (x : Separator). take i xs ++ x ∷ []) (get_or_from_slice_get xs i s s at) in
    subst (AllByRecursion (λ t. before t.key ≡ true)) (sym more) (all_append (λ t. before t.key ≡ true) (take i xs) (s ∷ []) all (h, tt))
