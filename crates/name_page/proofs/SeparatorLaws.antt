-- Separators without a fault are those of an interior page, and the other way round.
use Rattle.std.proofs.Common.{◌≡◌, ◌<◌, ℕ, zero, suc, ◌+◌, ◌-◌, ◌*◌, ◌≤◌, Bool, true, ◌&&◌, List, [], ◌∷◌, ◌++◌, length, take, drop, map, Option, Some, None, refl, sym, ap, subst, ◌∙◌, arith, append_assoc}
use Rattle.std.specs.Prelude.{slice_range, slice_get, nat_le, nat_lt}
use Rattle.std.specs.List.{flat_map, list_all}
use Rattle.std.proofs.lemmas.Bool.{and_parts, and_from}
use Rattle.std.proofs.lemmas.List.{drop-drop, length-append, length-replicate, drop_at}
use Rattle.std.proofs.lemmas.List.Folds.{drop_split}
use Rattle.fsd_bytes.specs.Bytes.{u8_at, u32, u32_at, zeros}
use Rattle.fsd_bytes.specs.declared.key.Key.{Key}
use Rattle.fsd_bytes.specs.Keys.{key_of, key_lt, is_key}
use Rattle.fsd_bytes.specs.Names.{is_between, is_name, max_name_len}
use Rattle.fsd_bytes.proofs.FieldLaws.{AreSmall, u8_there, u32_behind, u32_there}
use Rattle.fsd_formats.specs.declared.page.Separator.{Separator}
use Rattle.fsd_formats.specs.NamePage.{separator_bytes, separator_from, separator_with, separators_from, are_ascending}
use Rattle.name_page.specs.Fault.{unless, zeros_fault, separator_key_at, separator_fault, separators_fault}
use Rattle.name_page.specs.Lookups.{is_after}
use Rattle.name_page.specs.Reading.{separator_at}
use Rattle.name_page.proofs.FirstLaws.{none_both, none_from, good_from, none_at}
use Rattle.name_page.proofs.PieceLaws.{length_range, u8_again, u32_again}
use Rattle.name_page.proofs.ZeroLaws.{zeros_accepted, zeros_unfaulted}
use Rattle.name_page.proofs.LeafLaws.{between, is_between_from}

pub separator_there : (place : ℕ) (bytes : List ℕ) → separator_from (drop place bytes) ≡ separator_at place bytes
separator_there place bytes =
    let n : ℕ = u8_at place bytes in
    let name : List ℕ = slice_range bytes (place + 1) (place + 1 + n) in
    let front : drop 1 (drop place bytes) ≡ drop (place + 1) bytes = drop-drop 1 place bytes in
    let behind : drop 40 (drop (place + 1) bytes) ≡ drop (place + 41) bytes = drop-drop 40 (place + 1) bytes ∙ ap (λ (k : ℕ). drop k bytes) (let e : place + 1 + 40 ≡ place + 41 = omega arith in e) in
    let version : u32_at 0 (drop (place + 41) bytes) ≡ u32_at (place + 41) bytes = u32_there (place + 41) bytes in
    let child : u32_at 4 (drop (place + 41) bytes) ≡ u32_at (place + 45) bytes = u32_behind (place + 41) 4 bytes ∙ ap (λ (k : ℕ). u32_at k bytes) (let e : place + 41 + 4 ≡ place + 45 = omega arith in e) in
    ap (λ (k : ℕ). separator_with (take k (drop 1 (drop place bytes))) (drop 40 (drop 1 (drop place bytes)))) (u8_there place bytes)
    ∙ ap (λ (x : List ℕ). separator_with (take n x) (drop 40 x)) front
    ∙ ap (λ (x : List ℕ). separator_with (take n (drop (place + 1) bytes)) x) behind
    ∙ ap (λ (k : ℕ). separator_with (take k (drop (place + 1) bytes)) (drop (place + 41) bytes)) (let e : n ≡ place + 1 + n - (place + 1) = omega arith in e)
    ∙ λ i. record { key = key_of name (version i); child = child i }

separator_again : (place next : ℕ) (bytes : List ℕ) → AreSmall bytes → next ≡ place + 49 → next ≤ length bytes → u8_at place bytes ≤ 40
    → zeros_fault (40 - u8_at place bytes) (place + 1 + u8_at place bytes) bytes ≡ None
    → separator_bytes (separator_at place bytes) ++ drop next bytes ≡ drop place bytes
separator_again place next bytes small e inside few none =
    let n : ℕ = u8_at place bytes in
    let v : ℕ = place + 1 + n in
    let name : List ℕ = slice_range bytes (place + 1) v in
    let version : ℕ = u32_at (place + 41) bytes in
    let child : ℕ = u32_at (place + 45) bytes in
    let named : length (slice_range bytes (place + 1) (place + 1 + u8_at place bytes)) ≡ n = length_range bytes (place + 1) v (omega arith) (omega arith) ∙ (let e : v - (place + 1) ≡ n = omega arith in e) in
    let zeros_are = zeros_accepted (40 - n) v (place + 41) bytes (omega arith) (omega arith) none in
    append_assoc (length name ∷ (name ++ zeros (40 - length name))) (u32 version ++ (u32 child ++ [])) (drop next bytes)
    ∙ ap (λ (x : List ℕ). length name ∷ ((name ++ zeros (40 - length name)) ++ (u32 version ++ x))) (u32_again bytes (place + 45) next small (omega arith) inside)
    ∙ ap (λ (x : List ℕ). length name ∷ ((name ++ zeros (40 - length name)) ++ x)) (u32_again bytes (place + 41) (place + 45) small (omega arith) (omega arith))
    ∙ ap (λ (x : ℕ). x ∷ ((name ++ zeros (40 - x)) ++ drop (place + 41) bytes)) named
    ∙ ap (λ (x : List ℕ). n ∷ x) (append_assoc name (zeros (40 - n)) (drop (place + 41) bytes) ∙ ap (λ (x : List ℕ). name ++ x) zeros_are ∙ sym (drop_split bytes (place + 1) v (omega arith)))
    ∙ u8_again bytes place (place + 1) refl (omega arith)

pub length_separator : (s : Separator) → length s.key.name ≤ 40 → length (separator_bytes s) ≡ 49
length_separator s few =
    omega (arith, length-append (s.key.name ++ zeros (40 - length s.key.name)) (u32 s.key.version ++ (u32 s.child ++ [])), length-append s.key.name (zeros (40 - length s.key.name)), length-replicate {A = ℕ} (40 - length s.key.name) 0)

-- ---- one separator

abbrev pub is_separator : ℕ → Separator → Bool
is_separator p s = is_key s.key && nat_lt s.child p

name_of_separator : (p : ℕ) (s : Separator) → is_separator p s ≡ true → (is_name s.key.name ≡ true) × (1 ≤ length s.key.name) × (length s.key.name ≤ 40)
name_of_separator p s e =
    let key = and_parts (is_key s.key) (nat_lt s.child p) e in
    let named = and_parts (is_name s.key.name) (nat_le 1 s.key.version) key.0 in
    let some = and_parts (is_between 1 max_name_len (length s.key.name)) _ named.0 in
    let b = between 1 max_name_len (length s.key.name) some.0 in
    (named.0, b.0, b.1)

pub record Accepted (place p : ℕ) (before : Option Key) (bytes : List ℕ) : Type 0 where
  pub is : is_separator p (separator_at place bytes) ≡ true
  pub follows_it : is_after before (separator_key_at place bytes) ≡ true
  pub few : u8_at place bytes ≤ 40
  pub none : zeros_fault (40 - u8_at place bytes) (place + 1 + u8_at place bytes) bytes ≡ None

separator_accepted : (place p : ℕ) (before : Option Key) (bytes : List ℕ) → separator_fault place p before bytes ≡ None → Accepted place p before bytes
separator_accepted place p before bytes e =
    let n : ℕ = u8_at place bytes in
    let key : Key = separator_key_at place bytes in
    let child : ℕ = u32_at (place + 45) bytes in
    let last : List (Option ℕ) = unless (place + 45) (nat_lt child p) ∷ [] in
    let keyed : List (Option ℕ) = unless (place + 41) (nat_le 1 key.version && is_after before key) ∷ last in
    let p1 = none_both (unless place (is_between 1 max_name_len n)) (unless (place + 1) (is_name key.name) ∷ zeros_fault (max_name_len - n) (place + 1 + n) bytes ∷ keyed) e in
    let p2 = none_both (unless (place + 1) (is_name key.name)) (zeros_fault (max_name_len - n) (place + 1 + n) bytes ∷ keyed) p1.1 in
    let p3 = none_both (zeros_fault (max_name_len - n) (place + 1 + n) bytes) keyed p2.1 in
    let p4 = none_both (unless (place + 41) (nat_le 1 key.version && is_after before key)) last p3.1 in
    let p5 = none_both (unless (place + 45) (nat_lt child p)) [] p4.1 in
    let named = good_from place _ p1.0 in
    let k = and_parts (nat_le 1 key.version) (is_after before key) (good_from (place + 41) _ p4.0) in
    record {
      is = and_from _ _ (and_from _ _ (good_from (place + 1) _ p2.0) k.0) (good_from (place + 45) _ p5.0);
      follows_it = k.1;
      few = (between 1 max_name_len n named).1;
      none = p3.0;
    }

separator_unfaulted : (place p : ℕ) (before : Option Key) (bytes rest : List ℕ) → length bytes ≡ 512 → place + 49 ≤ 512
    → is_separator p (separator_at place bytes) ≡ true → is_after before (separator_key_at place bytes) ≡ true
    → separator_bytes (separator_at place bytes) ++ rest ≡ drop place bytes → separator_fault place p before bytes ≡ None
separator_unfaulted place p before bytes rest long inside is after spelled =
    let n : ℕ = u8_at place bytes in
    let v : ℕ = place + 1 + n in
    let key : Key = separator_key_at place bytes in
    let name : List ℕ = slice_range bytes (place + 1) v in
    let child : ℕ = u32_at (place + 45) bytes in
    let tail : List ℕ = (u32 key.version ++ (u32 child ++ [])) ++ rest in
    let e = and_parts (is_key key) (nat_lt child p) is in
    let k = and_parts (is_name key.name) (nat_le 1 key.version) e.0 in
    let b = name_of_separator p (separator_at place bytes) is in
    let named : length name ≡ n = ap (u8_at 0) spelled ∙ u8_there place bytes in
    let behind : (name ++ zeros (40 - length name)) ++ tail ≡ drop (place + 1) bytes =
    sym (append_assoc (name ++ zeros (40 - length name)) (u32 key.version ++ (u32 child ++ [])) rest) ∙ ap (drop 1) spelled ∙ drop-drop 1 place bytes in
    let zeros_are : zeros (40 - n) ++ tail ≡ drop v bytes =
    ap (λ (x : ℕ). zeros (40 - x) ++ tail) (sym named)
    ∙ sym (drop_at name (zeros (40 - length name) ++ tail) n named)
    ∙ ap (drop n) (sym (append_assoc name (zeros (40 - length name)) tail) ∙ behind)
    ∙ drop-drop n (place + 1) bytes in
    none_from (unless place (is_between 1 max_name_len n)) _ (none_at place _ (ap (is_between 1 max_name_len) (sym named) ∙ is_between_from 1 max_name_len (length name) b.1 b.2))
    (none_from (unless (place + 1) (is_name key.name)) _ (none_at (place + 1) _ k.0)
    (none_from (zeros_fault (max_name_len - n) v bytes) _ (zeros_unfaulted (40 - n) v bytes tail zeros_are)
    (none_from (unless (place + 41) (nat_le 1 key.version && is_after before key)) _ (none_at (place + 41) _ (and_from _ _ k.1 after))
    (none_from (unless (place + 45) (nat_lt child p)) [] (none_at (place + 45) _ e.1) refl))))

-- ---- all separators

abbrev pub ascend : Option Key → List Separator → Bool
ascend before [] = true
ascend before (s ∷ separators) = is_after before s.key && ascend (Some s.key) separators

ascend_is : (k : Key) (xs : List Separator) → ascend (Some k) xs ≡ are_ascending (k ∷ map (λ s. s.key) xs)
ascend_is k [] = refl
ascend_is k (s ∷ xs) = ap (λ (x : Bool). key_lt k s.key && x) (ascend_is s.key xs)

pub ascend_from : (xs : List Separator) → ascend None xs ≡ are_ascending (map (λ s. s.key) xs)
ascend_from [] = refl
ascend_from (s ∷ xs) = ascend_is s.key xs

pub record AreSeparators (xs : List Separator) (place next p : ℕ) (before : Option Key) (bytes : List ℕ) : Type 0 where
  pub each : list_all (is_separator p) xs ≡ true
  pub order : ascend before xs ≡ true
  pub spelled : flat_map separator_bytes xs ++ drop next bytes ≡ drop place bytes

separators_split : (n place : ℕ) (bytes : List ℕ) → separators_from (suc n) (drop place bytes) ≡ separator_at place bytes ∷ separators_from n (drop (place + 49) bytes)
separators_split n place bytes =
    ap (λ (x : Separator). x ∷ separators_from n (drop 49 (drop place bytes))) (separator_there place bytes)
    ∙ ap (λ (x : List ℕ). separator_at place bytes ∷ separators_from n x) (drop-drop 49 place bytes)

pub count_separators : (n : ℕ) (bytes : List ℕ) → length (separators_from n bytes) ≡ n
count_separators zero bytes = refl
count_separators (suc n) bytes = omega (arith, count_separators n (drop 49 bytes))

pub length_separators : (p : ℕ) (xs : List Separator) → list_all (is_separator p) xs ≡ true → length (flat_map separator_bytes xs) ≡ 49 * length xs
length_separators p [] each = refl
length_separators p (s ∷ xs) each =
    let e = and_parts (is_separator p s) (list_all (is_separator p) xs) each in
    omega (arith, length-append (separator_bytes s) (flat_map separator_bytes xs), length_separator s (name_of_separator p s e.0).2, length_separators p xs e.1)

pub separators_accepted : (count place next p : ℕ) (before : Option Key) (bytes : List ℕ) → AreSmall bytes → next ≡ place + 49 * count → next ≤ length bytes
    → separators_fault count place p before bytes ≡ None → AreSeparators (separators_from count (drop place bytes)) place next p before bytes
separators_accepted zero place next p before bytes small e inside none =
    record { each = refl; order = refl; spelled = ap (λ (k : ℕ). drop k bytes) (let same : next ≡ place = omega arith in same) }
separators_accepted (suc n) place next p before bytes small e inside none =
    let parts = none_both (separator_fault place p before bytes) (separators_fault n (place + 49) p (Some (separator_key_at place bytes)) bytes ∷ []) none in
    let one = separator_accepted place p before bytes parts.0 in
    let more = separators_accepted n (place + 49) next p (Some (separator_key_at place bytes)) bytes small (omega arith) inside (none_both _ [] parts.1).0 in
    let xs : List Separator = separators_from n (drop (place + 49) bytes) in
    let is : AreSeparators (separator_at place bytes ∷ xs) place next p before bytes = record {
      each = and_from _ _ one.is more.each;
      order = and_from _ _ one.follows_it more.order;
      spelled =
          append_assoc (separator_bytes (separator_at place bytes)) (flat_map separator_bytes xs) (drop next bytes)
          ∙ ap (λ (x : List ℕ). separator_bytes (separator_at place bytes) ++ x) more.spelled
          ∙ separator_again place (place + 49) bytes small refl (omega arith) one.few one.none;
    } in
    let P : List Separator → Type 0 = λ (x : List Separator). AreSeparators x place next p before bytes in
    subst P (sym (separators_split n place bytes)) is

pub separators_unfaulted : (count place next p : ℕ) (before : Option Key) (bytes : List ℕ) → length bytes ≡ 512 → place + 49 * count ≤ 512
    → AreSeparators (separators_from count (drop place bytes)) place next p before bytes → separators_fault count place p before bytes ≡ None
separators_unfaulted zero place next p before bytes long inside are = refl
separators_unfaulted (suc n) place next p before bytes long inside are =
    let P : List Separator → Type 0 = λ (x : List Separator). AreSeparators x place next p before bytes in
    let split = subst P (separators_split n place bytes) are in
    let s : Separator = separator_at place bytes in
    let xs : List Separator = separators_from n (drop (place + 49) bytes) in
    let each = and_parts (is_separator p s) (list_all (is_separator p) xs) split.each in
    let order = and_parts (is_after before s.key) (ascend (Some s.key) xs) split.order in
    let spelled = sym (append_assoc (separator_bytes s) (flat_map separator_bytes xs) (drop next bytes)) ∙ split.spelled in
    let long_s : length (separator_bytes s) ≡ 49 = length_separator s (name_of_separator p s each.0).2 in
    let more : AreSeparators xs (place + 49) next p (Some s.key) bytes = record {
      each = each.1;
      order = order.1;
      spelled = sym (drop_at (separator_bytes s) (flat_map separator_bytes xs ++ drop next bytes) 49 long_s) ∙ ap (drop 49) spelled ∙ drop-drop 49 place bytes;
    } in
    none_from (separator_fault place p before bytes) (separators_fault n (place + 49) p (Some s.key) bytes ∷ [])
    (separator_unfaulted place p before bytes (flat_map separator_bytes xs ++ drop next bytes) long (omega arith) each.0 order.0 spelled)
    (none_from _ [] (separators_unfaulted n (place + 49) next p (Some s.key) bytes long (omega arith) more) refl)

-- separator i
pub separator_nth : (n i place : ℕ) (bytes : List ℕ) → i < n → slice_get (separators_from n (drop place bytes)) i ≡ Some (separator_at (place + 49 * i) bytes)
separator_nth zero i place bytes h = absurd (omega arith)
separator_nth (suc n) zero place bytes h = ap Some (separator_there place bytes ∙ ap (λ (k : ℕ). separator_at k bytes) (let e : place ≡ place + 49 * 0 = omega arith in e))
separator_nth (suc n) (suc i) place bytes h =
    ap (λ (x : List ℕ). slice_get (separators_from n x) i) (drop-drop 49 place bytes)
    ∙ separator_nth n i (place + 49) bytes (omega arith)
    ∙ ap (λ (k : ℕ). Some (separator_at k bytes)) (let e : place + 49 + 49 * i ≡ place + 49 * suc i = omega arith in e)

pub separator_good : (n i place p : ℕ) (before : Option Key) (bytes : List ℕ) → i < n → separators_fault n place p before bytes ≡ None
    → (is_separator p (separator_at (place + 49 * i) bytes) ≡ true) × (u8_at (place + 49 * i) bytes ≤ 40)
separator_good zero i place p before bytes h none = absurd (omega arith)
separator_good (suc n) zero place p before bytes h none =
    let parts = none_both (separator_fault place p before bytes) (separators_fault n (place + 49) p (Some (separator_key_at place bytes)) bytes ∷ []) none in
    let one = separator_accepted place p before bytes parts.0 in
    let P : ℕ → Type 0 = λ (k : ℕ). (is_separator p (separator_at k bytes) ≡ true) × (u8_at k bytes ≤ 40) in
    let e : place ≡ place + 49 * 0 = omega arith in
    subst P e (one.is, one.few)
separator_good (suc n) (suc i) place p before bytes h none =
    let parts = none_both (separator_fault place p before bytes) (separators_fault n (place + 49) p (Some (separator_key_at place bytes)) bytes ∷ []) none in
    let P : ℕ → Type 0 = λ (k : ℕ). (is_separator p (separator_at k bytes) ≡ true) × (u8_at k bytes ≤ 40) in
    let e : place + 49 + 49 * i ≡ place + 49 * suc i = omega arith in
    subst P e (separator_good n i (place + 49) p (Some (separator_key_at place bytes)) bytes (omega arith) (none_both _ [] parts.1).0)

pub length_keyed : (xs : List Separator) → list_all (λ s. is_key s.key) xs ≡ true → length (flat_map separator_bytes xs) ≡ 49 * length xs
length_keyed [] each = refl
length_keyed (s ∷ xs) each =
    let e = and_parts (is_key s.key) (list_all (λ s. is_key s.key) xs) each in
    let named = and_parts (is_name s.key.name) (nat_le 1 s.key.version) e.0 in
    let few = (between 1 max_name_len (length s.key.name) (and_parts (is_between 1 max_name_len (length s.key.name)) _ named.0).0).1 in
    omega (arith, length-append (separator_bytes s) (flat_map separator_bytes xs), length_separator s few, length_keyed xs e.1)
