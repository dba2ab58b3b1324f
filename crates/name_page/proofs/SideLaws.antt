-- The entries on one side of a key.
use Rattle.std.proofs.Common.{◌≡◌, ℕ, zero, suc, ◌+◌, ◌≤◌, Bool, true, false, cond, not, ◌&&◌, List, [], ◌∷◌, ◌++◌, length, take, Option, Some, None, refl, sym, ap, subst, ◌∙◌, arith, append_assoc, length-append}
use Rattle.std.specs.Prelude.{slice_get}
use Rattle.std.specs.List.{flat_map, list_all, AllByRecursion}
use Rattle.std.specs.Ordering.{is_gt, is_lt}
use Rattle.std.specs.declared.cmp.Ordering.{Ordering}
use Rattle.std.specs.declared.cmp.Ordering.TheVariants as orders
use Rattle.std.proofs.lemmas.Bool.{and_parts, and_from, not-false}
use Rattle.std.proofs.lemmas.List.{append-nil}
use Rattle.std.proofs.lemmas.Grind.{flat_map-append}
use Rattle.std.proofs.lemmas.List.Folds.{list_all-append}
use Rattle.fsd_bytes.specs.declared.key.Key.{Key}
use Rattle.fsd_bytes.specs.Keys.{key_cmp, key_lt}
use Rattle.fsd_formats.specs.declared.entry.Entry.{Entry}
use Rattle.fsd_formats.specs.NamePage.{are_ascending, entry_bytes}
use Rattle.fsd_table.specs.Pages.{not_below, below, keys_fit, entry_keys}
use Rattle.fsd_table.proofs.BoundLaws.{Ascend, ascend_tail, ascend_append, all_weaker}
use Rattle.fsd_table.proofs.KeyLaws.{lt_is_le, le_itself}
use Rattle.name_page.specs.declared.entries.Side.{Side}
use Rattle.name_page.specs.declared.entries.Side.TheVariants.{Lesser, Greater}
use Rattle.name_page.specs.Edits.{is_on, beside, without, with_entry}
use Rattle.name_page.specs.Cut.{AtLow, AtHigh}
use Rattle.name_page.specs.declared.cut.Cut.TheVariants.{UpTo}
use Rattle.name_page.specs.Cut.{is_before}
use Rattle.name_page.proofs.CutLaws.{greater}
use Rattle.name_page.proofs.PutLaws.{ascend_head}

-- ---- one entry more

beside_cons : (side : Side) (key : Key) (x : Entry) (xs : List Entry) (b : Bool) → b ≡ is_on side key x → beside side key (x ∷ xs) ≡ cond b (x ∷ []) [] ++ beside side key xs
beside_cons side key x xs true e = ap (λ (v : Bool). cond v (x ∷ beside side key xs) (beside side key xs)) (sym e)
beside_cons side key x xs false e = ap (λ (v : Bool). cond v (x ∷ beside side key xs) (beside side key xs)) (sym e)

pub beside_append : (side : Side) (key : Key) (xs ys : List Entry) → beside side key (xs ++ ys) ≡ beside side key xs ++ beside side key ys
beside_append side key [] ys = refl
beside_append side key (x ∷ xs) ys =
    let b : Bool = is_on side key x in
    beside_cons side key x (xs ++ ys) b refl
    ∙ ap (λ (zs : List Entry). cond b (x ∷ []) [] ++ zs) (beside_append side key xs ys)
    ∙ sym (append_assoc (cond b (x ∷ []) []) (beside side key xs) (beside side key ys))
    ∙ ap (λ (zs : List Entry). zs ++ beside side key ys) (sym (beside_cons side key x xs b refl))

-- those before, and one more
pub beside_more : (side : Side) (key : Key) (xs : List Entry) (i : ℕ) (x : Entry) (b : Bool) → slice_get xs i ≡ Some x → b ≡ is_on side key x
    → beside side key (take (i + 1) xs) ≡ beside side key (take i xs) ++ cond b (x ∷ []) []
beside_more side key [] i x b at e = absurd cc
beside_more side key (y ∷ xs) zero x b at e =
    let same : y ≡ x = cc in
    beside_cons side key y [] b (e ∙ ap (is_on side key) (sym same)) ∙ append-nil (cond b (y ∷ []) []) ∙ ap (λ (z : Entry). cond b (z ∷ []) []) same
beside_more side key (y ∷ xs) (suc i) x b at e =
    let v : Bool = is_on side key y in
    let step : suc i + 1 ≡ suc (i + 1) = omega arith in
    ap (λ (n : ℕ). beside side key (take n (y ∷ xs))) step
    ∙ beside_cons side key y (take (i + 1) xs) v refl
    ∙ ap (λ (zs : List Entry). cond v (y ∷ []) [] ++ zs) (beside_more side key xs i x b at e)
    ∙ sym (append_assoc (cond v (y ∷ []) []) (beside side key (take i xs)) (cond b (x ∷ []) []))
    ∙ ap (λ (zs : List Entry). zs ++ cond b (x ∷ []) []) (sym (beside_cons side key y (take i xs) v refl))

-- ---- how many

pub front_count : (side : Side) (key : Key) (xs : List Entry) (i : ℕ) → length (beside side key (take i xs)) ≤ length (beside side key xs)
front_count side key xs zero = omega arith
front_count side key [] (suc i) = omega arith
front_count side key (x ∷ xs) (suc i) =
    let b : Bool = is_on side key x in
    omega (
      arith,
      front_count side key xs i,
      ap length (beside_cons side key x (take i xs) b refl),
      ap length (beside_cons side key x xs b refl),
      length-append (cond b (x ∷ []) []) (beside side key (take i xs)),
      length-append (cond b (x ∷ []) []) (beside side key xs),
    )

pub room_for : (side : Side) (key : Key) (xs : List Entry) (i : ℕ) (x : Entry) → slice_get xs i ≡ Some x → true ≡ is_on side key x → length (beside side key (take i xs)) + 1 ≤ length (beside side key xs)
room_for side key xs i x at e =
    omega (arith, front_count side key xs (i + 1), ap length (beside_more side key xs i x true at e), length-append (beside side key (take i xs)) (x ∷ []))

one_side : (o : Ordering) (x : Entry) → length (cond (is_lt o) (x ∷ []) []) + length (cond (is_gt o) (x ∷ []) []) ≤ 1
one_side orders.Less x = omega arith
one_side orders.Equal x = omega arith
one_side orders.Greater x = omega arith

-- no entry stands on both sides
pub sides_count : (key : Key) (xs : List Entry) → length (beside Lesser key xs) + length (beside Greater key xs) ≤ length xs
sides_count key [] = omega arith
sides_count key (x ∷ xs) =
    let l : Bool = is_on Lesser key x in
    let g : Bool = is_on Greater key x in
    let one = one_side (key_cmp x.key key) x in
    omega (
      arith,
      sides_count key xs,
      one,
      ap length (beside_cons Lesser key x xs l refl),
      ap length (beside_cons Greater key x xs g refl),
      length-append (cond l (x ∷ []) []) (beside Lesser key xs),
      length-append (cond g (x ∷ []) []) (beside Greater key xs),
    )

-- ---- what all on a side are

pub beside_all : (P : Entry → Bool) (side : Side) (key : Key) (xs : List Entry) → list_all P xs ≡ true → list_all P (beside side key xs) ≡ true
beside_all P side key [] a = refl
beside_all P side key (x ∷ xs) a =
    let parts = and_parts (P x) (list_all P xs) a in
    let rest = beside_all P side key xs parts.1 in
    ap (list_all P) (beside_cons side key x xs (is_on side key x) refl) ∙ by (is_on side key x) parts.0 rest
  where
    by : (b : Bool) → P x ≡ true → list_all P (beside side key xs) ≡ true → list_all P (cond b (x ∷ []) [] ++ beside side key xs) ≡ true
    by true h r = and_from (P x) (list_all P (beside side key xs)) h r
    by false h r = r

each_on : (side : Side) (key : Key) (xs : List Entry) → AllByRecursion (λ e. is_on side key e ≡ true) (beside side key xs)
each_on side key [] = tt
each_on side key (x ∷ xs) =
    subst (AllByRecursion (λ e. is_on side key e ≡ true)) (sym (beside_cons side key x xs (is_on side key x) refl)) (by (is_on side key x) refl (each_on side key xs))
  where
    by : (b : Bool) → is_on side key x ≡ b → AllByRecursion (λ e. is_on side key e ≡ true) (beside side key xs) → AllByRecursion (λ e. is_on side key e ≡ true) (cond b (x ∷ []) [] ++ beside side key xs)
    by true h r = (h, r)
    by false h r = r

-- all of them, or none
pub beside_whole : (side : Side) (key : Key) (xs : List Entry) → AllByRecursion (λ e. is_on side key e ≡ true) xs → beside side key xs ≡ xs
beside_whole side key [] a = refl
beside_whole side key (x ∷ xs) a = beside_cons side key x xs true (sym a.0) ∙ ap (λ (zs : List Entry). x ∷ zs) (beside_whole side key xs a.1)

pub beside_none : (side : Side) (key : Key) (xs : List Entry) → AllByRecursion (λ e. is_on side key e ≡ false) xs → beside side key xs ≡ []
beside_none side key [] a = refl
beside_none side key (x ∷ xs) a = beside_cons side key x xs false (sym a.0) ∙ beside_none side key xs a.1

-- ---- order

pub ascend_cons : (x : Entry) (xs : List Entry) → AllByRecursion (λ e. key_lt x.key e.key ≡ true) xs → Ascend xs → Ascend (x ∷ xs)
ascend_cons x [] a asc = refl
ascend_cons x (y ∷ xs) a asc = and_from (key_lt x.key y.key) (are_ascending (entry_keys (y ∷ xs))) a.0 asc

pub each_beside : (P : Entry → Type 0) (side : Side) (key : Key) (xs : List Entry) → AllByRecursion P xs → AllByRecursion P (beside side key xs)
each_beside P side key [] a = tt
each_beside P side key (x ∷ xs) a =
    subst (AllByRecursion P) (sym (beside_cons side key x xs (is_on side key x) refl)) (by (is_on side key x) a.0 (each_beside P side key xs a.1))
  where
    by : (b : Bool) → P x → AllByRecursion P (beside side key xs) → AllByRecursion P (cond b (x ∷ []) [] ++ beside side key xs)
    by true h r = (h, r)
    by false h r = r

beside_ascends : (side : Side) (key : Key) (xs : List Entry) → Ascend xs → Ascend (beside side key xs)
beside_ascends side key [] asc = refl
beside_ascends side key (x ∷ xs) asc =
    subst Ascend (sym (beside_cons side key x xs (is_on side key x) refl))
    (by (is_on side key x) (each_beside (λ e. key_lt x.key e.key ≡ true) side key xs (ascend_head x.key xs asc)) (beside_ascends side key xs (ascend_tail x.key (entry_keys xs) asc)))
  where
    by : (b : Bool) → AllByRecursion (λ e. key_lt x.key e.key ≡ true) (beside side key xs) → Ascend (beside side key xs) → Ascend (cond b (x ∷ []) [] ++ beside side key xs)
    by true a r = ascend_cons x (beside side key xs) a r
    by false a r = r

above : (key : Key) (xs : List Entry) → AllByRecursion (λ e. key_lt key e.key ≡ true) (beside Greater key xs)
above key xs = all_weaker (λ e. is_on Greater key e ≡ true) (λ e. key_lt key e.key ≡ true) (beside Greater key xs) (λ e h. sym (greater e.key key) ∙ h) (each_on Greater key xs)

not_under : (key : Key) (xs : List Entry) → AllByRecursion (λ e. not (key_lt e.key key) ≡ true) (beside Greater key xs)
not_under key xs = all_weaker (λ e. key_lt key e.key ≡ true) (λ e. not (key_lt e.key key) ≡ true) (beside Greater key xs) (λ e h. lt_is_le key e.key h) (above key xs)

pub without_ascends : (key : Key) (xs : List Entry) → Ascend xs → Ascend (without key xs)
without_ascends key xs asc =
    ascend_append key (beside Lesser key xs) (beside Greater key xs) (beside_ascends Lesser key xs asc) (beside_ascends Greater key xs asc) (each_on Lesser key xs) (not_under key xs)

pub with_ascends : (e : Entry) (xs : List Entry) → Ascend xs → Ascend (with_entry e xs)
with_ascends e xs asc =
    ascend_append e.key (beside Lesser e.key xs) (e ∷ beside Greater e.key xs) (beside_ascends Lesser e.key xs asc)
    (ascend_cons e (beside Greater e.key xs) (above e.key xs) (beside_ascends Greater e.key xs asc)) (each_on Lesser e.key xs) (le_itself e.key, not_under e.key xs)

-- ---- parts of a table

lt_not_gt : (o : Ordering) → is_lt o ≡ true → is_gt o ≡ false
lt_not_gt orders.Less e = refl
lt_not_gt orders.Equal e = absurd cc
lt_not_gt orders.Greater e = absurd cc

gt_not_lt : (o : Ordering) → is_gt o ≡ true → is_lt o ≡ false
gt_not_lt orders.Less e = absurd cc
gt_not_lt orders.Equal e = absurd cc
gt_not_lt orders.Greater e = refl

abbrev AllLesser : Key → List Entry → Type 0
AllLesser key xs = AllByRecursion (λ e. is_on Lesser key e ≡ true) xs

abbrev AllGreater : Key → List Entry → Type 0
AllGreater key xs = AllByRecursion (λ e. is_on Greater key e ≡ true) xs

lesser_part : (key : Key) (left xs right : List Entry) → AllLesser key left → AllGreater key right → beside Lesser key (left ++ (xs ++ right)) ≡ left ++ beside Lesser key xs
lesser_part key left xs right a b =
    let none = beside_none Lesser key right (all_weaker (λ e. is_on Greater key e ≡ true) (λ e. is_on Lesser key e ≡ false) right (λ e h. gt_not_lt (key_cmp e.key key) h) b) in
    beside_append Lesser key left (xs ++ right)
    ∙ (λ i. beside_whole Lesser key left a i ++ beside_append Lesser key xs right i)
    ∙ ap (λ (ys : List Entry). left ++ (beside Lesser key xs ++ ys)) none
    ∙ ap (λ (ys : List Entry). left ++ ys) (append-nil (beside Lesser key xs))

greater_part : (key : Key) (left xs right : List Entry) → AllLesser key left → AllGreater key right → beside Greater key (left ++ (xs ++ right)) ≡ beside Greater key xs ++ right
greater_part key left xs right a b =
    let none = beside_none Greater key left (all_weaker (λ e. is_on Lesser key e ≡ true) (λ e. is_on Greater key e ≡ false) left (λ e h. lt_not_gt (key_cmp e.key key) h) a) in
    beside_append Greater key left (xs ++ right)
    ∙ (λ i. none i ++ beside_append Greater key xs right i)
    ∙ ap (λ (ys : List Entry). beside Greater key xs ++ ys) (beside_whole Greater key right b)

pub without_part : (key : Key) (left xs right : List Entry) → AllLesser key left → AllGreater key right → left ++ (without key xs ++ right) ≡ without key (left ++ (xs ++ right))
without_part key left xs right a b =
    let l : List Entry = beside Lesser key xs in
    let g : List Entry = beside Greater key xs in
    ap (λ (ys : List Entry). left ++ ys) (append_assoc l g right) ∙ sym (append_assoc left l (g ++ right))
    ∙ (λ i. sym (lesser_part key left xs right a b) i ++ sym (greater_part key left xs right a b) i)

pub with_part : (e : Entry) (left xs right : List Entry) → AllLesser e.key left → AllGreater e.key right → left ++ (with_entry e xs ++ right) ≡ with_entry e (left ++ (xs ++ right))
with_part e left xs right a b =
    let l : List Entry = beside Lesser e.key xs in
    let g : List Entry = beside Greater e.key xs in
    ap (λ (ys : List Entry). left ++ ys) (append_assoc l (e ∷ g) right) ∙ sym (append_assoc left l (e ∷ (g ++ right)))
    ∙ (λ i. sym (lesser_part e.key left xs right a b) i ++ e ∷ sym (greater_part e.key left xs right a b) i)

-- ---- tests of all entries

pub without_all : (P : Entry → Bool) (key : Key) (xs : List Entry) → list_all P xs ≡ true → list_all P (without key xs) ≡ true
without_all P key xs a = list_all-append P (beside Lesser key xs) (beside Greater key xs) ∙ and_from (list_all P (beside Lesser key xs)) (list_all P (beside Greater key xs)) (beside_all P Lesser key xs a) (beside_all P Greater key xs a)

pub with_all : (P : Entry → Bool) (e : Entry) (xs : List Entry) → P e ≡ true → list_all P xs ≡ true → list_all P (with_entry e xs) ≡ true
with_all P e xs new a =
    list_all-append P (beside Lesser e.key xs) (e ∷ beside Greater e.key xs)
    ∙ and_from (list_all P (beside Lesser e.key xs)) (list_all P (e ∷ beside Greater e.key xs)) (beside_all P Lesser e.key xs a)
    (and_from (P e) (list_all P (beside Greater e.key xs)) new (beside_all P Greater e.key xs a))

keys_are : (low high : Option Key) (xs : List Entry) → keys_fit low high (entry_keys xs) ≡ list_all (λ e. not_below low e.key && below high e.key) xs
keys_are low high [] = refl
keys_are low high (x ∷ xs) = ap (λ (b : Bool). (not_below low x.key && below high x.key) && b) (keys_are low high xs)

pub without_fits : (key : Key) (low high : Option Key) (xs : List Entry) → keys_fit low high (entry_keys xs) ≡ true → keys_fit low high (entry_keys (without key xs)) ≡ true
without_fits key low high xs fit = keys_are low high (without key xs) ∙ without_all (λ e. not_below low e.key && below high e.key) key xs (sym (keys_are low high xs) ∙ fit)

low_fits : (key : Key) (low : Option Key) → AtLow (is_before (UpTo key)) low → not_below low key ≡ true
low_fits key None a = refl
low_fits key (Some k) a = ap not (sym (greater k key)) ∙ a

high_fits : (key : Key) (high : Option Key) → AtHigh (is_before (UpTo key)) high → below high key ≡ true
high_fits key None a = refl
high_fits key (Some k) a = sym (greater k key) ∙ not-false (is_gt (key_cmp k key)) a

pub with_fits : (e : Entry) (low high : Option Key) (xs : List Entry) → AtLow (is_before (UpTo e.key)) low → AtHigh (is_before (UpTo e.key)) high → keys_fit low high (entry_keys xs) ≡ true
    → keys_fit low high (entry_keys (with_entry e xs)) ≡ true
with_fits e low high xs a b fit =
    keys_are low high (with_entry e xs)
    ∙ with_all (λ x. not_below low x.key && below high x.key) e xs (and_from (not_below low e.key) (below high e.key) (low_fits e.key low a) (high_fits e.key high b)) (sym (keys_are low high xs) ∙ fit)

-- ---- how many bytes

abbrev used : List Entry → ℕ
used xs = length (flat_map entry_bytes xs)

used_append : (xs ys : List Entry) → used (xs ++ ys) ≡ used xs + used ys
used_append [] ys = omega arith
used_append (x ∷ xs) ys = omega (arith, length-append (entry_bytes x) (flat_map entry_bytes (xs ++ ys)), used_append xs ys, length-append (entry_bytes x) (flat_map entry_bytes xs))

used_one : (x : Entry) → used (x ∷ []) ≡ length (entry_bytes x)
used_one x = omega (arith, length-append (entry_bytes x) [])

one_used : (o : Ordering) (x : Entry) → used (cond (is_lt o) (x ∷ []) []) + used (cond (is_gt o) (x ∷ []) []) ≤ length (entry_bytes x)
one_used orders.Less x = omega (arith, used_one x)
one_used orders.Equal x = omega arith
one_used orders.Greater x = omega (arith, used_one x)

pub sides_used : (key : Key) (xs : List Entry) → used (beside Lesser key xs) + used (beside Greater key xs) ≤ used xs
sides_used key [] = omega arith
sides_used key (x ∷ xs) =
    let l : Bool = is_on Lesser key x in
    let g : Bool = is_on Greater key x in
    joined (used (beside Lesser key (x ∷ xs))) (used (beside Greater key (x ∷ xs))) (used (cond l (x ∷ []) [])) (used (cond g (x ∷ []) [])) (used (beside Lesser key xs)) (used (beside Greater key xs))
    (length (entry_bytes x)) (used xs) (used (x ∷ xs)) (ap used (beside_cons Lesser key x xs l refl) ∙ used_append (cond l (x ∷ []) []) (beside Lesser key xs))
    (ap used (beside_cons Greater key x xs g refl) ∙ used_append (cond g (x ∷ []) []) (beside Greater key xs)) (one_used (key_cmp x.key key) x) (sides_used key xs) (length-append (entry_bytes x) (flat_map entry_bytes xs))
  where
    joined : (a b l g m n size rest all : ℕ) → a ≡ l + m → b ≡ g + n → l + g ≤ size → m + n ≤ rest → all ≡ size + rest → a + b ≤ all
    joined a b l g m n size rest all e f one more is = omega arith

pub without_used : (key : Key) (xs : List Entry) → length (flat_map entry_bytes (without key xs)) ≤ length (flat_map entry_bytes xs)
without_used key xs = omega (arith, used_append (beside Lesser key xs) (beside Greater key xs), sides_used key xs)

front_used : (side : Side) (key : Key) (xs : List Entry) (i : ℕ) → used (beside side key (take i xs)) ≤ used (beside side key xs)
front_used side key xs zero = omega arith
front_used side key [] (suc i) = omega arith
front_used side key (x ∷ xs) (suc i) =
    let b : Bool = is_on side key x in
    let one : List Entry = cond b (x ∷ []) [] in
    front (used (beside side key (x ∷ take i xs))) (used (beside side key (x ∷ xs))) (used one) (used (beside side key (take i xs))) (used (beside side key xs)) (ap used (beside_cons side key x (take i xs) b refl) ∙ used_append one (beside side key (take i xs)))
    (ap used (beside_cons side key x xs b refl) ∙ used_append one (beside side key xs)) (front_used side key xs i)
  where
    front : (a b one m n : ℕ) → a ≡ one + m → b ≡ one + n → m ≤ n → a ≤ b
    front a b one m n e f h = omega arith

pub bytes_more : (side : Side) (key : Key) (xs : List Entry) (i : ℕ) (x : Entry) → slice_get xs i ≡ Some x → true ≡ is_on side key x
    → flat_map entry_bytes (beside side key (take (i + 1) xs)) ≡ flat_map entry_bytes (beside side key (take i xs)) ++ entry_bytes x
bytes_more side key xs i x at e =
    ap (flat_map entry_bytes) (beside_more side key xs i x true at e)
    ∙ flat_map-append entry_bytes (beside side key (take i xs)) (x ∷ [])
    ∙ ap (λ (bytes : List ℕ). flat_map entry_bytes (beside side key (take i xs)) ++ bytes) (append-nil (entry_bytes x))

pub bytes_room : (side : Side) (key : Key) (xs : List Entry) (i : ℕ) (x : Entry) → slice_get xs i ≡ Some x → true ≡ is_on side key x
    → length (flat_map entry_bytes (beside side key (take i xs))) + length (entry_bytes x) ≤ length (flat_map entry_bytes (beside side key xs))
bytes_room side key xs i x at e =
    omega (arith, front_used side key xs (i + 1), ap length (bytes_more side key xs i x at e), length-append (flat_map entry_bytes (beside side key (take i xs))) (entry_bytes x))

pub with_bytes : (e : Entry) (xs : List Entry)
    → (flat_map entry_bytes (beside Lesser e.key xs) ++ entry_bytes e) ++ flat_map entry_bytes (beside Greater e.key xs) ≡ flat_map entry_bytes (with_entry e xs)
with_bytes e xs =
    append_assoc (flat_map entry_bytes (beside Lesser e.key xs)) (entry_bytes e) (flat_map entry_bytes (beside Greater e.key xs))
    ∙ sym (flat_map-append entry_bytes (beside Lesser e.key xs) (e ∷ beside Greater e.key xs))
