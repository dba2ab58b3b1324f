-- One entry in place of another with the same key.
use Rattle.std.proofs.Common.{◌≡◌, ℕ, zero, suc, ◌+◌, ◌≤◌, Bool, true, false, cond, List, [], ◌∷◌, ◌++◌, length, map, Some, refl, sym, ap, subst, ◌∙◌, arith, length-append}
use Rattle.std.specs.Prelude.{slice_get, take}
use Rattle.std.specs.List.{flat_map, list_all, AllByRecursion}
use Rattle.std.specs.FinMap.{slice_cmp-IsAntisymmetric, nat_cmp-IsAntisymmetric}
use Rattle.std.specs.Cmp.Lexicographic.{slice_cmp}
use Rattle.std.specs.Ordering.{nat_cmp, is_eq, ordering_then}
use Rattle.std.specs.declared.cmp.Ordering.{Ordering}
use Rattle.std.specs.declared.cmp.Ordering.TheVariants.{Less, Equal, Greater}
use Rattle.std.proofs.lemmas.Bool.{and_parts, and_from}
use Rattle.std.proofs.lemmas.Cmp.{tied_itself}
use Rattle.std.proofs.lemmas.List.{take_more}
use Rattle.std.proofs.lemmas.Option.{slice_get_within, get_or_from_slice_get}
use Rattle.fsd_bytes.specs.declared.key.Key.{Key}
use Rattle.fsd_bytes.specs.Keys.{key_cmp, key_lt, same_key}
use Rattle.fsd_formats.specs.declared.entry.Entry.{Entry}
use Rattle.fsd_formats.specs.NamePage.{entry_bytes, are_ascending, FitsEntry}
use Rattle.fsd_table.specs.Pages.{entry_keys}
use Rattle.fsd_table.proofs.BoundLaws.{Ascend, ascend_tail, ascend_skip, all_split}
use Rattle.fsd_table.proofs.KeyLaws.{keys_total, lt_itself}
use Rattle.name_page.specs.Lookups.{entry_with}
use Rattle.name_page.specs.Edits.{put}

-- ---- keys that are the same

equal_is : (o : Ordering) → is_eq o ≡ true → o ≡ Equal
equal_is Less e = absurd cc
equal_is Equal e = refl
equal_is Greater e = absurd cc

then_equal : (o v : Ordering) → ordering_then o v ≡ Equal → (o ≡ Equal) × (v ≡ Equal)
then_equal Less v e = absurd cc
then_equal Equal v e = (refl, e)
then_equal Greater v e = absurd cc

-- keys that the order doesn't tell apart are one
pub one_key : (a b : Key) → same_key a b ≡ true → a ≡ b
one_key a b e =
    let parts = then_equal (slice_cmp nat_cmp a.name b.name) (nat_cmp a.version b.version) (equal_is (key_cmp a b) e) in
    let name : a.name ≡ b.name = slice_cmp-IsAntisymmetric nat_cmp-IsAntisymmetric a.name b.name parts.0 in
    let version : a.version ≡ b.version = nat_cmp-IsAntisymmetric a.version b.version parts.1 in
    λ i. record { name = name i; version = version i }

pub lt_unequal : (a b : Key) → key_lt a b ≡ true → same_key a b ≡ false
lt_unequal a b e = by (same_key a b) refl
  where
    by : (v : Bool) → same_key a b ≡ v → v ≡ false
    by false is = refl
    by true is = absurd (let same = one_key a b is in let no : key_lt a b ≡ false = ap (λ (k : Key). key_lt k b) same ∙ lt_itself b in cc)

pub gt_unequal : (a b : Key) → key_lt b a ≡ true → same_key a b ≡ false
gt_unequal a b e = by (same_key a b) refl
  where
    by : (v : Bool) → same_key a b ≡ v → v ≡ false
    by false is = refl
    by true is = absurd (let same = one_key a b is in let no : key_lt b a ≡ false = ap (λ (k : Key). key_lt b k) same ∙ lt_itself b in cc)

-- ---- lists

-- the entry with the key, and those before and behind it
pub record FoundIn (key : Key) (xs : List Entry) (x : Entry) : Type 0 where
  pub left : List Entry
  pub right : List Entry
  pub parts : xs ≡ left ++ x ∷ right
  pub same : x.key ≡ key

pub found_in : (key : Key) (xs : List Entry) (x : Entry) → entry_with key xs ≡ Some x → FoundIn key xs x
found_in key [] x e = absurd cc
found_in key (y ∷ xs) x e = by (found_in key xs x) (same_key y.key key) refl e
  where
    by : (entry_with key xs ≡ Some x → FoundIn key xs x) → (b : Bool) → same_key y.key key ≡ b → cond b (Some y) (entry_with key xs) ≡ Some x → FoundIn key (y ∷ xs) x
    by later true is h =
        let same : y ≡ x = cc in
        record { left = []; right = xs; parts = ap (λ (z : Entry). z ∷ xs) same; same = ap (λ (z : Entry). z.key) (sym same) ∙ one_key y.key key is }
    by later false is h =
        let rest = later h in
        record { left = y ∷ rest.left; right = rest.right; parts = ap (λ (zs : List Entry). y ∷ zs) rest.parts; same = rest.same }

pub ascend_head : (k : Key) (xs : List Entry) → are_ascending (k ∷ entry_keys xs) ≡ true → AllByRecursion (λ e. key_lt k e.key ≡ true) xs
ascend_head k [] asc = tt
ascend_head k (x ∷ xs) asc =
    ((and_parts (key_lt k x.key) (are_ascending (entry_keys (x ∷ xs))) asc).0, ascend_head k xs (ascend_skip k x.key (entry_keys xs) asc))

-- entries with other keys
abbrev pub Others : Key → List Entry → Type 0
Others key xs = AllByRecursion (λ e. same_key e.key key ≡ false) xs

greater_others : (k : Key) (xs : List Entry) → AllByRecursion (λ e. key_lt k e.key ≡ true) xs → Others k xs
greater_others k [] a = tt
greater_others k (x ∷ xs) a = (gt_unequal x.key k a.0, greater_others k xs a.1)

-- where keys ascend, each stands once
pub others_beside : (left : List Entry) (x : Entry) (right : List Entry) → Ascend (left ++ x ∷ right) → Others x.key left × Others x.key right
others_beside [] x right asc = (tt, greater_others x.key right (ascend_head x.key right asc))
others_beside (y ∷ left) x right asc =
    let rest = others_beside left x right (ascend_tail y.key (entry_keys (left ++ x ∷ right)) asc) in
    let later = all_split (λ e. key_lt y.key e.key ≡ true) left (x ∷ right) (ascend_head y.key (left ++ x ∷ right) asc) in
    ((lt_unequal y.key x.key later.1.0, rest.0), rest.1)

-- ---- the entry put in

put_other : (e y : Entry) → same_key y.key e.key ≡ false → put e y ≡ y
put_other e y is = ap (λ (b : Bool). cond b e y) is

put_same : (e y : Entry) → same_key y.key e.key ≡ true → put e y ≡ e
put_same e y is = ap (λ (b : Bool). cond b e y) is

pub put_others : (e : Entry) (xs : List Entry) → Others e.key xs → map (put e) xs ≡ xs
put_others e [] a = refl
put_others e (x ∷ xs) a = λ i. put_other e x a.0 i ∷ put_others e xs a.1 i

map_append : (f : Entry → Entry) (xs ys : List Entry) → map f (xs ++ ys) ≡ map f xs ++ map f ys
map_append f [] ys = refl
map_append f (x ∷ xs) ys = ap (λ (zs : List Entry). f x ∷ zs) (map_append f xs ys)

-- beside the entry all stays
pub put_beside : (e : Entry) (left xs right : List Entry) → Others e.key left → Others e.key right → map (put e) (left ++ (xs ++ right)) ≡ left ++ (map (put e) xs ++ right)
put_beside e left xs right a b =
    map_append (put e) left (xs ++ right)
    ∙ ap (λ (ys : List Entry). ys ++ map (put e) (xs ++ right)) (put_others e left a)
    ∙ ap (λ (ys : List Entry). left ++ ys) (map_append (put e) xs right ∙ ap (λ (ys : List Entry). map (put e) xs ++ ys) (put_others e right b))

put_key : (e y : Entry) → (put e y).key ≡ y.key
put_key e y = by (same_key y.key e.key) refl
  where
    by : (b : Bool) → same_key y.key e.key ≡ b → (put e y).key ≡ y.key
    by true is = ap (λ (z : Entry). z.key) (put_same e y is) ∙ sym (one_key y.key e.key is)
    by false is = ap (λ (z : Entry). z.key) (put_other e y is)

pub put_keys : (e : Entry) (xs : List Entry) → entry_keys (map (put e) xs) ≡ entry_keys xs
put_keys e [] = refl
put_keys e (x ∷ xs) = λ i. put_key e x i ∷ put_keys e xs i

pub put_all : (P : Entry → Bool) (e : Entry) (xs : List Entry) → P e ≡ true → list_all P xs ≡ true → list_all P (map (put e) xs) ≡ true
put_all P e [] new old = refl
put_all P e (x ∷ xs) new old =
    let parts = and_parts (P x) (list_all P xs) old in
    and_from (P (put e x)) (list_all P (map (put e) xs)) (by (same_key x.key e.key) refl parts.0) (put_all P e xs new parts.1)
  where
    by : (b : Bool) → same_key x.key e.key ≡ b → P x ≡ true → P (put e x) ≡ true
    by true is h = ap P (put_same e x is) ∙ new
    by false is h = ap P (put_other e x is) ∙ h

-- an entry of the same size
pub put_size : (e x : Entry) (xs : List Entry) → Ascend xs → entry_with e.key xs ≡ Some x → length (entry_bytes x) ≡ length (entry_bytes e)
    → length (flat_map entry_bytes (map (put e) xs)) ≡ length (flat_map entry_bytes xs)
put_size e x xs asc found size =
    let f = found_in e.key xs x found in
    let used : List Entry → ℕ = λ (ys : List Entry). length (flat_map entry_bytes ys) in
    let beside = others_beside f.left x f.right (subst Ascend f.parts asc) in
    let Q : Key → Type 0 = λ (k : Key). Others k f.left × Others k f.right in
    let both : Q e.key = subst Q f.same beside in
    let one : map (put e) (x ∷ []) ≡ e ∷ [] = ap (λ (y : Entry). y ∷ []) (put_same e x (ap (λ (k : Key). same_key x.key k) (sym f.same) ∙ itself x.key)) in
    let laid : map (put e) xs ≡ f.left ++ (e ∷ f.right) = ap (map (put e)) f.parts ∙ put_beside e f.left (x ∷ []) f.right both.0 both.1 ∙ ap (λ (ys : List Entry). f.left ++ (ys ++ f.right)) one in
    ap used laid ∙ used_is f.left e f.right ∙ ap (λ (n : ℕ). used f.left + (n + used f.right)) (sym size) ∙ sym (used_is f.left x f.right) ∙ ap used (sym f.parts)
  where
    itself : (k : Key) → same_key k k ≡ true
    itself k = ap is_eq (tied_itself keys_total k)

    used_is : (left : List Entry) (y : Entry) (right : List Entry)
        → length (flat_map entry_bytes (left ++ y ∷ right)) ≡ length (flat_map entry_bytes left) + (length (entry_bytes y) + length (flat_map entry_bytes right))
    used_is [] y right = omega (arith, length-append (entry_bytes y) (flat_map entry_bytes right))
    used_is (z ∷ left) y right =
        omega (arith, length-append (entry_bytes z) (flat_map entry_bytes (left ++ y ∷ right)), used_is left y right, length-append (entry_bytes z) (flat_map entry_bytes left))

-- ---- one entry after another

pub put_more : (e : Entry) (xs : List Entry) (i : ℕ) (x y : Entry) → slice_get xs i ≡ Some x → y ≡ put e x → map (put e) (take (i + 1) xs) ≡ map (put e) (take i xs) ++ y ∷ []
put_more e xs i x y at is =
    let more : take (i + 1) xs ≡ take i xs ++ x ∷ [] = take_more xs i x (slice_get_within xs i x at) ∙ ap (λ (z : Entry). take i xs ++ z ∷ []) (get_or_from_slice_get xs i x x at) in
    ap (map (put e)) more ∙ map_append (put e) (take i xs) (x ∷ []) ∙ ap (λ (z : Entry). map (put e) (take i xs) ++ z ∷ []) (sym is)

pub put_count : (e : Entry) (xs : List Entry) (i : ℕ) → length (map (put e) (take i xs)) ≤ i
put_count e xs zero = omega arith
put_count e [] (suc i) = omega arith
put_count e (x ∷ xs) (suc i) = omega (arith, put_count e xs i)

pub put_fits : (e x y : Entry) → y ≡ put e x → FitsEntry e → FitsEntry x → FitsEntry y
put_fits e x y is new old = by (same_key x.key e.key) refl
  where
    by : (b : Bool) → same_key x.key e.key ≡ b → FitsEntry y
    by true same = subst FitsEntry (sym (is ∙ put_same e x same)) new
    by false other = subst FitsEntry (sym (is ∙ put_other e x other)) old

pub each_at : {X : Type 0} (P : X → Type 0) (xs : List X) (i : ℕ) (x : X) → slice_get xs i ≡ Some x → AllByRecursion P xs → P x
each_at P [] i x e a = absurd cc
each_at P (y ∷ xs) zero x e a = let same : y ≡ x = cc in subst P same a.0
each_at P (y ∷ xs) (suc i) x e a = each_at P xs i x e a.1
