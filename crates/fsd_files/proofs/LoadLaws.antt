-- Files are made of none by loading their versions in order; and each version is found by its key.
use Rattle.std.proofs.Common.{◌≡◌, Bool, true, false, cond, Some, [], ◌∷◌, ◌++◌, Ordering, refl, sym, ap, ◌∙◌, append_assoc}
use Rattle.std.specs.Prelude.{T}
use Rattle.std.specs.List.{fold, AllByRecursion}
use Rattle.std.specs.declared.cmp.Ordering.TheVariants.{Less, Equal, Greater}
use Rattle.std.specs.Ordering.{is_eq, is_lt, ordering_reverse}
use Rattle.std.specs.Cmp.{tied_itself}
use Rattle.std.specs.FinMap.{find, put, is_sorted}
use Rattle.std.specs.FinMap.Entries.{by_order, below_all}
use Rattle.std.proofs.lemmas.Bool.{and_parts}
use Rattle.std.proofs.lemmas.List.{append-nil}
use Rattle.fsd_bytes.specs.declared.key.Key.{Key}
use Rattle.fsd_bytes.specs.Keys.{key_cmp}
use Rattle.fsd_files.specs.Files.{File, Files, step, after, loads_of}
use Rattle.fsd_files.proofs.HistoryLaws.{keys_total}

abbrev IsBelow : Key → Key × File → Type 0
IsBelow k y = is_lt (key_cmp y.0 k) ≡ true

less_from : (o : Ordering) → is_lt o ≡ true → o ≡ Less
less_from Less e = refl
less_from Equal e = absurd (let bad : false ≡ true = e in cc)
less_from Greater e = absurd (let bad : false ≡ true = e in cc)

behind : (k : Key) (y : Key × File) → IsBelow k y → key_cmp k y.0 ≡ Greater
behind k y lt = keys_total.antisymm k y.0 ∙ ap ordering_reverse (less_from (key_cmp y.0 k) lt)

-- what is behind all the others is put at the end
put_last : (k : Key) (x : File) (front : Files) → AllByRecursion (IsBelow k) front → put key_cmp k x front ≡ front ++ (k, x) ∷ []
put_last k x [] all = refl
put_last k x (y ∷ front) all =
    ap (λ (o : Ordering). by_order o ((k, x) ∷ y ∷ front) ((y.0, x) ∷ front) (y ∷ put key_cmp k x front)) (behind k y all.0)
    ∙ ap (λ (s : Files). y ∷ s) (put_last k x front all.1)

true_of : (b : Bool) → T b → b ≡ true
true_of true h = refl
true_of false h = absurd h

-- each of the first ones is in front of each of the others
abbrev AreInFront : Files → Files → Type 0
AreInFront front s = AllByRecursion (λ y. below_all key_cmp y.0 s ≡ true) front

first_below : (front : Files) (e : Key × File) (s : Files) → AreInFront front (e ∷ s) → AllByRecursion (IsBelow e.0) front × AreInFront front s
first_below [] e s all = (tt, tt)
first_below (y ∷ front) e s all =
    let parts = and_parts (is_lt (key_cmp y.0 e.0)) (below_all key_cmp y.0 s) all.0 in
    let rest = first_below front e s all.1 in
    ((parts.0, rest.0), (parts.1, rest.1))

one_more : (front : Files) (e : Key × File) (s : Files) → AreInFront front s → below_all key_cmp e.0 s ≡ true → AreInFront (front ++ e ∷ []) s
one_more [] e s all below = (below, tt)
one_more (y ∷ front) e s all below = (all.0, one_more front e s all.1 below)

loaded_behind : (front s : Files) → AreInFront front s → is_sorted key_cmp s ≡ true → fold step front (loads_of s) ≡ front ++ s
loaded_behind front [] all sorted = sym (append-nil front)
loaded_behind front (e ∷ s) all sorted =
    let parts = and_parts (below_all key_cmp e.0 s) (is_sorted key_cmp s) sorted in
    let below = first_below front e s all in
    ap (λ (f : Files). fold step f (loads_of s)) (put_last e.0 e.1 front below.0)
    ∙ loaded_behind (front ++ e ∷ []) s (one_more front e s below.1 parts.0) parts.1
    ∙ append_assoc front (e ∷ []) s

pub loaded_again : (s : Files) → T (is_sorted key_cmp s) → after (loads_of s) ≡ s
loaded_again s sorted = loaded_behind [] s tt (true_of (is_sorted key_cmp s) sorted)

-- ---- each version is found by its key

abbrev IsFoundIn : Files → Key × File → Type 0
IsFoundIn s y = find key_cmp y.0 s ≡ Some y.1

passed_over : (e : Key × File) (s rest : Files) → below_all key_cmp e.0 rest ≡ true → AllByRecursion (IsFoundIn s) rest → AllByRecursion (IsFoundIn (e ∷ s)) rest
passed_over e s [] below found = tt
passed_over e s (y ∷ rest) below found =
    let parts = and_parts (is_lt (key_cmp e.0 y.0)) (below_all key_cmp e.0 rest) below in
    (ap (λ (o : Ordering). cond (is_eq o) (Some e.1) (find key_cmp y.0 s)) (behind y.0 e parts.0) ∙ found.0, passed_over e s rest parts.1 found.1)

each_found : (s : Files) → is_sorted key_cmp s ≡ true → AllByRecursion (IsFoundIn s) s
each_found [] sorted = tt
each_found (e ∷ s) sorted =
    let parts = and_parts (below_all key_cmp e.0 s) (is_sorted key_cmp s) sorted in
    (ap (λ (o : Ordering). cond (is_eq o) (Some e.1) (find key_cmp e.0 s)) (tied_itself keys_total e.0), passed_over e s s parts.0 (each_found s parts.1))

pub found_there : (s : Files) → T (is_sorted key_cmp s) → AllByRecursion (IsFoundIn s) s
found_there s sorted = each_found s (true_of (is_sorted key_cmp s) sorted)
