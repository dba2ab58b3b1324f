-- Pages in ascending order: they are the same ones, and a record may have them.
use Rattle.std.proofs.Common.{◌≡◌, ℕ, zero, suc, ◌+◌, ◌<◌, ◌≤◌, Bool, true, false, cond, ◌&&◌, ◌||◌, List, [], ◌∷◌, ◌++◌, length, take, get_or, refl, sym, ap, ◌∙◌, arith, eqb-true}
use Rattle.std.proofs.Math.Bool.{or_assoc, or_comm, or-false, or-true}
use Rattle.std.specs.Prelude.{count_by, nat_eq, nat_le, nat_lt, ◌==◌}
use Rattle.std.specs.List.{AllByRecursion, IsDistinct, list_all}
use Rattle.std.proofs.lemmas.Bool.{and_from, le-leb, or_right, or_parts}
use Rattle.std.proofs.lemmas.List.{take_more}
use Rattle.std.proofs.lemmas.List.Sums.{sum_by-cons}
use Rattle.std.proofs.lemmas.Map.Keys.{IsDistinct-head, IsDistinct-tail}
use Rattle.run_table.specs.Space.{contains}
use Rattle.fsd_bytes.specs.Names.{is_between}
use Rattle.fsd_formats.specs.Record.{are_pages, ascending}
use Rattle.page_cache.specs.Cache.{is_among}
use Rattle.page_cache.proofs.Entries.{by_bool, same_key}
use Rattle.group_commit.specs.Cached.{ascending_of, put_among}
use Rattle.group_commit.specs.Resident.{page_added}
use Rattle.group_commit.proofs.WaitLaws.{ascends_with, below_with, grows}

-- ---- tests

or_twice : (a b c : Bool) → a ≡ b → (a || c) ≡ (b || (a || c))
or_twice true true c e = refl
or_twice false false c e = refl
or_twice true false c e = absurd cc
or_twice false true c e = absurd cc

or_swap : (a b c : Bool) → (a || (b || c)) ≡ (b || (a || c))
or_swap true true c = refl
or_swap true false c = refl
or_swap false true c = refl
or_swap false false c = refl

-- ---- which pages they are

one_with : (page : ℕ) (xs : List ℕ) (p : ℕ) → is_among (page_added page xs) p ≡ (nat_eq page p || is_among xs p)
one_with page [] p = refl
one_with page (q ∷ xs) p = by_tests (one_with page xs p) (nat_lt page q) (q == page) refl
  where
    by_tests : is_among (page_added page xs) p ≡ (nat_eq page p || is_among xs p) → (below same : Bool) → (q == page) ≡ same → is_among (cond below (page ∷ q ∷ xs) (cond same (q ∷ xs) (q ∷ page_added page xs))) p ≡ (nat_eq page p || (nat_eq q p || is_among xs p))
    by_tests more true same is = refl
    by_tests more false true is = or_twice (nat_eq q p) (nat_eq page p) (is_among xs p) (ap (λ (k : ℕ). nat_eq k p) (eqb-true q page is))
    by_tests more false false is = ap (λ (b : Bool). nat_eq q p || b) more ∙ or_swap (nat_eq q p) (nat_eq page p) (is_among xs p)

one_among : (xs ys : List ℕ) (p : ℕ) → is_among (put_among xs ys) p ≡ (is_among xs p || is_among ys p)
one_among [] ys p = refl
one_among (x ∷ xs) ys p =
    one_among xs (page_added x ys) p
    ∙ ap (λ (b : Bool). is_among xs p || b) (one_with x ys p)
    ∙ sym (or_assoc (is_among xs p) (nat_eq x p) (is_among ys p))
    ∙ ap (λ (b : Bool). b || is_among ys p) (or_comm (is_among xs p) (nat_eq x p))

-- a page is one of them where it was
pub one_ascending : (xs : List ℕ) (p : ℕ) → is_among (ascending_of xs) p ≡ is_among xs p
one_ascending xs p = one_among xs [] p ∙ or-false (is_among xs p)

pub index_contained : (xs : List ℕ) (k : ℕ) → k < length xs → contains xs (get_or xs k 0) ≡ true
index_contained [] k lt = absurd (omega arith)
index_contained (x ∷ xs) zero lt = ap (λ (b : Bool). b || contains xs x) (same_key x)
index_contained (x ∷ xs) (suc k) lt = ap (λ (b : Bool). (x == get_or xs k 0) || b) (index_contained xs k (omega arith)) ∙ or-true (x == get_or xs k 0)

-- where a page stands
pub record StandsIn (xs : List ℕ) (p : ℕ) : Type 0 where
  pub index : ℕ
  pub inside : index < length xs
  pub is : get_or xs index 0 ≡ p

pub contained_index : (xs : List ℕ) (p : ℕ) → contains xs p ≡ true → StandsIn xs p
contained_index [] p is = absurd cc
contained_index (x ∷ xs) p is = by_bool (nat_eq x p)
    (λ t. record { index = 0; inside = omega arith; is = eqb-true x p t })
    (λ t. let more = contained_index xs p (sym (ap (λ (b : Bool). b || contains xs p) t) ∙ is) in record { index = suc more.index; inside = (let lt = more.inside in omega (arith, lt)); is = more.is })

-- ---- how many they are

with_new : (page : ℕ) (xs : List ℕ) → is_among xs page ≡ false → length (page_added page xs) ≡ suc (length xs)
with_new page [] out = refl
with_new page (q ∷ xs) out = by_tests (λ none. with_new page xs none) (nat_lt page q) (q == page) refl
  where
    by_tests : (is_among xs page ≡ false → length (page_added page xs) ≡ suc (length xs)) → (below same : Bool) → (q == page) ≡ same → length (cond below (page ∷ q ∷ xs) (cond same (q ∷ xs) (q ∷ page_added page xs))) ≡ suc (suc (length xs))
    by_tests more true same is = refl
    by_tests more false true is = absurd (let no = (or_parts (nat_eq q page) (is_among xs page) out).0 in cc (is, no))
    by_tests more false false is = ap suc (more (or_parts (nat_eq q page) (is_among xs page) out).1)

still_out : (x : ℕ) (ys ks : List ℕ) → AllByRecursion (λ q. nat_eq x q ≡ false) ks → AllByRecursion (λ q. is_among ys q ≡ false) ks → AllByRecursion (λ q. is_among (page_added x ys) q ≡ false) ks
still_out x ys [] apart out = tt
still_out x ys (k ∷ ks) apart out = (one_with x ys k ∙ ap (λ (b : Bool). b || is_among ys k) apart.0 ∙ out.0, still_out x ys ks apart.1 out.1)

length_among : (xs ys : List ℕ) → IsDistinct nat_eq xs → AllByRecursion (λ q. is_among ys q ≡ false) xs → length (put_among xs ys) ≡ length xs + length ys
length_among [] ys d out = omega arith
length_among (x ∷ xs) ys d out =
    let more = length_among xs (page_added x ys) (IsDistinct-tail nat_eq x xs d) (still_out x ys xs (IsDistinct-head nat_eq x xs d) out.1) in
    let one = with_new x ys out.0 in
    omega (arith, more, one)

all_out : (xs : List ℕ) → AllByRecursion (λ q. is_among [] q ≡ false) xs
all_out [] = tt
all_out (x ∷ xs) = (refl, all_out xs)

-- so many as before, where none stood twice
pub length_ascending : (xs : List ℕ) → IsDistinct nat_eq xs → length (ascending_of xs) ≡ length xs
length_ascending xs d = omega (arith, length_among xs [] d (all_out xs))

-- ---- how many are less

-- so many of them are less than a page
abbrev pub rank : (page : ℕ) → List ℕ → ℕ
rank page xs = count_by (λ q. nat_lt q page) xs

pub rank_more : (page x : ℕ) (xs : List ℕ) → rank page (x ∷ xs) ≡ cond (nat_lt x page) 1 0 + rank page xs
rank_more page x xs = sum_by-cons (λ (q : ℕ). cond (nat_lt q page) 1 0) x xs

rank_with : (page x : ℕ) (ys : List ℕ) → is_among ys x ≡ false → rank page (page_added x ys) ≡ cond (nat_lt x page) 1 0 + rank page ys
rank_with page x [] out = rank_more page x []
rank_with page x (q ∷ ys) out = by_tests (λ none. rank_with page x ys none) (nat_lt x q) (q == x) refl
  where
    by_tests : (is_among ys x ≡ false → rank page (page_added x ys) ≡ cond (nat_lt x page) 1 0 + rank page ys) → (below same : Bool) → (q == x) ≡ same
        → rank page (cond below (x ∷ q ∷ ys) (cond same (q ∷ ys) (q ∷ page_added x ys))) ≡ cond (nat_lt x page) 1 0 + rank page (q ∷ ys)
    by_tests more true same is = rank_more page x (q ∷ ys)
    by_tests more false true is = absurd (let no = (or_parts (nat_eq q x) (is_among ys x) out).0 in cc (is, no))
    by_tests more false false is =
        let first = rank_more page q (page_added x ys) in
        let rest = more (or_parts (nat_eq q x) (is_among ys x) out).1 in
        let whole = rank_more page q ys in
        omega (arith, first, rest, whole)

rank_among : (page : ℕ) (xs ys : List ℕ) → IsDistinct nat_eq xs → AllByRecursion (λ q. is_among ys q ≡ false) xs → rank page (put_among xs ys) ≡ rank page xs + rank page ys
rank_among page [] ys d out = omega arith
rank_among page (x ∷ xs) ys d out =
    let more = rank_among page xs (page_added x ys) (IsDistinct-tail nat_eq x xs d) (still_out x ys xs (IsDistinct-head nat_eq x xs d) out.1) in
    let one = rank_with page x ys out.0 in
    let first = rank_more page x xs in
    omega (arith, more, one, first)

-- so many as before, where none stood twice
pub rank_ascending : (page : ℕ) (xs : List ℕ) → IsDistinct nat_eq xs → rank page (ascending_of xs) ≡ rank page xs
rank_ascending page xs d = omega (arith, rank_among page xs [] d (all_out xs))

-- ---- one after another

among_last : (xs ys : List ℕ) (y : ℕ) → put_among (xs ++ y ∷ []) ys ≡ page_added y (put_among xs ys)
among_last [] ys y = refl
among_last (x ∷ xs) ys y = among_last xs (page_added x ys) y

pub among_more : (xs : List ℕ) (k : ℕ) → k < length xs → put_among (take (k + 1) xs) [] ≡ page_added (get_or xs k 0) (put_among (take k xs) [])
among_more xs k lt = ap (λ (ys : List ℕ). put_among ys []) (take_more xs k 0 lt) ∙ among_last (take k xs) [] (get_or xs k 0)

-- ---- a record may have them

ascends_among : (xs ys : List ℕ) → ascending ys ≡ true → ascending (put_among xs ys) ≡ true
ascends_among [] ys asc = asc
ascends_among (x ∷ xs) ys asc = ascends_among xs (page_added x ys) (ascends_with x ys asc)

pub ascending_ascends : (xs : List ℕ) → ascending (ascending_of xs) ≡ true
ascending_ascends xs = ascends_among xs [] refl

below_among : (count : ℕ) (xs ys : List ℕ) → ((p : ℕ) → is_among xs p ≡ true → p < count) → list_all (λ q. nat_lt q count) ys ≡ true → list_all (λ q. nat_lt q count) (put_among xs ys) ≡ true
below_among count [] ys inside all = all
below_among count (x ∷ xs) ys inside all =
    below_among count xs (page_added x ys) (λ p is. inside p (or_right (nat_eq x p) (is_among xs p) is))
    (below_with count x ys (inside x (ap (λ (b : Bool). b || is_among xs x) (same_key x))) all)

no_more : (xs ys : List ℕ) → length (put_among xs ys) ≤ length xs + length ys
no_more [] ys = omega arith
no_more (x ∷ xs) ys = omega (arith, no_more xs (page_added x ys), grows x ys)

accepted : (count : ℕ) (xs : List ℕ) → 1 ≤ length xs → length xs ≤ 96 → ascending xs ≡ true → list_all (λ q. nat_lt q count) xs ≡ true → are_pages count xs ≡ true
accepted count xs some few asc below =
    and_from (is_between 1 96 (length xs) && ascending xs) (list_all (λ q. nat_lt q count) xs)
    (and_from (is_between 1 96 (length xs)) (ascending xs) (and_from (nat_le 1 (length xs)) (nat_le (length xs) 96) (le-leb 1 (length xs) some) (le-leb (length xs) 96 few)) asc) below

pub accepted_ascending : (count : ℕ) (xs : List ℕ) → ((p : ℕ) → is_among xs p ≡ true → p < count) → length xs ≤ 96 → 1 ≤ length (ascending_of xs) → are_pages count (ascending_of xs) ≡ true
accepted_ascending count xs inside few some =
    accepted count (ascending_of xs) some (omega (arith, few, no_more xs [])) (ascends_among xs [] refl) (below_among count xs [] inside refl)
