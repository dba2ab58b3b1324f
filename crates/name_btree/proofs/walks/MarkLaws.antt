-- Marks, one a page.
use Rattle.std.proofs.Common.{◌≡◌, ◌≢◌, ℕ, zero, suc, ◌<◌, Bool, true, false, cond, not, ◌&&◌, ◌||◌, List, [], ◌∷◌, ◌++◌, length, Some, refl, ap, subst, ◌∙◌, arith, sym}
use Rattle.std.proofs.Math.Bool.{or_assoc, or_comm, and_assoc, or-false}
use Rattle.std.specs.Prelude.{slice_set, ◌==◌}
use Rattle.std.proofs.lemmas.Bool.{and_parts, and_from, not-true, or_from}
use Rattle.std.proofs.lemmas.Bool.Decides.{nat_tests}
use Rattle.std.proofs.lemmas.List.{get_or-set_other, length-set}
use Rattle.std.proofs.lemmas.Option.{get_or_from_slice_get, slice_get-get_or}
use Rattle.run_table.specs.Space.{contains, all_differ}
use Rattle.name_btree.specs.Walk.{AreMarksOf, KeepsMarks, is_marked, can_mark, marked}

equal : (m n : ℕ) → (m == n) ≡ true → m ≡ n
equal m n e = grind (arith, nat_tests)

unequal : (m n : ℕ) → (m == n) ≡ false → n ≢ m
unequal m n e = λ h. grind (arith, nat_tests)

-- ---- one mark more

set_marked : (marks : List Bool) (p : ℕ) → is_marked (slice_set marks p true) p ≡ true
set_marked [] p = refl
set_marked (m ∷ marks) zero = refl
set_marked (m ∷ marks) (suc p) = set_marked marks p

stays_marked : (marks : List Bool) (p q : ℕ) → is_marked marks q ≡ true → is_marked (slice_set marks p true) q ≡ true
stays_marked [] p q e = refl
stays_marked (m ∷ marks) zero zero e = refl
stays_marked (m ∷ marks) zero (suc q) e = e
stays_marked (m ∷ marks) (suc p) zero e = e
stays_marked (m ∷ marks) (suc p) (suc q) e = stays_marked marks p q e

-- a page is marked, unless it was
pub one_marked : (old new : List Bool) (page : ℕ) (b : Bool) → b ≡ not (is_marked old page) → new ≡ cond b (slice_set old page true) old → is_marked new page ≡ true
one_marked old new page true is same = ap (λ (marks : List Bool). is_marked marks page) same ∙ set_marked old page
one_marked old new page false is same = ap (λ (marks : List Bool). is_marked marks page) same ∙ by (is_marked old page) is
  where
    by : (m : Bool) → false ≡ not m → m ≡ true
    by true e = refl
    by false e = absurd cc

pub still_marked : (old new : List Bool) (page : ℕ) (b : Bool) → new ≡ cond b (slice_set old page true) old → KeepsMarks old new
still_marked old new page true same q h = ap (λ (marks : List Bool). is_marked marks q) same ∙ stays_marked old page q h
still_marked old new page false same q h = ap (λ (marks : List Bool). is_marked marks q) same ∙ h

read_by : (marks : List Bool) (p q : ℕ) (b : Bool) → (p == q) ≡ b → is_marked (slice_set marks p true) q ≡ (b || is_marked marks q)
read_by marks p q true e = subst (λ (n : ℕ). is_marked (slice_set marks p true) n ≡ true) (equal p q e) (set_marked marks p)
read_by marks p q false e = get_or-set_other marks p q true true (unequal p q e)

-- ---- many marks

pub length_marked : (marks : List Bool) (pages : List ℕ) → length (marked marks pages) ≡ length marks
length_marked marks [] = refl
length_marked marks (p ∷ pages) = length_marked (slice_set marks p true) pages ∙ length-set marks p true

marked_read : (marks : List Bool) (pages : List ℕ) (q : ℕ) → is_marked (marked marks pages) q ≡ (contains pages q || is_marked marks q)
marked_read marks [] q = refl
marked_read marks (p ∷ pages) q =
    marked_read (slice_set marks p true) pages q
    ∙ ap (λ (b : Bool). contains pages q || b) (read_by marks p q (p == q) refl)
    ∙ sym (or_assoc (contains pages q) (p == q) (is_marked marks q))
    ∙ ap (λ (b : Bool). b || is_marked marks q) (or_comm (contains pages q) (p == q))

pub marked_append : (marks : List Bool) (xs ys : List ℕ) → marked marks (xs ++ ys) ≡ marked (marked marks xs) ys
marked_append marks [] ys = refl
marked_append marks (x ∷ xs) ys = marked_append (slice_set marks x true) xs ys

pub can_append : (marks : List Bool) (xs ys : List ℕ) → can_mark marks (xs ++ ys) ≡ (can_mark marks xs && can_mark (marked marks xs) ys)
can_append marks [] ys = refl
can_append marks (x ∷ xs) ys =
    ap (λ (b : Bool). not (is_marked marks x) && b) (can_append (slice_set marks x true) xs ys)
    ∙ sym (and_assoc (not (is_marked marks x)) (can_mark (slice_set marks x true) xs) (can_mark (marked (slice_set marks x true) xs) ys))

-- ---- pages that differ

apart_by : (marks : List Bool) (p q : ℕ) → is_marked marks q ≡ true → not (is_marked marks p) ≡ true → (b : Bool) → (p == q) ≡ b → b ≡ false
apart_by marks p q is new false e = refl
apart_by marks p q is new true e =
    let here : is_marked marks p ≡ true = ap (is_marked marks) (equal p q e) ∙ is in
    let none : is_marked marks p ≡ false = not-true (is_marked marks p) new in
    absurd cc

not_again : (marks : List Bool) (pages : List ℕ) (q : ℕ) → is_marked marks q ≡ true → can_mark marks pages ≡ true → contains pages q ≡ false
not_again marks [] q is can = refl
not_again marks (p ∷ pages) q is can =
    let parts = and_parts (not (is_marked marks p)) (can_mark (slice_set marks p true) pages) can in
    or_from (p == q) (contains pages q) (apart_by marks p q is parts.0 (p == q) refl) (not_again (slice_set marks p true) pages q (stays_marked marks p q is) parts.1)

pub marks_differ : (marks : List Bool) (pages : List ℕ) → can_mark marks pages ≡ true → all_differ pages ≡ true
marks_differ marks [] can = refl
marks_differ marks (p ∷ pages) can =
    let parts = and_parts (not (is_marked marks p)) (can_mark (slice_set marks p true) pages) can in
    and_from (not (contains pages p)) (all_differ pages) (ap not (not_again (slice_set marks p true) pages p (set_marked marks p) parts.1)) (marks_differ (slice_set marks p true) pages parts.1)

-- ---- marks of pages, and of more

contains_both : (done xs : List ℕ) (p : ℕ) → (contains xs p || contains done p) ≡ contains (done ++ xs) p
contains_both [] xs p = or-false (contains xs p)
contains_both (d ∷ done) xs p = or_turn (contains xs p) (d == p) (contains done p) ∙ ap (λ (b : Bool). (d == p) || b) (contains_both done xs p)
  where
    or_turn : (a b c : Bool) → (a || (b || c)) ≡ (b || (a || c))
    or_turn true true c = refl
    or_turn true false c = refl
    or_turn false true c = refl
    or_turn false false c = refl

pub marked_at : (marks : List Bool) (done : List ℕ) (page : ℕ) → AreMarksOf done marks → page < length marks → is_marked marks page ≡ contains done page
marked_at marks done page are low = get_or_from_slice_get marks page (contains done page) true (are page low)

pub marks_more : (marks : List Bool) (done xs : List ℕ) → AreMarksOf done marks → AreMarksOf (done ++ xs) (marked marks xs)
marks_more marks done xs are = λ page low.
    let within : page < length marks = subst (λ (n : ℕ). page < n) (length_marked marks xs) low in
    let is : is_marked (marked marks xs) page ≡ contains (done ++ xs) page =
    marked_read marks xs page ∙ ap (λ (b : Bool). contains xs page || b) (marked_at marks done page are within) ∙ contains_both done xs page in
    slice_get-get_or (marked marks xs) page true low ∙ ap Some is
