-- What two lists have in common from the front, and the fronts of lists.
use Rattle.std.proofs.Common.{◌≡◌, ◌⊎◌, inl, inr, ℕ, zero, suc, ◌<◌, ◌≤◌, Bool, true, false, cond, List, [], ◌∷◌, ◌++◌, length, take, drop, get_or, refl, sym, ap, ◌∙◌, arith, append_assoc, length-append}
use Rattle.std.specs.Prelude.{◌==◌}
use Rattle.std.proofs.lemmas.Bool.{eqb-true, eq-eqb, cases_lt}
use Rattle.std.proofs.lemmas.List.{append-nil, take_all, take-append-drop, length-take-le, nil_from_length}
use Rattle.fsd_dumps.specs.Front.{common}

pub common_front : (text bytes : List ℕ) → take (common text bytes) bytes ++ drop (common text bytes) text ≡ text
common_front [] bytes = refl
common_front (x ∷ text) [] = refl
common_front (x ∷ text) (y ∷ bytes) = by (common_front text bytes) (x == y) refl
  where
    by : take (common text bytes) bytes ++ drop (common text bytes) text ≡ text → (b : Bool) → (x == y) ≡ b
        → take (cond b (suc (common text bytes)) 0) (y ∷ bytes) ++ drop (cond b (suc (common text bytes)) 0) (x ∷ text) ≡ x ∷ text
    by again true same = λ i. sym (eqb-true x y same) i ∷ again i
    by again false same = refl

pub common_within : (text bytes : List ℕ) → common text bytes ≤ length bytes
common_within [] bytes = omega arith
common_within (x ∷ text) [] = omega arith
common_within (x ∷ text) (y ∷ bytes) = by (common_within text bytes) (x == y)
  where
    by : common text bytes ≤ length bytes → (b : Bool) → cond b (suc (common text bytes)) 0 ≤ suc (length bytes)
    by again true = omega (arith, again)
    by again false = omega arith

pub common_most : (text bytes more : List ℕ) (m : ℕ) → m ≤ length bytes → take m bytes ++ more ≡ text → m ≤ common text bytes
common_most text bytes more zero le e = omega arith
common_most text [] more (suc m) le e = absurd (omega (arith, le))
common_most [] (y ∷ bytes) more (suc m) le e = absurd (omega (arith, ap (λ (xs : List ℕ). length xs) e))
common_most (x ∷ text) (y ∷ bytes) more (suc m) le e = by (common_most text bytes more m (omega (arith, le)) (ap (drop 1) e)) (x == y) (eq-eqb x y (sym (ap (λ (xs : List ℕ). get_or xs 0 0) e)))
  where
    by : m ≤ common text bytes → (b : Bool) → b ≡ true → suc m ≤ cond b (suc (common text bytes)) 0
    by again true is = omega (arith, again)
    by again false is = absurd cc

-- where less than a text is in common, no longer front goes on as that text does
pub common_less : (text rest bytes more : List ℕ) (m : ℕ) → m ≤ length bytes → take m bytes ++ more ≡ text ++ rest → common text bytes < length text → m ≤ common text bytes
common_less text rest bytes more zero le e lt = omega arith
common_less text rest [] more (suc m) le e lt = absurd (omega (arith, le))
common_less [] rest (y ∷ bytes) more (suc m) le e lt = absurd (omega (arith, lt))
common_less (x ∷ text) rest (y ∷ bytes) more (suc m) le e lt =
    by (common_less text rest bytes more m (omega (arith, le)) (ap (drop 1) e)) (x == y) (eq-eqb x y (sym (ap (λ (xs : List ℕ). get_or xs 0 0) e))) lt
  where
    by : (common text bytes < length text → m ≤ common text bytes) → (b : Bool) → b ≡ true → cond b (suc (common text bytes)) 0 < suc (length text) → suc m ≤ cond b (suc (common text bytes)) 0
    by again true is lt = omega (arith, again (omega (arith, lt)))
    by again false is lt = absurd cc

-- ---- a list that begins so

abbrev pub Begins : List ℕ → List ℕ → Type 0
Begins front text = (more : List ℕ) × (front ++ more ≡ text)

pub begins_more : (front text rest : List ℕ) → Begins front text → Begins front (text ++ rest)
begins_more front text rest b = (b.0 ++ rest, sym (append_assoc front b.0 rest) ∙ ap (λ (xs : List ℕ). xs ++ rest) b.1)

pub front_append : (n : ℕ) (front a b : List ℕ) → length a ≡ n → Begins (take n front) a → Begins (drop n front) b → Begins front (a ++ b)
front_append n front a b size first second = by (cases_lt n (length front))
  where
    by : (n < length front) ⊎ (length front ≤ n) → Begins front (a ++ b)
    by (inr short) = begins_more front a b (first.0, ap (λ (xs : List ℕ). xs ++ first.0) (sym (take_all n front short)) ∙ first.1)
    by (inl long) =
        let cut : length (take n front) ≡ n = length-take-le n front (omega (arith, long)) in
        let none : length first.0 ≡ 0 = omega (arith, cut, size, length-append (take n front) first.0, ap (λ (xs : List ℕ). length xs) first.1) in
        let whole : take n front ≡ a = sym (append-nil (take n front)) ∙ ap (λ (xs : List ℕ). take n front ++ xs) (sym (nil_from_length first.0 none)) ∙ first.1 in (
          second.0,
          ap (λ (xs : List ℕ). xs ++ second.0) (sym (take-append-drop n front) ∙ ap (λ (xs : List ℕ). xs ++ drop n front) whole)
              ∙ append_assoc a (drop n front) second.0
              ∙ ap (λ (xs : List ℕ). a ++ xs) second.1,
        )
