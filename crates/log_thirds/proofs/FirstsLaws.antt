-- Which numbers the thirds of the tape begin with, as records come.
use Rattle.std.proofs.Common.{◌≡◌, ◌⊎◌, inl, inr, ℕ, ◌+◌, ◌*◌, ◌<◌, ◌≤◌, Bool, true, false, cond, List, [], ◌∷◌, ◌++◌, nat_lt, sym, ap, ◌∙◌, arith}
use Rattle.std.specs.Prelude.{count_by, if◌then◌else◌}
use Rattle.std.proofs.lemmas.List.Sums.{sum_by-append}
use Rattle.std.proofs.lemmas.Bool.{cases_lt, cond-true, cond-false, lt-ltb, le-ltb}
use Rattle.fsd_log.specs.Scan.{Placed}
use Rattle.log_thirds.specs.declared.firsts.Firsts.{Firsts}
use Rattle.log_thirds.specs.Firsts.{first_from, firsts_with, AreFirsts, AreNumbers}

-- one record more
from_more : (first place old : ℕ) (rs : List Placed) (r : Placed) → old ≡ first_from first place rs → (if nat_lt r.at place then old + 1 else old) ≡ first_from first place (rs ++ r ∷ [])
from_more first place old rs r is = by_test (nat_lt r.at place) ∙ sym joined
  where
    joined : first_from first place (rs ++ r ∷ []) ≡ first + (count_by (λ r. nat_lt r.at place) rs + (0 + cond (nat_lt r.at place) 1 0))
    joined = ap (λ (n : ℕ). first + n) (sum_by-append (λ (x : Placed). cond (nat_lt x.at place) 1 0) rs (r ∷ []))

    by_test : (b : Bool) → (if b then old + 1 else old) ≡ first + (count_by (λ r. nat_lt r.at place) rs + (0 + cond b 1 0))
    by_test true = omega (arith, is)
    by_test false = omega (arith, is)

pub firsts_more : (third first : ℕ) (rs : List Placed) (r : Placed) (f : Firsts) → AreFirsts third first rs f → AreFirsts third first (rs ++ r ∷ []) (firsts_with third r.at f)
firsts_more third first rs r f are = record { second = from_more first third f.second rs r are.second; last = from_more first (2 * third) f.last rs r are.last }

pub numbers_more : (third number at : ℕ) (f : Firsts) → AreNumbers number f → AreNumbers (number + 1) (firsts_with third at f)
numbers_more third number at f are = by_place (cases_lt at third) (cases_lt at (2 * third))
  where
    by_place : (at < third) ⊎ (third ≤ at) → (at < 2 * third) ⊎ (2 * third ≤ at) → AreNumbers (number + 1) (firsts_with third at f)
    by_place x y = record {
      some = second_some x;
      in_order = in_order x y;
      most = last_most y;
    }
      where
        second_some : (at < third) ⊎ (third ≤ at) → 1 ≤ (if nat_lt at third then f.second + 1 else f.second)
        second_some (inl lt) = omega (arith, are.some, cond-true (nat_lt at third) (f.second + 1) f.second (lt-ltb at third lt))
        second_some (inr ge) = omega (arith, are.some, cond-false (nat_lt at third) (f.second + 1) f.second (le-ltb at third ge))

        last_most : (at < 2 * third) ⊎ (2 * third ≤ at) → (if nat_lt at (2 * third) then f.last + 1 else f.last) ≤ number + 1
        last_most (inl lt) = omega (arith, are.most, cond-true (nat_lt at (2 * third)) (f.last + 1) f.last (lt-ltb at (2 * third) lt))
        last_most (inr ge) = omega (arith, are.most, cond-false (nat_lt at (2 * third)) (f.last + 1) f.last (le-ltb at (2 * third) ge))

        in_order : (at < third) ⊎ (third ≤ at) → (at < 2 * third) ⊎ (2 * third ≤ at) → (if nat_lt at third then f.second + 1 else f.second) ≤ (if nat_lt at (2 * third) then f.last + 1 else f.last)
        in_order (inl lt) (inl lt2) = omega (arith, are.in_order, cond-true (nat_lt at third) (f.second + 1) f.second (lt-ltb at third lt), cond-true (nat_lt at (2 * third)) (f.last + 1) f.last (lt-ltb at (2 * third) lt2))
        in_order (inl lt) (inr ge2) = absurd (omega arith)
        in_order (inr ge) (inl lt2) = omega (arith, are.in_order, cond-false (nat_lt at third) (f.second + 1) f.second (le-ltb at third ge), cond-true (nat_lt at (2 * third)) (f.last + 1) f.last (lt-ltb at (2 * third) lt2))
        in_order (inr ge) (inr ge2) = omega (arith, are.in_order, cond-false (nat_lt at third) (f.second + 1) f.second (le-ltb at third ge), cond-false (nat_lt at (2 * third)) (f.last + 1) f.last (le-ltb at (2 * third) ge2))
