-- Lists of pages without a common one.
use Rattle.std.proofs.Common.{◌≡◌, ℕ, ◌≤◌, Bool, true, false, List, ◌++◌, refl, arith}
use Rattle.run_table.specs.Space.{contains, all_differ}
use Rattle.fsd_forest.specs.Forest.{times_in, Disjoint}
use Rattle.fsd_forest.proofs.CountLaws.{count_append, there_counts, out_counts, counts_out, differ_counts, counts_differ}

pub record Apart (xs ys : List ℕ) : Type 0 where
  pub first : all_differ xs ≡ true
  pub second : all_differ ys ≡ true
  pub outside : Disjoint xs ys

pub apart_parts : (xs ys : List ℕ) → all_differ (xs ++ ys) ≡ true → Apart xs ys
apart_parts xs ys d =
    let once : (p : ℕ) → times_in p (xs ++ ys) ≤ 1 = differ_counts (xs ++ ys) d in
    record {
      first = counts_differ xs (λ p. omega (arith, once p, count_append p xs ys));
      second = counts_differ ys (λ p. omega (arith, once p, count_append p xs ys));
      outside = λ p e. counts_out p ys (omega (arith, once p, count_append p xs ys, there_counts p xs e));
    }

pub apart_from : (xs ys : List ℕ) → all_differ xs ≡ true → all_differ ys ≡ true → Disjoint xs ys → all_differ (xs ++ ys) ≡ true
apart_from xs ys a b d = counts_differ (xs ++ ys) (λ p. by p (contains xs p) refl)
  where
    by : (p : ℕ) (v : Bool) → contains xs p ≡ v → times_in p (xs ++ ys) ≤ 1
    by p true is = omega (arith, count_append p xs ys, differ_counts xs a p, out_counts p ys (d p is))
    by p false is = omega (arith, count_append p xs ys, differ_counts ys b p, out_counts p xs is)
