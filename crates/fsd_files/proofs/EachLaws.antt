-- What holds of each of a list holds of each that is kept of it, and of its first ones.
use Rattle.std.proofs.Common.{ℕ, zero, suc, Bool, true, false, cond, List, [], ◌∷◌, filter, take}
use Rattle.std.specs.List.{AllByRecursion}

pub each_kept : {X : Type 0} (P : X → Type 0) (test : X → Bool) (xs : List X) → AllByRecursion P xs → AllByRecursion P (filter test xs)
each_kept P test [] all = tt
each_kept P test (x ∷ xs) all = by (test x) (each_kept P test xs all.1)
  where
    by : (b : Bool) → AllByRecursion P (filter test xs) → AllByRecursion P (cond b (x ∷ filter test xs) (filter test xs))
    by true rest = (all.0, rest)
    by false rest = rest

pub each_taken : {X : Type 0} (P : X → Type 0) (n : ℕ) (xs : List X) → AllByRecursion P xs → AllByRecursion P (take n xs)
each_taken P zero xs all = tt
each_taken P (suc n) [] all = tt
each_taken P (suc n) (x ∷ xs) all = (all.0, each_taken P n xs all.1)
