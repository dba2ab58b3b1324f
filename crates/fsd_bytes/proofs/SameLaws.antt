-- Bytes that are compared.
use Rattle.std.proofs.Common.{◌≡◌, ℕ, Bool, true, false, cond, List, Some, None, refl}
use Rattle.std.specs.Cmp.Lexicographic.{bytes_decides}
use Rattle.fsd_bytes.specs.Bytes.{same_bytes}

pub same_is : (xs ys : List ℕ) → same_bytes xs ys ≡ true → xs ≡ ys
same_is xs ys e = (bytes_decides xs ys).0 e

pub is_same : (xs : List ℕ) → same_bytes xs xs ≡ true
is_same xs = (bytes_decides xs xs).1 refl

-- a value that is given where a test holds
pub given_if : {A : Type 0} (b : Bool) (x y : A) → cond b (Some x) None ≡ Some y → (b ≡ true) × (x ≡ y)
given_if true x y e = (refl, cc)
given_if false x y e = absurd cc
