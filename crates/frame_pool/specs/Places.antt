-- What the places of a block hold.
use Rattle.std.specs.Prelude.{◌≡◌, ℕ, get_or, List, [], ◌∷◌, map, length, Option, Some, None}

module _ {X : Type 0} where
  -- the values that are there
  abbrev pub somes : List (Option X) → List X
  somes [] = []
  somes (None ∷ cs) = somes cs
  somes (Some x ∷ cs) = x ∷ somes cs

  -- the place at the index holds a value
  abbrev pub IsFilled : List (Option X) → ℕ → Type 0
  IsFilled cs i = (x : X) × (get_or cs i None ≡ Some x)

  -- there are so many places, and each of them holds a value
  abbrev pub AreFilled : List (Option X) → ℕ → Type 0
  AreFilled cs len = (xs : List X) × ((cs ≡ map Some xs) × (length xs ≡ len))
