-- How the places hold the frames, index by index.
use Rattle.std.proofs.Common.{◌≡◌, ℕ, zero, suc, ◌<◌, List, [], ◌∷◌, map, length, set, get_or, replicate, slice_get, Option, Some, None, refl, ap, ◌⊎◌, inl, inr, arith}
use Rattle.frame_pool.specs.Places.{somes, IsFilled}

module _ {X : Type 0} where
  pub get_or-replicate_none : (n i : ℕ) → let none : Option X = None in get_or (replicate n none) i none ≡ none
  get_or-replicate_none zero i = refl
  get_or-replicate_none (suc n) zero = refl
  get_or-replicate_none (suc n) (suc i) = get_or-replicate_none n i

  pub get_or-map_some : (xs : List X) (i : ℕ) → get_or (map Some xs) i None ≡ slice_get xs i
  get_or-map_some [] i = refl
  get_or-map_some (x ∷ xs) zero = refl
  get_or-map_some (x ∷ xs) (suc i) = get_or-map_some xs i

  pub slice_get-replicate : (n i : ℕ) (x : X) → i < n → slice_get (replicate n x) i ≡ Some x
  slice_get-replicate zero i x h = absurd (omega arith)
  slice_get-replicate (suc n) zero x h = refl
  slice_get-replicate (suc n) (suc i) x h = slice_get-replicate n i x (omega arith)

  pub filled_below : (xs : List X) (i : ℕ) → i < length xs → IsFilled (map Some xs) i
  filled_below [] i h = absurd (omega arith)
  filled_below (x ∷ xs) zero h = (x, refl)
  filled_below (x ∷ xs) (suc i) h = filled_below xs i (omega arith)

  pub somes-map : (xs : List X) → somes (map Some xs) ≡ xs
  somes-map [] = refl
  somes-map (x ∷ xs) = ap (λ l. x ∷ l) (somes-map xs)

  pub set-map_some : (xs : List X) (i : ℕ) (w : X) → set (map Some xs) i (Some w) ≡ map Some (set xs i w)
  set-map_some [] i w = refl
  set-map_some (x ∷ xs) zero w = refl
  set-map_some (x ∷ xs) (suc i) w = ap (λ l. Some x ∷ l) (set-map_some xs i w)

pub either_below : (i j : ℕ) → (i ≡ j → ⊥) → (i < j) ⊎ (j < i)
either_below zero zero ne = absurd (ne refl)
either_below zero (suc j) ne = inl (omega arith)
either_below (suc i) zero ne = inr (omega arith)
either_below (suc i) (suc j) ne = elim (either_below i j (λ e. ne (ap suc e))) [ inl h ↦ inl (omega arith) | inr h ↦ inr (omega arith) ]
