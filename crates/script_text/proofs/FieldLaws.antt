-- What words ask for, by how many they are.
use Rattle.std.proofs.Common.{◌≡◌, ℕ, List, [], ◌∷◌, length, map, Result, Err, refl}
use Rattle.fsd_texts.specs.declared.bad_line.Cause.{Cause}
use Rattle.fsd_texts.specs.declared.bad_line.Cause.TheVariants.{WordCount}
use Rattle.fsd_texts.specs.declared.call.Call.{Call}
use Rattle.fsd_texts.specs.Script.{asks_begin, asks_keep, asks_move, asks_piece, asks_put, call_with_field}

module _ {A : Type 0} (f : A → List ℕ) where
  pub other_put : (xs : List A) → (length xs ≡ 2 → ⊥) → (length xs ≡ 3 → ⊥) → Err WordCount ≡ asks_put (map f xs)
  other_put [] two three = refl
  other_put (a ∷ []) two three = refl
  other_put (a ∷ b ∷ []) two three = absurd (two refl)
  other_put (a ∷ b ∷ c ∷ []) two three = absurd (three refl)
  other_put (a ∷ b ∷ c ∷ d ∷ xs) two three = refl

  pub other_keep : (xs : List A) → (length xs ≡ 2 → ⊥) → Err WordCount ≡ asks_keep (map f xs)
  other_keep [] two = refl
  other_keep (a ∷ []) two = refl
  other_keep (a ∷ b ∷ []) two = absurd (two refl)
  other_keep (a ∷ b ∷ c ∷ xs) two = refl

  pub other_move : (xs : List A) → (length xs ≡ 2 → ⊥) → Err WordCount ≡ asks_move (map f xs)
  other_move [] two = refl
  other_move (a ∷ []) two = refl
  other_move (a ∷ b ∷ []) two = absurd (two refl)
  other_move (a ∷ b ∷ c ∷ xs) two = refl

  pub other_begin : (xs : List A) → (length xs ≡ 3 → ⊥) → Err WordCount ≡ asks_begin (map f xs)
  other_begin [] three = refl
  other_begin (a ∷ []) three = refl
  other_begin (a ∷ b ∷ []) three = refl
  other_begin (a ∷ b ∷ c ∷ []) three = absurd (three refl)
  other_begin (a ∷ b ∷ c ∷ d ∷ xs) three = refl

  pub other_piece : (xs : List A) → (length xs ≡ 2 → ⊥) → Err WordCount ≡ asks_piece (map f xs)
  other_piece [] two = refl
  other_piece (a ∷ []) two = refl
  other_piece (a ∷ b ∷ []) two = absurd (two refl)
  other_piece (a ∷ b ∷ c ∷ xs) two = refl

  pub other_call : {B : Type 0} (read : List ℕ → Result B Cause) (make : B → Call) (xs : List A) → (length xs ≡ 2 → ⊥) → Err WordCount ≡ call_with_field read make (map f xs)
  other_call read make [] two = refl
  other_call read make (a ∷ []) two = refl
  other_call read make (a ∷ b ∷ []) two = absurd (two refl)
  other_call read make (a ∷ b ∷ c ∷ xs) two = refl
