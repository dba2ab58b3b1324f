-- The line that bytes begin with, by the place of the first newline.
use Rattle.std.proofs.Common.{◌≡◌, Bool, true, false, cond, ℕ, zero, suc, ◌+◌, ◌<◌, ◌≤◌, List, [], ◌∷◌, length, take, drop, get_or, length-take-le, Some, None, Ok, Err, refl, arith}
use Rattle.std.specs.Prelude.{nat_lt, ◌==◌, min, position}
use Rattle.std.proofs.lemmas.Bool.{cond-true, cond-false, ltb-false}
use Rattle.std.proofs.lemmas.List.{get_or-take}
use Rattle.std.proofs.lemmas.List.Quantifiers.{position-Some}
use Rattle.std.proofs.lemmas.List.Sums.{fails_before_first}
use Rattle.fsd_texts.specs.declared.bad_line.Cause.TheVariants.{LongLine, NoNewline}
use Rattle.fsd_texts.specs.Script.{line_at}

abbrev is_newline : ℕ → Bool
is_newline b = b == 10

line_found : (room k : ℕ) (bytes : List ℕ) → k ≤ room → k < length bytes → is_newline (get_or bytes k 0) ≡ true → ((j : ℕ) → j < k → is_newline (get_or bytes j 0) ≡ false)
    → line_at room bytes ≡ Ok (take k bytes, drop (k + 1) bytes)
line_found room k [] within inside here before = absurd (omega arith)
line_found zero zero (b ∷ bytes) within inside here before = cond-true (b == 10) _ _ here
line_found (suc room) zero (b ∷ bytes) within inside here before = cond-true (b == 10) _ _ here
line_found zero (suc k) (b ∷ bytes) within inside here before = absurd (omega arith)
line_found (suc room) (suc k) (b ∷ bytes) within inside here before =
    let none : is_newline b ≡ false = before 0 (omega arith) in
    let rest : line_at room bytes ≡ Ok (take k bytes, drop (k + 1) bytes) = line_found room k bytes (omega arith) (omega arith) here (λ j below. before (suc j) (omega arith)) in
    let e : suc k + 1 ≡ suc (k + 1) = omega arith in
    rw (none, rest, e) refl

too_long : (room : ℕ) (bytes : List ℕ) → room < length bytes → ((j : ℕ) → j ≤ room → is_newline (get_or bytes j 0) ≡ false) → line_at room bytes ≡ Err LongLine
too_long room [] long lacks = absurd (omega arith)
too_long zero (b ∷ bytes) long lacks = cond-false (b == 10) _ _ (lacks 0 (omega arith))
too_long (suc room) (b ∷ bytes) long lacks =
    let none : is_newline b ≡ false = lacks 0 (omega arith) in
    let rest : line_at room bytes ≡ Err LongLine = too_long room bytes (omega arith) (λ j within. lacks (suc j) (omega arith)) in
    rw (none, rest) refl

not_ended : (room : ℕ) (bytes : List ℕ) → length bytes ≤ room → ((j : ℕ) → j < length bytes → is_newline (get_or bytes j 0) ≡ false) → line_at room bytes ≡ Err NoNewline
not_ended zero [] short lacks = refl
not_ended (suc room) [] short lacks = refl
not_ended zero (b ∷ bytes) short lacks = absurd (omega arith)
not_ended (suc room) (b ∷ bytes) short lacks =
    let none : is_newline b ≡ false = lacks 0 (omega arith) in
    let rest : line_at room bytes ≡ Err NoNewline = not_ended room bytes (omega arith) (λ j within. lacks (suc j) (omega arith)) in
    rw (none, rest) refl

no_some : (b : Bool) (k : ℕ) → cond b (Some k) None ≡ None → b ≡ false
no_some true k none = absurd cc
no_some false k none = refl

beyond : (k n : ℕ) → cond (nat_lt k n) (Some k) None ≡ None → n ≤ k
beyond k n none = ltb-false k n (no_some (nat_lt k n) k none)

-- ---- by the place of the first newline among so many bytes

module _ (room n : ℕ) (bytes : List ℕ) (n_is : n ≡ min (length bytes) (room + 1)) where
  fronts : length (take n bytes) ≡ n
  fronts = length-take-le n bytes (omega arith)

  pub line_place : (k : ℕ) → position is_newline (take n bytes) ≡ Some k → line_at room bytes ≡ Ok (take k bytes, drop (length (take k bytes) + 1) bytes)
  line_place k at =
      let found = position-Some is_newline (take n bytes) k 0 at in
      let below : k < n = omega (arith, found.0, fronts) in
      let inside : k ≤ length bytes = omega arith in
      rw (length-take-le k bytes inside) (line_found room k bytes (omega arith) (omega arith) (rw (← get_or-take n bytes k 0 below) found.1) (λ j less. rw (← get_or-take n bytes j 0 (omega arith)) (found.2 j less)))

  lacking : position is_newline (take n bytes) ≡ None → (j : ℕ) → j < n → is_newline (get_or bytes j 0) ≡ false
  lacking none j below = rw (← get_or-take n bytes j 0 below) (fails_before_first is_newline (take n bytes) j 0 (omega (arith, fronts, beyond _ _ none)))

  pub long_line : position is_newline (take n bytes) ≡ None → room < length bytes → line_at room bytes ≡ Err LongLine
  long_line none long = too_long room bytes long (λ j within. lacking none j (omega arith))

  pub no_newline : position is_newline (take n bytes) ≡ None → length bytes ≤ room → line_at room bytes ≡ Err NoNewline
  no_newline none short = not_ended room bytes short (λ j within. lacking none j (omega arith))
