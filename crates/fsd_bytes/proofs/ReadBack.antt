-- A field that is written is read back, and what stands elsewhere stays.
use Rattle.std.proofs.Common.{◌≡◌, ◌⊎◌, inl, inr, ℕ, zero, suc, ◌+◌, ◌-◌, ◌^◌, ◌<◌, ◌≤◌, List, ◌++◌, length, take, drop, get_or, refl, sym, ap, ◌∙◌, arith, append_assoc, length-append}
use Rattle.std.specs.Prelude.{slice_range}
use Rattle.std.specs.Int.{w16, w32, from_be_bytes}
use Rattle.std.proofs.lemmas.Nat.{from_be_bytes-to_be_bytes_2, from_be_bytes-to_be_bytes_4}
use Rattle.std.proofs.lemmas.List.{length-drop, length-take-le, drop_at, drop-drop, drop-take, get_or-take, take_at, take-append-le, take-append-drop}
use Rattle.fsd_bytes.specs.Bytes.{u8, u16, u32, u8_at, u16_at, u32_at, with_bytes}
use Rattle.fsd_bytes.proofs.FieldLaws.{u8_there}

module _ (b bytes : List ℕ) (place : ℕ) where
  front : place + length bytes ≤ length b → length (take place b) ≡ place
  front room = length-take-le place b (omega arith)

  pub written_length : place + length bytes ≤ length b → length (with_bytes place bytes b) ≡ length b
  written_length room =
      length-append (take place b) (bytes ++ drop (place + length bytes) b)
      ∙ omega (arith, front room, length-append bytes (drop (place + length bytes) b), length-drop (place + length bytes) b)

  -- the bytes that were written
  pub written_there : (k : ℕ) → length bytes ≡ k → place + length bytes ≤ length b → slice_range (with_bytes place bytes b) place (place + k) ≡ bytes
  written_there k long room =
      ap (λ (xs : List ℕ). take (place + k - place) xs) (drop_at (take place b) (bytes ++ drop (place + length bytes) b) place (front room))
      ∙ take_at bytes (drop (place + length bytes) b) (place + k - place) (omega (arith, long))

  -- what stands behind them
  behind : (i : ℕ) → place + length bytes ≤ i → place + length bytes ≤ length b → drop i (with_bytes place bytes b) ≡ drop i b
  behind i past room =
      let end : ℕ = place + length bytes in
      let at : end + (i - end) ≡ i = omega (arith, past) in
      let long : length (take place b ++ bytes) ≡ end = length-append (take place b) bytes ∙ omega (arith, front room) in
      ap (λ (n : ℕ). drop n (with_bytes place bytes b)) (sym at)
      ∙ sym (drop-drop (i - end) end (with_bytes place bytes b))
      ∙ ap (λ (xs : List ℕ). drop (i - end) (drop end xs)) (sym (append_assoc (take place b) bytes (drop end b)))
      ∙ ap (drop (i - end)) (drop_at (take place b ++ bytes) (drop end b) end long)
      ∙ drop-drop (i - end) end b
      ∙ ap (λ (n : ℕ). drop n b) at

  -- what stands in front of them
  in_front : (j : ℕ) → j ≤ place → place + length bytes ≤ length b → take j (with_bytes place bytes b) ≡ take j b
  in_front j before room =
      take-append-le j (take place b) (bytes ++ drop (place + length bytes) b) (omega (arith, front room))
      ∙ sym (take-append-le j (take place b) (drop place b) (omega (arith, front room)))
      ∙ ap (take j) (take-append-drop place b)

  front_stays : (i j n : ℕ) → n ≡ j - i → j ≤ place → place + length bytes ≤ length b → take n (drop i (with_bytes place bytes b)) ≡ take n (drop i b)
  front_stays i j zero e before room = refl
  front_stays i j (suc n) e before room =
      sym (drop-take i (suc n) (with_bytes place bytes b)) ∙ ap (drop i) (in_front (i + suc n) (omega (arith, e, before)) room) ∙ drop-take i (suc n) b

  pub range_stays : (i j : ℕ) → place + length bytes ≤ length b → (j ≤ place) ⊎ (place + length bytes ≤ i) → slice_range (with_bytes place bytes b) i j ≡ slice_range b i j
  range_stays i j room apart = elim apart [
    | inl before ↦ front_stays i j (j - i) refl before room
    | inr past ↦ ap (take (j - i)) (behind i past room)
  ]

  pub byte_stays : (i : ℕ) → place + length bytes ≤ length b → (i < place) ⊎ (place + length bytes ≤ i) → u8_at i (with_bytes place bytes b) ≡ u8_at i b
  byte_stays i room apart = elim apart [
    | inl before ↦ sym (get_or-take place (with_bytes place bytes b) i 0 before) ∙ ap (λ (xs : List ℕ). get_or xs i 0) (in_front place (omega arith) room) ∙ get_or-take place b i 0 before
    | inr past ↦ sym (u8_there i (with_bytes place bytes b)) ∙ ap (u8_at 0) (behind i past room) ∙ u8_there i b
  ]

pub byte_read_back : (b : List ℕ) (place n : ℕ) → place < length b → u8_at place (with_bytes place (u8 n) b) ≡ n
byte_read_back b place n room =
    sym (u8_there place (with_bytes place (u8 n) b)) ∙ ap (u8_at 0) (drop_at (take place b) (u8 n ++ drop (place + 1) b) place (length-take-le place b (omega arith)))

pub two_read_back : (b : List ℕ) (place n : ℕ) → place + 2 ≤ length b → n < 2 ^ 16 → u16_at place (with_bytes place (u16 n) b) ≡ n
two_read_back b place n room small = ap (from_be_bytes w16) (written_there b (u16 n) place 2 refl room) ∙ from_be_bytes-to_be_bytes_2 n small

pub four_read_back : (b : List ℕ) (place n : ℕ) → place + 4 ≤ length b → n < 2 ^ 32 → u32_at place (with_bytes place (u32 n) b) ≡ n
four_read_back b place n room small = ap (from_be_bytes w32) (written_there b (u32 n) place 4 refl room) ∙ from_be_bytes-to_be_bytes_4 n small
