-- The bits of a map's sector as the code reads them.
use Rattle.std.proofs.Common.{◌≡◌, ℕ, ◌+◌, ◌-◌, ◌/◌, ◌%◌, ◌^◌, ◌<◌, ◌≤◌, Bool, true, false, not, List, get_or, drop, bit_and, sym, ap, ◌∙◌, arith}
use Rattle.std.specs.Prelude.{◌==◌, if◌then◌else◌}
use Rattle.std.specs.Int.{bit_at}
use Rattle.std.proofs.lemmas.List.{get_or-drop}
use Rattle.std.proofs.lemmas.Nat.Bits.{bit_at-zero, bit_at_ones, shr_and_one}
use Rattle.fsd_formats.specs.MapSector.{has_map_bit}

module _ (b : List ℕ) (n : ℕ) where
  -- the byte of a bit
  byte_is : get_or b (16 + n / 8) 0 ≡ get_or (drop 16 b) (n / 8) 0
  byte_is = sym (get_or-drop 16 b (n / 8) 0)

  pub bit_is : (bit_and (get_or b (16 + n / 8) 0 / 2 ^ (7 - n % 8)) 1 == 1) ≡ has_map_bit b n
  bit_is = ap (λ (y : ℕ). y == 1) (shr_and_one (get_or b (16 + n / 8) 0) (7 - n % 8)) ∙ ap (λ (y : ℕ). bit_at y (7 - n % 8) == 1) byte_is

  none_wanted : (wanted : Bool) (j : ℕ) → j < 8 → (bit_at (if wanted then 0 else 255) j == 1) ≡ not wanted
  none_wanted true j less = ap (λ (y : ℕ). y == 1) (bit_at-zero j)
  none_wanted false j less = ap (λ (y : ℕ). y == 1) (bit_at_ones 8 j less)

  -- the eight of a byte that has none of those wanted
  pub others_in_byte : (wanted : Bool) → n % 8 ≡ 0 → get_or b (16 + n / 8) 0 ≡ (if wanted then 0 else 255) → (s : ℕ) → n ≤ s → s < n + 8 → has_map_bit b s ≡ not wanted
  others_in_byte wanted whole none s from to =
      let same : s / 8 ≡ n / 8 = omega (arith, whole, from, to) in
      let byte : get_or (drop 16 b) (s / 8) 0 ≡ (if wanted then 0 else 255) = ap (λ (k : ℕ). get_or (drop 16 b) k 0) same ∙ sym byte_is ∙ none in
      let small : 7 - s % 8 < 8 = omega arith in
      ap (λ (y : ℕ). bit_at y (7 - s % 8) == 1) byte ∙ none_wanted wanted (7 - s % 8) small
