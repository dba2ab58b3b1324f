-- Sectors as the bits of words.
use Rattle.std.specs.Prelude.{ℕ, ◌/◌, ◌%◌, Bool, not, List, slice_index, ◌==◌, ◌&&◌, nat_le, nat_lt, if◌then◌else◌}
use Rattle.std.specs.Int.{bit_at}

abbrev pub has_bit : ℕ → ℕ → Bool
has_bit word i = bit_at word i == 1

-- whether the bit of this number is set, 64 in each word
unfoldable pub is_set : List ℕ → ℕ → Bool
is_set words s = has_bit (slice_index words (s / 64)) (s % 64)

-- start..stop
abbrev pub in_range : ℕ → ℕ → ℕ → Bool
in_range start stop s = nat_le start s && nat_lt s stop

abbrev pub agrees : Bool → Bool → Bool
agrees wanted bit = if wanted then bit else not bit
