-- A sector of the saved map: a bit for each of so many sectors of the volume, set where that is free, behind a head.
use Rattle.std.specs.Prelude.{ℕ, zero, suc, ◌+◌, ◌-◌, ◌*◌, ◌/◌, ◌%◌, Bool, ◌==◌, List, ◌++◌, map, drop, Option, Some, None, if◌then◌else◌, codes}
use Rattle.std.specs.Int.{bit_at}
use Rattle.std.specs.List.{range_with_len}
use Rattle.fsd_bytes.specs.Bytes.{u16, u32, u8_at, u16_at, u32_at, same_bytes}
use Rattle.fsd_formats.specs.declared.map_head.MapHead.{MapHead}

-- so many bytes of bits stand behind the head
abbrev pub bit_bytes : ℕ
bit_bytes = 496

abbrev pub map_head : MapHead → List ℕ
map_head h = codes "CMAP" ++ u32 h.epoch ++ u16 h.index ++ u16 h.pages ++ u32 h.versions

-- ---- bits

-- so many bits from a place on as a number, the first of them the greatest
abbrev pub bits_value : (ℕ → Bool) → (at count : ℕ) → ℕ
bits_value test at zero = 0
bits_value test at (suc n) = 2 * bits_value test at n + (if test (at + n) then 1 else 0)

-- eight of them in each of so many bytes
abbrev pub bits_of : (ℕ → Bool) → (at count : ℕ) → List ℕ
bits_of test at count = map (λ q. bits_value test (at + 8 * q) 8) (range_with_len 0 count)

-- whether the bit of this number is set in bytes
abbrev pub has_bit_in : List ℕ → ℕ → Bool
has_bit_in bytes n = bit_at (u8_at (n / 8) bytes) (7 - n % 8) == 1

-- ---- the sector

-- its bits are those from a place on
abbrev pub map_sector : MapHead → (ℕ → Bool) → (at : ℕ) → List ℕ
map_sector h test at = map_head h ++ bits_of test at bit_bytes

-- the head of a map's sector
abbrev pub read_map_head : List ℕ → Option MapHead
read_map_head bytes =
    let h : MapHead = record { epoch = u32_at 4 bytes; index = u16_at 8 bytes; pages = u16_at 10 bytes; versions = u32_at 12 bytes } in
    if same_bytes (map_head h ++ drop 16 bytes) bytes then Some h else None

-- whether the bit of this number is set in a map's sector
abbrev pub has_map_bit : List ℕ → ℕ → Bool
has_map_bit bytes n = has_bit_in (drop 16 bytes) n
