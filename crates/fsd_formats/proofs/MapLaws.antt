-- The bits of a saved map are read as they were written, and its head is read where it is spelled alone.
use Rattle.std.proofs.Common.{◌≡◌, ℕ, zero, suc, ◌+◌, ◌-◌, ◌*◌, ◌/◌, ◌%◌, ◌^◌, ◌<◌, ◌≤◌, Bool, true, false, cond, List, [], ◌∷◌, ◌++◌, length, map, drop, get_or, Some, None, refl, sym, ap, ◌∙◌, inl, inr, arith}
use Rattle.std.specs.Prelude.{◌==◌, if◌then◌else◌, codes}
use Rattle.std.specs.Int.{bit_at}
use Rattle.std.specs.List.{range_with_len}
use Rattle.std.proofs.lemmas.Bool.{cases_lt, cond-true}
use Rattle.std.proofs.lemmas.List.FromFn.{get_or-map-range_with_len, length-map-range_with_len}
use Rattle.std.proofs.lemmas.Nat.{from_be_bytes-to_be_bytes_2, from_be_bytes-to_be_bytes_4}
use Rattle.std.proofs.lemmas.Nat.Bits.{bit_at-suc, bit_at_lowest}
use Rattle.fsd_bytes.specs.Bytes.{same_bytes, u8_at, u16_at, u32_at}
use Rattle.fsd_bytes.proofs.SameLaws.{same_is, is_same, given_if}
use Rattle.fsd_formats.specs.declared.map_head.MapHead.{MapHead}
use Rattle.fsd_formats.specs.MapSector.{bit_bytes, bits_value, bits_of, has_bit_in, has_map_bit, map_head, map_sector, read_map_head}

-- ---- bits of a number

abbrev one_if : Bool → ℕ
one_if b = if b then 1 else 0

is_one : (b : Bool) → (one_if b == 1) ≡ b
is_one true = refl
is_one false = refl

small : (b : Bool) → one_if b < 2
small true = omega arith
small false = omega arith

pub value_small : (test : ℕ → Bool) (at n : ℕ) → bits_value test at n < 2 ^ n
value_small test at zero = omega arith
value_small test at (suc n) = let less = value_small test at n in let bit = small (test (at + n)) in omega (arith, less, bit)

last_bit : (x b : ℕ) → b < 2 → bit_at (2 * x + b) 0 ≡ b
last_bit x b lt = bit_at_lowest (2 * x + b) ∙ omega (arith, lt)

earlier_bit : (x b i : ℕ) → b < 2 → bit_at (2 * x + b) (suc i) ≡ bit_at x i
earlier_bit x b i lt = let half : (2 * x + b) / 2 ≡ x = omega (arith, lt) in bit_at-suc (2 * x + b) i ∙ ap (λ (y : ℕ). bit_at y i) half

bit_of_value : (test : ℕ → Bool) (at n i j : ℕ) → i + suc j ≡ n → bit_at (bits_value test at n) j ≡ one_if (test (at + i))
bit_of_value test at zero i j e = absurd (omega (arith, e))
bit_of_value test at (suc n) i zero e =
    let same : n ≡ i = omega (arith, e) in
    last_bit (bits_value test at n) (one_if (test (at + n))) (small (test (at + n))) ∙ ap (λ (k : ℕ). one_if (test (at + k))) same
bit_of_value test at (suc n) i (suc j) e =
    earlier_bit (bits_value test at n) (one_if (test (at + n))) j (small (test (at + n))) ∙ bit_of_value test at n i j (omega (arith, e))

-- ---- bits of bytes

pub bit_is_read : (test : ℕ → Bool) (at count n : ℕ) → n < 8 * count → has_bit_in (bits_of test at count) n ≡ test (at + n)
bit_is_read test at count n lt =
    let inside : n / 8 < count = omega (arith, lt) in
    let rest : n % 8 < 8 = omega arith in
    let there : at + 8 * (n / 8) + n % 8 ≡ at + n = omega arith in
    let left : n % 8 + suc (7 - n % 8) ≡ 8 = omega (arith, rest) in
    ap (λ (b : ℕ). bit_at b (7 - n % 8) == 1) (get_or-map-range_with_len (λ q. bits_value test (at + 8 * q) 8) 0 count (n / 8) (n / 8) 0 inside (omega arith))
    ∙ ap (λ (b : ℕ). b == 1) (bit_of_value test (at + 8 * (n / 8)) 8 (n % 8) (7 - n % 8) left)
    ∙ is_one (test (at + 8 * (n / 8) + n % 8)) ∙ ap test there

-- ---- the sector

pub map_bit_is_read : (h : MapHead) (test : ℕ → Bool) (at n : ℕ) → n < 8 * bit_bytes → has_map_bit (map_sector h test at) n ≡ test (at + n)
map_bit_is_read h test at n lt = bit_is_read test at bit_bytes n lt

pub map_sector_len : (h : MapHead) (test : ℕ → Bool) (at : ℕ) → length (map_sector h test at) ≡ 512
map_sector_len h test at = ap (λ (k : ℕ). 16 + k) (length-map-range_with_len (λ q. bits_value test (at + 8 * q) 8) 0 bit_bytes)

pub map_head_is_spelled : (bytes : List ℕ) (h : MapHead) → read_map_head bytes ≡ Some h → bytes ≡ map_head h ++ drop 16 bytes
map_head_is_spelled bytes h e =
    let read : MapHead = record { epoch = u32_at 4 bytes; index = u16_at 8 bytes; pages = u16_at 10 bytes; versions = u32_at 12 bytes } in
    let given = given_if (same_bytes (map_head read ++ drop 16 bytes) bytes) read h e in
    sym (same_is (map_head read ++ drop 16 bytes) bytes given.0) ∙ ap (λ (x : MapHead). map_head x ++ drop 16 bytes) given.1

-- its four numbers fit their fields
pub record FitsMapHead (h : MapHead) : Type 0 where
  pub epoch : h.epoch < 2 ^ 32
  pub index : h.index < 2 ^ 16
  pub pages : h.pages < 2 ^ 16
  pub versions : h.versions < 2 ^ 32

pub map_head_is_read : (h : MapHead) (rest : List ℕ) → FitsMapHead h → read_map_head (map_head h ++ rest) ≡ Some h
map_head_is_read h rest fits =
    let same : ◌≡◌ {A = MapHead} (record { epoch = u32_at 4 (map_head h ++ rest); index = u16_at 8 (map_head h ++ rest); pages = u16_at 10 (map_head h ++ rest); versions = u32_at 12 (map_head h ++ rest) }) h =
    λ i. record { epoch = from_be_bytes-to_be_bytes_4 h.epoch fits.epoch i; index = from_be_bytes-to_be_bytes_2 h.index fits.index i; pages = from_be_bytes-to_be_bytes_2 h.pages fits.pages i; versions = from_be_bytes-to_be_bytes_4 h.versions fits.versions i } in
    ap (λ (x : MapHead). cond (same_bytes (map_head x ++ rest) (map_head h ++ rest)) (Some x) None) same
    ∙ cond-true (same_bytes (map_head h ++ rest) (map_head h ++ rest)) (Some h) None (is_same (map_head h ++ rest))
