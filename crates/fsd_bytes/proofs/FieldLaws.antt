-- Fields of bytes, by their places.
use Rattle.std.proofs.Common.{◌≡◌, ℕ, zero, suc, ◌+◌, ◌-◌, ◌<◌, List, [], ◌∷◌, take, drop, get_or, sym, ap, subst, ◌∙◌, arith}
use Rattle.std.specs.Prelude.{slice_range}
use Rattle.std.specs.Int.{w16, w32, from_be_bytes}
use Rattle.std.proofs.lemmas.List.{drop-drop, get_or-drop}
use Rattle.fsd_bytes.specs.Bytes.{u8_at, u16_at, u32_at}

-- each is a byte
abbrev pub AreSmall : List ℕ → Type 0
AreSmall bytes = (i : ℕ) → get_or bytes i 0 < 256

pub small_behind : (n : ℕ) (bytes : List ℕ) → AreSmall bytes → AreSmall (drop n bytes)
small_behind n bytes small i = let P : ℕ → Type 0 = λ x. x < 256 in subst P (sym (get_or-drop n bytes i 0)) (small (n + i))

small_front : (n : ℕ) (bytes : List ℕ) → AreSmall bytes → AreSmall (take n bytes)
small_front zero bytes small i = omega arith
small_front (suc n) [] small i = omega arith
small_front (suc n) (b ∷ bytes) small zero = small 0
small_front (suc n) (b ∷ bytes) small (suc i) = small_front n bytes (λ j. small (suc j)) i

pub small_range : (bytes : List ℕ) (a b : ℕ) → AreSmall bytes → AreSmall (slice_range bytes a b)
small_range bytes a b small = small_front (b - a) (drop a bytes) (small_behind a bytes small)

-- ---- a field behind a front, by its place

pub u8_there : (place : ℕ) (bytes : List ℕ) → u8_at 0 (drop place bytes) ≡ u8_at place bytes
u8_there place bytes = get_or-drop place bytes 0 0 ∙ ap (λ (n : ℕ). get_or bytes n 0) (let e : place + 0 ≡ place = omega arith in e)

pub u8_behind : (place k : ℕ) (bytes : List ℕ) → u8_at k (drop place bytes) ≡ u8_at (place + k) bytes
u8_behind place k bytes = get_or-drop place bytes k 0

pub u16_behind : (place k : ℕ) (bytes : List ℕ) → u16_at k (drop place bytes) ≡ u16_at (place + k) bytes
u16_behind place k bytes =
    ap (λ (n : ℕ). from_be_bytes w16 (take n (drop k (drop place bytes)))) (let e : k + 2 - k ≡ place + k + 2 - (place + k) = omega arith in e)
    ∙ ap (λ (x : List ℕ). from_be_bytes w16 (take (place + k + 2 - (place + k)) x)) (drop-drop k place bytes)

pub u32_behind : (place k : ℕ) (bytes : List ℕ) → u32_at k (drop place bytes) ≡ u32_at (place + k) bytes
u32_behind place k bytes =
    ap (λ (n : ℕ). from_be_bytes w32 (take n (drop k (drop place bytes)))) (let e : k + 4 - k ≡ place + k + 4 - (place + k) = omega arith in e)
    ∙ ap (λ (x : List ℕ). from_be_bytes w32 (take (place + k + 4 - (place + k)) x)) (drop-drop k place bytes)

pub u32_there : (place : ℕ) (bytes : List ℕ) → u32_at 0 (drop place bytes) ≡ u32_at place bytes
u32_there place bytes = u32_behind place 0 bytes ∙ ap (λ (n : ℕ). u32_at n bytes) (let e : place + 0 ≡ place = omega arith in e)
