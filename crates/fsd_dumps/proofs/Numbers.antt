-- Numbers at the front of bytes.
use Rattle.std.proofs.Common.{◌≡◌, ◌⊎◌, inl, inr, ℕ, zero, suc, ◌^◌, ◌<◌, ◌≤◌, List, [], ◌∷◌, ◌++◌, length, drop, get_or, refl, ap, ◌∙◌, arith}
use Rattle.std.proofs.lemmas.Nat.{from_be_bytes-to_be_bytes_2, from_be_bytes-to_be_bytes_4, be_bytes_2, be_bytes_4}
use Rattle.fsd_bytes.specs.Bytes.{u16, u32}
use Rattle.fsd_bytes.proofs.FieldLaws.{AreSmall}
use Rattle.fsd_dumps.specs.Front.{number_16, number_32, greatest_32}

pub number_16_of : (n : ℕ) (rest : List ℕ) → n < 2 ^ 16 → number_16 (u16 n ++ rest) ≡ n
number_16_of n rest fits = from_be_bytes-to_be_bytes_2 n fits

pub number_32_of : (n : ℕ) (rest : List ℕ) → n < 2 ^ 32 → number_32 (u32 n ++ rest) ≡ n
number_32_of n rest fits = from_be_bytes-to_be_bytes_4 n fits

-- ---- what is read of bytes spells them

two : (a b : ℕ) (rest : List ℕ) → AreSmall (a ∷ b ∷ rest) → (i : ℕ) → get_or (a ∷ b ∷ []) i 0 < 256
two a b rest small zero = small 0
two a b rest small (suc zero) = small 1
two a b rest small (suc (suc i)) = omega arith

four : (a b c d : ℕ) (rest : List ℕ) → AreSmall (a ∷ b ∷ c ∷ d ∷ rest) → (i : ℕ) → get_or (a ∷ b ∷ c ∷ d ∷ []) i 0 < 256
four a b c d rest small zero = small 0
four a b c d rest small (suc zero) = small 1
four a b c d rest small (suc (suc zero)) = small 2
four a b c d rest small (suc (suc (suc zero))) = small 3
four a b c d rest small (suc (suc (suc (suc i)))) = omega arith

pub two_back : (bytes : List ℕ) → AreSmall bytes → 2 ≤ length bytes → u16 (number_16 bytes) ++ drop 2 bytes ≡ bytes
two_back [] small long = absurd (omega (arith, long))
two_back (a ∷ []) small long = absurd (omega (arith, long))
two_back (a ∷ b ∷ rest) small long = ap (λ (xs : List ℕ). xs ++ rest) (be_bytes_2 (a ∷ b ∷ []) (number_16 (a ∷ b ∷ rest)) refl (two a b rest small) refl)

pub four_back : (bytes : List ℕ) → AreSmall bytes → 4 ≤ length bytes → u32 (number_32 bytes) ++ drop 4 bytes ≡ bytes
four_back [] small long = absurd (omega (arith, long))
four_back (a ∷ []) small long = absurd (omega (arith, long))
four_back (a ∷ b ∷ []) small long = absurd (omega (arith, long))
four_back (a ∷ b ∷ c ∷ []) small long = absurd (omega (arith, long))
four_back (a ∷ b ∷ c ∷ d ∷ rest) small long = ap (λ (xs : List ℕ). xs ++ rest) (be_bytes_4 (a ∷ b ∷ c ∷ d ∷ []) (number_32 (a ∷ b ∷ c ∷ d ∷ rest)) refl (four a b c d rest small) refl)

-- ---- the number that some first bytes begin

-- a byte of the front is that of the whole, or lacks
pub cell_front : (front more text : List ℕ) (i d : ℕ) → front ++ more ≡ text → (get_or front i d ≡ get_or text i d) ⊎ (get_or front i d ≡ d)
cell_front [] more text i d e = inr refl
cell_front (x ∷ front) more text zero d e = inl (ap (λ (xs : List ℕ). get_or xs 0 d) e)
cell_front (x ∷ front) more text (suc i) d e =
    elim (cell_front front more (front ++ more) i d refl) [
      | inl same ↦ inl (same ∙ ap (λ (xs : List ℕ). get_or xs (suc i) d) e)
      | inr lacks ↦ inr lacks
    ]

least_cell : (front more text : List ℕ) (i : ℕ) → front ++ more ≡ text → get_or front i 0 ≤ get_or text i 0
least_cell front more text i e = elim (cell_front front more text i 0 e) [ inl same ↦ omega (arith, same) | inr lacks ↦ omega (arith, lacks) ]

most_cell : (front more text : List ℕ) (i : ℕ) → front ++ more ≡ text → get_or text i 255 < 256 → get_or text i 255 ≤ get_or front i 255
most_cell front more text i e small = elim (cell_front front more text i 255 e) [ inl same ↦ omega (arith, same) | inr lacks ↦ omega (arith, lacks) ]

pub least_16 : (front more text : List ℕ) → front ++ more ≡ text → number_16 front ≤ number_16 text
least_16 front more text e = omega (arith, least_cell front more text 0 e, least_cell front more text 1 e)

pub least_32 : (front more text : List ℕ) → front ++ more ≡ text → number_32 front ≤ number_32 text
least_32 front more text e =
    omega (arith, least_cell front more text 0 e, least_cell front more text 1 e, least_cell front more text 2 e, least_cell front more text 3 e)

pub most_32 : (front more : List ℕ) (n : ℕ) (rest : List ℕ) → n < 2 ^ 32 → front ++ more ≡ u32 n ++ rest → n ≤ greatest_32 front
most_32 front more n rest fits e =
    let whole = number_32_of n rest fits in
    let a = most_cell front more (u32 n ++ rest) 0 e (omega arith) in
    let b = most_cell front more (u32 n ++ rest) 1 e (omega arith) in
    let c = most_cell front more (u32 n ++ rest) 2 e (omega arith) in
    let d = most_cell front more (u32 n ++ rest) 3 e (omega arith) in
    omega (arith, whole, a, b, c, d)
