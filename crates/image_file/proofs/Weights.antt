-- The weighted sum of a sector's bytes.
use Rattle.std.proofs.Common.{◌≡◌, ℕ, zero, suc, ◌+◌, ◌*◌, ◌<◌, ◌≤◌, List, [], ◌∷◌, length, get_or, take, drop, refl, ap, ◌∙◌, arith}
use Rattle.std.proofs.Math.Nat.{mul-le-mul}
use Rattle.std.proofs.lemmas.List.{drop-drop, length-drop}
use Rattle.fsd_formats.specs.Slot.{weighted_sum}

pub weighted_sum-le : (place : ℕ) (bytes : List ℕ) → ((i : ℕ) → get_or bytes i 0 < 256) → place + length bytes ≤ 513 → weighted_sum place bytes ≤ 130560 * length bytes
weighted_sum-le place [] small short = omega arith
weighted_sum-le place (b ∷ bytes) small short =
    let near : place ≤ 512 = omega arith in
    let byte : b ≤ 255 = omega (arith, small 0) in
    omega (arith, mul-le-mul near byte, weighted_sum-le (place + 1) bytes (λ i. small (suc i)) (omega arith))

weighted_sum-split : (n place : ℕ) (bytes : List ℕ) → n ≤ length bytes → weighted_sum place bytes ≡ weighted_sum place (take n bytes) + weighted_sum (place + n) (drop n bytes)
weighted_sum-split zero place bytes le =
    let same : place ≡ place + 0 = omega arith in
    omega (arith, ap (λ (k : ℕ). weighted_sum k bytes) same)
weighted_sum-split (suc n) place [] le = absurd (omega (arith, le))
weighted_sum-split (suc n) place (b ∷ bytes) le =
    let one : place + 1 + n ≡ place + suc n = omega arith in
    let rest = weighted_sum-split n (place + 1) bytes (omega (arith, le)) in
    let last = ap (λ (k : ℕ). weighted_sum k (drop n bytes)) one in
    omega (arith, rest, last)

-- the sum of the rest, by its next n bytes
pub weighted_sum-part : (n from : ℕ) (bytes : List ℕ) → from + n ≤ length bytes
    → weighted_sum (from + 1) (drop from bytes) ≡ weighted_sum (from + 1) (take n (drop from bytes)) + weighted_sum (from + n + 1) (drop (from + n) bytes)
weighted_sum-part n from bytes le =
    let xs = drop from bytes in
    let split = weighted_sum-split n (from + 1) xs (omega (arith, length-drop from bytes, le)) in
    let next : from + 1 + n ≡ from + n + 1 = omega arith in
    let behind : weighted_sum (from + 1 + n) (drop n xs) ≡ weighted_sum (from + n + 1) (drop (from + n) bytes) =
    ap (λ (k : ℕ). weighted_sum k (drop n xs)) next ∙ ap (weighted_sum (from + n + 1)) (drop-drop n from bytes) in
    omega (arith, split, behind)

pub weighted_sum-past : (place n : ℕ) (bytes : List ℕ) → length bytes ≤ n → weighted_sum place (drop n bytes) ≡ 0
weighted_sum-past place zero [] le = refl
weighted_sum-past place zero (b ∷ bytes) le = absurd (omega (arith, le))
weighted_sum-past place (suc n) [] le = refl
weighted_sum-past place (suc n) (b ∷ bytes) le = weighted_sum-past place n bytes (omega (arith, le))
