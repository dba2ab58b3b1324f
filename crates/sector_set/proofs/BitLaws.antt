-- Bits of words: masks, ranges of bits, and the first of a kind.
use Rattle.std.proofs.Common.{◌≡◌, ◌≢◌, ℕ, zero, suc, ◌+◌, ◌-◌, ◌*◌, ◌/◌, ◌%◌, ◌^◌, ◌<◌, ◌≤◌, min, max, Bool, true, false, not, ◌&&◌, ◌||◌, List, length, get_or, set, take, bit_and, bit_or, w64, refl, sym, ap, ◌∙◌, inl, inr, arith}
use Rattle.std.proofs.Math.Bool.{and_comm}
use Rattle.std.specs.Prelude.{nat_le, nat_lt, ◌==◌}
use Rattle.std.specs.Int.{bit_at, bit_not, trailing_zeros}
use Rattle.std.proofs.lemmas.Bool.{and_parts, cases_Bool, cases_lt, eqb-true, eqb-false, leb-true, leb-false, ltb-true, ltb-false, lt-ltb, le-leb, le-ltb}
use Rattle.std.proofs.lemmas.Nat.Bits.{bit_at_and, bit_at_or, bit_at_not, bit_at-lt, bit_at_mask_inside, bit_at_mask_below, bit_at_ones, bit_at_ones_above, ones_shl, ones_shr, bit_at-trailing_zeros, bit_at-zero}
use Rattle.std.proofs.lemmas.List.{get_or-set_same, get_or-set_other, get_or-take}
use Rattle.sector_set.specs.Bits.{has_bit, is_set, in_range, agrees}

-- ---- one bit

of_min : (x y : ℕ) → x < 2 → y < 2 → (min x y == 1) ≡ ((x == 1) && (y == 1))
of_min zero zero h k = refl
of_min zero (suc zero) h k = refl
of_min (suc zero) zero h k = refl
of_min (suc zero) (suc zero) h k = refl
of_min (suc (suc x)) y h k = absurd (omega arith)
of_min zero (suc (suc y)) h k = absurd (omega arith)
of_min (suc zero) (suc (suc y)) h k = absurd (omega arith)

of_max : (x y : ℕ) → x < 2 → y < 2 → (max x y == 1) ≡ ((x == 1) || (y == 1))
of_max zero zero h k = refl
of_max zero (suc zero) h k = refl
of_max (suc zero) zero h k = refl
of_max (suc zero) (suc zero) h k = refl
of_max (suc (suc x)) y h k = absurd (omega arith)
of_max zero (suc (suc y)) h k = absurd (omega arith)
of_max (suc zero) (suc (suc y)) h k = absurd (omega arith)

of_not : (x : ℕ) → x < 2 → ((1 - x) == 1) ≡ not (x == 1)
of_not zero h = refl
of_not (suc zero) h = refl
of_not (suc (suc x)) h = absurd (omega arith)

pub has_and : (a b i : ℕ) → has_bit (bit_and a b) i ≡ (has_bit a i && has_bit b i)
has_and a b i = ap (λ (n : ℕ). n == 1) (bit_at_and a b i) ∙ of_min (bit_at a i) (bit_at b i) (bit_at-lt a i) (bit_at-lt b i)

pub has_or : (a b i : ℕ) → has_bit (bit_or a b) i ≡ (has_bit a i || has_bit b i)
has_or a b i = ap (λ (n : ℕ). n == 1) (bit_at_or a b i) ∙ of_max (bit_at a i) (bit_at b i) (bit_at-lt a i) (bit_at-lt b i)

pub has_not : (a i : ℕ) → a < 2 ^ 64 → i < 64 → has_bit (bit_not w64 a) i ≡ not (has_bit a i)
has_not a i h k = ap (λ (n : ℕ). n == 1) (bit_at_not w64 a i h k) ∙ of_not (bit_at a i) (bit_at-lt a i)

-- ---- masks

high : (lo i : ℕ) → i < 64 → has_bit (2 ^ 64 - 2 ^ lo) i ≡ nat_le lo i
high lo i h =
    elim (cases_Bool (nat_le lo i)) [
      | inl e ↦ ap (λ (n : ℕ). n == 1) (bit_at_mask_inside lo 64 i (leb-true lo i e) h) ∙ sym e
      | inr e ↦ ap (λ (n : ℕ). n == 1) (bit_at_mask_below lo 64 i (leb-false lo i e)) ∙ sym e
    ]

low : (hi i : ℕ) → has_bit (2 ^ hi - 1) i ≡ nat_lt i hi
low hi i =
    elim (cases_Bool (nat_lt i hi)) [
      | inl e ↦ ap (λ (n : ℕ). n == 1) (bit_at_ones hi i (ltb-true i hi e)) ∙ sym e
      | inr e ↦ ap (λ (n : ℕ). n == 1) (bit_at_ones_above hi i (ltb-false i hi e)) ∙ sym e
    ]

pub high_mask : (lo i : ℕ) → lo ≤ 64 → i < 64 → has_bit ((2 ^ 64 - 1) * 2 ^ lo % 2 ^ 64) i ≡ nat_le lo i
high_mask lo i h k = ap (λ (n : ℕ). has_bit n i) (ones_shl 64 lo h) ∙ high lo i k

low_mask : (hi i : ℕ) → hi ≤ 64 → has_bit ((2 ^ 64 - 1) / 2 ^ (64 - hi)) i ≡ nat_lt i hi
low_mask hi i h =
    let left : 64 - (64 - hi) ≡ hi = omega arith in
    ap (λ (n : ℕ). has_bit n i) (ones_shr 64 (64 - hi) (omega arith) ∙ ap (λ (n : ℕ). 2 ^ n - 1) left) ∙ low hi i

pub mask_is : (lo hi i : ℕ) → lo < 64 → hi ≤ 64 → i < 64 → has_bit (bit_and ((2 ^ 64 - 1) * 2 ^ lo % 2 ^ 64) ((2 ^ 64 - 1) / 2 ^ (64 - hi))) i ≡ in_range lo hi i
mask_is lo hi i h k j =
    has_and ((2 ^ 64 - 1) * 2 ^ lo % 2 ^ 64) ((2 ^ 64 - 1) / 2 ^ (64 - hi)) i
    ∙ ap (λ (b : Bool). b && has_bit ((2 ^ 64 - 1) / 2 ^ (64 - hi)) i) (high_mask lo i (omega arith) j)
    ∙ ap (λ (b : Bool). nat_le lo i && b) (low_mask hi i k)

same_le : (a b c d : ℕ) → (a ≤ b → c ≤ d) → (c ≤ d → a ≤ b) → nat_le a b ≡ nat_le c d
same_le a b c d f g =
    elim (cases_Bool (nat_le a b)) [
      | inl e ↦ e ∙ sym (le-leb c d (f (leb-true a b e)))
      | inr e ↦ elim (cases_Bool (nat_le c d)) [
        | inl k ↦ absurd (let lt : b < a = leb-false a b e in let le : a ≤ b = g (leb-true c d k) in omega arith)
        | inr k ↦ e ∙ sym k
      ]
    ]

same_lt : (a b c d : ℕ) → (a < b → c < d) → (c < d → a < b) → nat_lt a b ≡ nat_lt c d
same_lt a b c d f g =
    elim (cases_Bool (nat_lt a b)) [
      | inl e ↦ e ∙ sym (lt-ltb c d (f (ltb-true a b e)))
      | inr e ↦ elim (cases_Bool (nat_lt c d)) [
        | inl k ↦ absurd (let le : b ≤ a = ltb-false a b e in let lt : a < b = g (ltb-true c d k) in omega arith)
        | inr k ↦ e ∙ sym k
      ]
    ]

-- ---- ranges of bits

set_here : (words : List ℕ) (w v s : ℕ) → w < length words → s / 64 ≡ w → is_set (set words w v) s ≡ has_bit v (s % 64)
unfolding is_set
set_here words w v s h e =
    ap (λ (n : ℕ). has_bit (get_or (set words w v) n 0) (s % 64)) e
    ∙ ap (λ (n : ℕ). has_bit n (s % 64)) (get_or-set_same words w v 0 h)

set_there : (words : List ℕ) (w v s : ℕ) → s / 64 ≢ w → is_set (set words w v) s ≡ is_set words s
unfolding is_set
set_there words w v s ne = ap (λ (n : ℕ). has_bit n (s % 64)) (get_or-set_other words w (s / 64) v 0 ne)

pub is_bit : (words : List ℕ) (w s : ℕ) → s / 64 ≡ w → is_set words s ≡ has_bit (get_or words w 0) (s % 64)
unfolding is_set
is_bit words w s e = ap (λ (n : ℕ). has_bit (get_or words n 0) (s % 64)) e

-- the bits of a list's first words are the list's
pub set_in_first : (words : List ℕ) (n s : ℕ) → s < 64 * n → is_set (take n words) s ≡ is_set words s
unfolding is_set
set_in_first words n s h = ap (λ (w : ℕ). has_bit w (s % 64)) (get_or-take n words (s / 64) 0 (omega arith))

or_more : (o r : Bool) → ((o || (r && false)) || r) ≡ (o || (r && true))
or_more true true = refl
or_more true false = refl
or_more false true = refl
or_more false false = refl

and_more : (o r : Bool) → ((o && not (r && false)) && not r) ≡ (o && not (r && true))
and_more true true = refl
and_more true false = refl
and_more false true = refl
and_more false false = refl

-- the bits of the range as far as a word
pub insert_step : (words old : List ℕ) (start stop w p s : ℕ) → w < length words → ((i : ℕ) → i < 64 → has_bit p i ≡ in_range start stop (64 * w + i))
    → is_set words s ≡ (is_set old s || (in_range start stop s && nat_lt s (64 * w)))
    → is_set (set words w (bit_or (get_or words w 0) p)) s ≡ (is_set old s || (in_range start stop s && nat_lt s (64 * (w + 1))))
insert_step words old start stop w p s inside part so_far =
    elim (cases_Bool (s / 64 == w)) [
      | inl e ↦ (let at : s / 64 ≡ w = eqb-true (s / 64) w e in
          let place : 64 * w + s % 64 ≡ s = omega arith in
          let now : has_bit p (s % 64) ≡ in_range start stop s = part (s % 64) (omega arith) ∙ ap (in_range start stop) place in
          let was : has_bit (get_or words w 0) (s % 64) ≡ (is_set old s || (in_range start stop s && false)) =
          sym (is_bit words w s at) ∙ so_far ∙ ap (λ (b : Bool). is_set old s || (in_range start stop s && b)) (le-ltb s (64 * w) (omega arith)) in
          set_here words w (bit_or (get_or words w 0) p) s inside at
          ∙ has_or (get_or words w 0) p (s % 64)
          ∙ ap (λ (b : Bool). b || has_bit p (s % 64)) was
          ∙ ap (λ (b : Bool). (is_set old s || (in_range start stop s && false)) || b) now
          ∙ or_more (is_set old s) (in_range start stop s)
          ∙ ap (λ (b : Bool). is_set old s || (in_range start stop s && b)) (sym (lt-ltb s (64 * (w + 1)) (omega arith))))
      | inr e ↦ (let ne : s / 64 ≢ w = eqb-false (s / 64) w e in
          set_there words w (bit_or (get_or words w 0) p) s ne
          ∙ so_far
          ∙ ap (λ (b : Bool). is_set old s || (in_range start stop s && b)) (same_lt s (64 * w) s (64 * (w + 1)) (λ h. omega arith) (λ h. omega arith)))
    ]

pub remove_step : (words old : List ℕ) (start stop w p s : ℕ) → w < length words → p < 2 ^ 64 → ((i : ℕ) → i < 64 → has_bit p i ≡ in_range start stop (64 * w + i))
    → is_set words s ≡ (is_set old s && not (in_range start stop s && nat_lt s (64 * w)))
    → is_set (set words w (bit_and (get_or words w 0) (bit_not w64 p))) s ≡ (is_set old s && not (in_range start stop s && nat_lt s (64 * (w + 1))))
remove_step words old start stop w p s inside fits part so_far =
    elim (cases_Bool (s / 64 == w)) [
      | inl e ↦ (let at : s / 64 ≡ w = eqb-true (s / 64) w e in
          let place : 64 * w + s % 64 ≡ s = omega arith in
          let now : has_bit (bit_not w64 p) (s % 64) ≡ not (in_range start stop s) = has_not p (s % 64) fits (omega arith) ∙ ap not (part (s % 64) (omega arith) ∙ ap (in_range start stop) place) in
          let was : has_bit (get_or words w 0) (s % 64) ≡ (is_set old s && not (in_range start stop s && false)) =
          sym (is_bit words w s at) ∙ so_far ∙ ap (λ (b : Bool). is_set old s && not (in_range start stop s && b)) (le-ltb s (64 * w) (omega arith)) in
          set_here words w (bit_and (get_or words w 0) (bit_not w64 p)) s inside at
          ∙ has_and (get_or words w 0) (bit_not w64 p) (s % 64)
          ∙ ap (λ (b : Bool). b && has_bit (bit_not w64 p) (s % 64)) was
          ∙ ap (λ (b : Bool). (is_set old s && not (in_range start stop s && false)) && b) now
          ∙ and_more (is_set old s) (in_range start stop s)
          ∙ ap (λ (b : Bool). is_set old s && not (in_range start stop s && b)) (sym (lt-ltb s (64 * (w + 1)) (omega arith))))
      | inr e ↦ (let ne : s / 64 ≢ w = eqb-false (s / 64) w e in
          set_there words w (bit_and (get_or words w 0) (bit_not w64 p)) s ne
          ∙ so_far
          ∙ ap (λ (b : Bool). is_set old s && not (in_range start stop s && b)) (same_lt s (64 * w) s (64 * (w + 1)) (λ h. omega arith) (λ h. omega arith)))
    ]

-- ---- the first bit of a kind

agrees_true : (wanted b : Bool) → agrees wanted b ≡ true → b ≡ wanted
agrees_true true b e = e
agrees_true false true e = absurd cc
agrees_true false false e = refl

agrees_false : (wanted b : Bool) → agrees wanted b ≡ false → b ≡ not wanted
agrees_false true b e = e
agrees_false false true e = refl
agrees_false false false e = absurd cc

-- a word that shows the bits of one kind, from a place on
abbrev pub Shows : List ℕ → ℕ → Bool → ℕ → ℕ → Type 0
Shows words at wanted w word = (i : ℕ) → i < 64 → has_bit word i ≡ (nat_le at (64 * w + i) && agrees wanted (has_bit (get_or words w 0) i))

pub shows_first : (words : List ℕ) (at : ℕ) (wanted : Bool) (face : ℕ) → ((i : ℕ) → i < 64 → has_bit face i ≡ agrees wanted (has_bit (get_or words (at / 64) 0) i))
    → Shows words at wanted (at / 64) (bit_and face ((2 ^ 64 - 1) * 2 ^ (at % 64) % 2 ^ 64))
shows_first words at wanted face same i h =
    has_and face ((2 ^ 64 - 1) * 2 ^ (at % 64) % 2 ^ 64) i
    ∙ ap (λ (b : Bool). has_bit face i && b) (high_mask (at % 64) i (omega arith) h ∙ same_le (at % 64) i at (64 * (at / 64) + i) (λ e. omega arith) (λ e. omega arith))
    ∙ and_comm (has_bit face i) (nat_le at (64 * (at / 64) + i))
    ∙ ap (λ (b : Bool). nat_le at (64 * (at / 64) + i) && b) (same i h)

pub shows_next : (words : List ℕ) (at : ℕ) (wanted : Bool) (w face : ℕ) → at ≤ 64 * w → ((i : ℕ) → i < 64 → has_bit face i ≡ agrees wanted (has_bit (get_or words w 0) i)) → Shows words at wanted w face
shows_next words at wanted w face h same i k = same i k ∙ ap (λ (b : Bool). b && agrees wanted (has_bit (get_or words w 0) i)) (sym (le-leb at (64 * w + i) (omega arith)))

-- where the word's bits below a place are not set, no such bit is of the kind
pub none_of_kind : (words : List ℕ) (at : ℕ) (wanted : Bool) (w word n s : ℕ) → Shows words at wanted w word → n ≤ 64 → ((i : ℕ) → i < n → bit_at word i ≡ 0) → at ≤ s → 64 * w ≤ s → s < 64 * w + n → is_set words s ≡ not wanted
none_of_kind words at wanted w word n s shows few none after from to =
    let place : 64 * w + s % 64 ≡ s = omega arith in
    let unset : has_bit word (s % 64) ≡ false = ap (λ (n : ℕ). n == 1) (none (s % 64) (omega arith)) in
    let before : nat_le at (64 * w + s % 64) ≡ true = le-leb at (64 * w + s % 64) (omega arith) in
    let fails : agrees wanted (has_bit (get_or words w 0) (s % 64)) ≡ false =
    ap (λ (b : Bool). b && agrees wanted (has_bit (get_or words w 0) (s % 64))) (sym before) ∙ sym (shows (s % 64) (omega arith)) ∙ unset in
    is_bit words w s (omega arith) ∙ agrees_false wanted (has_bit (get_or words w 0) (s % 64)) fails

one_of_kind : (words : List ℕ) (at : ℕ) (wanted : Bool) (w word i : ℕ) → Shows words at wanted w word → i < 64 → bit_at word i ≡ 1 → (at ≤ 64 * w + i) × (is_set words (64 * w + i) ≡ wanted)
one_of_kind words at wanted w word i shows h one =
    let set : has_bit word i ≡ true = ap (λ (n : ℕ). n == 1) one in
    let parts = and_parts (nat_le at (64 * w + i)) (agrees wanted (has_bit (get_or words w 0) i)) (sym (shows i h) ∙ set) in
    let rest : (64 * w + i) % 64 ≡ i = omega arith in (
      leb-true at (64 * w + i) parts.0,
      is_bit words w (64 * w + i) (omega arith) ∙ ap (λ (n : ℕ). has_bit (get_or words w 0) n) rest ∙ agrees_true wanted (has_bit (get_or words w 0) i) parts.1,
    )

-- a word of zeros shows that none of its bits is of the kind
pub none_in_zero : (words : List ℕ) (at : ℕ) (wanted : Bool) (w word : ℕ) → Shows words at wanted w word → word ≡ 0
    → ((s : ℕ) → at ≤ s → s < 64 * w → is_set words s ≡ not wanted) → (s : ℕ) → at ≤ s → s < 64 * (w + 1) → is_set words s ≡ not wanted
none_in_zero words at wanted w word shows zeros before s from to =
    elim (cases_lt s (64 * w)) [
      | inl lt ↦ before s from lt
      | inr ge ↦ none_of_kind words at wanted w word 64 s shows (omega arith) (λ i h. ap (λ (n : ℕ). bit_at n i) zeros ∙ bit_at-zero i) from ge (omega arith)
    ]

some_bits : (n : ℕ) → (n ≡ 0 → ⊥) → 0 < n
some_bits zero h = absurd (h refl)
some_bits (suc n) h = omega arith

-- the lowest bit of a word that is not zero is of the kind
pub lowest : (words : List ℕ) (at : ℕ) (wanted : Bool) (w word : ℕ) → Shows words at wanted w word → (word ≡ 0 → ⊥) → word < 2 ^ 64
    → (trailing_zeros w64 word < 64) × (at ≤ 64 * w + trailing_zeros w64 word) × (is_set words (64 * w + trailing_zeros w64 word) ≡ wanted)
lowest words at wanted w word shows some fits =
    let low = bit_at-trailing_zeros w64 word (some_bits word some) fits in
    let one = one_of_kind words at wanted w word (trailing_zeros w64 word) shows low.0 low.1 in
    (low.0, one.0, one.1)

pub below_word : (words : List ℕ) (at : ℕ) (wanted : Bool) (w word : ℕ) → Shows words at wanted w word → (word ≡ 0 → ⊥) → word < 2 ^ 64
    → ((s : ℕ) → at ≤ s → s < 64 * w → is_set words s ≡ not wanted) → (s : ℕ) → at ≤ s → s < 64 * w + trailing_zeros w64 word → is_set words s ≡ not wanted
below_word words at wanted w word shows some fits before s from to =
    let low = bit_at-trailing_zeros w64 word (some_bits word some) fits in
    elim (cases_lt s (64 * w)) [
      | inl lt ↦ before s from lt
      | inr ge ↦ none_of_kind words at wanted w word (trailing_zeros w64 word) s shows (omega (arith, low.0)) low.2 from ge to
    ]
