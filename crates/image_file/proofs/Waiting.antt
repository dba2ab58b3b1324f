-- Slots that wait: those that stay, and those that come behind them.
use Rattle.std.proofs.Common.{◌≡◌, ◌⊎◌, inl, inr, ℕ, ◌+◌, ◌-◌, ◌*◌, ◌<◌, List, ◌++◌, length, take, drop, ap, subst, ◌∙◌, arith}
use Rattle.std.proofs.lemmas.Bool.{cases_lt}
use Rattle.std.proofs.lemmas.List.{drop-append-le, length-drop, take-append-le}
use Rattle.fsd_formats.specs.Slot.{slot_of}
use Rattle.sector_disk.specs.Image.{slice_of}
use Rattle.image_file.specs.declared.stretch.Stretch.{Stretch}
use Rattle.image_file.specs.Stretch.{AddsOnly, HoldsSector, IsBehind, IsPart, Spells, slot_at}

-- a slot in front of the last one, in its place
slot_before : (count place : ℕ) (old slot : List ℕ) → length old ≡ 520 * count → place < count → take 520 (drop (520 * place) (old ++ slot)) ≡ take 520 (drop (520 * place) old)
slot_before count place old slot e lt =
    ap (take 520) (drop-append-le (520 * place) old slot (omega (arith, e)))
    ∙ take-append-le 520 (drop (520 * place) old) slot (omega (arith, length-drop (520 * place) old, e))

module _ (old new : Stretch) where
  -- one that has the same slots keeps each
  pub stays : (first count : ℕ) → new.first ≡ old.first → new.count ≡ old.count → new.slots.items ≡ old.slots.items → AddsOnly first count old new
  stays first count f c i s held =
      inr ((omega (arith, f, held.0), omega (arith, f, c, held.1)), (λ k. take 520 (drop (520 * (s - f k)) (i k))))

  -- one that has none keeps each
  pub none_stays : (first count : ℕ) → new.count ≡ 0 → AddsOnly first count old new
  none_stays first count e s held = absurd (omega (arith, e, held.0, held.1))

-- one slot more, behind the others: what begins with this first sector then keeps each
pub pushed : (old : Stretch) (first sector : ℕ) (slots slot : List ℕ) → IsBehind sector old → first + old.count ≡ sector → slots ≡ old.slots.items ++ slot → (s : ℕ) → IsPart first (old.count + 1) s → IsPart sector 1 s ⊎ (HoldsSector old s × (take 520 (drop (520 * (s - first)) slots) ≡ slot_at old s))
pushed old first sector slots slot behind f i s held = elim (cases_lt s sector) [
  | inr past ↦ inl (past, omega (arith, f, held.1))
  | inl before ↦
      let same : first ≡ old.first = omega (arith, f, behind (omega (arith, f, before, held.0))) in
      let lt : s - old.first < old.count = omega (arith, f, same, before, held.0) in
      inr (
        (omega (arith, same, held.0), omega (arith, f, same, before)),
        (λ k. take 520 (drop (520 * (s - same k)) (i k))) ∙ slot_before old.count (s - old.first) old.slots.items slot old.whole lt,
      )
]

module _ (start mid new : Stretch) where
  -- what came behind what had come
  pub adds_more : (first i count : ℕ) → i < count → AddsOnly first i start mid → AddsOnly (first + i) 1 mid new → AddsOnly first count start new
  adds_more first i count lt was is s held = elim (is s held) [
    | inl part ↦ inl (omega (arith, part.0), omega (arith, lt, part.1))
    | inr kept ↦ elim (was s kept.0) [
      | inl part ↦ inl (part.0, omega (arith, lt, part.1))
      | inr first_kept ↦ inr (first_kept.0, kept.1 ∙ first_kept.1)
    ]
  ]

-- the next slot of a write is spelled as those before it
pub spells_more : (mid new : Stretch) (first i : ℕ) (bytes part : List ℕ) → Spells first bytes i mid → AddsOnly (first + i) 1 mid new → part ≡ slice_of bytes i → (new.count ≡ 0) ⊎ (HoldsSector new (first + i) × (slot_at new (first + i) ≡ slot_of (first + i) part)) → Spells first bytes (i + 1) new
spells_more mid new first i bytes part was is same there k lt held = elim (cases_lt k i) [
  | inl before ↦ elim (is (first + k) held) [
    | inl one ↦ absurd (omega (arith, before, one.0))
    | inr kept ↦ kept.1 ∙ was k before kept.0
  ]
  | inr at_last ↦
      let last : i ≡ k = omega (arith, lt, at_last) in
      elim there [
        | inl none ↦ absurd (omega (arith, none, held.0, held.1))
        | inr has ↦ subst (λ (j : ℕ). slot_at new (first + j) ≡ slot_of (first + j) (slice_of bytes j)) last (has.1 ∙ ap (slot_of (first + i)) same)
      ]
]

-- the same as many, written otherwise
pub slice_is : (bytes : List ℕ) (i : ℕ) → take (i * 512 + 512 - i * 512) (drop (i * 512) bytes) ≡ slice_of bytes i
slice_is bytes i =
    let long : i * 512 + 512 - i * 512 ≡ 512 = omega arith in
    let same : i * 512 ≡ 512 * i = omega arith in
    (λ k. take (long k) (drop (same k) bytes))
