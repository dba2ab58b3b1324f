-- The map's sectors are few, and all that is marked lies below the most that the volume may grow to.
use Rattle.std.proofs.Common.{◌≡◌, ◌⊎◌, inl, inr, ℕ, ◌*◌, ◌^◌, ◌<◌, ◌≤◌, min, Bool, true, false, cond, refl, arith}
use Rattle.std.specs.Prelude.{◌==◌}
use Rattle.std.specs.Int.{div_ceil}
use Rattle.std.proofs.lemmas.Bool.{eqb-false}
use Rattle.volume_layout.specs.declared.layout.Layout.{Layout}
use Rattle.volume_layout.specs.Layout.{IsPlanned, map_bits, map_sectors, mapped, most_of}
use Rattle.volume_layout.proofs.RootLaws.{planned_bounds, planned_tried, said_most}

mapped_most : (n q : ℕ) → n ≤ 2 ^ 24 → q ≤ 2 ^ 24 → mapped n q ≤ 2 ^ 24
mapped_most n q low high = by (q == 0)
  where
    by : (b : Bool) → cond b n q ≤ 2 ^ 24
    by true = low
    by false = high

few : (n : ℕ) → n ≤ 2 ^ 24 → div_ceil n map_bits ≤ 4229
few n most = omega (arith, most)

pub few_sectors : (l : Layout) → IsPlanned l → map_sectors l ≤ 4229
few_sectors l planned =
    let bounds = planned_bounds l planned in
    few (mapped l.sectors l.most) (mapped_most l.sectors l.most bounds.sectors_most bounds.most_most)

-- a volume has no more sectors than it may grow to
pub data_below : (l : Layout) → IsPlanned l → l.sectors ≤ most_of l
data_below l planned =
    let tried = planned_tried l planned in
    let bounds = planned_bounds l planned in
    by (l.most == 0) refl (said_most l.sectors l.most tried.most) bounds.sectors_most
  where
    by : (b : Bool) → (l.most == 0) ≡ b → (l.most ≡ 0) ⊎ ((l.sectors ≤ l.most) × (l.most ≤ 2 ^ 24)) → l.sectors ≤ 2 ^ 24
        → l.sectors ≤ cond b (min (map_bits * div_ceil (cond b l.sectors l.most) map_bits) (2 ^ 24)) l.most
    by true is said most = covered l.sectors most
      where
        covered : (n : ℕ) → n ≤ 2 ^ 24 → n ≤ min (map_bits * div_ceil n map_bits) (2 ^ 24)
        covered n most = omega (arith, most)
    by false is said most = elim said [
      | inl none ↦ absurd (eqb-false l.most 0 is none)
      | inr some ↦ some.0
    ]

-- the map has a sector
pub some_sectors : (l : Layout) → IsPlanned l → 0 < map_sectors l
some_sectors l planned =
    let bounds = planned_bounds l planned in
    by (l.most == 0) refl (omega (arith, bounds.sectors_least))
  where
    by : (b : Bool) → (l.most == 0) ≡ b → 88 ≤ l.sectors → 0 < div_ceil (cond b l.sectors l.most) map_bits
    by true is some = omega (arith, some)
    by false is some = let more = eqb-false l.most 0 is in omega (arith, more)
