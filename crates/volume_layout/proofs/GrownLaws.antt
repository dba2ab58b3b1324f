-- A layout of another number of sectors: it may be planned up to the most, and all lies where it did but the data area's
-- end.
use Rattle.std.proofs.Common.{◌≡◌, ◌≢◌, inl, inr, ℕ, ◌+◌, ◌*◌, ◌^◌, ◌<◌, ◌≤◌, ◌==◌, ◌&&◌, ◌||◌, min, Bool, true, false, cond, refl, sym, ap, subst, ◌∙◌, arith}
use Rattle.std.specs.Prelude.{nat_le}
use Rattle.std.specs.Int.{div_ceil}
use Rattle.std.proofs.lemmas.Bool.{leb-true, le-leb}
use Rattle.std.proofs.lemmas.Bool.Decides.{eqb_tells}
use Rattle.fsd_bytes.specs.Names.{is_between}
use Rattle.volume_layout.specs.declared.layout.Layout.{Layout}
use Rattle.volume_layout.specs.Layout.{fixed_size, least_size, least_for, map_bits, map_sectors, mapped, may_grow_to, most_of, with_sectors, IsPlanned, IsSized}
use Rattle.volume_layout.proofs.RootLaws.{planned_tried, tried_planned, planned_bounds, said_most}

module _ (l : Layout) (planned : IsPlanned l) where
  -- ---- the most

  pub most_bound : most_of l ≤ 2 ^ 24
  most_bound = by_flag (l.most == 0)
    where
      by_flag : (b : Bool) → cond b (min (map_bits * map_sectors l) (2 ^ 24)) l.most ≤ 2 ^ 24
      by_flag true = omega arith
      by_flag false = (planned_bounds l planned).most_most

  by_none : (q : ℕ) → q ≡ 0 → l.sectors ≤ cond (q == 0) (min (map_bits * div_ceil (cond (q == 0) l.sectors q) map_bits) (2 ^ 24)) q
  by_none q none =
      let few = (planned_bounds l planned).sectors_most in
      subst (λ (q : ℕ). l.sectors ≤ cond (q == 0) (min (map_bits * div_ceil (cond (q == 0) l.sectors q) map_bits) (2 ^ 24)) q) (sym none) (omega (arith, few))

  -- a number that is said lies between
  within : (l.most ≢ 0) → (l.sectors ≤ l.most) × (l.most ≤ 2 ^ 24)
  within some = elim (said_most l.sectors l.most (planned_tried l planned).most) [ inl none ↦ absurd (some none) | inr in_bounds ↦ in_bounds ]

  pub most_least : l.sectors ≤ most_of l
  most_least = elim (eqb_tells l.most 0) [
    | inl zero ↦ by_none l.most zero.1
    | inr some ↦ subst (λ (b : Bool). l.sectors ≤ cond b (min (map_bits * map_sectors l) (2 ^ 24)) l.most) (sym some.0) (within some.1).0
  ]

  -- ---- another number of sectors, up to the most

  module _ (n : ℕ) (more : l.sectors ≤ n) (most : n ≤ most_of l) where
    pub sized_map : map_sectors (with_sectors n l) ≡ map_sectors l
    sized_map = by_flag (l.most == 0) most
      where
        by_flag : (b : Bool) → n ≤ cond b (min (map_bits * div_ceil (cond b l.sectors l.most) map_bits) (2 ^ 24)) l.most → div_ceil (cond b n l.most) map_bits ≡ div_ceil (cond b l.sectors l.most) map_bits
        by_flag true le = omega (arith, le, more)
        by_flag false le = refl

    pub sized_planned : IsPlanned (with_sectors n l)
    sized_planned =
        let t = planned_tried l planned in
        let least = leb-true (least_for l.third l.pages l.most) l.sectors t.least in
        tried_planned (with_sectors n l) (record {
          third = t.third;
          pages = t.pages;
          sectors = le-leb n (2 ^ 24) (omega (arith, most, most_bound));
          most = may;
          least = le-leb (least_for l.third l.pages l.most) n (omega (arith, least, more));
        })
      where
        may : may_grow_to n l.most ≡ true
        may = elim (eqb_tells l.most 0) [
          | inl zero ↦ ap (λ (b : Bool). b || is_between n (2 ^ 24) l.most) zero.0
          | inr some ↦
              let le : n ≤ l.most = subst (λ (b : Bool). n ≤ cond b (min (map_bits * map_sectors l) (2 ^ 24)) l.most) some.0 most in
              ap (λ (b : Bool). b || is_between n (2 ^ 24) l.most) some.0 ∙ (λ i. le-leb n l.most le i && le-leb l.most (2 ^ 24) (within some.1).1 i)
        ]

    pub is_sized : l.sectors < n → IsSized l (with_sectors n l)
    is_sized larger = record { other = λ same. omega (arith, same, larger); form = refl; map = sized_map; planned = sized_planned }
