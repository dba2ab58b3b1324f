-- What holds of the roots, the anchors and both homes of each page holds of each sector that stands twice.
use Rattle.std.proofs.Common.{◌≡◌, inl, inr, ℕ, ◌+◌, ◌-◌, ◌<◌, ◌≤◌, ◌&&◌, [], ◌∷◌, sym, subst, arith}
use Rattle.std.specs.Prelude.{IsTrue, nat_le, nat_lt, ◌==◌}
use Rattle.std.specs.List.{list_any}
use Rattle.std.proofs.lemmas.Bool.{and_parts, and_from, or_cases, or_left, or_right, leb-true, ltb-true, le-leb, lt-ltb, eqb-true}
use Rattle.volume_layout.specs.declared.layout.Layout.{Layout}
use Rattle.volume_layout.specs.Layout.{home_a, home_b}
use Rattle.fsd_sound.specs.Homes.{AreTwins}
use Rattle.fsd_sound.specs.Sound.{is_twin, is_home}

-- a place of a region is one of its sectors, counted from its start
place_in : (start n s : ℕ) → IsTrue (nat_le start s && nat_lt s (start + n)) → (page : ℕ) × (page < n) × (s ≡ start + page)
place_in start n s e =
    let parts = and_parts (nat_le start s) (nat_lt s (start + n)) e in
    let low : start ≤ s = leb-true start s parts.0 in
    let high : s < start + n = ltb-true s (start + n) parts.1 in
    (s - start, omega arith, omega arith)

pub each_twin : (l : Layout) (P : ℕ → Type 0) → P 0 → P 4 → P 8 → P 12 → ((page : ℕ) → page < l.pages → P (home_a l page)) → ((page : ℕ) → page < l.pages → P (home_b l page)) → (s : ℕ) → IsTrue (is_twin l s) → P s
each_twin l P first second third fourth homes copies s t =
    elim (or_cases (list_any (λ x. x == s) (0 ∷ 4 ∷ 8 ∷ 12 ∷ [])) (is_home l s) t) [
      | inl head ↦ elim (or_cases (0 == s) _ head) [
        | inl a ↦ subst P (eqb-true 0 s a) first
        | inr b ↦ elim (or_cases (4 == s) _ b) [
          | inl a ↦ subst P (eqb-true 4 s a) second
          | inr c ↦ elim (or_cases (8 == s) _ c) [
            | inl a ↦ subst P (eqb-true 8 s a) third
            | inr d ↦ elim (or_cases (12 == s) _ d) [ inl a ↦ subst P (eqb-true 12 s a) fourth | inr none ↦ absurd cc ]
          ]
        ]
      ]
      | inr home ↦ elim (or_cases (nat_le (home_a l 0) s && nat_lt s (home_a l l.pages)) (nat_le (home_b l 0) s && nat_lt s (home_b l l.pages)) home) [
        | inl a ↦
            let at = place_in (home_a l 0) l.pages s (subst (λ (n : ℕ). IsTrue (nat_le (home_a l 0) s && nat_lt s n)) (omega arith) a) in
            subst P (let e : home_a l at.0 ≡ s = omega (arith, at.2) in e) (homes at.0 at.1)
        | inr b ↦
            let at = place_in (home_b l 0) l.pages s (subst (λ (n : ℕ). IsTrue (nat_le (home_b l 0) s && nat_lt s n)) (omega arith) b) in
            subst P (let e : home_b l at.0 ≡ s = omega (arith, at.2) in e) (copies at.0 at.1)
      ]
    ]

-- ---- homes

pub twin_a : (l : Layout) (page : ℕ) → page < l.pages → IsTrue (is_twin l (home_a l page))
twin_a l page lt = or_right _ _ (or_left _ _ (and_from _ _ (le-leb (home_a l 0) (home_a l page) (omega arith)) (lt-ltb (home_a l page) (home_a l l.pages) (omega arith))))

pub twin_b : (l : Layout) (page : ℕ) → page < l.pages → IsTrue (is_twin l (home_b l page))
twin_b l page lt = or_right _ _ (or_right _ _ (and_from _ _ (le-leb (home_b l 0) (home_b l page) (omega arith)) (lt-ltb (home_b l page) (home_b l l.pages) (omega arith))))

pub home_twin : (l : Layout) (page s t : ℕ) → page < l.pages → AreTwins l page s t → IsTrue (is_twin l s)
home_twin l page s t lt (inl at) = subst (λ (p : ℕ). IsTrue (is_twin l p)) (sym at.0) (twin_a l page lt)
home_twin l page s t lt (inr at) = subst (λ (p : ℕ). IsTrue (is_twin l p)) (sym at.0) (twin_b l page lt)
