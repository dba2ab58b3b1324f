-- Where the places of the tape lie on the disk.
use Rattle.std.proofs.Common.{◌≡◌, ℕ, ◌+◌, ◌-◌, ◌*◌, ◌<◌, ◌≤◌, nat_lt, ap, ◌∙◌, arith, inl, inr, ◌⊎◌, ⊎_elim}
use Rattle.std.proofs.lemmas.Bool.{cond-true, cond-false, lt-ltb, cases_lt, le-ltb}
use Rattle.volume_layout.specs.Shape.{Shape}
use Rattle.fsd_log.specs.Scan.{IsEnd, place_of}

-- some sectors of the tape that lie in one third
pub record InThird (l : Shape) (first at n end : ℕ) : Type 0 where
  pub one_of : first ≤ 2
  pub ends : IsEnd l end
  pub from : end ≤ at + l.third
  pub to : at + n ≤ end

-- the first third begins at none, one or two thirds
abbrev IsFirst : Shape → ℕ → Type 0
IsFirst l a = (a ≡ 0) ⊎ ((a ≡ l.third) ⊎ (a ≡ 2 * l.third))

first_is : (l : Shape) (first : ℕ) → first ≤ 2 → IsFirst l (first * l.third)
first_is l first le = elim (cases_lt first 1) [
  | inl none ↦ inl (ap (λ (f : ℕ). f * l.third) (let e : first ≡ 0 = omega arith in e) ∙ omega arith)
  | inr some ↦ elim (cases_lt first 2) [
    | inl one ↦ inr (inl (ap (λ (f : ℕ). f * l.third) (let e : first ≡ 1 = omega arith in e) ∙ omega arith))
    | inr two ↦ inr (inr (ap (λ (f : ℕ). f * l.third) (let e : first ≡ 2 = omega arith in e)))
  ]
]

abbrev Straight : Shape → (first w : ℕ) → Type 0
Straight l first w = (place_of l first w ≡ 16 + (first * l.third + w)) × (first * l.third + w < 3 * l.third)

abbrev Around : Shape → (first w : ℕ) → Type 0
Around l first w = (place_of l first w ≡ 16 + (first * l.third + w - 3 * l.third)) × (3 * l.third ≤ first * l.third + w)

pub place_cases : (l : Shape) (first w : ℕ) → Straight l first w ⊎ Around l first w
place_cases l first w = elim (cases_lt (first * l.third + w) (3 * l.third)) [
  | inl lt ↦ inl (cond-true (nat_lt (first * l.third + w) (3 * l.third)) _ _ (lt-ltb _ _ lt), lt)
  | inr ge ↦ inr (cond-false (nat_lt (first * l.third + w) (3 * l.third)) _ _ (le-ltb _ _ ge), ge)
]

-- numbers alone
add_numbers : (t a at k n end p q : ℕ) → (a ≡ 0) ⊎ ((a ≡ t) ⊎ (a ≡ 2 * t)) → (end ≡ t) ⊎ ((end ≡ 2 * t) ⊎ (end ≡ 3 * t)) → end ≤ at + t → at + n ≤ end → k < n
    → ((p ≡ 16 + (a + at)) × (a + at < 3 * t)) ⊎ ((p ≡ 16 + (a + at - 3 * t)) × (3 * t ≤ a + at))
    → ((q ≡ 16 + (a + (at + k))) × (a + (at + k) < 3 * t)) ⊎ ((q ≡ 16 + (a + (at + k) - 3 * t)) × (3 * t ≤ a + (at + k)))
    → q ≡ p + k
add_numbers t a at k n end p q fa fe from to lt (inl pp) (inl qq) = omega (arith, pp.0, qq.0)
add_numbers t a at k n end p q fa fe from to lt (inl pp) (inr qq) = absurd (impossible fa fe)
  where
    impossible : (a ≡ 0) ⊎ ((a ≡ t) ⊎ (a ≡ 2 * t)) → (end ≡ t) ⊎ ((end ≡ 2 * t) ⊎ (end ≡ 3 * t)) → ⊥
    impossible (inl x) e = ⊎_elim (λ y. omega (arith, pp.1, qq.1)) (λ z. ⊎_elim (λ y. omega (arith, pp.1, qq.1)) (λ y. omega (arith, pp.1, qq.1)) z) e
    impossible (inr (inl x)) e = ⊎_elim (λ y. omega (arith, pp.1, qq.1)) (λ z. ⊎_elim (λ y. omega (arith, pp.1, qq.1)) (λ y. omega (arith, pp.1, qq.1)) z) e
    impossible (inr (inr x)) e = ⊎_elim (λ y. omega (arith, pp.1, qq.1)) (λ z. ⊎_elim (λ y. omega (arith, pp.1, qq.1)) (λ y. omega (arith, pp.1, qq.1)) z) e
add_numbers t a at k n end p q fa fe from to lt (inr pp) (inl qq) = absurd (omega (arith, pp.1, qq.1))
add_numbers t a at k n end p q fa fe from to lt (inr pp) (inr qq) = omega (arith, pp.0, qq.0, pp.1, qq.1)

-- the sectors lie one behind the other on the disk too
pub place_add : (l : Shape) (first at n end k : ℕ) → InThird l first at n end → k < n → place_of l first (at + k) ≡ place_of l first at + k
place_add l first at n end k is lt =
    add_numbers l.third (first * l.third) at k n end (place_of l first at) (place_of l first (at + k)) (first_is l first is.one_of) is.ends is.from is.to lt (place_cases l first at) (place_cases l first (at + k))

inside_numbers : (t a at n end p : ℕ) → (a ≡ 0) ⊎ ((a ≡ t) ⊎ (a ≡ 2 * t)) → (end ≡ t) ⊎ ((end ≡ 2 * t) ⊎ (end ≡ 3 * t)) → end ≤ at + t → at + n ≤ end → 0 < n
    → ((p ≡ 16 + (a + at)) × (a + at < 3 * t)) ⊎ ((p ≡ 16 + (a + at - 3 * t)) × (3 * t ≤ a + at)) → p + n ≤ 16 + 3 * t
inside_numbers t a at n end p fa fe from to some (inr pp) = ⊎_elim (λ x. ends x) (λ xs. ⊎_elim (λ x. ends2 x) (λ x. ends3 x) xs) fa
  where
    ends : a ≡ 0 → p + n ≤ 16 + 3 * t
    ends x = ⊎_elim (λ y. omega (arith, pp.0, pp.1)) (λ ys. ⊎_elim (λ y. omega (arith, pp.0, pp.1)) (λ y. omega (arith, pp.0, pp.1)) ys) fe

    ends2 : a ≡ t → p + n ≤ 16 + 3 * t
    ends2 x = ⊎_elim (λ y. omega (arith, pp.0, pp.1)) (λ ys. ⊎_elim (λ y. omega (arith, pp.0, pp.1)) (λ y. omega (arith, pp.0, pp.1)) ys) fe

    ends3 : a ≡ 2 * t → p + n ≤ 16 + 3 * t
    ends3 x = ⊎_elim (λ y. omega (arith, pp.0, pp.1)) (λ ys. ⊎_elim (λ y. omega (arith, pp.0, pp.1)) (λ y. omega (arith, pp.0, pp.1)) ys) fe
inside_numbers t a at n end p fa fe from to some (inl pp) = ⊎_elim (λ x. ends x) (λ xs. ⊎_elim (λ x. ends2 x) (λ x. ends3 x) xs) fa
  where
    ends : a ≡ 0 → p + n ≤ 16 + 3 * t
    ends x = ⊎_elim (λ y. omega (arith, pp.0, pp.1)) (λ ys. ⊎_elim (λ y. omega (arith, pp.0, pp.1)) (λ y. omega (arith, pp.0, pp.1)) ys) fe

    ends2 : a ≡ t → p + n ≤ 16 + 3 * t
    ends2 x = ⊎_elim (λ y. omega (arith, pp.0, pp.1)) (λ ys. ⊎_elim (λ y. omega (arith, pp.0, pp.1)) (λ y. omega (arith, pp.0, pp.1)) ys) fe

    ends3 : a ≡ 2 * t → p + n ≤ 16 + 3 * t
    ends3 x = ⊎_elim (λ y. omega (arith, pp.0, pp.1)) (λ ys. ⊎_elim (λ y. omega (arith, pp.0, pp.1)) (λ y. omega (arith, pp.0, pp.1)) ys) fe

-- they lie in the log
pub place_inside : (l : Shape) (first at n end : ℕ) → InThird l first at n end → 0 < n → place_of l first at + n ≤ 16 + 3 * l.third
place_inside l first at n end is some = inside_numbers l.third (first * l.third) at n end (place_of l first at) (first_is l first is.one_of) is.ends is.from is.to some (place_cases l first at)

pub place_from : (l : Shape) (first w : ℕ) → 16 ≤ place_of l first w
place_from l first w = elim (place_cases l first w) [ inl p ↦ omega (arith, p.0) | inr p ↦ omega (arith, p.0) ]

pub below_numbers : (t a at n end p w q : ℕ) → a ≤ 2 * t → end ≤ 3 * t → at + n ≤ end → w < at
    → ((p ≡ 16 + (a + at)) × (a + at < 3 * t)) ⊎ ((p ≡ 16 + (a + at - 3 * t)) × (3 * t ≤ a + at))
    → ((q ≡ 16 + (a + w)) × (a + w < 3 * t)) ⊎ ((q ≡ 16 + (a + w - 3 * t)) × (3 * t ≤ a + w)) → (q < p) ⊎ (p + n ≤ q)
below_numbers t a at n end p w q fa fe to lt (inl pp) (inl qq) = inl (omega (arith, pp.0, qq.0))
below_numbers t a at n end p w q fa fe to lt (inl pp) (inr qq) = absurd (omega (arith, pp.1, qq.1))
below_numbers t a at n end p w q fa fe to lt (inr pp) (inl qq) = inr (omega (arith, pp.0, qq.0, pp.1))
below_numbers t a at n end p w q fa fe to lt (inr pp) (inr qq) = inl (omega (arith, pp.0, qq.0, pp.1, qq.1))

pub above_numbers : (t a at n p w q : ℕ) → at + n ≤ w → w < 3 * t
    → ((p ≡ 16 + (a + at)) × (a + at < 3 * t)) ⊎ ((p ≡ 16 + (a + at - 3 * t)) × (3 * t ≤ a + at))
    → ((q ≡ 16 + (a + w)) × (a + w < 3 * t)) ⊎ ((q ≡ 16 + (a + w - 3 * t)) × (3 * t ≤ a + w)) → (q < p) ⊎ (p + n ≤ q)
above_numbers t a at n p w q from lt (inl pp) (inl qq) = inr (omega (arith, pp.0, qq.0))
above_numbers t a at n p w q from lt (inl pp) (inr qq) = inl (omega (arith, pp.0, qq.0, qq.1))
above_numbers t a at n p w q from lt (inr pp) (inl qq) = absurd (omega (arith, pp.1, qq.1))
above_numbers t a at n p w q from lt (inr pp) (inr qq) = inr (omega (arith, pp.0, qq.0, pp.1, qq.1))

pub first_most : (l : Shape) (first : ℕ) → first ≤ 2 → first * l.third ≤ 2 * l.third
first_most l first le = elim (first_is l first le) [ inl e ↦ omega arith | inr (inl e) ↦ omega arith | inr (inr e) ↦ omega arith ]

pub end_most : (l : Shape) (end : ℕ) → IsEnd l end → end ≤ 3 * l.third
end_most l end (inl e) = omega arith
end_most l end (inr (inl e)) = omega arith
end_most l end (inr (inr e)) = omega arith
