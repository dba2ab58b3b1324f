-- Sets of sectors of the data area.
use Rattle.std.proofs.Common.{◌≡◌, inl, inr, ℕ, zero, suc, ◌+◌, ◌-◌, ◌<◌, ◌≤◌, Bool, true, false, cond, ◌&&◌, List, ◌∷◌, filter, refl, sym, ap, subst, ◌∙◌, arith}
use Rattle.std.specs.Prelude.{nat_le, nat_lt}
use Rattle.std.specs.List.{range_with_len}
use Rattle.std.proofs.lemmas.Bool.{and_parts, and_from, cases_lt, le-leb, lt-ltb, le-ltb, ltb-true, false_from_ne_true}
use Rattle.volume_layout.specs.declared.layout.Layout.{Layout}
use Rattle.volume_layout.specs.Layout.{data_start, is_data, most_of, IsPlanned}
use Rattle.volume_layout.proofs.GrownLaws.{most_least}
use Rattle.run_table.specs.Space.{contains, where_free}
use Rattle.sector_set.specs.Area.{Area, IsOwn, area}
use Rattle.sector_set.proofs.FreeLaws.{where_same, contains_where}
use Rattle.sector_set.proofs.AreaLaws.{free_within, free_passes}
use Rattle.table_survey.specs.Claims.{IsOfData, data_area}

-- ---- tests that pass below a number alone

module _ (f : ℕ → Bool) (n : ℕ) where
  abbrev below : ℕ → Bool
  below s = nat_lt s n && f s

  filter_below : (a k : ℕ) → n ≤ a + k → filter below (range_with_len a k) ≡ filter f (range_with_len a (n - a))
  filter_below a zero up = ap (λ (m : ℕ). filter f (range_with_len a m)) (let none : 0 ≡ n - a = omega (arith, up) in none)
  filter_below a (suc k) up =
      let rest = filter_below (a + 1) k (omega (arith, up)) in
      elim (cases_lt a n) [
        | inl lt ↦
            ap (λ (b : Bool). cond (b && f a) (a ∷ filter below (range_with_len (a + 1) k)) (filter below (range_with_len (a + 1) k))) (lt-ltb a n lt)
            ∙ ap (λ (xs : List ℕ). cond (f a) (a ∷ xs) xs) rest
            ∙ ap (λ (m : ℕ). filter f (range_with_len a m)) (let more : suc (n - (a + 1)) ≡ n - a = omega (arith, lt) in more)
        | inr ge ↦
            ap (λ (b : Bool). cond (b && f a) (a ∷ filter below (range_with_len (a + 1) k)) (filter below (range_with_len (a + 1) k))) (le-ltb a n ge)
            ∙ rest
            ∙ ap (λ (m : ℕ). filter f (range_with_len (a + 1) m)) (let none : n - (a + 1) ≡ 0 = omega (arith, ge) in none)
            ∙ ap (λ (m : ℕ). filter f (range_with_len a m)) (let none : 0 ≡ n - a = omega (arith, ge) in none)
      ]

  where_below : (from to : ℕ) → n ≤ to → where_free below from to ≡ where_free f from n
  where_below from to up = filter_below from (to - from) (omega (arith, up))

-- ---- the sectors that pass a test

pub area_own : (from to : ℕ) (f : ℕ → Bool) → IsOwn (area from to f)
area_own from to f = ap (λ (xs : List ℕ). record { from = from; to = to; sectors = xs })
    (where_same f (contains (where_free f from to)) from to (λ s low high. sym (contains_where f from to s low high)))

module _ (l : Layout) where
  module _ (f : ℕ → Bool) where
    -- a sector of the set lies in the data area, and passes the test
    pub data_within : (s : ℕ) → contains (data_area l f).sectors s ≡ true → (data_start l ≤ s) × (s < l.sectors)
    data_within s there = (
      (free_within (data_start l) (most_of l) (λ t. nat_lt t l.sectors && f t) s there).0,
      ltb-true s l.sectors (and_parts (nat_lt s l.sectors) (f s) (free_passes (data_start l) (most_of l) (λ t. nat_lt t l.sectors && f t) s there)).0,
    )

    pub data_passes : (s : ℕ) → contains (data_area l f).sectors s ≡ true → f s ≡ true
    data_passes s there = (and_parts (nat_lt s l.sectors) (f s) (free_passes (data_start l) (most_of l) (λ t. nat_lt t l.sectors && f t) s there)).1

    pub data_there : (s : ℕ) → contains (data_area l f).sectors s ≡ true → is_data l s ≡ true
    data_there s there =
        let within = data_within s there in
        and_from (nat_le (data_start l) s) (nat_lt s l.sectors) (le-leb (data_start l) s within.0) (lt-ltb s l.sectors within.1)

    -- the set has no sector outside of the data area
    pub data_outside : (s : ℕ) → (data_start l ≤ s → s < l.sectors → ⊥) → contains (data_area l f).sectors s ≡ false
    data_outside s out = false_from_ne_true (contains (data_area l f).sectors s) (λ there. let within = data_within s there in out within.0 within.1)

    -- the set is of the sectors that it has
    pub data_own : IsOfData l (data_area l f)
    data_own = ap (λ (xs : List ℕ). record { from = data_start l; to = most_of l; sectors = xs })
        (where_same (λ s. nat_lt s l.sectors && f s) (λ s. nat_lt s l.sectors && contains (data_area l f).sectors s) (data_start l) (most_of l)
        (λ s low high. twice (nat_lt s l.sectors) (f s) ∙ ap (λ (b : Bool). nat_lt s l.sectors && b) (sym (contains_where (λ t. nat_lt t l.sectors && f t) (data_start l) (most_of l) s low high))))
      where
        twice : (a b : Bool) → (a && b) ≡ (a && (a && b))
        twice true b = refl
        twice false b = refl

  -- tests that agree in the data area make one set
  pub data_same : (f g : ℕ → Bool) → ((s : ℕ) → data_start l ≤ s → s < l.sectors → f s ≡ g s) → data_area l f ≡ data_area l g
  data_same f g same = ap (λ (xs : List ℕ). record { from = data_start l; to = most_of l; sectors = xs })
      (where_same (λ s. nat_lt s l.sectors && f s) (λ s. nat_lt s l.sectors && g s) (data_start l) (most_of l) each)
    where
      each : (s : ℕ) → data_start l ≤ s → s < most_of l → (nat_lt s l.sectors && f s) ≡ (nat_lt s l.sectors && g s)
      each s low high = elim (cases_lt s l.sectors) [
        | inl lt ↦ ap (λ (b : Bool). nat_lt s l.sectors && b) (same s low lt)
        | inr ge ↦ ap (λ (b : Bool). b && f s) (le-ltb s l.sectors ge) ∙ sym (ap (λ (b : Bool). b && g s) (le-ltb s l.sectors ge))
      ]

  module _ (planned : IsPlanned l) (f : ℕ → Bool) where
    -- in the data area the set is as the test says
    pub data_at : (s : ℕ) → data_start l ≤ s → s < l.sectors → contains (data_area l f).sectors s ≡ f s
    data_at s low high =
        contains_where (λ t. nat_lt t l.sectors && f t) (data_start l) (most_of l) s low (omega (arith, high, most_least l planned))
        ∙ ap (λ (b : Bool). b && f s) (lt-ltb s l.sectors high)

    -- the set as a list ends with the volume
    pub data_sectors : (data_area l f).sectors ≡ where_free f (data_start l) l.sectors
    data_sectors = where_below f l.sectors (data_start l) (most_of l) (most_least l planned)

-- ---- a set of sectors of the data area

module _ (l : Layout) (m : Area) (of_data : IsOfData l m) where
  pub of_data_own : IsOwn m
  of_data_own = subst IsOwn (sym of_data) (area_own (data_start l) (most_of l) (λ s. nat_lt s l.sectors && contains m.sectors s))

  pub of_data_within : (s : ℕ) → contains m.sectors s ≡ true → (data_start l ≤ s) × (s < l.sectors)
  of_data_within s there = data_within l (contains m.sectors) s (ap (λ (a : Area). contains a.sectors s) (sym of_data) ∙ there)

  pub of_data_outside : (s : ℕ) → (data_start l ≤ s → s < l.sectors → ⊥) → contains m.sectors s ≡ false
  of_data_outside s out = ap (λ (a : Area). contains a.sectors s) of_data ∙ data_outside l (contains m.sectors) s out

  pub of_data_sectors : IsPlanned l → m.sectors ≡ where_free (contains m.sectors) (data_start l) l.sectors
  of_data_sectors planned = ap (λ (a : Area). a.sectors) of_data ∙ data_sectors l planned (contains m.sectors)
