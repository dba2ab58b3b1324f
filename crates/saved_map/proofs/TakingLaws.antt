-- Runs of sectors that are marked, and runs of set bits that are taken in.
use Rattle.std.proofs.Common.{◌≡◌, ℕ, ◌+◌, ◌-◌, ◌<◌, ◌≤◌, Bool, true, false, cond, not, ◌&&◌, ◌||◌, List, length, get_or, refl, sym, ap, subst, ◌∙◌, inl, inr, arith}
use Rattle.std.specs.Prelude.{nat_le, nat_lt}
use Rattle.std.proofs.Math.Bool.{or_assoc}
use Rattle.std.proofs.lemmas.Bool.{and_from, and_parts, both_ways, cases_Bool, cases_lt, le-leb, leb-true, lt-ltb, ltb-true, or_cases, or_left, or_right, true_from_ne_false, cond-false}
use Rattle.volume_layout.specs.declared.layout.Layout.{Layout}
use Rattle.volume_layout.specs.Layout.{HasRegionsApart, data_start, home_a, is_data, map_bits}
use Rattle.run_table.specs.Space.{contains}
use Rattle.sector_set.specs.Area.{Area}
use Rattle.sector_set.specs.Bits.{in_range}
use Rattle.sector_set.specs.SectorSet.{IsFirst}
use Rattle.fsd_formats.specs.MapSector.{has_map_bit}
use Rattle.fsd_formats.specs.SavedMap.{is_first_home}
use Rattle.saved_map.specs.Taking.{AreAdded, AreKept, AreNewFrom, HavePlaces, IsClear, has_place, is_set_in_first, marks}
use Rattle.saved_map.proofs.RunLaws.{IsReleased, below, beyond, inside, or_none}

-- ---- places

is_home : (l : Layout) (s : ℕ) → is_first_home l s ≡ true → (home_a l 0 ≤ s) × (s < home_a l l.pages)
is_home l s is = let both = and_parts (nat_le (home_a l 0) s) (nat_lt s (home_a l l.pages)) is in (leb-true (home_a l 0) s both.0, ltb-true s (home_a l l.pages) both.1)

pub home_is : (l : Layout) (s : ℕ) → home_a l 0 ≤ s → s < home_a l l.pages → is_first_home l s ≡ true
home_is l s low high = and_from (nat_le (home_a l 0) s) (nat_lt s (home_a l l.pages)) (le-leb (home_a l 0) s low) (lt-ltb s (home_a l l.pages) high)

in_data : (l : Layout) (s : ℕ) → is_data l s ≡ true → (data_start l ≤ s) × (s < l.sectors)
in_data l s is = let both = and_parts (nat_le (data_start l) s) (nat_lt s l.sectors) is in (leb-true (data_start l) s both.0, ltb-true s l.sectors both.1)

data_is : (l : Layout) (s : ℕ) → data_start l ≤ s → s < l.sectors → is_data l s ≡ true
data_is l s low high = and_from (nat_le (data_start l) s) (nat_lt s l.sectors) (le-leb (data_start l) s low) (lt-ltb s l.sectors high)

pub data_places : (l : Layout) (start stop : ℕ) → data_start l ≤ start → stop ≤ l.sectors → HavePlaces l start stop
data_places l start stop low high s from to = or_left (is_data l s) (is_first_home l s) (data_is l s (omega (arith, low, from)) (omega (arith, high, to)))

pub home_places : (l : Layout) (start stop : ℕ) → home_a l 0 ≤ start → stop ≤ home_a l l.pages → HavePlaces l start stop
home_places l start stop low high s from to = or_right (is_data l s) (is_first_home l s) (home_is l s (omega (arith, low, from)) (omega (arith, high, to)))

-- the first homes end before the data area
pub homes_end : (l : Layout) → HasRegionsApart l → home_a l l.pages < data_start l
homes_end l apart = omega (arith, apart.homes, apart.copies, apart.map)

-- a run that begins in one of them and goes on behind it has a sector in neither
pub no_places : (l : Layout) (start stop : ℕ) → HasRegionsApart l → start < stop → (data_start l ≤ start → stop ≤ l.sectors → ⊥) → (home_a l 0 ≤ start → stop ≤ home_a l l.pages → ⊥) → HavePlaces l start stop → ⊥
no_places l start stop apart some not_data not_homes places =
    elim (or_cases (is_data l start) (is_first_home l start) (places start (omega arith) some)) [
      | inl is ↦ in_area (in_data l start is)
      | inr is ↦ in_homes (is_home l start is)
    ]
  where
    ends : home_a l l.pages < data_start l
    ends = homes_end l apart

    from_end : (place : ℕ) → (data_start l ≤ place → place < l.sectors → ⊥) → (place < home_a l l.pages → ⊥) → start ≤ place → place < stop → ⊥
    from_end place past past_homes low high = elim (or_cases (is_data l place) (is_first_home l place) (places place low high)) [
      | inl is ↦ (let at = in_data l place is in past at.0 at.1)
      | inr is ↦ past_homes (is_home l place is).1
    ]

    in_area : (data_start l ≤ start) × (start < l.sectors) → ⊥
    in_area at = elim (cases_lt l.sectors stop) [
      | inl less ↦ from_end l.sectors (λ from to. absurd (omega (arith, to))) (λ low. absurd (omega (arith, ends, apart.data_area, low))) (omega (arith, at.1)) less
      | inr more ↦ not_data at.0 more
    ]

    in_homes : (home_a l 0 ≤ start) × (start < home_a l l.pages) → ⊥
    in_homes at = elim (cases_lt (home_a l l.pages) stop) [
      | inl less ↦ from_end (home_a l l.pages) (λ from to. absurd (omega (arith, ends, from))) (λ low. absurd (omega (arith, low))) (omega (arith, at.1)) less
      | inr more ↦ not_homes at.0 more
    ]

-- ---- one run more

module _ (l : Layout) (map : Area) (pages : List Bool) (start stop : ℕ) (kept : AreKept l map pages) where
  outside_homes : (s : ℕ) → (start ≤ s → s < stop → ⊥) → in_range start stop s ≡ false
  outside_homes s out = elim (cases_lt s start) [
    | inl less ↦ below start stop s less
    | inr more ↦ elim (cases_lt s stop) [
      | inl less ↦ absurd (out more less)
      | inr far ↦ beyond start stop s far
    ]
  ]

  -- none is marked in the set where none from there on is marked, and all lie behind the first homes
  pub new_in_set : HasRegionsApart l → data_start l ≤ start → AreNewFrom l map pages start → (s : ℕ) → start ≤ s → s < stop → contains map.sectors s ≡ false
  new_in_set apart low new s from to =
      let no : is_first_home l s ≡ false = true_or s (λ is. absurd (let at = is_home l s is in let ends = homes_end l apart in omega (arith, at.1, ends, low, from))) in
      sym (cond-false (is_first_home l s) (get_or pages (s - home_a l 0) false) (contains map.sectors s) no) ∙ new s from
    where
      true_or : (s : ℕ) → (is_first_home l s ≡ true → is_first_home l s ≡ false) → is_first_home l s ≡ false
      true_or s by = elim (cases_Bool (is_first_home l s)) [ inl is ↦ by is | inr not ↦ not ]

  pub data_added : (new : Area) → HasRegionsApart l → data_start l ≤ start → IsReleased map new start stop → AreAdded l (in_range start stop) map pages new pages
  data_added new apart low is = record {
    kept = record { of = record { from = is.from ∙ kept.of.from; to = is.to ∙ kept.of.to; pages_are = kept.of.pages_are }; own = is.own };
    each = λ s. by s (is_first_home l s) refl;
  }
    where
      by : (s : ℕ) (b : Bool) → is_first_home l s ≡ b → cond b (get_or pages (s - home_a l 0) false) (contains new.sectors s) ≡ (cond b (get_or pages (s - home_a l 0) false) (contains map.sectors s) || in_range start stop s)
      by s true home =
          let out : in_range start stop s ≡ false = outside_homes s (λ from to. absurd (let at = is_home l s home in let ends = homes_end l apart in omega (arith, at.1, ends, low, from))) in
          sym (ap (λ (b : Bool). get_or pages (s - home_a l 0) false || b) out ∙ or_none (get_or pages (s - home_a l 0) false))
      by s false home = is.each s

  pub homes_added : (new : List Bool) → home_a l 0 ≤ start → stop ≤ home_a l l.pages → length new ≡ length pages
      → ((page : ℕ) → get_or new page false ≡ (get_or pages page false || in_range (start - home_a l 0) (stop - home_a l 0) page)) → AreAdded l (in_range start stop) map pages map new
  homes_added new low high size flags = record {
    kept = record { of = record { from = kept.of.from; to = kept.of.to; pages_are = size ∙ kept.of.pages_are }; own = kept.own };
    each = λ s. by s (is_first_home l s) refl;
  }
    where
      moved : (a start stop s : ℕ) → a ≤ start → a ≤ s → in_range (start - a) (stop - a) (s - a) ≡ in_range start stop s
      moved a start stop s low from = elim (cases_lt s start) [
        | inl less ↦ below (start - a) (stop - a) (s - a) (omega (arith, less, low, from)) ∙ sym (below start stop s less)
        | inr more ↦ elim (cases_lt s stop) [
          | inl less ↦ inside (start - a) (stop - a) (s - a) (omega (arith, more)) (omega (arith, less, from)) ∙ sym (inside start stop s more less)
          | inr far ↦ beyond (start - a) (stop - a) (s - a) (omega (arith, far)) ∙ sym (beyond start stop s far)
        ]
      ]

      by : (s : ℕ) (b : Bool) → is_first_home l s ≡ b → cond b (get_or new (s - home_a l 0) false) (contains map.sectors s) ≡ (cond b (get_or pages (s - home_a l 0) false) (contains map.sectors s) || in_range start stop s)
      by s true home = flags (s - home_a l 0) ∙ ap (λ (b : Bool). get_or pages (s - home_a l 0) false || b) (moved (home_a l 0) start stop s low (is_home l s home).0)
      by s false home =
          let out : in_range start stop s ≡ false = outside_homes s (λ from to. both_ways (is_first_home l s) home (home_is l s (omega (arith, low, from)) (omega (arith, high, to)))) in
          sym (ap (λ (b : Bool). contains map.sectors s || b) out ∙ or_none (contains map.sectors s))

-- ---- the bits of a map's sector, run after run

module _ (bytes : List ℕ) (at : ℕ) where
  abbrev bit : ℕ → Bool
  bit = has_map_bit bytes

  set_before : (n count : ℕ) → n < count → is_set_in_first bytes at count (at + n) ≡ bit n
  set_before n count less =
      let same : at + n - at ≡ n = omega arith in
      ap (λ (b : Bool). b && bit (at + n - at)) (inside at (at + count) (at + n) (omega arith) (omega (arith, less))) ∙ ap bit same

  set_behind : (n count : ℕ) → count ≤ n → is_set_in_first bytes at count (at + n) ≡ false
  set_behind n count more = ap (λ (b : Bool). b && bit (at + n - at)) (beyond at (at + count) (at + n) (omega (arith, more)))

  set_below : (s count : ℕ) → s < at → is_set_in_first bytes at count s ≡ false
  set_below s count less = ap (λ (b : Bool). b && bit (s - at)) (below at (at + count) s less)

  -- none of the first 0
  pub none_in_first : (s : ℕ) → is_set_in_first bytes at 0 s ≡ false
  none_in_first s = elim (cases_lt s at) [
    | inl less ↦ set_below s 0 less
    | inr more ↦ (let there : at + (s - at) ≡ s = omega (arith, more) in subst (λ (t : ℕ). is_set_in_first bytes at 0 t ≡ false) there (set_behind (s - at) 0 (omega arith)))
  ]

  module _ (start stop next : ℕ) (run : IsFirst map_bits bit start false stop) (rest : IsFirst map_bits bit stop true next) where
    split_at : (n : ℕ) → (is_set_in_first bytes at start (at + n) || in_range (at + start) (at + stop) (at + n)) ≡ is_set_in_first bytes at next (at + n)
    split_at n = elim (cases_lt n start) [
      | inl less ↦
          ap (λ (b : Bool). b || in_range (at + start) (at + stop) (at + n)) (set_before n start less)
          ∙ ap (λ (b : Bool). bit n || b) (below (at + start) (at + stop) (at + n) (omega (arith, less))) ∙ or_none (bit n)
          ∙ sym (set_before n next (omega (arith, less, run.from, rest.from)))
      | inr more ↦
          ap (λ (b : Bool). b || in_range (at + start) (at + stop) (at + n)) (set_behind n start more) ∙ behind n more
    ]
      where
        behind : (n : ℕ) → start ≤ n → in_range (at + start) (at + stop) (at + n) ≡ is_set_in_first bytes at next (at + n)
        behind n more = elim (cases_lt n stop) [
          | inl less ↦
              inside (at + start) (at + stop) (at + n) (omega (arith, more)) (omega (arith, less)) ∙ sym (run.before n more less)
              ∙ sym (set_before n next (omega (arith, less, rest.from)))
          | inr far ↦
              beyond (at + start) (at + stop) (at + n) (omega (arith, far)) ∙ elim (cases_lt n next) [
                | inl less ↦ sym (set_before n next less ∙ rest.before n far less)
                | inr past ↦ sym (set_behind n next past)
              ]
        ]

    split : (s : ℕ) → (is_set_in_first bytes at start s || in_range (at + start) (at + stop) s) ≡ is_set_in_first bytes at next s
    split s = elim (cases_lt s at) [
      | inl less ↦
          ap (λ (b : Bool). b || in_range (at + start) (at + stop) s) (set_below s start less) ∙ below (at + start) (at + stop) s (omega (arith, less))
          ∙ sym (set_below s next less)
      | inr more ↦
          (let there : at + (s - at) ≡ s = omega (arith, more) in
          subst (λ (t : ℕ). (is_set_in_first bytes at start t || in_range (at + start) (at + stop) t) ≡ is_set_in_first bytes at next t) there (split_at (s - at)))
    ]

    pub run_added : (l : Layout) (map mid new : Area) (pages mid_pages new_pages : List Bool) → AreAdded l (is_set_in_first bytes at start) map pages mid mid_pages → AreAdded l (in_range (at + start) (at + stop)) mid mid_pages new new_pages
        → AreAdded l (is_set_in_first bytes at next) map pages new new_pages
    run_added l map mid new pages mid_pages new_pages so_far one = record {
      kept = one.kept;
      each = λ s. one.each s ∙ ap (λ (b : Bool). b || in_range (at + start) (at + stop) s) (so_far.each s)
          ∙ or_assoc (marks l map pages s) (is_set_in_first bytes at start s) (in_range (at + start) (at + stop) s) ∙ ap (λ (b : Bool). marks l map pages s || b) (split s);
    }

    -- the bits in front of the next run are clear
    pub clear_on : (l : Layout) → ((n : ℕ) → n < start → has_place l (at + n) ≡ false → bit n ≡ false) → HavePlaces l (at + start) (at + stop)
        → (n : ℕ) → n < next → has_place l (at + n) ≡ false → bit n ≡ false
    clear_on l so_far places n less none = elim (cases_lt n start) [
      | inl before ↦ so_far n before none
      | inr more ↦ elim (cases_lt n stop) [
        | inl within ↦ absurd (both_ways (has_place l (at + n)) none (places (at + n) (omega (arith, more)) (omega (arith, within))))
        | inr far ↦ rest.before n far less
      ]
    ]

  -- a run of set bits has places where the sector is clear
  pub clear_places : (l : Layout) (start stop : ℕ) → IsFirst map_bits bit start false stop → IsClear l at bytes → HavePlaces l (at + start) (at + stop)
  clear_places l start stop run clear s from to =
      let n : ℕ = s - at in
      let there : at + n ≡ s = omega (arith, from) in
      let within : n < stop = omega (arith, to, from) in
      let set : bit n ≡ true = run.before n (omega (arith, from)) within in
      subst (λ (t : ℕ). has_place l t ≡ true) there (true_from_ne_false (has_place l (at + n)) (λ none. both_ways (bit n) (clear n (omega (arith, within, run.to)) none) set))

  -- what is marked so far leaves what is behind it
  pub new_behind : (l : Layout) (map mid : Area) (pages mid_pages : List Bool) (count : ℕ) → AreNewFrom l map pages at → AreAdded l (is_set_in_first bytes at count) map pages mid mid_pages → AreNewFrom l mid mid_pages (at + count)
  new_behind l map mid pages mid_pages count new so_far s from =
      let there : at + (s - at) ≡ s = omega (arith, from) in
      let none : is_set_in_first bytes at count s ≡ false = subst (λ (t : ℕ). is_set_in_first bytes at count t ≡ false) there (set_behind (s - at) count (omega (arith, from))) in
      so_far.each s ∙ ap (λ (b : Bool). b || is_set_in_first bytes at count s) (new s (omega (arith, from))) ∙ none

  -- nothing is taken in yet
  pub none_added : (l : Layout) (map : Area) (pages : List Bool) (start : ℕ) → AreKept l map pages → IsFirst map_bits bit 0 true start → AreAdded l (is_set_in_first bytes at start) map pages map pages
  none_added l map pages start kept first = record { kept = kept; each = λ s. sym (ap (λ (b : Bool). marks l map pages s || b) (none s) ∙ or_none (marks l map pages s)) }
    where
      none_at : (n : ℕ) → is_set_in_first bytes at start (at + n) ≡ false
      none_at n = elim (cases_lt n start) [
        | inl less ↦ set_before n start less ∙ first.before n (omega arith) less
        | inr more ↦ set_behind n start more
      ]

      none : (s : ℕ) → is_set_in_first bytes at start s ≡ false
      none s = elim (cases_lt s at) [
        | inl less ↦ set_below s start less
        | inr more ↦ (let there : at + (s - at) ≡ s = omega (arith, more) in subst (λ (t : ℕ). is_set_in_first bytes at start t ≡ false) there (none_at (s - at)))
      ]

-- a run of set bits has the first of them
pub run_goes_on : (bytes : List ℕ) (start stop : ℕ) → IsFirst map_bits (has_map_bit bytes) start false stop → has_map_bit bytes start ≡ true → start < map_bits → start < stop
run_goes_on bytes start stop run set less = elim (cases_lt start stop) [
  | inl more ↦ more
  | inr past ↦
      let same : stop ≡ start = omega (arith, past, run.from) in
      absurd (both_ways (has_map_bit bytes start) (sym (ap (has_map_bit bytes) same) ∙ run.found (omega (arith, same, less))) set)
]
