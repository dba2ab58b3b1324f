-- A volume with more sectors is whole, is memory of the grown one, and tells the new sectors as free beside those that were.
use Rattle.std.proofs.Common.{◌≡◌, inl, inr, ℕ, zero, suc, ◌+◌, ◌-◌, ◌*◌, ◌^◌, ◌<◌, ◌≤◌, ◌==◌, ◌&&◌, ◌||◌, not, min, Bool, true, false, cond, List, [], ◌∷◌, ◌++◌, refl, sym, ap, subst, ◌∙◌, arith}
use Rattle.std.specs.Prelude.{IsTrue, nat_le, nat_lt}
use Rattle.std.specs.List.{filter, flat_map, list_all, range_with_len}
use Rattle.std.proofs.Math.Bool.{and-false, or-false}
use Rattle.std.proofs.lemmas.Bool.{and_from, and_parts, cases_lt, eqb-true, false_from_ne_true, le-leb, le-ltb, leb-true, lt-leb, lt-ltb, ltb-true, or_cases, or_from, or_left}
use Rattle.std.proofs.lemmas.Grind.{flat_map-append}
use Rattle.std.proofs.lemmas.List.{append-nil}
use Rattle.std.proofs.lemmas.List.Elements.{filter-append}
use Rattle.volume_layout.specs.declared.layout.Layout.{Layout}
use Rattle.volume_layout.specs.Layout.{data_start, is_data, map_bits, map_sectors, map_start, most_of, with_sectors}
use Rattle.volume_layout.proofs.GrownLaws.{sized_map, sized_planned}
use Rattle.volume_layout.proofs.RootLaws.{planned_bounds}
use Rattle.run_table.specs.declared.run.Run.{Run}
use Rattle.run_table.specs.RunTable.{run_of, sectors_of}
use Rattle.run_table.specs.Space.{all_differ, contains, joined, runs_of, where_free}
use Rattle.run_table.proofs.SectorLaws.{contains-append, contains-cons}
use Rattle.sector_set.specs.Area.{Area, AreOut, area, together}
use Rattle.sector_set.proofs.AreaLaws.{free_passes}
use Rattle.sector_set.proofs.FreeLaws.{contains_range, where_same}
use Rattle.shadow_frees.specs.Readers.{is_held, unheld}
use Rattle.shadow_frees.specs.Waits.{run_between, waits_in}
use Rattle.fsd_log.specs.Scan.{Placed}
use Rattle.fsd_files.specs.Answers.{grown}
use Rattle.fsd_files.specs.Volume.{in_version, is_free, is_in, plans_of, waits}
use Rattle.fsd_files.specs.Waiting.{IsSpaced}
use Rattle.fsd_files.proofs.CountLaws.{occurs_differ, range_once}
use Rattle.fsd_files.proofs.WaitLaws.{open_in_area}
use Rattle.fsd_sound.specs.Mounted.{Mounted}
use Rattle.fsd_sound.proofs.MountedLaws.{all_data}
use Rattle.log_thirds.specs.Append.{IsIndexed, of_layout}
use Rattle.log_thirds.specs.LogValue.{FitsLayout}
use Rattle.table_survey.specs.Claims.{IsOfData, data_area}
use Rattle.table_survey.proofs.DataLaws.{data_at, data_outside, data_own, of_data_outside, of_data_own, of_data_within}
use Rattle.volume_contract.specs.Growth.{grown_state, with_more}
use Rattle.volume_laws.specs.Grown.{value_grown}
use Rattle.volume_laws.specs.State.{IsMemoryOf, freed_sectors, state}
use Rattle.volume_laws.specs.Volume.{IsWholeVolume, VolumeValue}
use Rattle.volume_laws.proofs.FreeLaws.{nothing}

-- ---- sectors as runs, and back

sectors_joined : (s : ℕ) (runs : List Run) → sectors_of (joined s runs) ≡ s ∷ sectors_of runs
sectors_joined s [] = refl
sectors_joined s (r ∷ runs) = by (s + 1 == r.start) refl
  where
    by : (b : Bool) → (s + 1 == r.start) ≡ b → sectors_of (cond b (run_of s (r.length + 1) ∷ runs) (run_of s 1 ∷ r ∷ runs)) ≡ s ∷ sectors_of (r ∷ runs)
    by true e =
        let longer : r.length + 1 ≡ suc r.length = omega arith in
        ap (λ (xs : List ℕ). xs ++ sectors_of runs) (ap (range_with_len s) longer ∙ ap (λ (n : ℕ). s ∷ range_with_len n r.length) (eqb-true (s + 1) r.start e))
    by false e = refl

pub sectors_of_runs : (xs : List ℕ) → sectors_of (runs_of xs) ≡ xs
sectors_of_runs [] = refl
sectors_of_runs (s ∷ xs) = sectors_joined s (runs_of xs) ∙ ap (λ (ys : List ℕ). s ∷ ys) (sectors_of_runs xs)

-- ---- sectors that pass a test, in parts

split_range : (a n k : ℕ) → range_with_len a (n + k) ≡ range_with_len a n ++ range_with_len (a + n) k
split_range a zero k =
    let place : a ≡ a + 0 = omega arith in
    let count : 0 + k ≡ k = omega arith in
    λ i. range_with_len (place i) (count i)
split_range a (suc n) k =
    let next : suc n + k ≡ suc (n + k) = omega arith in
    let place : a + 1 + n ≡ a + suc n = omega arith in
    ap (range_with_len a) next ∙ ap (λ (xs : List ℕ). a ∷ xs) (split_range (a + 1) n k ∙ ap (λ (x : ℕ). range_with_len (a + 1) n ++ range_with_len x k) place)

where_split : (f : ℕ → Bool) (a b c : ℕ) → a ≤ b → b ≤ c → where_free f a c ≡ where_free f a b ++ where_free f b c
where_split f a b c low high =
    let count : c - a ≡ (b - a) + (c - b) = omega (arith, low, high) in
    let seam : a + (b - a) ≡ b = omega (arith, low) in
    ap (λ (k : ℕ). filter f (range_with_len a k)) count
    ∙ ap (filter f) (split_range a (b - a) (c - b))
    ∙ filter-append f (range_with_len a (b - a)) (range_with_len (a + (b - a)) (c - b))
    ∙ ap (λ (x : ℕ). where_free f a b ++ filter f (range_with_len x (c - b))) seam

filter_all : (a n : ℕ) → filter (λ s. true) (range_with_len a n) ≡ range_with_len a n
filter_all a zero = refl
filter_all a (suc n) = ap (λ (xs : List ℕ). a ∷ xs) (filter_all (a + 1) n)

-- what passes below a place, and all from there to another, and nothing behind
with_all : (f g : ℕ → Bool) (from at n to : ℕ) → from ≤ at → at ≤ n → n ≤ to → ((s : ℕ) → from ≤ s → s < at → g s ≡ f s) → ((s : ℕ) → at ≤ s → s < n → g s ≡ true) → ((s : ℕ) → n ≤ s → s < to → g s ≡ false)
    → ((s : ℕ) → at ≤ s → s < to → f s ≡ false) → where_free g from to ≡ where_free f from to ++ range_with_len at (n - at)
with_all f g from at n to low mid high same all past none =
    let front : where_free g from at ≡ where_free f from at = where_same g f from at same in
    let more : where_free g at n ≡ range_with_len at (n - at) = where_same g (λ s. true) at n all ∙ filter_all at (n - at) in
    let last : where_free g n to ≡ [] = where_same g (λ s. false) n to past ∙ nothing n to in
    let was : where_free f from to ≡ where_free f from at =
    where_split f from at to low (omega (arith, mid, high)) ∙ ap (λ (xs : List ℕ). where_free f from at ++ xs) (where_same f (λ s. false) at to none ∙ nothing at to) ∙ append-nil (where_free f from at) in
    where_split g from at to low (omega (arith, mid, high))
    ∙ ap (λ (xs : List ℕ). where_free g from at ++ xs) (where_split g at n to mid high)
    ∙ (λ i. front i ++ (more i ++ last i))
    ∙ ap (λ (xs : List ℕ). where_free f from at ++ xs) (append-nil (range_with_len at (n - at)))
    ∙ ap (λ (xs : List ℕ). xs ++ range_with_len at (n - at)) (sym was)

-- ---- a volume with more sectors

module _ (v : VolumeValue) (n : ℕ) (larger : v.layout.sectors < n) (most : n ≤ most_of v.layout) (whole : IsWholeVolume v) where
  abbrev l : Layout
  l = v.layout

  abbrev k : Layout
  k = with_sectors n v.layout

  -- the sectors that come
  abbrev runs : List Run
  runs = run_between (v.layout.sectors, n) ∷ []

  same_map : map_sectors k ≡ map_sectors v.layout
  same_map = sized_map v.layout whole.planned n (omega (arith, larger)) most

  same_start : data_start k ≡ data_start v.layout
  same_start = ap (λ (m : ℕ). map_start v.layout + m) same_map

  same_most : most_of k ≡ most_of v.layout
  same_most = ap (λ (m : ℕ). cond (v.layout.most == 0) (min (map_bits * m) (2 ^ 24)) v.layout.most) same_map

  begins : data_start v.layout ≤ v.layout.sectors
  begins = let least = (planned_bounds v.layout whole.planned).sectors_least in omega (arith, least)

  -- ---- sets of its sectors

  in_more : (s : ℕ) → contains (sectors_of runs) s ≡ (nat_le v.layout.sectors s && nat_lt s n)
  in_more s =
      let end : v.layout.sectors + (n - v.layout.sectors) ≡ n = omega (arith, larger) in
      contains-cons (run_between (v.layout.sectors, n)) [] s
      ∙ or-false (contains (range_with_len v.layout.sectors (n - v.layout.sectors)) s)
      ∙ contains_range v.layout.sectors (n - v.layout.sectors) s
      ∙ ap (λ (e : ℕ). nat_le v.layout.sectors s && nat_lt s e) end

  between : (s : ℕ) → contains (sectors_of runs) s ≡ true → (v.layout.sectors ≤ s) × (s < n)
  between s there =
      let parts = and_parts (nat_le v.layout.sectors s) (nat_lt s n) (sym (in_more s) ∙ there) in
      (leb-true v.layout.sectors s parts.0, ltb-true s n parts.1)

  comes : (s : ℕ) → v.layout.sectors ≤ s → s < n → contains (sectors_of runs) s ≡ true
  comes s low high = in_more s ∙ and_from (nat_le v.layout.sectors s) (nat_lt s n) (le-leb v.layout.sectors s low) (lt-ltb s n high)

  none_comes : (s : ℕ) → s < v.layout.sectors → contains (sectors_of runs) s ≡ false
  none_comes s below = in_more s ∙ ap (λ (b : Bool). b && nat_lt s n) (lt-leb v.layout.sectors s below)

  none_past : (s : ℕ) → n ≤ s → contains (sectors_of runs) s ≡ false
  none_past s past = in_more s ∙ ap (λ (b : Bool). nat_le v.layout.sectors s && b) (le-ltb s n past) ∙ and-false (nat_le v.layout.sectors s)

  -- it has no sector from the old end on
  none_behind : (m : Area) → IsOfData v.layout m → (s : ℕ) → v.layout.sectors ≤ s → contains m.sectors s ≡ false
  none_behind m of_data s past = of_data_outside v.layout m of_data s (λ low high. omega (arith, past, high))

  still_data : (m : Area) → IsOfData v.layout m → IsOfData k m
  still_data m of_data =
      of_data
      ∙ ap (λ (xs : List ℕ). record { from = data_start v.layout; to = most_of v.layout; sectors = xs })
      (where_same (λ s. nat_lt s v.layout.sectors && contains m.sectors s) (λ s. nat_lt s n && contains m.sectors s) (data_start v.layout) (most_of v.layout) (λ s low high. each s (contains m.sectors s) refl))
      ∙ (λ i. area (sym same_start i) (sym same_most i) (λ s. nat_lt s n && contains m.sectors s))
    where
      each : (s : ℕ) (b : Bool) → contains m.sectors s ≡ b → (nat_lt s v.layout.sectors && b) ≡ (nat_lt s n && b)
      each s true there =
          let below = (of_data_within v.layout m of_data s there).1 in
          ap (λ (b : Bool). b && true) (lt-ltb s v.layout.sectors below ∙ sym (lt-ltb s n (omega (arith, below, larger))))
      each s false none = and-false (nat_lt s v.layout.sectors) ∙ sym (and-false (nat_lt s n))

  -- ---- the free ones

  -- a sector is free, or comes
  abbrev freed : ℕ → Bool
  freed s = contains v.map.sectors s || contains (sectors_of runs) s

  below_end : (s : ℕ) → freed s ≡ true → s < n
  below_end s there = elim (or_cases (contains v.map.sectors s) (contains (sectors_of runs) s) there) [
    | inl was ↦ let below = (of_data_within v.layout v.map whole.map s was).1 in omega (arith, below, larger)
    | inr more ↦ (between s more).1
  ]

  map_is : together v.map runs ≡ data_area k freed
  map_is =
      (λ i. area (ap (λ (m : Area). m.from) whole.map i) (ap (λ (m : Area). m.to) whole.map i) freed)
      ∙ (λ i. area (sym same_start i) (sym same_most i) freed)
      ∙ ap (λ (xs : List ℕ). record { from = data_start k; to = most_of k; sectors = xs }) (where_same freed (λ s. nat_lt s n && freed s) (data_start k) (most_of k) (λ s low high. each s (freed s) refl))
    where
      each : (s : ℕ) (b : Bool) → freed s ≡ b → b ≡ (nat_lt s n && b)
      each s true there = sym (ap (λ (b : Bool). b && true) (lt-ltb s n (below_end s there)))
      each s false none = sym (and-false (nat_lt s n))

  map_of_data : IsOfData k (together v.map runs)
  map_of_data = subst (IsOfData k) (sym map_is) (data_own k freed)

  pub more_is_out : AreOut v.map (run_between (v.layout.sectors, n) ∷ [])
  more_is_out = record {
    within = λ s there. let at = between s there in (
      omega (arith, at.0, begins, ap (λ (m : Area). m.from) whole.map),
      omega (arith, at.1, most, ap (λ (m : Area). m.to) whole.map),
    );
    outside = λ s there. none_behind v.map whole.map s (between s there).0;
    differ =
        ap all_differ (append-nil (range_with_len v.layout.sectors (n - v.layout.sectors)))
        ∙ occurs_differ (range_with_len v.layout.sectors (n - v.layout.sectors)) (λ s. (range_once s v.layout.sectors (n - v.layout.sectors)).0);
  }

  waits_none : (s : ℕ) → v.layout.sectors ≤ s → waits_in v.shadow s ≡ false
  waits_none s past =
      or_from (contains v.shadow.removed.sectors s) (contains v.shadow.kept.sectors s || contains v.shadow.unfinished.sectors s) (none_behind v.shadow.removed whole.removed s past)
      (or_from (contains v.shadow.kept.sectors s) (contains v.shadow.unfinished.sectors s) (none_behind v.shadow.kept whole.kept s past) (none_behind v.shadow.unfinished whole.unfinished s past))

  pub whole_grown : IsWholeVolume (value_grown n v)
  whole_grown = record {
    planned = sized_planned v.layout whole.planned n (omega (arith, larger)) most;
    map = map_of_data;
    removed = still_data v.shadow.removed whole.removed;
    kept = still_data v.shadow.kept whole.kept;
    unfinished = still_data v.shadow.unfinished whole.unfinished;
    apart = λ s there. elim (or_cases (contains v.map.sectors s) (contains (sectors_of runs) s) (free_passes v.map.from v.map.to freed s there)) [
      | inl was ↦ whole.apart s was
      | inr more ↦ waits_none s (between s more).0
    ];
    once = whole.once;
    log = refl;
    epoch = whole.epoch;
    pages = whole.pages;
    room = whole.room;
    unpinned = whole.unpinned;
    waiting = whole.waiting;
    numbered = whole.numbered;
    still = whole.still;
  }

  -- ---- what it tells

  sectors_more : (together v.map runs).sectors ≡ v.map.sectors ++ range_with_len v.layout.sectors (n - v.layout.sectors)
  sectors_more =
      let from = ap (λ (m : Area). m.from) whole.map in
      let to = ap (λ (m : Area). m.to) whole.map in
      with_all (contains v.map.sectors) freed v.map.from v.layout.sectors n v.map.to (omega (arith, from, begins)) (omega (arith, larger)) (omega (arith, to, most))
      (λ s low high. ap (λ (b : Bool). contains v.map.sectors s || b) (none_comes s high) ∙ or-false (contains v.map.sectors s))
      (λ s low high. ap (λ (b : Bool). b || contains (sectors_of runs) s) (none_behind v.map whole.map s low) ∙ comes s low high)
      (λ s low high. ap (λ (b : Bool). b || contains (sectors_of runs) s) (none_behind v.map whole.map s (omega (arith, low, larger))) ∙ none_past s low)
      (λ s low high. none_behind v.map whole.map s low)
      ∙ ap (λ (xs : List ℕ). xs ++ range_with_len v.layout.sectors (n - v.layout.sectors)) (sym own)
    where
      own : v.map.sectors ≡ where_free (contains v.map.sectors) v.map.from v.map.to
      own = ap (λ (m : Area). m.sectors) (of_data_own v.layout v.map whole.map)

  -- those of the next force that nobody holds
  abbrev loose : ℕ → Bool
  loose s = contains (unheld v.shadow.held v.shadow.removed).sectors s

  none_loose : (s : ℕ) → v.layout.sectors ≤ s → loose s ≡ false
  none_loose s past = false_from_ne_true (loose s) (λ there.
      let test = free_passes v.shadow.removed.from v.shadow.removed.to (λ t. contains v.shadow.removed.sectors t && not (is_held v.shadow.held t)) s there in
      absurd (let none = none_behind v.shadow.removed whole.removed s past in cc (none, (and_parts (contains v.shadow.removed.sectors s) (not (is_held v.shadow.held s)) test).0)))

  freed_more : freed_sectors (value_grown n v) ≡ freed_sectors v ++ range_with_len v.layout.sectors (n - v.layout.sectors)
  freed_more =
      let from = ap (λ (m : Area). m.from) whole.map in
      let to = ap (λ (m : Area). m.to) whole.map in
      with_all (λ s. contains v.map.sectors s || loose s) (λ s. contains (together v.map runs).sectors s || loose s) v.map.from v.layout.sectors n v.map.to (omega (arith, from, begins)) (omega (arith, larger)) (omega (arith, to, most))
      (λ s low high. ap (λ (b : Bool). b || loose s) (now s ∙ ap (λ (b : Bool). contains v.map.sectors s || b) (none_comes s high) ∙ or-false (contains v.map.sectors s)))
      (λ s low high. ap (λ (b : Bool). b || loose s) (now s ∙ ap (λ (b : Bool). b || contains (sectors_of runs) s) (none_behind v.map whole.map s low) ∙ comes s low high))
      (λ s low high. or_from (contains (together v.map runs).sectors s) (loose s) (now s ∙ ap (λ (b : Bool). b || contains (sectors_of runs) s) (none_behind v.map whole.map s (omega (arith, low, larger))) ∙ none_past s low) (none_loose s (omega (arith, low, larger))))
      (λ s low high. or_from (contains v.map.sectors s) (loose s) (none_behind v.map whole.map s low) (none_loose s low))
    where
      now : (s : ℕ) → contains (together v.map runs).sectors s ≡ freed s
      now s = ap (λ (xs : List ℕ). contains xs s) sectors_more ∙ contains-append v.map.sectors (range_with_len v.layout.sectors (n - v.layout.sectors)) s
          ∙ ap (λ (xs : List ℕ). contains v.map.sectors s || contains xs s) (sym (append-nil (range_with_len v.layout.sectors (n - v.layout.sectors))))

  told_more : (xs ys : List ℕ) → ys ≡ xs ++ range_with_len v.layout.sectors (n - v.layout.sectors) → runs_of ys ≡ with_more v.layout.sectors n (runs_of xs)
  told_more xs ys is = ap runs_of is ∙ ap (λ (zs : List ℕ). runs_of (zs ++ range_with_len v.layout.sectors (n - v.layout.sectors))) (sym (sectors_of_runs xs))

  pub state_grown : state (value_grown n v) ≡ grown_state n (state v)
  state_grown = λ i. record (state v) {
    layout = k;
    free = told_more v.map.sectors (together v.map runs).sectors sectors_more i;
    freed = told_more (freed_sectors v) (freed_sectors (value_grown n v)) freed_more i;
  }

  -- ---- what it is memory of

  module _ (m : Mounted) (records : List Placed) (layout : m.volume.layout ≡ v.layout) (spaced : IsSpaced m.volume) (holds : IsMemoryOf v m records) where
    -- no sector of a version lies behind the old end, and none that waits
    module _ (s : ℕ) (past : v.layout.sectors ≤ s) where
      out : IsTrue (is_data m.volume.layout s) → ⊥
      out there =
          let high = ltb-true s m.volume.layout.sectors (and_parts (nat_le (data_start m.volume.layout) s) (nat_lt s m.volume.layout.sectors) there).1 in
          omega (arith, high, past, ap (λ (x : Layout). x.sectors) layout)

      none_in : in_version m.volume s ≡ false
      none_in = false_from_ne_true (in_version m.volume s) (λ there.
          let all = flat_map sectors_of (plans_of m.volume.entries ++ m.volume.drafts) in
          let joined = flat_map-append sectors_of (plans_of m.volume.entries) m.volume.drafts in
          out (all_data m.volume.layout all s (and_parts (all_differ all) (list_all (is_data m.volume.layout) all) spaced.apart).1
          (ap (λ (xs : List ℕ). contains xs s) joined
          ∙ contains-append (flat_map sectors_of (plans_of m.volume.entries)) (flat_map sectors_of m.volume.drafts) s
          ∙ or_left (in_version m.volume s) (is_in m.volume.drafts s) there)))

      none_waits : waits m.volume s ≡ false
      none_waits = false_from_ne_true (waits m.volume s) (λ there.
          let some = (and_parts (not (in_version m.volume s)) (contains m.volume.removed s || is_in m.volume.held s || is_in m.volume.drafts s) there).1 in
          elim (or_cases (contains m.volume.removed s || is_in m.volume.held s) (is_in m.volume.drafts s) some) [
            | inl area ↦ out (spaced.area s area)
            | inr drafted ↦ out (open_in_area m.volume spaced s (or_left (is_in m.volume.drafts s) (is_in m.volume.held s) drafted))
          ])

    -- a sector is free by this test of the data area
    abbrev free_where : Bool → ℕ → Bool
    free_where b s = b && not (in_version m.volume s) && not (waits m.volume s)

    was_free : (s : ℕ) → is_free m.volume s ≡ free_where (is_data v.layout s) s
    was_free s = ap (λ (x : Layout). free_where (is_data x s) s) layout

    free_by : (s : ℕ) (b : Bool) → is_data k s ≡ b → is_free (grown n m.volume) s ≡ free_where b s
    free_by s b is = ap (λ (x : Layout). free_where (is_data (with_sectors n x) s) s) layout ∙ ap (λ (t : Bool). free_where t s) is

    map_at : (s : ℕ) → data_start v.layout ≤ s → s < n → contains (together v.map runs).sectors s ≡ freed s
    map_at s low high = ap (λ (a : Area). contains a.sectors s) map_is ∙ data_at k (sized_planned v.layout whole.planned n (omega (arith, larger)) most) freed s (omega (arith, low, same_start)) high

    map_outside : (s : ℕ) → (data_start v.layout ≤ s → s < n → ⊥) → contains (together v.map runs).sectors s ≡ false
    map_outside s none = ap (λ (a : Area). contains a.sectors s) map_is ∙ data_outside k freed s (λ low high. none (omega (arith, low, same_start)) high)

    now_data : (s : ℕ) → data_start v.layout ≤ s → s < n → is_data k s ≡ true
    now_data s low high = and_from (nat_le (data_start k) s) (nat_lt s n) (le-leb (data_start k) s (omega (arith, low, same_start))) (lt-ltb s n high)

    map_grown : (s : ℕ) → contains (together v.map runs).sectors s ≡ is_free (grown n m.volume) s
    map_grown s = elim (cases_lt s (data_start v.layout)) [
      | inl front ↦ map_outside s (λ low high. omega (arith, front, low)) ∙ sym (free_by s false (ap (λ (b : Bool). b && nat_lt s n) (lt-leb (data_start k) s (omega (arith, front, same_start)))))
      | inr low ↦ elim (cases_lt s n) [
        | inr past ↦ map_outside s (λ from to. omega (arith, past, to)) ∙ sym (free_by s false (ap (λ (b : Bool). nat_le (data_start k) s && b) (le-ltb s n past) ∙ and-false (nat_le (data_start k) s)))
        | inl high ↦ elim (cases_lt s v.layout.sectors) [
          | inl before ↦
              map_at s low high
              ∙ ap (λ (b : Bool). contains v.map.sectors s || b) (none_comes s before)
              ∙ or-false (contains v.map.sectors s)
              ∙ holds.map s
              ∙ was_free s
              ∙ ap (λ (b : Bool). free_where b s) (and_from (nat_le (data_start v.layout) s) (nat_lt s v.layout.sectors) (le-leb (data_start v.layout) s low) (lt-ltb s v.layout.sectors before))
              ∙ sym (free_by s true (now_data s low high))
          | inr behind ↦
              map_at s low high
              ∙ ap (λ (b : Bool). b || contains (sectors_of runs) s) (none_behind v.map whole.map s behind)
              ∙ comes s behind high
              ∙ sym (free_by s true (now_data s low high) ∙ (λ i. not (none_in s behind i) && not (none_waits s behind i)))
        ]
      ]
    ]

    fits_grown : FitsLayout (of_layout k v.log)
    fits_grown =
        let fits : FitsLayout (of_layout v.layout v.log) = subst (λ (x : Layout). FitsLayout (of_layout x v.log)) holds.log holds.fits in record {
          least = fits.least;
          inside = omega (arith, fits.inside, larger);
          third = fits.third;
          is_in = record { before = fits.is_in.before; from = fits.is_in.from; ends = fits.is_in.ends };
          begun = fits.begun;
          epoch = fits.epoch;
          number = fits.number;
          numbers = fits.numbers;
          pages = fits.pages;
          table = fits.table;
        }

    indexed_grown : IsIndexed (of_layout k v.log) records
    indexed_grown =
        let indexed : IsIndexed (of_layout v.layout v.log) records = subst (λ (x : Layout). IsIndexed (of_layout x v.log) records) holds.log holds.indexed in
        record { slots = λ page within. indexed.slots page within; firsts = indexed.firsts }

    pub memory_grown : IsMemoryOf (value_grown n v) (record m { volume = grown n m.volume }) records
    memory_grown = record {
      planned = sized_planned v.layout whole.planned n (omega (arith, larger)) most;
      pages = holds.pages;
      inside = holds.inside;
      map = map_grown;
      removed = holds.removed;
      kept = holds.kept;
      unfinished = holds.unfinished;
      free_pages = holds.free_pages;
      log = refl;
      fits = fits_grown;
      indexed = indexed_grown;
    }
