-- Entries whose sectors are taken out of an area, one after another.
use Rattle.std.proofs.Common.{◌≡◌, ◌⊎◌, inl, inr, ℕ, zero, suc, ◌+◌, ◌<◌, ◌≤◌, Bool, true, false, cond, not, ◌&&◌, ◌||◌, List, [], ◌∷◌, ◌++◌, length, filter, refl, sym, ap, ◌∙◌, arith}
use Rattle.std.proofs.Math.Bool.{and-true}
use Rattle.std.specs.Prelude.{nat_le, nat_lt, ◌==◌}
use Rattle.std.specs.List.{flat_map, list_any}
use Rattle.std.proofs.lemmas.Bool.{and_parts, and_from, or_cases, or_left, or_right, leb-true, ltb-true, cases_Bool, false_from_ne_true, both_ways, not-true, not_from_false, or_parts, not-false, or_from}
use Rattle.volume_layout.specs.declared.layout.Layout.{Layout}
use Rattle.volume_layout.specs.Layout.{data_start, is_data, most_of, IsPlanned}
use Rattle.volume_layout.proofs.GrownLaws.{most_least}
use Rattle.run_table.specs.declared.run.Run.{Run}
use Rattle.run_table.specs.RunTable.{sectors_of, total, are_runs, max_runs}
use Rattle.run_table.specs.Space.{contains, all_differ}
use Rattle.run_table.proofs.SectorLaws.{all_from}
use Rattle.fsd_bytes.specs.declared.key.Key.{Key}
use Rattle.fsd_bytes.specs.Keys.{key_lt, is_key}
use Rattle.fsd_bytes.specs.Names.{is_between}
use Rattle.fsd_formats.specs.NamePage.{is_entry, max_keep, max_length, sectors_for}
use Rattle.std.proofs.lemmas.List.Sums.{sum_by-cons}
use Rattle.fsd_formats.specs.declared.entry.Entry.{Entry}
use Rattle.fsd_files.specs.Space.{Apart}
use Rattle.fsd_files.specs.Volume.{plans_of, is_in}
use Rattle.fsd_files.proofs.CountLaws.{occurs, occurs-append, contains_occurs, occurs_contains, differ_occurs, occurs_differ, used, used-cons}
use Rattle.fsd_table.specs.Breaks.{entry_clashes, taken_before}
use Rattle.fsd_table.proofs.KeyLaws.{lt_itself}
use Rattle.std.specs.List.{AllByRecursion, list_all}
use Rattle.sector_set.specs.Area.{Area, area, without_sectors, AreIn, IsOwn}
use Rattle.sector_set.proofs.FreeLaws.{where_same, contains_where}
use Rattle.sector_set.proofs.AreaLaws.{free_within, free_passes}
use Rattle.sector_set.proofs.CountLaws.{count_without}
use Rattle.sector_set.proofs.MeetLaws.{any_none, none_any}
use Rattle.table_survey.specs.Claims.{IsClaimed, IsLeftOf, IsOfData, data_area, whole_area}
use Rattle.table_survey.proofs.DataLaws.{area_own, data_at, data_there}

-- ---- how often a sector stands in plans

out_occurs : (s : ℕ) (xs : List ℕ) → contains xs s ≡ false → occurs s xs ≡ 0
out_occurs s xs e = by (occurs s xs) (λ h. both_ways (contains xs s) e (occurs_contains s xs h))
  where
    by : (n : ℕ) → (0 < n → ⊥) → n ≡ 0
    by zero h = refl
    by (suc n) h = absurd (h (omega arith))

used_more : (s : ℕ) (done : List Entry) (e : Entry) → used s (plans_of (done ++ e ∷ [])) ≡ used s (plans_of done) + occurs s (sectors_of e.runs)
used_more s [] e = omega (arith, used-cons s e.runs [])
used_more s (x ∷ done) e = omega (arith, used-cons s x.runs (plans_of (done ++ e ∷ [])), used-cons s x.runs (plans_of done), used_more s done e)

-- ---- areas

within : (m : Area) → IsOwn m → (s : ℕ) → contains m.sectors s ≡ true → (m.from ≤ s) × (s < m.to)
within m own s there = free_within m.from m.to (contains m.sectors) s (ap (λ (a : Area). contains a.sectors s) (sym own) ∙ there)

-- fewer are left
pub fewer_left : (m : Area) (runs : List Run) → IsOwn m → AreIn m runs → length m.sectors ≡ total runs + length (without_sectors m runs).sectors
fewer_left m runs own are =
    ap (λ (a : Area). length a.sectors) own ∙ count_without (contains m.sectors) runs m.from m.to are.differ (λ s c. within m own s (are.inside s c)) are.inside

pub whole_own : (l : Layout) → IsOwn (whole_area l)
whole_own l = area_own (data_start l) (most_of l) (λ s. nat_lt s l.sectors && true)

pub without_own : (m : Area) (runs : List Run) → IsOwn (without_sectors m runs)
without_own m runs = area_own m.from m.to (λ s. contains m.sectors s && not (contains (sectors_of runs) s))

-- all are left, and all but those of runs
pub left_all : (m : Area) → IsOwn m → IsLeftOf m m
left_all m own = own ∙ ap (λ (xs : List ℕ). record { from = m.from; to = m.to; sectors = xs })
    (where_same (contains m.sectors) (λ s. contains m.sectors s && contains m.sectors s) m.from m.to (λ s low high. both (contains m.sectors s)))
  where
    both : (a : Bool) → a ≡ (a && a)
    both true = refl
    both false = refl

pub left_less : (start now : Area) (runs : List Run) → IsLeftOf start now → IsLeftOf start (without_sectors now runs)
left_less start now runs left =
    ap (λ (f : ℕ). area f now.to kept) from
    ∙ ap (λ (t : ℕ). area start.from t kept) to
    ∙ ap (λ (xs : List ℕ). record { from = start.from; to = start.to; sectors = xs }) (where_same kept (λ s. contains start.sectors s && contains (without_sectors now runs).sectors s) start.from start.to each)
  where
    kept : ℕ → Bool
    kept s = contains now.sectors s && not (contains (sectors_of runs) s)

    from : now.from ≡ start.from
    from = ap (λ (a : Area). a.from) left

    to : now.to ≡ start.to
    to = ap (λ (a : Area). a.to) left

    also : (a b c : Bool) → a ≡ (b && a) → (a && c) ≡ (b && (a && c))
    also true true c is = refl
    also true false c is = absurd (both_ways true is refl)
    also false true c is = refl
    also false false c is = refl

    each : (s : ℕ) → start.from ≤ s → s < start.to → kept s ≡ (contains start.sectors s && contains (without_sectors now runs).sectors s)
    each s low high =
        also (contains now.sectors s) (contains start.sectors s) (not (contains (sectors_of runs) s))
        (ap (λ (a : Area). contains a.sectors s) left ∙ contains_where (λ t. contains start.sectors t && contains now.sectors t) start.from start.to s low high)
        ∙ ap (λ (b : Bool). contains start.sectors s && b) (sym (contains_where kept now.from now.to s (omega (arith, low, from)) (omega (arith, high, to))))

-- of the whole data area
pub left_data : (l : Layout) (m : Area) → IsLeftOf (whole_area l) m → IsOfData l m
left_data l m left = left ∙ ap (λ (xs : List ℕ). record { from = data_start l; to = most_of l; sectors = xs })
    (where_same (λ s. contains (whole_area l).sectors s && contains m.sectors s) (λ s. nat_lt s l.sectors && contains m.sectors s) (data_start l) (most_of l)
    (λ s low high. ap (λ (b : Bool). b && contains m.sectors s)
    (contains_where (λ t. nat_lt t l.sectors && true) (data_start l) (most_of l) s low high ∙ and-true (nat_lt s l.sectors))))

-- an entry has a sector
some_sector : (runs : List Run) → are_runs runs ≡ true → 1 ≤ total runs
some_sector [] is = absurd cc
some_sector (r ∷ runs) is =
    let each = (and_parts (is_between 1 max_runs (length (r ∷ runs))) (list_all (λ q. is_between 1 65535 q.length) (r ∷ runs)) is).1 in
    let here = (and_parts (is_between 1 65535 r.length) (list_all (λ q. is_between 1 65535 q.length) runs) each).0 in
    let some = leb-true 1 r.length (and_parts (nat_le 1 r.length) (nat_le r.length 65535) here).0 in
    omega (arith, some, sum_by-cons (λ (q : Run). q.length) r runs)

pub entry_fewer : (m new : Area) (e : Entry) → IsOwn m → AreIn m e.runs → new ≡ without_sectors m e.runs → is_entry e ≡ true → length new.sectors < length m.sectors
entry_fewer m new e own are is entry =
    let one = (and_parts (is_key e.key && nat_le e.keep max_keep && nat_le e.length max_length && are_runs e.runs) (total e.runs == sectors_for e.length) entry).0 in
    let runs = (and_parts (is_key e.key && nat_le e.keep max_keep && nat_le e.length max_length) (are_runs e.runs) one).1 in
    let less = fewer_left m e.runs own are in
    let same = ap (λ (a : Area). length a.sectors) is in
    omega (arith, some_sector e.runs runs, less, same)

-- ---- no entry yet, and one more

pub none_claimed : (m : Area) → IsOwn m → IsClaimed m [] m
none_claimed m own = record {
  differ = refl;
  inside = λ s there. absurd (both_ways false refl there);
  left = own ∙ ap (λ (xs : List ℕ). record { from = m.from; to = m.to; sectors = xs })
      (where_same (contains m.sectors) (λ s. contains m.sectors s && not (is_in [] s)) m.from m.to (λ s low high. sym (and-true (contains m.sectors s))));
}

module _ (start : Area) (done : List Entry) (now : Area) (c : IsClaimed start done now) where
  now_from : now.from ≡ start.from
  now_from = ap (λ (a : Area). a.from) c.left

  now_to : now.to ≡ start.to
  now_to = ap (λ (a : Area). a.to) c.left

  abbrev left_free : ℕ → Bool
  left_free s = contains start.sectors s && not (is_in (plans_of done) s)

  -- what is still there was there, and is of none of the entries
  still : (s : ℕ) → contains now.sectors s ≡ true → (contains start.sectors s ≡ true) × (is_in (plans_of done) s ≡ false)
  still s there =
      let both = and_parts (contains start.sectors s) (not (is_in (plans_of done) s))
      (free_passes start.from start.to left_free s (ap (λ (a : Area). contains a.sectors s) (sym c.left) ∙ there)) in
      (both.0, not-true (is_in (plans_of done) s) both.1)

  module _ (e : Entry) (are : AreIn now e.runs) where
    abbrev sectors : List ℕ
    sectors = sectors_of e.runs

    more_parts : (s : ℕ) → is_in (plans_of (done ++ e ∷ [])) s ≡ (is_in (plans_of done) s || contains sectors s)
    more_parts s = same (is_in (plans_of (done ++ e ∷ [])) s) (is_in (plans_of done) s) (contains sectors s) split left right
      where
        same : (a b c : Bool) → (a ≡ true → (b || c) ≡ true) → (b ≡ true → a ≡ true) → (c ≡ true → a ≡ true) → a ≡ (b || c)
        same true b c f g h = sym (f refl)
        same false true b f g h = g refl
        same false false true f g h = h refl
        same false false false f g h = refl

        split : is_in (plans_of (done ++ e ∷ [])) s ≡ true → (is_in (plans_of done) s || contains sectors s) ≡ true
        split there = elim (cases_Bool (is_in (plans_of done) s)) [
          | inl is ↦ or_left (is_in (plans_of done) s) (contains sectors s) is
          | inr out ↦ or_right (is_in (plans_of done) s) (contains sectors s)
              (occurs_contains s sectors (omega (arith, used_more s done e, out_occurs s (flat_map sectors_of (plans_of done)) out, contains_occurs s (flat_map sectors_of (plans_of (done ++ e ∷ []))) there)))
        ]

        left : is_in (plans_of done) s ≡ true → is_in (plans_of (done ++ e ∷ [])) s ≡ true
        left there = occurs_contains s (flat_map sectors_of (plans_of (done ++ e ∷ []))) (omega (arith, used_more s done e, contains_occurs s (flat_map sectors_of (plans_of done)) there))

        right : contains sectors s ≡ true → is_in (plans_of (done ++ e ∷ [])) s ≡ true
        right there = occurs_contains s (flat_map sectors_of (plans_of (done ++ e ∷ []))) (omega (arith, used_more s done e, contains_occurs s sectors there))

    once : (s : ℕ) → used s (plans_of (done ++ e ∷ [])) ≤ 1
    once s = elim (cases_Bool (contains sectors s)) [
      | inl there ↦ omega (arith, used_more s done e, differ_occurs sectors are.differ s, out_occurs s (flat_map sectors_of (plans_of done)) (still s (are.inside s there)).1)
      | inr not_there ↦ omega (arith, used_more s done e, out_occurs s sectors not_there, differ_occurs (flat_map sectors_of (plans_of done)) c.differ s)
    ]

    pub one_more : IsClaimed start (done ++ e ∷ []) (without_sectors now e.runs)
    one_more = record {
      differ = occurs_differ (flat_map sectors_of (plans_of (done ++ e ∷ []))) once;
      inside = λ s there. elim (or_cases (is_in (plans_of done) s) (contains sectors s) (sym (more_parts s) ∙ there)) [
        | inl before ↦ c.inside s before
        | inr here ↦ (still s (are.inside s here)).0
      ];
      left = left_is;
    }
      where
        nor : (a b c : Bool) → ((a && not b) && not c) ≡ (a && not (b || c))
        nor true true c = refl
        nor true false c = refl
        nor false b c = refl

        each : (s : ℕ) → start.from ≤ s → s < start.to → (contains now.sectors s && not (contains sectors s)) ≡ (contains start.sectors s && not (is_in (plans_of (done ++ e ∷ [])) s))
        each s low high =
            ap (λ (b : Bool). b && not (contains sectors s)) (ap (λ (a : Area). contains a.sectors s) c.left ∙ contains_where left_free start.from start.to s low high)
            ∙ nor (contains start.sectors s) (is_in (plans_of done) s) (contains sectors s)
            ∙ ap (λ (b : Bool). contains start.sectors s && not b) (sym (more_parts s))

        left_is : without_sectors now e.runs ≡ area start.from start.to (λ s. contains start.sectors s && not (is_in (plans_of (done ++ e ∷ [])) s))
        left_is =
            ap (λ (f : ℕ). area f now.to (λ s. contains now.sectors s && not (contains sectors s))) now_from
            ∙ ap (λ (t : ℕ). area start.from t (λ s. contains now.sectors s && not (contains sectors s))) now_to
            ∙ ap (λ (xs : List ℕ). record { from = start.from; to = start.to; sectors = xs })
            (where_same (λ s. contains now.sectors s && not (contains sectors s)) (λ s. contains start.sectors s && not (is_in (plans_of (done ++ e ∷ [])) s)) start.from start.to each)

-- ---- entries that clash

less_first : (key : Key) (done rest : List Entry) (s : ℕ) → AllByRecursion (λ x. key_lt x.key key ≡ true) done
    → used s (plans_of done) ≤ occurs s (taken_before key (done ++ rest))
less_first key [] rest s all = omega arith
less_first key (x ∷ done) rest s all = by (key_lt x.key key) all.0 (less_first key done rest s all.1)
  where
    tail : List Entry
    tail = filter (λ y. key_lt y.key key) (done ++ rest)

    by : (b : Bool) → b ≡ true → used s (plans_of done) ≤ occurs s (taken_before key (done ++ rest))
        → used s (plans_of (x ∷ done)) ≤ occurs s (flat_map (λ y. sectors_of y.runs) (cond b (x ∷ tail) tail))
    by false e more = absurd (both_ways false refl e)
    by true e more = omega (arith, more, used-cons s x.runs (plans_of done), occurs-append s (sectors_of x.runs) (flat_map (λ y. sectors_of y.runs) tail))

-- an entry whose sectors are not all left clashes with those before it
pub refused_clashes : (l : Layout) → IsPlanned l → (done rest : List Entry) (now : Area) (e : Entry) → IsClaimed (whole_area l) done now → AllByRecursion (λ x. key_lt x.key e.key ≡ true) done
    → (AreIn now e.runs → ⊥) → entry_clashes l (done ++ rest) e ≡ true
refused_clashes l planned done rest now e c less unfit = by (entry_clashes l (done ++ rest) e) refl
  where
    sectors : List ℕ
    sectors = sectors_of e.runs

    before : List ℕ
    before = taken_before e.key (done ++ rest)

    bad : ℕ → Bool
    bad s = not (is_data l s) || contains before s

    fits : not (all_differ sectors) ≡ false → list_any bad sectors ≡ false → AreIn now e.runs
    fits twice none = record {
      differ = not-false (all_differ sectors) twice;
      inside = λ s there.
          let both = or_parts (not (is_data l s)) (contains before s) (none_any bad sectors none s there) in
          let data_there = and_parts (nat_le (data_start l) s) (nat_lt s l.sectors) (not-false (is_data l s) both.0) in
          let low = leb-true (data_start l) s data_there.0 in
          let high = ltb-true s l.sectors data_there.1 in
          let free : contains (whole_area l).sectors s ≡ true = data_at l planned (λ t. true) s low high in
          let out : is_in (plans_of done) s ≡ false = false_from_ne_true (is_in (plans_of done) s) (λ is.
          both_ways (contains before s) both.1 (occurs_contains s before (omega (arith, less_first e.key done rest s less, contains_occurs s (flat_map sectors_of (plans_of done)) is)))) in
          ap (λ (a : Area). contains a.sectors s) c.left
          ∙ contains_where (λ t. contains (whole_area l).sectors t && not (is_in (plans_of done) t)) (data_start l) (most_of l) s low (omega (arith, high, most_least l planned))
          ∙ and_from (contains (whole_area l).sectors s) (not (is_in (plans_of done) s)) free (not_from_false (is_in (plans_of done) s) out);
    }

    by : (b : Bool) → (not (all_differ sectors) || list_any bad sectors) ≡ b → (not (all_differ sectors) || list_any bad sectors) ≡ true
    by true is = is
    by false is = let parts = or_parts (not (all_differ sectors)) (list_any bad sectors) is in absurd (unfit (fits parts.0 parts.1))

-- ---- entries that don't

-- whether one of the entries is this one
abbrev pub Among : Entry → List Entry → Type 0
Among e [] = ⊥
Among e (x ∷ entries) = (x ≡ e) ⊎ Among e entries

filter_fewer : (s : ℕ) (key : Key) (entries : List Entry) → occurs s (taken_before key entries) ≤ used s (plans_of entries)
filter_fewer s key [] = omega arith
filter_fewer s key (x ∷ entries) = by (key_lt x.key key) (filter_fewer s key entries)
  where
    tail : List Entry
    tail = filter (λ y. key_lt y.key key) entries

    by : (b : Bool) → occurs s (taken_before key entries) ≤ used s (plans_of entries) → occurs s (flat_map (λ y. sectors_of y.runs) (cond b (x ∷ tail) tail)) ≤ used s (plans_of (x ∷ entries))
    by false more = omega (arith, more, used-cons s x.runs (plans_of entries))
    by true more = omega (arith, more, used-cons s x.runs (plans_of entries), occurs-append s (sectors_of x.runs) (flat_map (λ y. sectors_of y.runs) tail))

-- an entry's sectors and those of lesser keys
both_used : (s : ℕ) (e : Entry) (entries : List Entry) → Among e entries → occurs s (sectors_of e.runs) + occurs s (taken_before e.key entries) ≤ used s (plans_of entries)
both_used s e [] h = absurd h
both_used s e (x ∷ entries) (inl is) = by (key_lt x.key e.key) (ap (λ (y : Entry). key_lt y.key e.key) is ∙ lt_itself e.key)
  where
    tail : List Entry
    tail = filter (λ y. key_lt y.key e.key) entries

    by : (b : Bool) → b ≡ false → occurs s (sectors_of e.runs) + occurs s (flat_map (λ y. sectors_of y.runs) (cond b (x ∷ tail) tail)) ≤ used s (plans_of (x ∷ entries))
    by true bad = absurd (both_ways true bad refl)
    by false out = omega (arith, filter_fewer s e.key entries, used-cons s x.runs (plans_of entries), ap (λ (y : Entry). occurs s (sectors_of y.runs)) is)
both_used s e (x ∷ entries) (inr later) = by (key_lt x.key e.key) (both_used s e entries later)
  where
    tail : List Entry
    tail = filter (λ y. key_lt y.key e.key) entries

    by : (b : Bool) → occurs s (sectors_of e.runs) + occurs s (taken_before e.key entries) ≤ used s (plans_of entries)
        → occurs s (sectors_of e.runs) + occurs s (flat_map (λ y. sectors_of y.runs) (cond b (x ∷ tail) tail)) ≤ used s (plans_of (x ∷ entries))
    by true more = omega (arith, more, used-cons s x.runs (plans_of entries), occurs-append s (sectors_of x.runs) (flat_map (λ y. sectors_of y.runs) tail))
    by false more = omega (arith, more, used-cons s x.runs (plans_of entries))

-- none of the entries that are claimed clashes
pub claimed_fit : (l : Layout) (entries : List Entry) (now : Area) (e : Entry) → IsClaimed (whole_area l) entries now → Among e entries → entry_clashes l entries e ≡ true → ⊥
claimed_fit l entries now e c there clash = both_ways (not (all_differ sectors) || list_any bad sectors) (or_from (not (all_differ sectors)) (list_any bad sectors) (ap not differ) none) clash
  where
    sectors : List ℕ
    sectors = sectors_of e.runs

    all : List ℕ
    all = flat_map sectors_of (plans_of entries)

    before : List ℕ
    before = taken_before e.key entries

    bad : ℕ → Bool
    bad s = not (is_data l s) || contains before s

    differ : all_differ sectors ≡ true
    differ = occurs_differ sectors (λ s. omega (arith, both_used s e entries there, differ_occurs all c.differ s))

    none : list_any bad sectors ≡ false
    none = any_none bad sectors (λ s is.
        let area_there : is_data l s ≡ true = data_there l (λ t. true) s (c.inside s (occurs_contains s all (omega (arith, both_used s e entries there, contains_occurs s sectors is)))) in
        or_from (not (is_data l s)) (contains before s) (ap not area_there)
        (false_from_ne_true (contains before s) (λ again. absurd (omega (arith, both_used s e entries there, differ_occurs all c.differ s, contains_occurs s sectors is, contains_occurs s before again)))))

-- ---- all entries

pub claimed_apart : (l : Layout) (entries : List Entry) (now : Area) → IsClaimed (whole_area l) entries now → Apart l (plans_of entries)
claimed_apart l entries now c =
    let all : List ℕ = flat_map sectors_of (plans_of entries) in
    and_from (all_differ all) (list_all (is_data l) all) c.differ (all_from (is_data l) all (λ s there. data_there l (λ t. true) s (c.inside s there)))

pub claimed_left : (l : Layout) (entries : List Entry) (now : Area) → IsClaimed (whole_area l) entries now → now ≡ data_area l (λ s. not (is_in (plans_of entries) s))
claimed_left l entries now c = c.left ∙ ap (λ (xs : List ℕ). record { from = data_start l; to = most_of l; sectors = xs })
    (where_same (λ s. contains (whole_area l).sectors s && not (is_in (plans_of entries) s)) (λ s. nat_lt s l.sectors && not (is_in (plans_of entries) s)) (data_start l) (most_of l)
    (λ s low high. ap (λ (b : Bool). b && not (is_in (plans_of entries) s))
    (contains_where (λ t. nat_lt t l.sectors && true) (data_start l) (most_of l) s low high ∙ and-true (nat_lt s l.sectors))))
