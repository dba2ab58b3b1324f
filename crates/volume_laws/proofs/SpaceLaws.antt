-- What a volume tells of its sectors is what it is of.
use Rattle.std.proofs.Common.{◌≡◌, ℕ, suc, ◌<◌, ◌≤◌, Bool, true, false, not, ◌&&◌, ◌||◌, List, [], ◌∷◌, length, inl, inr, refl, sym, ap, subst, ◌∙◌, arith}
use Rattle.std.specs.Prelude.{◌==◌, None, Some, nat_lt}
use Rattle.std.specs.List.{flat_map}
use Rattle.std.proofs.Math.Bool.{and-false}
use Rattle.std.proofs.lemmas.Bool.{and_parts, both_ways, cases_lt, eq-eqb, false_from_ne_true, lt-ltb, ne_eqb, or_cases, or_left, or_parts}
use Rattle.std.proofs.lemmas.List.Folds.{list_any-append}
use Rattle.volume_layout.specs.declared.layout.Layout.{Layout}
use Rattle.volume_layout.specs.Layout.{data_start, is_data, most_of, IsPlanned}
use Rattle.volume_layout.proofs.GrownLaws.{most_least}
use Rattle.run_table.specs.declared.run.Run.{Run}
use Rattle.run_table.specs.RunTable.{sectors_of}
use Rattle.run_table.specs.Space.{contains, runs_of, where_free}
use Rattle.sector_set.specs.Area.{Area, area, together}
use Rattle.sector_set.proofs.AreaLaws.{free_passes}
use Rattle.sector_set.proofs.FreeLaws.{contains_where, where_same}
use Rattle.shadow_frees.specs.Readers.{Slots, is_held, unheld, with_held}
use Rattle.shadow_frees.specs.Waits.{waiting_sectors, waits_in}
use Rattle.fsd_files.specs.Volume.{Volume, forced, free_runs, in_version, is_free, is_in, waits as waits_of}
use Rattle.fsd_files.specs.Waiting.{IsSpaced, is_kept_alone}
use Rattle.fsd_files.proofs.WaitLaws.{version_stays}
use Rattle.volume_laws.specs.State.{freed_sectors}
use Rattle.volume_contract.specs.State.{held_runs}
use Rattle.volume_laws.specs.Volume.{IsWholeVolume, VolumeValue}
use Rattle.table_survey.specs.Claims.{IsOfData, data_area}
use Rattle.table_survey.proofs.DataLaws.{data_own, data_sectors, of_data_outside, of_data_sectors, of_data_within}

-- ---- sets of the data area

-- a set of the data area has no sector outside of it
pub none_outside : (l : Layout) (m : Area) (s : ℕ) → IsOfData l m → (data_start l ≤ s → s < l.sectors → ⊥) → contains m.sectors s ≡ false
none_outside l m s of_data out = of_data_outside l m of_data s out

-- what is so inside of it, and outside
by_area : {P : Type 0} (l : Layout) (s : ℕ) → (data_start l ≤ s → s < l.sectors → P) → ((data_start l ≤ s → s < l.sectors → ⊥) → P) → P
by_area l s inside outside = elim (cases_lt s (data_start l)) [
  | inl below ↦ outside (λ low high. absurd (omega (arith, below, low)))
  | inr low ↦ elim (cases_lt s l.sectors) [
    | inl high ↦ inside low high
    | inr above ↦ outside (λ from to. absurd (omega (arith, above, to)))
  ]
]

-- so of one made by a test, where the test finds none outside
pub test_there : (l : Layout) → IsPlanned l → (from to : ℕ) (f : ℕ → Bool) (s : ℕ) → from ≡ data_start l → to ≡ most_of l → ((data_start l ≤ s → s < l.sectors → ⊥) → f s ≡ false) → contains (where_free f from to) s ≡ f s
test_there l planned from to f s first last none = by_area l s
    (λ low high. contains_where f from to s (omega (arith, low, first)) (omega (arith, high, last, most_least l planned)))
    (λ out. false_from_ne_true (contains (where_free f from to) s) (λ there. both_ways (f s) (none out) (free_passes from to f s there)) ∙ sym (none out))

module _ (l : Layout) (m : Area) (f : ℕ → Bool) (of_data : IsOfData l m) (below : (s : ℕ) → f s ≡ true → s < l.sectors) where
  test_area : area m.from m.to f ≡ data_area l f
  test_area =
      (λ i. area (ap (λ (a : Area). a.from) of_data i) (ap (λ (a : Area). a.to) of_data i) f)
      ∙ ap (λ (xs : List ℕ). record { from = data_start l; to = most_of l; sectors = xs }) (where_same f (λ s. nat_lt s l.sectors && f s) (data_start l) (most_of l) (λ s low high. each s (f s) refl))
    where
      each : (s : ℕ) (b : Bool) → f s ≡ b → b ≡ (nat_lt s l.sectors && b)
      each s true there = sym (ap (λ (b : Bool). b && true) (lt-ltb s l.sectors (below s there)))
      each s false none = sym (and-false (nat_lt s l.sectors))

  -- a set of the data area by another test is one, where only sectors of the volume pass it
  pub of_test : IsOfData l (area m.from m.to f)
  of_test = subst (IsOfData l) (sym test_area) (data_own l f)

  -- as a list it ends with the volume
  pub test_sectors : IsPlanned l → where_free f m.from m.to ≡ where_free f (data_start l) l.sectors
  test_sectors planned = ap (λ (a : Area). a.sectors) test_area ∙ data_sectors l planned f

-- a set with sectors of the volume more is of the data area, and so is one with fewer
pub of_more : (l : Layout) (m : Area) (runs : List Run) → IsOfData l m → ((s : ℕ) → contains (sectors_of runs) s ≡ true → s < l.sectors) → IsOfData l (together m runs)
of_more l m runs of_data below = of_test l m (λ s. contains m.sectors s || contains (sectors_of runs) s) of_data (λ s there. elim (or_cases (contains m.sectors s) (contains (sectors_of runs) s) there) [
  | inl was ↦ (of_data_within l m of_data s was).1
  | inr more ↦ below s more
])

pub of_fewer : (l : Layout) (m : Area) (f : ℕ → Bool) → IsOfData l m → IsOfData l (area m.from m.to (λ s. contains m.sectors s && f s))
of_fewer l m f of_data = of_test l m (λ s. contains m.sectors s && f s) of_data (λ s there. (of_data_within l m of_data s (and_parts (contains m.sectors s) (f s) there).0).1)

-- what nobody holds of a set is in it
pub unheld_there : (slots : Slots) (removed : Area) (s : ℕ) → contains (unheld slots removed).sectors s ≡ true → contains removed.sectors s ≡ true
unheld_there slots removed s there = (and_parts (contains removed.sectors s) (not (is_held slots s)) (free_passes removed.from removed.to (λ t. contains removed.sectors t && not (is_held slots t)) s there)).0

module _ (v : VolumeValue) (whole : IsWholeVolume v) (s : ℕ) where
  -- what waits lies in the data area, and so does what is free once a force has ended
  pub waits_within : waits_in v.shadow s ≡ true → (data_start v.layout ≤ s) × (s < v.layout.sectors)
  waits_within waits = elim (or_cases (contains v.shadow.removed.sectors s) (contains v.shadow.kept.sectors s || contains v.shadow.unfinished.sectors s) waits) [
    | inl went ↦ of_data_within v.layout v.shadow.removed whole.removed s went
    | inr rest ↦ elim (or_cases (contains v.shadow.kept.sectors s) (contains v.shadow.unfinished.sectors s) rest) [
      | inl kept ↦ of_data_within v.layout v.shadow.kept whole.kept s kept
      | inr drafted ↦ of_data_within v.layout v.shadow.unfinished whole.unfinished s drafted
    ]
  ]

  pub freed_within : (contains v.map.sectors s || contains (unheld v.shadow.held v.shadow.removed).sectors s) ≡ true → (data_start v.layout ≤ s) × (s < v.layout.sectors)
  freed_within freed = elim (or_cases (contains v.map.sectors s) (contains (unheld v.shadow.held v.shadow.removed).sectors s) freed) [
    | inl free ↦ of_data_within v.layout v.map whole.map s free
    | inr went ↦ of_data_within v.layout v.shadow.removed whole.removed s (unheld_there v.shadow.held v.shadow.removed s went)
  ]

-- what is kept for readers behind a force: what was kept, and what went and is held
pub kept_then : (l : Layout) → IsPlanned l → (slots : Slots) (kept removed new : Area) → IsOfData l kept → IsOfData l removed → new ≡ with_held slots kept removed
    → (s : ℕ) → contains new.sectors s ≡ (contains kept.sectors s || contains removed.sectors s && is_held slots s)
kept_then l planned slots kept removed new of_kept of_removed is s =
    ap (λ (a : Area). contains a.sectors s) is
    ∙ test_there l planned kept.from kept.to (λ t. contains kept.sectors t || contains removed.sectors t && is_held slots t) s (ap (λ (a : Area). a.from) of_kept) (ap (λ (a : Area). a.to) of_kept)
    (λ out. λ i. none_outside l kept s of_kept out i || none_outside l removed s of_removed out i && is_held slots s)

-- ---- what a volume tells

-- lists with the same sectors are empty together
same_empty : (xs ys : List ℕ) → ((s : ℕ) → contains xs s ≡ contains ys s) → (length xs == 0) ≡ (length ys == 0)
same_empty [] [] same = refl
same_empty [] (y ∷ ys) same = absurd (let bad : false ≡ true = same y ∙ or_left (y == y) (contains ys y) (eq-eqb y y refl) in cc bad)
same_empty (x ∷ xs) [] same = absurd (let bad : false ≡ true = sym (same x) ∙ or_left (x == x) (contains xs x) (eq-eqb x x refl) in cc bad)
same_empty (x ∷ xs) (y ∷ ys) same = some (length xs) ∙ sym (some (length ys))
  where
    some : (n : ℕ) → (suc n == 0) ≡ false
    some n = ne_eqb (suc n) 0 (λ e. absurd (omega arith))

-- the sectors of the versions that readers hold are those that some reader holds
pub held_is : (slots : Slots) (s : ℕ) → is_in (held_runs slots) s ≡ is_held slots s
held_is [] s = refl
held_is (None ∷ slots) s = held_is slots s
held_is (Some runs ∷ slots) s = list_any-append (λ t. t == s) (sectors_of runs) (flat_map sectors_of (held_runs slots)) ∙ ap (λ (b : Bool). contains (sectors_of runs) s || b) (held_is slots s)

-- what waits: what went, what a reader alone keeps, and what a draft has
waits_by : (b r c d : Bool) → (r ≡ true → b ≡ false) → (d ≡ true → b ≡ false) → (not b && (r || c || d)) ≡ (r || (c && not b && not r || d))
waits_by true true c d apart out = absurd (cc (apart refl))
waits_by true false c true apart out = absurd (cc (out refl))
waits_by true false true false apart out = refl
waits_by true false false false apart out = refl
waits_by false true c d apart out = refl
waits_by false false true d apart out = refl
waits_by false false false d apart out = refl

-- what is free once a force has ended: what is free now, and what went and nobody holds
freed_by : (a b r c d : Bool) → (r ≡ true → a ≡ true) → (r ≡ true → b ≡ false) → (d ≡ true → r ≡ false)
    → (a && not b && not (not b && (false || c || d))) ≡ (a && not b && not (not b && (r || c || d)) || r && not c)
freed_by a b true c true area apart out = absurd (cc (out refl))
freed_by false b true c false area apart out = absurd (cc (area refl))
freed_by true true true c false area apart out = absurd (cc (apart refl))
freed_by true false true true false area apart out = refl
freed_by true false true false false area apart out = refl
freed_by false b false c d area apart out = refl
freed_by true true false c d area apart out = refl
freed_by true false false true d area apart out = refl
freed_by true false false false true area apart out = refl
freed_by true false false false false area apart out = refl

module _ (v : VolumeValue) (m : Volume) (whole : IsWholeVolume v) (layout : m.layout ≡ v.layout) (map : (s : ℕ) → contains v.map.sectors s ≡ is_free m s) (removed : (s : ℕ) → contains v.shadow.removed.sectors s ≡ contains m.removed s)
    (kept : (s : ℕ) → contains v.shadow.kept.sectors s ≡ is_kept_alone m s) (unfinished : (s : ℕ) → contains v.shadow.unfinished.sectors s ≡ is_in m.drafts s) (held : m.held ≡ held_runs v.shadow.held) (spaced : IsSpaced m) where
  -- a draft's sector is in no version, and did not go
  out_of_versions : (s : ℕ) → is_in m.drafts s ≡ true → in_version m s ≡ false
  out_of_versions s is = false_from_ne_true (in_version m s) (λ there. both_ways (is_in m.drafts s) (or_parts (is_free m s) (is_in m.drafts s) (or_parts (is_free m s || is_in m.drafts s) (is_kept_alone m s) (version_stays m spaced s there)).0).1 is)

  did_not_go : (s : ℕ) → is_in m.drafts s ≡ true → contains m.removed s ≡ false
  did_not_go s is = (or_parts (contains m.removed s) (is_in m.held s) (spaced.drafts s is)).0

  waits_is : (s : ℕ) → waits_of m s ≡ waits_in v.shadow s
  waits_is s =
      waits_by (in_version m s) (contains m.removed s) (is_in m.held s) (is_in m.drafts s) (spaced.removed s) (out_of_versions s)
      ∙ (λ i. sym (removed s) i || (sym (kept s) i || sym (unfinished s) i))

  pub same_free : free_runs m ≡ runs_of v.map.sectors
  same_free =
      ap (λ (l : Layout). runs_of (where_free (is_free m) (data_start l) l.sectors)) layout
      ∙ ap runs_of (where_same (is_free m) (contains v.map.sectors) (data_start v.layout) v.layout.sectors (λ s low high. sym (map s)))
      ∙ ap runs_of (sym (of_data_sectors v.layout v.map whole.map whole.planned))

  held_here : (s : ℕ) → is_in m.held s ≡ is_held v.shadow.held s
  held_here s = ap (λ (plans : List (List Run)). is_in plans s) held ∙ held_is v.shadow.held s

  pub freed_is : (s : ℕ) → data_start v.layout ≤ s → s < v.layout.sectors → is_free (forced m) s ≡ (contains v.map.sectors s || contains (unheld v.shadow.held v.shadow.removed).sectors s)
  freed_is s low high =
      let area : contains m.removed s ≡ true → is_data m.layout s ≡ true = λ there. spaced.area s (or_left (contains m.removed s) (is_in m.held s) there) in
      let by_volume : is_free (forced m) s ≡ (is_free m s || contains m.removed s && not (is_in m.held s)) =
      freed_by (is_data m.layout s) (in_version m s) (contains m.removed s) (is_in m.held s) (is_in m.drafts s) area (spaced.removed s) (did_not_go s) in
      let from : v.shadow.removed.from ≤ s = omega (arith, low, ap (λ (a : Area). a.from) whole.removed) in
      let to : s < v.shadow.removed.to = omega (arith, high, most_least v.layout whole.planned, ap (λ (a : Area). a.to) whole.removed) in
      let loose : contains (unheld v.shadow.held v.shadow.removed).sectors s ≡ (contains v.shadow.removed.sectors s && not (is_held v.shadow.held s)) =
      contains_where (λ t. contains v.shadow.removed.sectors t && not (is_held v.shadow.held t)) v.shadow.removed.from v.shadow.removed.to s from to in
      by_volume ∙ (λ i. sym (map s) i || sym (removed s) i && not (held_here s i)) ∙ ap (λ (b : Bool). contains v.map.sectors s || b) (sym loose)

  pub same_freed : free_runs (forced m) ≡ runs_of (freed_sectors v)
  same_freed =
      let f : ℕ → Bool = λ s. contains v.map.sectors s || contains (unheld v.shadow.held v.shadow.removed).sectors s in
      ap (λ (l : Layout). runs_of (where_free (is_free (forced m)) (data_start l) l.sectors)) layout
      ∙ ap runs_of (where_same (is_free (forced m)) f (data_start v.layout) v.layout.sectors freed_is)
      ∙ ap runs_of (sym (test_sectors v.layout v.map f whole.map (λ s there. (freed_within v whole s there).1) whole.planned))

  pub same_waiting : where_free (waits_of m) (data_start m.layout) m.layout.sectors ≡ waiting_sectors v.shadow
  same_waiting =
      ap (λ (l : Layout). where_free (waits_of m) (data_start l) l.sectors) layout
      ∙ where_same (waits_of m) (waits_in v.shadow) (data_start v.layout) v.layout.sectors (λ s low high. waits_is s)
      ∙ sym (test_sectors v.layout v.shadow.removed (waits_in v.shadow) whole.removed (λ s there. (waits_within v whole s there).1) whole.planned)

  pub same_waits : not (length m.removed == 0) ≡ not (length v.shadow.removed.sectors == 0)
  same_waits = ap not (same_empty m.removed v.shadow.removed.sectors (λ s. sym (removed s)))

  pub same_unfinished : where_free (is_in m.drafts) (data_start m.layout) m.layout.sectors ≡ v.shadow.unfinished.sectors
  same_unfinished =
      ap (λ (l : Layout). where_free (is_in m.drafts) (data_start l) l.sectors) layout
      ∙ where_same (is_in m.drafts) (contains v.shadow.unfinished.sectors) (data_start v.layout) v.layout.sectors (λ s low high. sym (unfinished s))
      ∙ sym (of_data_sectors v.layout v.shadow.unfinished whole.unfinished whole.planned)
