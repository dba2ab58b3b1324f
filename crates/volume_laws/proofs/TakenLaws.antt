-- Which sectors are taken.
use Rattle.std.proofs.Common.{◌≡◌, ◌⊎◌, inl, inr, ℕ, zero, suc, ◌<◌, ◌≤◌, Bool, true, false, not, ◌&&◌, ◌||◌, List, [], ◌∷◌, All, length, Option, None, Some, refl, sym, ap, subst, ◌∙◌, arith}
use Rattle.std.specs.Prelude.{◌↔◌, IsTrue, Contains, nat_le, nat_lt, slice_index_or, ◌==◌}
use Rattle.std.specs.List.{list_all, list_any, flat_map}
use Rattle.std.proofs.lemmas.Bool.{and_parts, and_from, not-false, or_cases, or_left, or_parts, or_right, both_ways, eq-eqb, false_from_ne_true, leb-true, ltb-true, le-leb, lt-ltb, not-true, or_from, and_right}
use Rattle.run_table.specs.declared.run.Run.{Run}
use Rattle.run_table.specs.RunTable.{same_runs, sectors_of}
use Rattle.run_table.specs.Space.{contains, all_differ, runs_of}
use Rattle.run_table.proofs.SameLaws.{runs_are_same, same_runs_are}
use Rattle.run_table.proofs.SectorLaws.{all_from, all_in}
use Rattle.volume_layout.specs.declared.layout.Layout.{Layout}
use Rattle.volume_layout.specs.Layout.{data_start, is_data}
use Rattle.volume_layout.proofs.GrownLaws.{most_least}
use Rattle.fsd_formats.specs.declared.entry.Entry.{Entry}
use Rattle.sector_set.specs.Area.{Area, AreOut}
use Rattle.sector_set.proofs.AreaLaws.{free_passes}
use Rattle.sector_set.proofs.FreeLaws.{contains_where}
use Rattle.sector_set.proofs.MeetLaws.{any_at, any_none}
use Rattle.fsd_table.specs.Breaks.{Breaks, entry_clashes, taken_before}
use Rattle.fsd_table.specs.Pages.{entries_of}
use Rattle.fsd_table.specs.Table.{Visit, entries_in, visits}
use Rattle.fsd_log.specs.Scan.{Placed}
use Rattle.fsd_files.specs.Space.{Apart}
use Rattle.fsd_files.specs.Volume.{in_version, is_free, is_in, plans_of, waits as waits_of}
use Rattle.fsd_files.specs.Waiting.{IsSpaced, are_same_or_apart, is_kept_alone}
use Rattle.fsd_files.proofs.WaitLaws.{version_stays}
use Rattle.fsd_files.proofs.CountLaws.{occurs, contains_occurs, occurs_contains, differ_occurs, occurs_differ, runs_same, used, used-cons}
use Rattle.fsd_sound.specs.Mounted.{Mounted}
use Rattle.shadow_frees.specs.Readers.{IsSameOrApart, Slots}
use Rattle.shadow_frees.proofs.SoundLaws.{all_cons}
use Rattle.shadow_frees.proofs.HeldLaws.{agrees_back}
use Rattle.shadow_frees.specs.Waits.{waiting_sectors, waits_in}
use Rattle.cached_table.specs.Entering.{AreTaken}
use Rattle.volume_contract.specs.Causes.{HasUntaken, IsTaken, meets_held}
use Rattle.volume_laws.specs.State.{IsMemoryOf, state}
use Rattle.volume_contract.specs.State.{held_of, held_runs}
use Rattle.volume_laws.specs.Taken.{are_taken, data_map, is_taken}
use Rattle.volume_laws.specs.Volume.{IsWholeVolume, VolumeValue}
use Rattle.table_survey.specs.Claims.{IsOfData}
use Rattle.volume_laws.proofs.SpaceLaws.{waits_within}

-- ---- each sector of a list

-- two answers that hold together
pub same_answer : (a b : Bool) → (a ≡ true → b ≡ true) → (b ≡ true → a ≡ true) → a ≡ b
same_answer true b on back = sym (on refl)
same_answer false true on back = back refl
same_answer false false on back = refl

-- ---- what readers hold

behind : (P : Option (List Run) → Type 0) (x : Option (List Run)) (xs : Slots) → All P (x ∷ xs) → All P xs
behind P x xs all k d less = all (suc k) d (omega arith)

-- readers that hold these very runs, or none of their sectors, hold no version that meets them
pub agreed_apart : (slots : Slots) (runs : List Run) → All (IsSameOrApart runs) slots → meets_held (held_runs slots) runs ≡ false
agreed_apart [] runs agree = refl
agreed_apart (None ∷ slots) runs agree = agreed_apart slots runs (behind (IsSameOrApart runs) None slots agree)
agreed_apart (Some other ∷ slots) runs agree =
    or_from (not (same_runs other runs) && list_any (contains (sectors_of other)) (sectors_of runs)) (meets_held (held_runs slots) runs) (first (agrees_back runs other (agree 0 None (omega arith))))
    (agreed_apart slots runs (behind (IsSameOrApart runs) (Some other) slots agree))
  where
    first : IsSameOrApart other (Some runs) → (not (same_runs other runs) && list_any (contains (sectors_of other)) (sectors_of runs)) ≡ false
    first (inl same) = ap (λ (b : Bool). not b && list_any (contains (sectors_of other)) (sectors_of runs)) (ap (same_runs other) same ∙ runs_are_same other)
    first (inr apart) = and_right (not (same_runs other runs)) _ apart

pub apart_agreed : (slots : Slots) (runs : List Run) → meets_held (held_runs slots) runs ≡ false → All (IsSameOrApart runs) slots
apart_agreed [] runs none = λ k d less. absurd (omega arith)
apart_agreed (None ∷ slots) runs none = all_cons (IsSameOrApart runs) None slots tt (apart_agreed slots runs none)
apart_agreed (Some other ∷ slots) runs none =
    let parts = or_parts (not (same_runs other runs) && list_any (contains (sectors_of other)) (sectors_of runs)) (meets_held (held_runs slots) runs) none in
    all_cons (IsSameOrApart runs) (Some other) slots (first (same_runs other runs) refl parts.0) (apart_agreed slots runs parts.1)
  where
    first : (b : Bool) → same_runs other runs ≡ b → (not b && list_any (contains (sectors_of other)) (sectors_of runs)) ≡ false → IsSameOrApart runs (Some other)
    first true same out = inl (same_runs_are other runs same)
    first false differ out = agrees_back other runs (inr out)

-- ---- as the map and the shadow have it

module _ (v : VolumeValue) (whole : IsWholeVolume v) (runs : List Run) where
  out_is_taken : AreTaken (data_map v) v.shadow runs → are_taken v runs ≡ true
  out_is_taken (out, idle, agree) =
      and_from (all_differ (sectors_of runs) && list_all (is_taken v) (sectors_of runs)) (not (meets_held (held_runs v.shadow.held) runs))
      (and_from (all_differ (sectors_of runs)) (list_all (is_taken v) (sectors_of runs)) out.differ (all_from (is_taken v) (sectors_of runs) each))
      (ap not (agreed_apart v.shadow.held runs agree))
    where
      each : (s : ℕ) → contains (sectors_of runs) s ≡ true → is_taken v s ≡ true
      each s there =
          let within = out.within s there in
          let low : data_start v.layout ≤ s = omega (arith, within.0, ap (λ (a : Area). a.from) whole.map) in
          let high : s < v.layout.sectors = omega (arith, within.1) in
          let data_there : is_data v.layout s ≡ true = and_from (nat_le (data_start v.layout) s) (nat_lt s v.layout.sectors) (le-leb (data_start v.layout) s low) (lt-ltb s v.layout.sectors high) in
          let none : (contains v.map.sectors s || waits_in v.shadow s) ≡ false =
          λ i. out.outside s there i || (idle.0.outside s there i || (idle.1.outside s there i || idle.2.outside s there i)) in
          and_from (is_data v.layout s) (not (contains v.map.sectors s || waits_in v.shadow s)) data_there (ap not none)

  pub taken_is_out : are_taken v runs ≡ true → AreTaken (data_map v) v.shadow runs
  taken_is_out taken = (
    out (data_map v) (ap (λ (a : Area). a.from) whole.map) (omega (arith, longer v.map whole.map)) (λ s none. (or_parts (contains v.map.sectors s) (waits_in v.shadow s) none).0),
    (
      out_of v.shadow.removed whole.removed (λ s none. (or_parts (contains v.shadow.removed.sectors s) _ (or_parts (contains v.map.sectors s) (waits_in v.shadow s) none).1).0),
      out_of v.shadow.kept whole.kept (λ s none. (or_parts (contains v.shadow.kept.sectors s) _ (or_parts (contains v.shadow.removed.sectors s) _ (or_parts (contains v.map.sectors s) (waits_in v.shadow s) none).1).1).0),
      out_of v.shadow.unfinished whole.unfinished (λ s none. (or_parts (contains v.shadow.kept.sectors s) _ (or_parts (contains v.shadow.removed.sectors s) _ (or_parts (contains v.map.sectors s) (waits_in v.shadow s) none).1).1).1),
    ),
    apart_agreed v.shadow.held runs (not-true (meets_held (held_runs v.shadow.held) runs) both.1),
  )
    where
      both : ((all_differ (sectors_of runs) && list_all (is_taken v) (sectors_of runs)) ≡ true) × (not (meets_held (held_runs v.shadow.held) runs) ≡ true)
      both = and_parts (all_differ (sectors_of runs) && list_all (is_taken v) (sectors_of runs)) (not (meets_held (held_runs v.shadow.held) runs)) taken

      parts : (all_differ (sectors_of runs) ≡ true) × (list_all (is_taken v) (sectors_of runs) ≡ true)
      parts = and_parts (all_differ (sectors_of runs)) (list_all (is_taken v) (sectors_of runs)) both.0

      longer : (m : Area) → IsOfData v.layout m → v.layout.sectors ≤ m.to
      longer m of_data = omega (arith, most_least v.layout whole.planned, ap (λ (a : Area). a.to) of_data)

      out : (m : Area) → m.from ≡ data_start v.layout → v.layout.sectors ≤ m.to → ((s : ℕ) → (contains v.map.sectors s || waits_in v.shadow s) ≡ false → contains m.sectors s ≡ false) → AreOut m runs
      out m first last outside =
          let each : (s : ℕ) → contains (sectors_of runs) s ≡ true → (is_data v.layout s ≡ true) × (not (contains v.map.sectors s || waits_in v.shadow s) ≡ true) =
          λ s there. and_parts (is_data v.layout s) (not (contains v.map.sectors s || waits_in v.shadow s)) (all_in (is_taken v) (sectors_of runs) s parts.1 there) in
          record {
            within = λ s there.
                let area = and_parts (nat_le (data_start v.layout) s) (nat_lt s v.layout.sectors) (each s there).0 in (
                  omega (arith, leb-true (data_start v.layout) s area.0, first),
                  omega (arith, ltb-true s v.layout.sectors area.1, last),
                );
            outside = λ s there. outside s (not-true (contains v.map.sectors s || waits_in v.shadow s) (each s there).1);
            differ = parts.0;
          }

      out_of : (m : Area) → IsOfData v.layout m → ((s : ℕ) → (contains v.map.sectors s || waits_in v.shadow s) ≡ false → contains m.sectors s ≡ false) → AreOut m runs
      out_of m of_data outside = out m (ap (λ (a : Area). a.from) of_data) (longer m of_data) outside

-- a test that says so tells which are taken
pub taken_by : (v w : VolumeValue) → v ≡ w → IsWholeVolume v → (runs : List Run) (told : Bool) → (IsTrue told ↔ AreTaken (data_map v) v.shadow runs) → told ≡ are_taken w runs
taken_by v w is whole runs told by_sets =
    same_answer told (are_taken v runs) (λ holds. out_is_taken v whole runs (by_sets.0 holds)) (λ taken. by_sets.1 (taken_is_out v whole runs taken)) ∙ ap (λ (x : VolumeValue). are_taken x runs) is

-- ---- those of a table's entries

-- how often a sector stands in one entry's runs, and in all of them
fewer_in_one : (entries : List Entry) (e : Entry) (i s : ℕ) → i < length entries → slice_index_or entries i e ≡ e → occurs s (sectors_of e.runs) ≤ used s (plans_of entries)
fewer_in_one [] e i s lt is = absurd (omega arith)
fewer_in_one (x ∷ entries) e zero s lt is = omega (arith, used-cons s x.runs (plans_of entries), ap (λ (y : Entry). occurs s (sectors_of y.runs)) is)
fewer_in_one (x ∷ entries) e (suc i) s lt is = omega (arith, used-cons s x.runs (plans_of entries), fewer_in_one entries e i s (omega arith) is)

-- a sector of some version of the volume is neither free nor waiting
module _ (v : VolumeValue) (m : Mounted) (records : List Placed) (whole : IsWholeVolume v) (layout : m.volume.layout ≡ v.layout) (holds : IsMemoryOf v m records) (held : m.volume.held ≡ held_runs v.shadow.held) (spaced : IsSpaced m.volume) where
  in_version_taken : (s : ℕ) → IsTrue (is_data v.layout s) → IsTrue (in_version m.volume s) → is_taken v s ≡ true
  in_version_taken s area there =
      let free : contains v.map.sectors s ≡ false = holds.map s ∙ not_free (is_data m.volume.layout s) (in_version m.volume s) (not (waits_of m.volume s)) there in
      let removed : contains v.shadow.removed.sectors s ≡ false = holds.removed s ∙ false_from_ne_true (contains m.volume.removed s) (λ e. both_ways (in_version m.volume s) (spaced.removed s e) there) in
      let stays = or_parts (is_free m.volume s || is_in m.volume.drafts s) (is_kept_alone m.volume s) (version_stays m.volume spaced s there) in
      let kept : contains v.shadow.kept.sectors s ≡ false = holds.kept s ∙ stays.1 in
      let unfinished : contains v.shadow.unfinished.sectors s ≡ false = holds.unfinished s ∙ (or_parts (is_free m.volume s) (is_in m.volume.drafts s) stays.0).1 in
      and_from (is_data v.layout s) (not (contains v.map.sectors s || waits_in v.shadow s)) area (λ i. not (free i || (removed i || (kept i || unfinished i))))
    where
      not_free : (a b c : Bool) → b ≡ true → (a && not b && c) ≡ false
      not_free true true c e = refl
      not_free false true c e = refl
      not_free a false c e = absurd (both_ways false refl e)

  pub entries_taken : Apart m.volume.layout (plans_of m.volume.entries) → (e : Entry) → Contains m.volume.entries e → are_taken v e.runs ≡ true
  entries_taken apart e has =
      let parts = and_parts (all_differ (flat_map sectors_of (plans_of m.volume.entries))) (list_all (is_data m.volume.layout) (flat_map sectors_of (plans_of m.volume.entries))) apart in
      let once : (s : ℕ) → occurs s (sectors_of e.runs) ≤ 1 =
      λ s. omega (arith, fewer_in_one m.volume.entries e has.0 s has.1 has.2, differ_occurs (flat_map sectors_of (plans_of m.volume.entries)) parts.0 s) in
      and_from (all_differ (sectors_of e.runs) && list_all (is_taken v) (sectors_of e.runs)) (not (meets_held (held_runs v.shadow.held) e.runs))
      (and_from (all_differ (sectors_of e.runs)) (list_all (is_taken v) (sectors_of e.runs)) (occurs_differ (sectors_of e.runs) once)
      (all_from (is_taken v) (sectors_of e.runs) (λ s there.
      let here : IsTrue (in_version m.volume s) = occurs_contains s (flat_map sectors_of (plans_of m.volume.entries)) (omega (arith, contains_occurs s (sectors_of e.runs) there, fewer_in_one m.volume.entries e has.0 s has.1 has.2)) in
      let area : IsTrue (is_data m.volume.layout s) = all_in (is_data m.volume.layout) (flat_map sectors_of (plans_of m.volume.entries)) s parts.1 here in
      in_version_taken s (subst (λ (l : Layout). IsTrue (is_data l s)) layout area) here)))
      (ap not (ap (λ (plans : List (List Run)). meets_held plans e.runs) (sym held) ∙ none_met m.volume.held (spaced.held)))
    where
      all_at : (p : Entry → Bool) (es : List Entry) (i : ℕ) → list_all p es ≡ true → i < length es → slice_index_or es i e ≡ e → p e ≡ true
      all_at p [] i all lt is = absurd (omega arith)
      all_at p (x ∷ es) zero all lt is = ap p (sym is) ∙ (and_parts (p x) (list_all p es) all).0
      all_at p (x ∷ es) (suc i) all lt is = all_at p es i (and_parts (p x) (list_all p es) all).1 (omega arith) is

      -- no reader holds it in other runs
      none_met : (plans : List (List Run)) → list_all (λ runs. list_all (λ e. are_same_or_apart runs e.runs) m.volume.entries) plans ≡ true → meets_held plans e.runs ≡ false
      none_met [] all = refl
      none_met (other ∷ plans) all =
          let parts = and_parts (list_all (λ x. are_same_or_apart other x.runs) m.volume.entries) (list_all (λ runs. list_all (λ e. are_same_or_apart runs e.runs) m.volume.entries) plans) all in
          or_from (not (same_runs other e.runs) && list_any (contains (sectors_of other)) (sectors_of e.runs)) (meets_held plans e.runs)
          (turned (same_runs other e.runs) (list_any (contains (sectors_of other)) (sectors_of e.runs)) (all_at (λ x. are_same_or_apart other x.runs) m.volume.entries has.0 parts.0 has.1 has.2)) (none_met plans parts.1)
        where
          turned : (a b : Bool) → (a || not b) ≡ true → (not a && b) ≡ false
          turned true b is = refl
          turned false true is = absurd (cc is)
          turned false false is = refl

-- ---- those of any entry that is met

some_fails : (p : ℕ → Bool) (xs : List ℕ) → list_all p xs ≡ false → (t : ℕ) × (contains xs t ≡ true) × (p t ≡ false)
some_fails p [] none = absurd (both_ways true none refl)
some_fails p (x ∷ xs) none = by (p x) refl none (some_fails p xs)
  where
    by : (b : Bool) → p x ≡ b → (b && list_all p xs) ≡ false → (list_all p xs ≡ false → (t : ℕ) × (contains xs t ≡ true) × (p t ≡ false)) → (t : ℕ) × (contains (x ∷ xs) t ≡ true) × (p t ≡ false)
    by true here rest more = let one = more rest in (one.0, or_right (x == one.0) (contains xs one.0) one.1, one.2)
    by false here rest more = (x, or_left (x == x) (contains xs x) (eq-eqb x x refl), here)

-- a sector that is free or waits is told so
pub free_or_waits : (v : VolumeValue) → IsWholeVolume v → (t : ℕ) → (contains v.map.sectors t || waits_in v.shadow t) ≡ true → (is_in (runs_of v.map.sectors ∷ []) t || contains (waiting_sectors v.shadow) t) ≡ true
free_or_waits v whole t either = elim (or_cases (contains v.map.sectors t) (waits_in v.shadow t) either) [
  | inl free ↦ or_left (is_in (runs_of v.map.sectors ∷ []) t) (contains (waiting_sectors v.shadow) t)
      (occurs_contains t (flat_map sectors_of (runs_of v.map.sectors ∷ [])) (omega (arith, used-cons t (runs_of v.map.sectors) [], runs_same t v.map.sectors, contains_occurs t v.map.sectors free)))
  | inr waiting ↦
      let within = waits_within v whole t waiting in
      or_right (is_in (runs_of v.map.sectors ∷ []) t) (contains (waiting_sectors v.shadow) t)
      (contains_where (waits_in v.shadow) v.shadow.removed.from v.shadow.removed.to t (omega (arith, within.0, ap (λ (m : Area). m.from) whole.removed))
      (omega (arith, within.1, most_least v.layout whole.planned, ap (λ (m : Area). m.to) whole.removed))
      ∙ waiting)
]

-- one whose sectors are not taken breaks the table, or has a sector that is free or waits
module _ (v : VolumeValue) (whole : IsWholeVolume v) (pages : List (List ℕ)) (visit : Visit) (reached : Contains (visits pages) visit) (e : Entry) (has : Contains (entries_of visit.content) e) where
  breaks : entry_clashes v.layout (entries_in (visits pages)) e ≡ true → Breaks v.layout pages visit.page
  breaks clash = inr (record { visit = visit; reached = reached; page_is = refl; entry = e; has = has; clash = clash })

  untaken_at : (t : ℕ) → contains (sectors_of e.runs) t ≡ true → is_taken v t ≡ false → Breaks v.layout pages visit.page ⊎ HasUntaken (state v) e
  untaken_at t there not_taken = by (is_data v.layout t) refl not_taken
    where
      by : (b : Bool) → is_data v.layout t ≡ b → (b && not (contains v.map.sectors t || waits_in v.shadow t)) ≡ false → Breaks v.layout pages visit.page ⊎ HasUntaken (state v) e
      by false outside not_here = inl (breaks (or_right (not (all_differ (sectors_of e.runs))) _
          (any_at (λ s. not (is_data v.layout s) || contains (taken_before e.key (entries_in (visits pages))) s) (sectors_of e.runs) t there (or_left (not (is_data v.layout t)) _ (ap not outside)))))
      by true inside not_here =
          inr (or_left _ (meets_held (held_of (state v)) e.runs) (any_at (λ s. is_in ((state v).free ∷ []) s || contains (state v).waiting s) (sectors_of e.runs) t there
          (free_or_waits v whole t (not-false (contains v.map.sectors t || waits_in v.shadow t) not_here))))

  pub untaken_breaks : are_taken v e.runs ≡ false → Breaks v.layout pages visit.page ⊎ HasUntaken (state v) e
  untaken_breaks not_taken = by (all_differ (sectors_of e.runs)) refl (list_all (is_taken v) (sectors_of e.runs)) refl not_taken
    where
      by : (b : Bool) → all_differ (sectors_of e.runs) ≡ b → (c : Bool) → list_all (is_taken v) (sectors_of e.runs) ≡ c → (b && c && not (meets_held (held_runs v.shadow.held) e.runs)) ≡ false → Breaks v.layout pages visit.page ⊎ HasUntaken (state v) e
      by false twice c is rest = inl (breaks (or_left (not (all_differ (sectors_of e.runs))) _ (ap not twice)))
      by true once false is rest = let one = some_fails (is_taken v) (sectors_of e.runs) is in untaken_at one.0 one.1 one.2
      by true once true is rest = inr (or_right _ (meets_held (held_of (state v)) e.runs) (not-false (meets_held (held_runs v.shadow.held) e.runs) rest))

-- ---- an entry whose sectors are taken has none that is free, waits or is another's that is held

module _ (v : VolumeValue) (runs : List Run) (taken : are_taken v runs ≡ true) where
  neither : (t : ℕ) → contains (sectors_of runs) t ≡ true → (is_in (runs_of v.map.sectors ∷ []) t || contains (waiting_sectors v.shadow) t) ≡ false
  neither t there = or_from (is_in (runs_of v.map.sectors ∷ []) t) (contains (waiting_sectors v.shadow) t) (false_from_ne_true (is_in (runs_of v.map.sectors ∷ []) t) free) (false_from_ne_true (contains (waiting_sectors v.shadow) t) waiting)
    where
      none : (contains v.map.sectors t ≡ false) × (waits_in v.shadow t ≡ false)
      none =
          let each = all_in (is_taken v) (sectors_of runs) t (and_parts (all_differ (sectors_of runs)) (list_all (is_taken v) (sectors_of runs))
          (and_parts (all_differ (sectors_of runs) && list_all (is_taken v) (sectors_of runs)) (not (meets_held (held_runs v.shadow.held) runs)) taken).0).1 there in
          let out = (and_parts (is_data v.layout t) (not (contains v.map.sectors t || waits_in v.shadow t)) each).1 in
          or_parts (contains v.map.sectors t) (waits_in v.shadow t) (not-true (contains v.map.sectors t || waits_in v.shadow t) out)

      free : is_in (runs_of v.map.sectors ∷ []) t ≡ true → ⊥
      free c = both_ways (contains v.map.sectors t) none.0
          (occurs_contains t v.map.sectors (omega (arith, contains_occurs t (flat_map sectors_of (runs_of v.map.sectors ∷ [])) c, used-cons t (runs_of v.map.sectors) [], runs_same t v.map.sectors)))

      waiting : contains (waiting_sectors v.shadow) t ≡ true → ⊥
      waiting c = both_ways (waits_in v.shadow t) none.1 (free_passes v.shadow.removed.from v.shadow.removed.to (waits_in v.shadow) t c)

pub taken_is_told : (v : VolumeValue) → IsWholeVolume v → (e : Entry) → are_taken v e.runs ≡ true → IsTaken (state v) e
taken_is_told v whole e taken has =
    both_ways _ (or_from _ _ (any_none (λ t. is_in ((state v).free ∷ []) t || contains (state v).waiting t) (sectors_of e.runs) (neither v e.runs taken))
    (not-true (meets_held (held_runs v.shadow.held) e.runs) (and_parts (all_differ (sectors_of e.runs) && list_all (is_taken v) (sectors_of e.runs)) (not (meets_held (held_runs v.shadow.held) e.runs)) taken).1)) has
