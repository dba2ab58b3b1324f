-- What clients of a mounted volume have open may change while it stands over its disk.
use Rattle.std.proofs.Common.{◌≡◌, ◌⊎◌, inl, inr, ℕ, zero, suc, ◌+◌, ◌<◌, ◌≤◌, Bool, true, false, not, ◌&&◌, ◌||◌, List, [], ◌∷◌, ◌++◌, length, map, set, Option, None, Some, refl, sym, ap, ◌∙◌, arith, cond}
use Rattle.std.proofs.Math.Bool.{or_assoc, or_comm, or-true, or-false}
use Rattle.std.specs.Prelude.{IsTrue, IsFalse, IfSome, filter, slice_index_or}
use Rattle.std.specs.List.{AllByRecursion, AllZip, flat_map, list_all, list_any}
use Rattle.std.proofs.lemmas.Bool.{and_from, and_parts, both_ways, false_from_ne_true, or_cases, or_from, or_left, or_parts, or_right}
use Rattle.std.proofs.lemmas.List.Folds.{list_any-append}
use Rattle.std.specs.Prelude.{◌==◌}
use Rattle.run_table.specs.declared.run.Run.{Run}
use Rattle.run_table.specs.RunTable.{same_runs, sectors_of}
use Rattle.run_table.specs.Space.{all_differ, contains}
use Rattle.run_table.proofs.SectorLaws.{all_from, all_in}
use Rattle.run_table.proofs.SameLaws.{runs_are_same, same_runs_are}
use Rattle.sector_set.proofs.MeetLaws.{any_none}
use Rattle.fsd_formats.specs.declared.entry.Entry.{Entry}
use Rattle.volume_layout.specs.declared.layout.Layout.{Layout}
use Rattle.volume_layout.specs.Layout.{is_data}
use Rattle.sector_disk.specs.declared.sector.WeakRun.{WeakRun}
use Rattle.fsd_files.specs.Disk.{Image, in_runs}
use Rattle.fsd_files.specs.Files.{Change}
use Rattle.fsd_files.specs.Kept.{KeptIn, data_sectors}
use Rattle.fsd_files.specs.Space.{Apart}
use Rattle.fsd_files.specs.Volume.{Volume, in_version, is_free, is_in, plans_of}
use Rattle.fsd_files.specs.Waiting.{IsSpaced, are_same_or_apart, is_kept_alone, is_let_go}
use Rattle.fsd_files.proofs.ChangeLaws.{AreFree, used-append}
use Rattle.fsd_files.proofs.CountLaws.{contains_occurs, differ_occurs, occurs, occurs_contains, occurs_differ, used, used-cons}
use Rattle.fsd_files.proofs.EachLaws.{each_kept}
use Rattle.fsd_sound.specs.Mounted.{HasOpen, IsMounted, Mounted, Wrote}
use Rattle.volume_contract.specs.State.{OpenParts, HeldVersion, WrittenDraft, readings}
use Rattle.volume_contract.specs.Pieces.{drafts_without}

-- ---- two lists made of one

pub zip_each : {X A B : Type 0} (R : A → B → Type 0) (f : X → A) (g : X → B) (xs : List X) → AllZip R (map f xs) (map g xs) → AllByRecursion (λ x. R (f x) (g x)) xs
zip_each R f g [] all = tt
zip_each R f g (x ∷ xs) all = (all.0, zip_each R f g xs all.1)

pub each_zip : {X A B : Type 0} (R : A → B → Type 0) (f : X → A) (g : X → B) (xs : List X) → AllByRecursion (λ x. R (f x) (g x)) xs → AllZip R (map f xs) (map g xs)
each_zip R f g [] all = tt
each_zip R f g (x ∷ xs) all = (all.0, each_zip R f g xs all.1)

-- ---- the volume with this open

abbrev pub reopen : Mounted → OpenParts → Mounted
reopen m o = record m {
  volume = record m.volume { drafts = map (λ x. x.runs) o.drafts; held = map (λ x. x.runs) (readings o.readers) };
  slices = map (λ x. x.slices) o.drafts;
  bytes = map (λ x. x.bytes) (readings o.readers);
}

-- it stays mounted where the drafts and what readers hold are apart as they must be, stand on the disk, and nothing more is let go
pub reopened : (m : Mounted) (old new : OpenParts) (windows : List WeakRun) (h : List Change) (f : ℕ) (i : Image) → IsMounted (reopen m old) windows h f i → IsSpaced (reopen m new).volume → HasOpen (in_runs windows) i (reopen m new)
    → ((s : ℕ) → IsFalse (is_let_go (reopen m old).volume s) → IsFalse (is_let_go (reopen m new).volume s)) → IsMounted (reopen m new) windows h f i
reopened m old new windows h f i is spaced stands fewer = record {
  files = is.files;
  described = is.described;
  count = is.count;
  few = is.few;
  epoch = is.epoch;
  third = is.third;
  room = is.room;
  in_memory = is.in_memory;
  spaced = spaced;
  open_ones = stands;
  disk = is.disk;
  records = is.records;
  over = record { shows = is.over.shows; own = is.over.own; clean = is.over.clean };
  forced = record {
    telling = is.forced.telling;
    told = is.forced.told;
    described = is.forced.described;
    taken = λ s there. fewer s (is.forced.taken s there);
    leaders = is.forced.leaders;
  };
}

-- ---- plans that are apart

pub used_apart : (l : Layout) (plans : List (List Run)) → Apart l plans → (s : ℕ) → (used s plans ≤ 1) × (0 < used s plans → IsTrue (is_data l s))
used_apart l plans apart s =
    let all : List ℕ = flat_map sectors_of plans in
    let parts = and_parts (all_differ all) (list_all (is_data l) all) apart in
    (differ_occurs all parts.0 s, λ some. all_in (is_data l) all s parts.1 (occurs_contains s all some))

pub apart_used : (l : Layout) (plans : List (List Run)) → ((s : ℕ) → (used s plans ≤ 1) × (0 < used s plans → IsTrue (is_data l s))) → Apart l plans
apart_used l plans each =
    let all : List ℕ = flat_map sectors_of plans in
    and_from (all_differ all) (list_all (is_data l) all) (occurs_differ all (λ s. (each s).0)) (all_from (is_data l) all (λ s there. (each s).1 (contains_occurs s all there)))

none_used : (s : ℕ) (plans : List (List Run)) → is_in plans s ≡ false → used s plans ≤ 0
none_used s plans none = by (used s plans) (λ some. both_ways (is_in plans s) none (occurs_contains s (flat_map sectors_of plans) some))
  where
    by : (n : ℕ) → (0 < n → ⊥) → n ≤ 0
    by zero h = omega arith
    by (suc n) h = absurd (h (omega arith))

some_used : (n : ℕ) → (n ≤ 0) ⊎ (0 < n)
some_used zero = inl (omega arith)
some_used (suc n) = inr (omega arith)

-- a sector that is free is in no version and waits nowhere
free_parts : (v : Volume) (s : ℕ) → is_free v s ≡ true → (is_data v.layout s ≡ true) × (in_version v s ≡ false) × (contains v.removed s ≡ false) × (is_in v.held s ≡ false) × (is_in v.drafts s ≡ false)
free_parts v s free = by (is_data v.layout s) (in_version v s) (contains v.removed s) (is_in v.held s) (is_in v.drafts s) free
  where
    by : (a b r c d : Bool) → (a && not b && not (not b && (r || c || d))) ≡ true → (a ≡ true) × (b ≡ false) × (r ≡ false) × (c ≡ false) × (d ≡ false)
    by false b r c d e = absurd (cc e)
    by true true r c d e = absurd (cc e)
    by true false true c d e = absurd (cc e)
    by true false false true d e = absurd (cc e)
    by true false false false true e = absurd (cc e)
    by true false false false false e = (refl, refl, refl, refl, refl)

-- ---- a creation is begun

pub drafts_more : (s : ℕ) (drafts : List WrittenDraft) (w : WrittenDraft) → is_in (map (λ x. x.runs) (w ∷ drafts)) s ≡ (is_in (map (λ x. x.runs) drafts) s || contains (sectors_of w.runs) s)
drafts_more s drafts w =
    list_any-append (λ t. t == s) (sectors_of w.runs) (flat_map sectors_of (map (λ x. x.runs) drafts)) ∙ or_comm (contains (sectors_of w.runs) s) (is_in (map (λ x. x.runs) drafts) s)

module _ (m : Mounted) (o : OpenParts) (w : WrittenDraft) (windows : List WeakRun) (h : List Change) (f : ℕ) (i : Image) (is : IsMounted (reopen m o) windows h f i) (free : AreFree (reopen m o).volume w.runs)
    (written : AllZip (Wrote (in_runs windows) i) w.slices (data_sectors w.runs)) where
  abbrev old_volume : Volume
  old_volume = (reopen m o).volume

  abbrev pub with_draft : OpenParts
  with_draft = record o { drafts = w ∷ o.drafts }

  abbrev new_volume : Volume
  new_volume = (reopen m with_draft).volume

  abbrev plans : List (List Run)
  plans = plans_of m.volume.entries

  free_at : (s : ℕ) → contains (sectors_of w.runs) s ≡ true → is_free old_volume s ≡ true
  free_at s there = free.free s (contains_occurs s (sectors_of w.runs) there)

  in_drafts : (s : ℕ) → is_in new_volume.drafts s ≡ (is_in old_volume.drafts s || contains (sectors_of w.runs) s)
  in_drafts s = drafts_more s o.drafts w

  once : (s : ℕ) → (used s (plans ++ w.runs ∷ old_volume.drafts) ≤ 1) × (0 < used s (plans ++ w.runs ∷ old_volume.drafts) → IsTrue (is_data m.volume.layout s))
  once s =
      let was = used_apart m.volume.layout (plans ++ old_volume.drafts) is.spaced.apart s in
      let all : used s (plans ++ w.runs ∷ old_volume.drafts) ≡ used s (plans ++ old_volume.drafts) + occurs s (sectors_of w.runs) =
      (let a = used-append s plans (w.runs ∷ old_volume.drafts) in
      let c = used-cons s w.runs old_volume.drafts in
      let d = used-append s plans old_volume.drafts in
      omega (arith, a, c, d)) in
      elim (some_used (occurs s (sectors_of w.runs))) [
        | inl none ↦ (omega (arith, all, none, was.0), λ some. was.1 (omega (arith, all, none, some)))
        | inr some ↦
            let parts = free_parts old_volume s (free.free s some) in
            let first = none_used s plans parts.1 in
            let second = none_used s old_volume.drafts parts.4 in
            let mine = free.once s in
            let d = used-append s plans old_volume.drafts in
            (omega (arith, all, first, second, mine, d), λ more. parts.0)
      ]

  pub spaced_more : IsSpaced new_volume
  spaced_more = record {
    apart = apart_used m.volume.layout (plans ++ w.runs ∷ old_volume.drafts) once;
    area = is.spaced.area;
    drafts = λ s there. elim (or_cases (is_in old_volume.drafts s) (contains (sectors_of w.runs) s) (sym (in_drafts s) ∙ there)) [
      | inl was ↦ is.spaced.drafts s was
      | inr mine ↦ let parts = free_parts old_volume s (free_at s mine) in or_from (contains m.volume.removed s) (is_in old_volume.held s) parts.2 parts.3
    ];
    removed = is.spaced.removed;
    held = is.spaced.held;
  }

  -- what was free and is not the draft's
  pub free_more : (s : ℕ) → is_free new_volume s ≡ (is_free old_volume s && not (contains (sectors_of w.runs) s))
  free_more s =
      ap (λ (b : Bool). is_data m.volume.layout s && not (in_version m.volume s) && not (not (in_version m.volume s) && (contains m.volume.removed s || is_in old_volume.held s || b))) (in_drafts s)
      ∙ tests (is_data m.volume.layout s) (in_version m.volume s) (contains m.volume.removed s) (is_in old_volume.held s) (is_in old_volume.drafts s) (contains (sectors_of w.runs) s)
    where
      tests : (a b r c d x : Bool) → (a && not b && not (not b && (r || c || (d || x)))) ≡ ((a && not b && not (not b && (r || c || d))) && not x)
      tests false b r c d x = refl
      tests true true r c d x = refl
      tests true false true c d x = refl
      tests true false false true d x = refl
      tests true false false false true x = refl
      tests true false false false false true = refl
      tests true false false false false false = refl

  fewer_more : (s : ℕ) → IsFalse (is_let_go old_volume s) → IsFalse (is_let_go new_volume s)
  fewer_more s out =
      let first = or_parts (is_free old_volume s || is_in old_volume.drafts s) (is_kept_alone old_volume s) out in
      let second = or_parts (is_free old_volume s) (is_in old_volume.drafts s) first.0 in
      let mine : contains (sectors_of w.runs) s ≡ false = false_from_ne_true (contains (sectors_of w.runs) s) (λ there. both_ways (is_free old_volume s) second.0 (free_at s there)) in
      or_from (is_free new_volume s || is_in new_volume.drafts s) (is_kept_alone new_volume s)
      (or_from (is_free new_volume s) (is_in new_volume.drafts s) (free_more s ∙ ap (λ (b : Bool). b && not (contains (sectors_of w.runs) s)) second.0) (in_drafts s ∙ (λ i. second.1 i || mine i)))
      first.1

  pub mounted_more : IsMounted (reopen m with_draft) windows h f i
  mounted_more = reopened m o with_draft windows h f i is spaced_more (record { drafts = (written, is.open_ones.drafts); held = is.open_ones.held }) fewer_more

-- ---- a creation ends

abbrev pub runs_of_drafts : List WrittenDraft → List (List Run)
runs_of_drafts drafts = map (λ x. x.runs) drafts

-- a draft with other runs has none of these sectors, where each sector is in one draft once at most
others_apart : (drafts : List WrittenDraft) (runs : List Run) → list_any (λ x. same_runs x.runs runs) drafts ≡ true → ((s : ℕ) → used s (runs_of_drafts drafts) ≤ 1)
    → AllByRecursion (λ x. same_runs x.runs runs ≡ false → (s : ℕ) → contains (sectors_of x.runs) s ≡ true → contains (sectors_of runs) s ≡ false) drafts
others_apart [] runs there once = tt
others_apart (x ∷ drafts) runs there once = (
  λ other s here. false_from_ne_true (contains (sectors_of runs) s) (λ mine.
      let rest = rest_has other there in
      let more = used_in drafts rest s in
      let o = once s in
      let first = contains_occurs s (sectors_of x.runs) here in
      let second = contains_occurs s (sectors_of runs) mine in
      absurd (omega (arith, o, used-cons s x.runs (runs_of_drafts drafts), more, first, second))),
  by (list_any (λ y. same_runs y.runs runs) drafts) refl (λ later. others_apart drafts runs later (λ s. let o = once s in omega (arith, o, used-cons s x.runs (runs_of_drafts drafts)))),
)
  where
    rest_has : same_runs x.runs runs ≡ false → (same_runs x.runs runs || list_any (λ y. same_runs y.runs runs) drafts) ≡ true → list_any (λ y. same_runs y.runs runs) drafts ≡ true
    rest_has other some = ap (λ (b : Bool). b || list_any (λ y. same_runs y.runs runs) drafts) (sym other) ∙ some

    used_in : (ds : List WrittenDraft) → list_any (λ y. same_runs y.runs runs) ds ≡ true → (s : ℕ) → occurs s (sectors_of runs) ≤ used s (runs_of_drafts ds)
    used_in [] none s = absurd (cc none)
    used_in (d ∷ ds) some s = elim (or_cases (same_runs d.runs runs) (list_any (λ y. same_runs y.runs runs) ds) some) [
      | inl same ↦ omega (arith, used-cons s d.runs (runs_of_drafts ds), ap (λ (rs : List Run). occurs s (sectors_of rs)) (same_runs_are d.runs runs same))
      | inr later ↦ let more = used_in ds later s in omega (arith, used-cons s d.runs (runs_of_drafts ds), more)
    ]

    each_out : (ds : List WrittenDraft) → ((s : ℕ) → occurs s (sectors_of runs) + used s (runs_of_drafts ds) ≤ 1) → AllByRecursion (λ y. same_runs y.runs runs ≡ false → (s : ℕ) → contains (sectors_of y.runs) s ≡ true → contains (sectors_of runs) s ≡ false) ds
    each_out [] most = tt
    each_out (d ∷ ds) most = (
      λ other s here. false_from_ne_true (contains (sectors_of runs) s) (λ mine.
          let o = most s in
          let first = contains_occurs s (sectors_of d.runs) here in
          let second = contains_occurs s (sectors_of runs) mine in
          absurd (omega (arith, o, used-cons s d.runs (runs_of_drafts ds), first, second))),
      each_out ds (λ s. let o = most s in omega (arith, o, used-cons s d.runs (runs_of_drafts ds))),
    )

    by : (b : Bool) → list_any (λ y. same_runs y.runs runs) drafts ≡ b
        → (list_any (λ y. same_runs y.runs runs) drafts ≡ true → AllByRecursion (λ y. same_runs y.runs runs ≡ false → (s : ℕ) → contains (sectors_of y.runs) s ≡ true → contains (sectors_of runs) s ≡ false) drafts)
        → AllByRecursion (λ y. same_runs y.runs runs ≡ false → (s : ℕ) → contains (sectors_of y.runs) s ≡ true → contains (sectors_of runs) s ≡ false) drafts
    by true later rest = rest later
    by false none rest =
        let here : same_runs x.runs runs ≡ true = or_first (same_runs x.runs runs) none there in
        each_out drafts (λ s. let o = once s in omega (arith, o, used-cons s x.runs (runs_of_drafts drafts), ap (λ (rs : List Run). occurs s (sectors_of rs)) (same_runs_are x.runs runs here)))
      where
        or_first : (a : Bool) {b : Bool} → b ≡ false → (a || b) ≡ true → a ≡ true
        or_first true none some = refl
        or_first false none some = absurd (let e = sym none ∙ some in cc e)

-- without it the drafts have its sectors no more
drafts_fewer : (s : ℕ) (drafts : List WrittenDraft) (runs : List Run) → AllByRecursion (λ x. same_runs x.runs runs ≡ false → (s : ℕ) → contains (sectors_of x.runs) s ≡ true → contains (sectors_of runs) s ≡ false) drafts
    → is_in (runs_of_drafts (drafts_without drafts runs)) s ≡ (is_in (runs_of_drafts drafts) s && not (contains (sectors_of runs) s))
drafts_fewer s [] runs apart = refl
drafts_fewer s (x ∷ drafts) runs apart = by (same_runs x.runs runs) refl (drafts_fewer s drafts runs apart.1)
  where
    left : List WrittenDraft
    left = drafts_without drafts runs

    mine : Bool
    mine = contains (sectors_of runs) s

    front : (ds : List WrittenDraft) → is_in (runs_of_drafts (x ∷ ds)) s ≡ (contains (sectors_of x.runs) s || is_in (runs_of_drafts ds) s)
    front ds = list_any-append (λ t. t == s) (sectors_of x.runs) (flat_map sectors_of (runs_of_drafts ds))

    gone : (a r : Bool) → (r && not a) ≡ ((a || r) && not a)
    gone true true = refl
    gone true false = refl
    gone false r = refl

    stays : (a r n : Bool) → (a ≡ true → n ≡ false) → (a || (r && not n)) ≡ ((a || r) && not n)
    stays true r n out = ap not (sym (out refl))
    stays false r n out = refl

    by : (b : Bool) → same_runs x.runs runs ≡ b → is_in (runs_of_drafts left) s ≡ (is_in (runs_of_drafts drafts) s && not mine)
        → is_in (runs_of_drafts (cond (not b) (x ∷ left) left)) s ≡ (is_in (runs_of_drafts (x ∷ drafts)) s && not mine)
    by true same rest =
        let is : contains (sectors_of x.runs) s ≡ mine = ap (λ (rs : List Run). contains (sectors_of rs) s) (same_runs_are x.runs runs same) in
        rest ∙ gone mine (is_in (runs_of_drafts drafts) s) ∙ ap (λ (b : Bool). (b || is_in (runs_of_drafts drafts) s) && not mine) (sym is) ∙ ap (λ (b : Bool). b && not mine) (sym (front drafts))
    by false other rest =
        front left ∙ ap (λ (b : Bool). contains (sectors_of x.runs) s || b) rest ∙ stays (contains (sectors_of x.runs) s) (is_in (runs_of_drafts drafts) s) mine (apart.0 other s) ∙ ap (λ (b : Bool). b && not mine) (sym (front drafts))

used_fewer : (p : WrittenDraft → Bool) (s : ℕ) (drafts : List WrittenDraft) → used s (runs_of_drafts (filter p drafts)) ≤ used s (runs_of_drafts drafts)
used_fewer p s [] = omega arith
used_fewer p s (x ∷ drafts) = by (p x) (used_fewer p s drafts)
  where
    by : (b : Bool) → used s (runs_of_drafts (filter p drafts)) ≤ used s (runs_of_drafts drafts) → used s (runs_of_drafts (cond b (x ∷ filter p drafts) (filter p drafts))) ≤ used s (runs_of_drafts (x ∷ drafts))
    by true rest = omega (arith, rest, used-cons s x.runs (runs_of_drafts (filter p drafts)), used-cons s x.runs (runs_of_drafts drafts))
    by false rest = omega (arith, rest, used-cons s x.runs (runs_of_drafts drafts))

module _ (m : Mounted) (o : OpenParts) (runs : List Run) (windows : List WeakRun) (h : List Change) (f : ℕ) (i : Image) (is : IsMounted (reopen m o) windows h f i) (there : list_any (λ x. same_runs x.runs runs) o.drafts ≡ true) where
  abbrev was : Volume
  was = (reopen m o).volume

  abbrev pub without_draft : OpenParts
  without_draft = record o { drafts = drafts_without o.drafts runs }

  abbrev left : Volume
  left = (reopen m without_draft).volume

  abbrev versions : List (List Run)
  versions = plans_of m.volume.entries

  once_in : (s : ℕ) → used s (runs_of_drafts o.drafts) ≤ 1
  once_in s = let all = used_apart m.volume.layout (versions ++ was.drafts) is.spaced.apart s in omega (arith, all.0, used-append s versions was.drafts)

  pub in_fewer : (s : ℕ) → is_in left.drafts s ≡ (is_in was.drafts s && not (contains (sectors_of runs) s))
  in_fewer s = drafts_fewer s o.drafts runs (others_apart o.drafts runs there once_in)

  -- its sectors are a draft's
  pub drafted : (s : ℕ) → contains (sectors_of runs) s ≡ true → is_in was.drafts s ≡ true
  drafted s mine = by o.drafts there
    where
      by : (ds : List WrittenDraft) → list_any (λ x. same_runs x.runs runs) ds ≡ true → is_in (runs_of_drafts ds) s ≡ true
      by [] none = absurd (cc none)
      by (d ∷ ds) some =
          list_any-append (λ t. t == s) (sectors_of d.runs) (flat_map sectors_of (runs_of_drafts ds))
          ∙ elim (or_cases (same_runs d.runs runs) (list_any (λ y. same_runs y.runs runs) ds) some) [
            | inl same ↦ or_left (contains (sectors_of d.runs) s) (is_in (runs_of_drafts ds) s) (ap (λ (rs : List Run). contains (sectors_of rs) s) (same_runs_are d.runs runs same) ∙ mine)
            | inr later ↦ or_right (contains (sectors_of d.runs) s) (is_in (runs_of_drafts ds) s) (by ds later)
          ]

  still : (s : ℕ) → is_in left.drafts s ≡ true → is_in was.drafts s ≡ true
  still s now = (and_parts (is_in was.drafts s) (not (contains (sectors_of runs) s)) (sym (in_fewer s) ∙ now)).0

  pub spaced_fewer : IsSpaced left
  spaced_fewer = record {
    apart = apart_used m.volume.layout (versions ++ left.drafts) (λ s.
        let all = used_apart m.volume.layout (versions ++ was.drafts) is.spaced.apart s in
        let less = used_fewer (λ x. not (same_runs x.runs runs)) s o.drafts in
        let a = used-append s versions was.drafts in
        let b = used-append s versions left.drafts in
        (omega (arith, all.0, less, a, b), λ some. all.1 (omega (arith, less, a, b, some))));
    area = is.spaced.area;
    drafts = λ s now. is.spaced.drafts s (still s now);
    removed = is.spaced.removed;
    held = is.spaced.held;
  }

  -- a draft's sector is in no version, did not go, and no reader holds it; it lies in the data area
  draft_parts : (s : ℕ) → is_in was.drafts s ≡ true → (is_data m.volume.layout s ≡ true) × (in_version m.volume s ≡ false) × (contains m.volume.removed s ≡ false) × (is_in was.held s ≡ false)
  draft_parts s now =
      let all = used_apart m.volume.layout (versions ++ was.drafts) is.spaced.apart s in
      let some = contains_occurs s (flat_map sectors_of was.drafts) now in
      let a = used-append s versions was.drafts in
      let none = or_parts (contains m.volume.removed s) (is_in was.held s) (is.spaced.drafts s now) in (
        all.1 (omega (arith, some, a)),
        false_from_ne_true (in_version m.volume s) (λ version. let more = contains_occurs s (flat_map sectors_of versions) version in absurd (omega (arith, all.0, some, a, more))),
        none.0,
        none.1,
      )

  -- its sectors are free then
  pub free_again : (s : ℕ) → is_free left s ≡ (is_free was s || contains (sectors_of runs) s)
  free_again s =
      ap (λ (b : Bool). is_data m.volume.layout s && not (in_version m.volume s) && not (not (in_version m.volume s) && (contains m.volume.removed s || is_in was.held s || b))) (in_fewer s)
      ∙ tests (is_data m.volume.layout s) (in_version m.volume s) (contains m.volume.removed s) (is_in was.held s) (is_in was.drafts s) (contains (sectors_of runs) s)
      (λ mine. let p = draft_parts s (drafted s mine) in (p.0, p.1, p.2, p.3, drafted s mine))
    where
      tests : (a b r c d x : Bool) → (x ≡ true → (a ≡ true) × (b ≡ false) × (r ≡ false) × (c ≡ false) × (d ≡ true)) → (a && not b && not (not b && (r || c || (d && not x)))) ≡ ((a && not b && not (not b && (r || c || d))) || x)
      tests a b r c d true so =
          let p = so refl in
          (λ i. p.0 i && not (p.1 i) && not (not (p.1 i) && (p.2 i || p.3 i || (p.4 i && not true)))) ∙ sym (or-true (a && not b && not (not b && (r || c || d))))
      tests a b r c true false so = sym (or-false (a && not b && not (not b && (r || c || true))))
      tests a b r c false false so = sym (or-false (a && not b && not (not b && (r || c || false))))

  pub mounted_fewer : IsMounted (reopen m without_draft) windows h f i
  mounted_fewer = reopened m o without_draft windows h f i is spaced_fewer
      (record {
        drafts = each_zip (λ slices runs. AllZip (Wrote (in_runs windows) i) slices (data_sectors runs)) (λ x. x.slices) (λ x. x.runs) (drafts_without o.drafts runs)
            (each_kept (λ (x : WrittenDraft). AllZip (Wrote (in_runs windows) i) x.slices (data_sectors x.runs)) (λ x. not (same_runs x.runs runs)) o.drafts
            (zip_each (λ slices runs. AllZip (Wrote (in_runs windows) i) slices (data_sectors runs)) (λ x. x.slices) (λ x. x.runs) o.drafts is.open_ones.drafts));
        held = is.open_ones.held;
      })
      (λ s out.
      let first = or_parts (is_free was s || is_in was.drafts s) (is_kept_alone was s) out in
      let second = or_parts (is_free was s) (is_in was.drafts s) first.0 in
      let mine : contains (sectors_of runs) s ≡ false = false_from_ne_true (contains (sectors_of runs) s) (λ here. both_ways (is_in was.drafts s) second.1 (drafted s here)) in
      or_from (is_free left s || is_in left.drafts s) (is_kept_alone left s)
      (or_from (is_free left s) (is_in left.drafts s) (free_again s ∙ (λ i. second.0 i || mine i)) (in_fewer s ∙ ap (λ (b : Bool). b && not (contains (sectors_of runs) s)) second.1))
      first.1)

-- ---- a reader holds a version, or gives it up

abbrev runs_of_readers : List (Option HeldVersion) → List (List Run)
runs_of_readers places = map (λ x. x.runs) (readings places)

pub readers_each : (P : HeldVersion → Type 0) (places : List (Option HeldVersion)) (p : ℕ) (y : Option HeldVersion) → AllByRecursion P (readings places) → IfSome y P → AllByRecursion P (readings (set places p y))
readers_each P [] p y all one = all
readers_each P (None ∷ places) zero None all one = all
readers_each P (None ∷ places) zero (Some x) all one = (one, all)
readers_each P (Some z ∷ places) zero None all one = all.1
readers_each P (Some z ∷ places) zero (Some x) all one = (one, all.1)
readers_each P (None ∷ places) (suc p) y all one = readers_each P places p y all one
readers_each P (Some z ∷ places) (suc p) y all one = (all.0, readers_each P places p y all.1 one)

readers_all : (P : List Run → Bool) (places : List (Option HeldVersion)) (p : ℕ) (y : Option HeldVersion) → list_all P (runs_of_readers places) ≡ true → IfSome y (λ x. P x.runs ≡ true) → list_all P (runs_of_readers (set places p y)) ≡ true
readers_all P [] p y all one = all
readers_all P (None ∷ places) zero None all one = all
readers_all P (None ∷ places) zero (Some x) all one = and_from (P x.runs) (list_all P (runs_of_readers places)) one all
readers_all P (Some z ∷ places) zero None all one = (and_parts (P z.runs) (list_all P (runs_of_readers places)) all).1
readers_all P (Some z ∷ places) zero (Some x) all one = and_from (P x.runs) (list_all P (runs_of_readers places)) one (and_parts (P z.runs) (list_all P (runs_of_readers places)) all).1
readers_all P (None ∷ places) (suc p) y all one = readers_all P places p y all one
readers_all P (Some z ∷ places) (suc p) y all one =
    let parts = and_parts (P z.runs) (list_all P (runs_of_readers places)) all in
    and_from (P z.runs) (list_all P (runs_of_readers (set places p y))) parts.0 (readers_all P places p y parts.1 one)

in_front_of : (s : ℕ) (x : HeldVersion) (places : List (Option HeldVersion)) → is_in (runs_of_readers (Some x ∷ places)) s ≡ (contains (sectors_of x.runs) s || is_in (runs_of_readers places) s)
in_front_of s x places = list_any-append (λ t. t == s) (sectors_of x.runs) (flat_map sectors_of (runs_of_readers places))

-- what is held with one more at an empty place
pub held_more : (s : ℕ) (places : List (Option HeldVersion)) (p : ℕ) (x : HeldVersion) → p < length places → slice_index_or places p None ≡ None → is_in (runs_of_readers (set places p (Some x))) s ≡ (is_in (runs_of_readers places) s || contains (sectors_of x.runs) s)
held_more s [] p x inside empty = absurd (omega (arith, inside))
held_more s (None ∷ places) zero x inside empty = in_front_of s x places ∙ or_comm (contains (sectors_of x.runs) s) (is_in (runs_of_readers places) s)
held_more s (Some z ∷ places) zero x inside empty = absurd (cc empty)
held_more s (None ∷ places) (suc p) x inside empty = held_more s places p x (omega (arith, inside)) empty
held_more s (Some z ∷ places) (suc p) x inside empty =
    in_front_of s z (set places p (Some x)) ∙ ap (λ (b : Bool). contains (sectors_of z.runs) s || b) (held_more s places p x (omega (arith, inside)) empty)
    ∙ sym (or_assoc (contains (sectors_of z.runs) s) (is_in (runs_of_readers places) s) (contains (sectors_of x.runs) s)) ∙ ap (λ (b : Bool). b || contains (sectors_of x.runs) s) (sym (in_front_of s z places))

-- and what is held, by what is left without it
pub held_fewer : (s : ℕ) (places : List (Option HeldVersion)) (p : ℕ) (x : HeldVersion) → slice_index_or places p None ≡ Some x → is_in (runs_of_readers places) s ≡ (is_in (runs_of_readers (set places p None)) s || contains (sectors_of x.runs) s)
held_fewer s [] p x there = absurd (cc there)
held_fewer s (None ∷ places) zero x there = absurd (cc there)
held_fewer s (Some z ∷ places) zero x there =
    let same : z ≡ x = cc there in
    in_front_of s z places ∙ or_comm (contains (sectors_of z.runs) s) (is_in (runs_of_readers places) s) ∙ ap (λ (y : HeldVersion). is_in (runs_of_readers places) s || contains (sectors_of y.runs) s) same
held_fewer s (None ∷ places) (suc p) x there = held_fewer s places p x there
held_fewer s (Some z ∷ places) (suc p) x there =
    in_front_of s z places ∙ ap (λ (b : Bool). contains (sectors_of z.runs) s || b) (held_fewer s places p x there)
    ∙ sym (or_assoc (contains (sectors_of z.runs) s) (is_in (runs_of_readers (set places p None)) s) (contains (sectors_of x.runs) s)) ∙ ap (λ (b : Bool). b || contains (sectors_of x.runs) s) (sym (in_front_of s z (set places p None)))

-- a version's runs are those of each other version, or share no sector with it
pub same_or_apart : (es : List Entry) (runs : List Run) (n : ℕ) (d : Entry) → n < length es → (slice_index_or es n d).runs ≡ runs → ((s : ℕ) → used s (plans_of es) ≤ 1) → list_all (λ e. are_same_or_apart runs e.runs) es ≡ true
same_or_apart [] runs n d lt is once = refl
same_or_apart (e ∷ es) runs zero d lt is once =
    and_from (are_same_or_apart runs e.runs) (list_all (λ y. are_same_or_apart runs y.runs) es)
    (or_left (same_runs runs e.runs) (not (list_any (λ s. contains (sectors_of runs) s) (sectors_of e.runs))) (ap (same_runs runs) is ∙ runs_are_same runs))
    (others es (λ s. let o = once s in omega (arith, o, used-cons s e.runs (plans_of es), ap (λ (rs : List Run). occurs s (sectors_of rs)) is)))
  where
    others : (xs : List Entry) → ((s : ℕ) → occurs s (sectors_of runs) + used s (plans_of xs) ≤ 1) → list_all (λ y. are_same_or_apart runs y.runs) xs ≡ true
    others [] most = refl
    others (x ∷ xs) most =
        and_from (are_same_or_apart runs x.runs) (list_all (λ y. are_same_or_apart runs y.runs) xs)
        (or_right (same_runs runs x.runs) (not (list_any (λ s. contains (sectors_of runs) s) (sectors_of x.runs)))
        (ap not (any_none (contains (sectors_of runs)) (sectors_of x.runs) (λ s here. false_from_ne_true (contains (sectors_of runs) s) (λ mine.
        let o = most s in
        let first = contains_occurs s (sectors_of x.runs) here in
        let second = contains_occurs s (sectors_of runs) mine in
        absurd (omega (arith, o, used-cons s x.runs (plans_of xs), first, second)))))))
        (others xs (λ s. let o = most s in omega (arith, o, used-cons s x.runs (plans_of xs))))
same_or_apart (e ∷ es) runs (suc n) d lt is once =
    and_from (are_same_or_apart runs e.runs) (list_all (λ y. are_same_or_apart runs y.runs) es)
    (or_right (same_runs runs e.runs) (not (list_any (λ s. contains (sectors_of runs) s) (sectors_of e.runs)))
    (ap not (any_none (contains (sectors_of runs)) (sectors_of e.runs) (λ s here. false_from_ne_true (contains (sectors_of runs) s) (λ mine.
    let o = once s in
    let first = contains_occurs s (sectors_of e.runs) here in
    let second = contains_occurs s (sectors_of runs) mine in
    let more = in_list es n d (omega (arith, lt)) is s in
    absurd (omega (arith, o, used-cons s e.runs (plans_of es), first, second, more)))))))
    (same_or_apart es runs n d (omega (arith, lt)) is (λ s. let o = once s in omega (arith, o, used-cons s e.runs (plans_of es))))
  where
    in_list : (xs : List Entry) (j : ℕ) (d : Entry) → j < length xs → (slice_index_or xs j d).runs ≡ runs → (s : ℕ) → occurs s (sectors_of runs) ≤ used s (plans_of xs)
    in_list [] j d lt is s = absurd (omega (arith, lt))
    in_list (x ∷ xs) zero d lt is s = omega (arith, used-cons s x.runs (plans_of xs), ap (λ (rs : List Run). occurs s (sectors_of rs)) is)
    in_list (x ∷ xs) (suc j) d lt is s = let more = in_list xs j d (omega (arith, lt)) is s in omega (arith, used-cons s x.runs (plans_of xs), more)

-- ---- held

module _ (m : Mounted) (o : OpenParts) (p : ℕ) (x : HeldVersion) (windows : List WeakRun) (h : List Change) (f : ℕ) (i : Image) (is : IsMounted (reopen m o) windows h f i) (inside : p < length o.readers) (empty : slice_index_or o.readers p None ≡ None)
    (version : (s : ℕ) → contains (sectors_of x.runs) s ≡ true → in_version m.volume s ≡ true) (same : list_all (λ e. are_same_or_apart x.runs e.runs) m.volume.entries ≡ true) (kept : KeptIn i (in_runs windows) x.bytes x.runs) where
  abbrev pub with_reader : OpenParts
  with_reader = record o { readers = set o.readers p (Some x) }

  abbrev before : Volume
  before = (reopen m o).volume

  abbrev holding : Volume
  holding = (reopen m with_reader).volume

  in_holding : (s : ℕ) → is_in holding.held s ≡ (is_in before.held s || contains (sectors_of x.runs) s)
  in_holding s = held_more s o.readers p x inside empty

  version_in_data : (s : ℕ) → in_version m.volume s ≡ true → is_data m.volume.layout s ≡ true
  version_in_data s there =
      let all = used_apart m.volume.layout (plans_of m.volume.entries ++ before.drafts) is.spaced.apart s in
      let some = contains_occurs s (flat_map sectors_of (plans_of m.volume.entries)) there in
      all.1 (omega (arith, some, used-append s (plans_of m.volume.entries) before.drafts))

  draft_out : (s : ℕ) → is_in before.drafts s ≡ true → in_version m.volume s ≡ false
  draft_out s now =
      let all = used_apart m.volume.layout (plans_of m.volume.entries ++ before.drafts) is.spaced.apart s in
      let some = contains_occurs s (flat_map sectors_of before.drafts) now in
      false_from_ne_true (in_version m.volume s) (λ there. let more = contains_occurs s (flat_map sectors_of (plans_of m.volume.entries)) there in
      absurd (omega (arith, all.0, some, more, used-append s (plans_of m.volume.entries) before.drafts)))

  pub spaced_held : IsSpaced holding
  spaced_held = record {
    apart = is.spaced.apart;
    area = λ s there. elim (or_cases (contains m.volume.removed s) (is_in holding.held s) there) [
      | inl went ↦ is.spaced.area s (or_left (contains m.volume.removed s) (is_in before.held s) went)
      | inr now ↦ elim (or_cases (is_in before.held s) (contains (sectors_of x.runs) s) (sym (in_holding s) ∙ now)) [
        | inl was ↦ is.spaced.area s (or_right (contains m.volume.removed s) (is_in before.held s) was)
        | inr mine ↦ version_in_data s (version s mine)
      ]
    ];
    drafts = λ s there.
        let none = or_parts (contains m.volume.removed s) (is_in before.held s) (is.spaced.drafts s there) in
        or_from (contains m.volume.removed s) (is_in holding.held s) none.0
        (in_holding s ∙ (λ j. none.1 j || false_from_ne_true (contains (sectors_of x.runs) s) (λ mine. both_ways (in_version m.volume s) (draft_out s there) (version s mine)) j));
    removed = is.spaced.removed;
    held = readers_all (λ runs. list_all (λ e. are_same_or_apart runs e.runs) m.volume.entries) o.readers p (Some x) is.spaced.held same;
  }

  -- nothing else is free then, and a reader alone keeps nothing more
  pub free_held : (s : ℕ) → is_free holding s ≡ is_free before s
  free_held s =
      ap (λ (b : Bool). is_data m.volume.layout s && not (in_version m.volume s) && not (not (in_version m.volume s) && (contains m.volume.removed s || b || is_in before.drafts s))) (in_holding s)
      ∙ tests (is_data m.volume.layout s) (in_version m.volume s) (contains m.volume.removed s) (is_in before.held s) (is_in before.drafts s) (contains (sectors_of x.runs) s) (version s)
    where
      tests : (a b r c d y : Bool) → (y ≡ true → b ≡ true) → (a && not b && not (not b && (r || (c || y) || d))) ≡ (a && not b && not (not b && (r || c || d)))
      tests false b r c d y so = refl
      tests true true r c d y so = refl
      tests true false r c d true so = absurd (cc (so refl))
      tests true false true c d false so = refl
      tests true false false true d false so = refl
      tests true false false false d false so = refl

  pub alone_held : (s : ℕ) → is_kept_alone holding s ≡ is_kept_alone before s
  alone_held s =
      ap (λ (b : Bool). b && not (in_version m.volume s) && not (contains m.volume.removed s)) (in_holding s)
      ∙ tests (is_in before.held s) (in_version m.volume s) (contains m.volume.removed s) (contains (sectors_of x.runs) s) (version s)
    where
      tests : (c b r y : Bool) → (y ≡ true → b ≡ true) → ((c || y) && not b && not r) ≡ (c && not b && not r)
      tests true b r y so = refl
      tests false b r false so = refl
      tests false true r true so = refl
      tests false false r true so = absurd (cc (so refl))

  pub mounted_held : IsMounted (reopen m with_reader) windows h f i
  mounted_held = reopened m o with_reader windows h f i is spaced_held
      (record {
        drafts = is.open_ones.drafts;
        held = each_zip (KeptIn i (in_runs windows)) (λ x. x.bytes) (λ x. x.runs) (readings (set o.readers p (Some x)))
            (readers_each (λ (y : HeldVersion). KeptIn i (in_runs windows) y.bytes y.runs) o.readers p (Some x)
            (zip_each (KeptIn i (in_runs windows)) (λ x. x.bytes) (λ x. x.runs) (readings o.readers) is.open_ones.held) kept);
      })
      (λ s out. (λ j. (free_held s j || is_in before.drafts s) || alone_held s j) ∙ out)

-- ---- given up

module _ (m : Mounted) (o : OpenParts) (p : ℕ) (x : HeldVersion) (windows : List WeakRun) (h : List Change) (f : ℕ) (i : Image) (is : IsMounted (reopen m o) windows h f i) (there : slice_index_or o.readers p None ≡ Some x) where
  abbrev pub without_reader : OpenParts
  without_reader = record o { readers = set o.readers p None }

  abbrev until : Volume
  until = (reopen m o).volume

  abbrev since : Volume
  since = (reopen m without_reader).volume

  pub held_by : (s : ℕ) → is_in until.held s ≡ (is_in since.held s || contains (sectors_of x.runs) s)
  held_by s = held_fewer s o.readers p x there

  still_held : (s : ℕ) → is_in since.held s ≡ true → is_in until.held s ≡ true
  still_held s now = held_by s ∙ or_left (is_in since.held s) (contains (sectors_of x.runs) s) now

  not_held : (s : ℕ) → is_in until.held s ≡ false → is_in since.held s ≡ false
  not_held s none = false_from_ne_true (is_in since.held s) (λ now. both_ways (is_in until.held s) none (still_held s now))

  pub spaced_given : IsSpaced since
  spaced_given = record {
    apart = is.spaced.apart;
    area = λ s some. elim (or_cases (contains m.volume.removed s) (is_in since.held s) some) [
      | inl went ↦ is.spaced.area s (or_left (contains m.volume.removed s) (is_in until.held s) went)
      | inr now ↦ is.spaced.area s (or_right (contains m.volume.removed s) (is_in until.held s) (still_held s now))
    ];
    drafts = λ s now.
        let none = or_parts (contains m.volume.removed s) (is_in until.held s) (is.spaced.drafts s now) in
        or_from (contains m.volume.removed s) (is_in since.held s) none.0 (not_held s none.1);
    removed = is.spaced.removed;
    held = readers_all (λ runs. list_all (λ e. are_same_or_apart runs e.runs) m.volume.entries) o.readers p None is.spaced.held tt;
  }

  fewer_given : (s : ℕ) → IsFalse (is_let_go until s) → IsFalse (is_let_go since s)
  fewer_given s out = tests (is_data m.volume.layout s) (in_version m.volume s) (contains m.volume.removed s) (is_in until.held s) (is_in since.held s) (is_in until.drafts s) (still_held s) out
    where
      tests : (a b r c now d : Bool) → (now ≡ true → c ≡ true) → ((a && not b && not (not b && (r || c || d))) || d || (c && not b && not r)) ≡ false → ((a && not b && not (not b && (r || now || d))) || d || (now && not b && not r)) ≡ false
      tests a b r false true d more none = absurd (cc (more refl))
      tests a b r true true d more none = none
      tests a b r false false d more none = none
      tests false true r true false d more none = none
      tests false false true true false d more none = none
      tests false false false true false true more none = absurd (cc none)
      tests false false false true false false more none = refl
      tests true true true true false d more none = none
      tests true true false true false d more none = none
      tests true false true true false d more none = none
      tests true false false true false true more none = absurd (cc none)
      tests true false false true false false more none = absurd (cc none)

  pub mounted_given : IsMounted (reopen m without_reader) windows h f i
  mounted_given = reopened m o without_reader windows h f i is spaced_given
      (record {
        drafts = is.open_ones.drafts;
        held = each_zip (KeptIn i (in_runs windows)) (λ x. x.bytes) (λ x. x.runs) (readings (set o.readers p None))
            (readers_each (λ (y : HeldVersion). KeptIn i (in_runs windows) y.bytes y.runs) o.readers p None
            (zip_each (KeptIn i (in_runs windows)) (λ x. x.bytes) (λ x. x.runs) (readings o.readers) is.open_ones.held) tt);
      })
      fewer_given
