-- A volume that stands still stands once a reader holds one of its versions, and once a reader gives one up.
use Rattle.std.proofs.Common.{◌≡◌, ◌⊎◌, inl, inr, ℕ, zero, suc, ◌<◌, ◌≤◌, Bool, true, false, not, ◌&&◌, ◌||◌, List, [], ◌∷◌, ◌++◌, length, map, set, get_or, Option, None, Some, refl, sym, ap, subst, ◌∙◌, arith, if◌then◌else◌}
use Rattle.std.proofs.Math.Bool.{or-true, and-false, and-true}
use Rattle.std.specs.Prelude.{All, Contains, IfSome, is_none, option_map, slice_index_or}
use Rattle.std.specs.List.{flat_map, list_any}
use Rattle.std.proofs.lemmas.Bool.{and_parts, both_ways, false_from_ne_true, not-true, or_cases, or_from, or_left, or_parts, or_right}
use Rattle.std.proofs.lemmas.List.{length-set, length-map}
use Rattle.volume_layout.specs.Layout.{is_data}
use Rattle.run_table.specs.declared.run.Run.{Run}
use Rattle.run_table.specs.RunTable.{same_runs, sectors_of}
use Rattle.run_table.specs.Space.{contains, runs_of, where_free}
use Rattle.run_table.proofs.SameLaws.{same_runs_are}
use Rattle.sector_set.specs.Area.{Area, AreIn, AreOut, together, without_sectors}
use Rattle.sector_set.specs.Meet.{meets}
use Rattle.sector_set.proofs.FreeLaws.{where_same}
use Rattle.sector_set.proofs.MeetLaws.{none_any}
use Rattle.shadow_frees.specs.Readers.{IsSameOrApart, AreUnheld, Slots, given_back, has_same, has_sector, is_empty, is_held, unheld}
use Rattle.shadow_frees.specs.Waits.{AreIdle, Waits, left_kept}
use Rattle.sector_disk.specs.Machine.{Moment}
use Rattle.fsd_formats.specs.declared.entry.Entry.{Entry}
use Rattle.fsd_files.specs.Disk.{in_runs}
use Rattle.fsd_files.specs.Kept.{KeptIn}
use Rattle.fsd_files.specs.Volume.{Volume, in_version, is_free, is_in, plans_of}
use Rattle.fsd_files.specs.Waiting.{is_kept_alone}
use Rattle.fsd_files.proofs.ChangeLaws.{used-append}
use Rattle.fsd_files.proofs.CountLaws.{contains_occurs, occurs_contains, used, used-cons}
use Rattle.fsd_sound.specs.Mounted.{IsMounted, Mounted}
use Rattle.volume_contract.specs.declared.token.Held.{Held}
use Rattle.volume_contract.specs.Pieces.{IsHeldVersion, Unholds, read_at, with_opened}
use Rattle.volume_contract.specs.State.{Known, HeldVersion, Stands, forced_of, held_runs, volume_of}
use Rattle.volume_laws.specs.State.{IsMemoryOf, freed_sectors, state}
use Rattle.volume_laws.specs.Taken.{are_taken}
use Rattle.volume_laws.proofs.TakenLaws.{taken_is_out}
use Rattle.volume_laws.specs.Volume.{IsWholeVolume, VolumeValue}
use Rattle.volume_laws.proofs.OpenedLaws.{alone_held, free_held, held_by, mounted_given, mounted_held, reopen, same_or_apart, used_apart}
use Rattle.volume_laws.proofs.SpaceLaws.{held_is, of_fewer, of_more}
use Rattle.volume_laws.proofs.PieceLaws.{as_opened, in_data, mounted_opened, places_held, stands_opened, waiting_out, with_runs, without_runs, written_opened}

-- ---- places

pub map_set : {X A : Type 0} (f : X → A) (xs : List X) (p : ℕ) (y : X) → set (map f xs) p (f y) ≡ map f (set xs p y)
map_set f [] p y = refl
map_set f (x ∷ xs) zero y = refl
map_set {A = A} f (x ∷ xs) (suc p) y = ap (λ (zs : List A). f x ∷ zs) (map_set f xs p y)

none_at : (places : List (Option HeldVersion)) (p : ℕ) → get_or (map (λ place. option_map (λ x. x.runs) place) places) p None ≡ None → slice_index_or places p None ≡ None
none_at [] p none = refl
none_at (None ∷ places) zero none = refl
none_at (Some x ∷ places) zero none = absurd (cc none)
none_at (place ∷ places) (suc p) none = none_at places p none

pub some_at : (places : List (Option HeldVersion)) (p : ℕ) (runs : List Run) → get_or (map (λ place. option_map (λ x. x.runs) place) places) p None ≡ Some runs → (x : HeldVersion) × (slice_index_or places p None ≡ Some x) × (x.runs ≡ runs)
some_at [] p runs some = absurd (cc some)
some_at (None ∷ places) zero runs some = absurd (cc some)
some_at (Some x ∷ places) zero runs some = (x, refl, cc some)
some_at (place ∷ places) (suc p) runs some = some_at places p runs some

-- ---- slots

held_still : (slots : Slots) (p : ℕ) (x : Option (List Run)) (s : ℕ) → get_or slots p None ≡ None → is_held slots s ≡ true → is_held (set slots p x) s ≡ true
held_still [] p x s empty held = absurd (cc held)
held_still (None ∷ slots) zero x s empty held = or_right (has_sector s x) (is_held slots s) held
held_still (Some other ∷ slots) zero x s empty held = absurd (cc empty)
held_still (slot ∷ slots) (suc p) x s empty held = elim (or_cases (has_sector s slot) (is_held slots s) held) [
  | inl here ↦ or_left (has_sector s slot) (is_held (set slots p x) s) here
  | inr later ↦ or_right (has_sector s slot) (is_held (set slots p x) s) (held_still slots p x s empty later)
]

held_other : (slots : Slots) (p : ℕ) (runs : List Run) (s : ℕ) → get_or slots p None ≡ None → contains (sectors_of runs) s ≡ false → is_held (set slots p (Some runs)) s ≡ is_held slots s
held_other [] p runs s empty out = refl
held_other (None ∷ slots) zero runs s empty out = ap (λ (b : Bool). b || is_held slots s) out
held_other (Some other ∷ slots) zero runs s empty out = absurd (cc empty)
held_other (slot ∷ slots) (suc p) runs s empty out = ap (λ (b : Bool). has_sector s slot || b) (held_other slots p runs s empty out)

held_split : (slots : Slots) (p : ℕ) (runs : List Run) (s : ℕ) → get_or slots p None ≡ Some runs → is_held slots s ≡ true → (is_held (set slots p None) s ≡ true) ⊎ (contains (sectors_of runs) s ≡ true)
held_split [] p runs s there held = absurd (cc held)
held_split (None ∷ slots) zero runs s there held = absurd (cc there)
held_split (Some other ∷ slots) zero runs s there held = elim (or_cases (contains (sectors_of other) s) (is_held slots s) held) [
  | inl here ↦ inr (let same : other ≡ runs = cc there in ap (λ (rs : List Run). contains (sectors_of rs) s) (sym same) ∙ here)
  | inr later ↦ inl later
]
held_split (slot ∷ slots) (suc p) runs s there held = elim (or_cases (has_sector s slot) (is_held slots s) held) [
  | inl here ↦ inl (or_left (has_sector s slot) (is_held (set slots p None) s) here)
  | inr later ↦ elim (held_split slots p runs s there later) [
    | inl still ↦ inl (or_right (has_sector s slot) (is_held (set slots p None) s) still)
    | inr mine ↦ inr mine
  ]
]

same_held : (slots : Slots) (runs : List Run) (s : ℕ) → list_any (has_same runs) slots ≡ true → contains (sectors_of runs) s ≡ true → is_held slots s ≡ true
same_held [] runs s some mine = absurd (cc some)
same_held (None ∷ slots) runs s some mine = same_held slots runs s some mine
same_held (Some other ∷ slots) runs s some mine = elim (or_cases (same_runs other runs) (list_any (has_same runs) slots) some) [
  | inl same ↦ or_left (contains (sectors_of other) s) (is_held slots s) (ap (λ (rs : List Run). contains (sectors_of rs) s) (same_runs_are other runs same) ∙ mine)
  | inr later ↦ or_right (contains (sectors_of other) s) (is_held slots s) (same_held slots runs s later mine)
]

-- ---- a version is held

abbrev pub holding : VolumeValue → ℕ → List Run → VolumeValue
holding v p runs = record v { shadow = record v.shadow { held = set v.shadow.held p (Some runs) } }

module _ (v : VolumeValue) (whole : IsWholeVolume v) (p : ℕ) (runs : List Run) (empty : get_or v.shadow.held p None ≡ None) where
  pub whole_holding : IsWholeVolume (holding v p runs)
  whole_holding = record {
    planned = whole.planned;
    map = whole.map;
    removed = whole.removed;
    kept = whole.kept;
    unfinished = whole.unfinished;
    apart = whole.apart;
    once = record {
      removed = whole.once.removed;
      kept = whole.once.kept;
      readers = λ s there. held_still v.shadow.held p (Some runs) s empty (whole.once.readers s there);
      slots = length-set v.shadow.held p (Some runs) ∙ whole.once.slots;
    };
    log = whole.log;
    epoch = whole.epoch;
    pages = whole.pages;
    room = whole.room;
    unpinned = whole.unpinned;
    waiting = whole.waiting;
    numbered = whole.numbered;
    still = whole.still;
  }

  in_plans : (es : List Entry) (e : Entry) (n s : ℕ) → n < length es → slice_index_or es n e ≡ e → contains (sectors_of e.runs) s ≡ true → 0 < used s (plans_of es)
  in_plans [] e n s lt is here = absurd (omega (arith, lt))
  in_plans (y ∷ es) e zero s lt is here = omega (arith, used-cons s y.runs (plans_of es), contains_occurs s (sectors_of y.runs) (ap (λ (z : Entry). contains (sectors_of z.runs) s) is ∙ here))
  in_plans (y ∷ es) e (suc n) s lt is here = let more = in_plans es e n s (omega (arith, lt)) is here in omega (arith, used-cons s y.runs (plans_of es), more)

  -- the version's bytes are those of its entry's sectors
  pub stands_holding : (k : Known) (now : Moment) (bytes : List ℕ) (e : Entry) → p < 8 → Contains (volume_of k).entries e → e.runs ≡ runs → KeptIn now.image (in_runs k.windows) bytes runs → Stands state IsMemoryOf v k now
      → Stands state IsMemoryOf (holding v p runs) (with_opened k (read_at k.opened p (Some (record { runs = runs; bytes = bytes })))) now
  stands_holding k now bytes e low has is kept stands =
      let x : HeldVersion = record { runs = runs; bytes = bytes } in
      let disk = mounted_opened v k now stands in
      let many : length k.opened.readers ≡ 8 = sym (length-map k.opened.readers (λ (place : Option HeldVersion). option_map (λ x. x.runs) place)) ∙ ap (λ (slots : Slots). length slots) (sym stands.opened.places) ∙ whole.once.slots in
      let inside : p < length k.opened.readers = omega (arith, low, many) in
      let none : slice_index_or k.opened.readers p None ≡ None = none_at k.opened.readers p (ap (λ (slots : Slots). get_or slots p None) (sym stands.opened.places) ∙ empty) in
      let version : (s : ℕ) → contains (sectors_of runs) s ≡ true → in_version (volume_of k) s ≡ true =
      λ s here. occurs_contains s (flat_map sectors_of (plans_of (volume_of k).entries)) (in_plans (volume_of k).entries e has.0 s has.1 has.2 (ap (λ (rs : List Run). contains (sectors_of rs) s) is ∙ here)) in
      let once : (s : ℕ) → used s (plans_of (volume_of k).entries) ≤ 1 =
      λ s. (let all = used_apart (volume_of k).layout (plans_of (volume_of k).entries ++ (volume_of k).drafts) stands.disk.spaced.apart s in omega (arith, all.0, used-append s (plans_of (volume_of k).entries) (volume_of k).drafts)) in
      let same = same_or_apart (volume_of k).entries runs has.0 e has.1 (ap (λ (y : Entry). y.runs) has.2 ∙ is) once in
      let places = ap (λ (slots : Slots). set slots p (Some runs)) stands.opened.places ∙ map_set (λ (place : Option HeldVersion). option_map (λ x. x.runs) place) k.opened.readers p (Some x) in
      stands_opened v k now stands v.map (record v.shadow { held = set v.shadow.held p (Some runs) }) (read_at k.opened p (Some x)) whole_holding
      (mounted_held k.mounted k.opened p x k.windows k.changes (forced_of k) now.image disk inside none version same kept)
      (λ s. stands.holds.map s ∙ ap (λ (m : Mounted). is_free m.volume s) (as_opened v k now stands) ∙ sym (free_held k.mounted k.opened p x k.windows k.changes (forced_of k) now.image disk inside none version same kept s))
      stands.holds.removed
      (λ s. stands.holds.kept s ∙ ap (λ (m : Mounted). is_kept_alone m.volume s) (as_opened v k now stands) ∙ sym (alone_held k.mounted k.opened p x k.windows k.changes (forced_of k) now.image disk inside none version same kept s))
      (λ s. stands.holds.unfinished s ∙ ap (λ (m : Mounted). is_in m.volume.drafts s) (as_opened v k now stands))
      places (written_opened v k now stands)

-- ---- one is given up

abbrev pub map_with : Area → Option (List Run) → Area
map_with map None = map
map_with map (Some runs) = together map runs

abbrev pub released : VolumeValue → ℕ → Option (List Run) → VolumeValue
released v p given = record v { map = map_with v.map given; shadow = record v.shadow { kept = left_kept v.shadow.kept given; held = set v.shadow.held p None } }

module _ (v : VolumeValue) (whole : IsWholeVolume v) (p : ℕ) (runs : List Run) (there : get_or v.shadow.held p None ≡ Some runs) where
  abbrev others : Slots
  others = set v.shadow.held p None

  -- where nothing is given back, what is kept is held by another reader
  module _ (none : given_back v.shadow.kept (set v.shadow.held p None) (Some runs) ≡ None) where
    held_on : (s : ℕ) → contains (sectors_of runs) s ≡ true → contains v.shadow.kept.sectors s ≡ true → is_held others s ≡ true
    held_on s mine kept = by (meets v.shadow.kept.sectors runs) refl (list_any (has_same runs) others) refl none
      where
        by : (a : Bool) → meets v.shadow.kept.sectors runs ≡ a → (b : Bool) → list_any (has_same runs) others ≡ b → (if a && not b then Some runs else None) ≡ None → is_held others s ≡ true
        by a met true same is = same_held others runs s same mine
        by true met false alone is = absurd (cc is)
        by false met false alone is = absurd (both_ways (contains v.shadow.kept.sectors s) (none_any (contains v.shadow.kept.sectors) (sectors_of runs) met s mine) kept)

    pub whole_kept : IsWholeVolume (record v { shadow = record v.shadow { held = others } })
    whole_kept = record {
      planned = whole.planned;
      map = whole.map;
      removed = whole.removed;
      kept = whole.kept;
      unfinished = whole.unfinished;
      apart = whole.apart;
      once = record {
        removed = whole.once.removed;
        kept = whole.once.kept;
        readers = λ s kept. elim (held_split v.shadow.held p runs s there (whole.once.readers s kept)) [
          | inl still ↦ still
          | inr mine ↦ held_on s mine kept
        ];
        slots = length-set v.shadow.held p None ∙ whole.once.slots;
      };
      log = whole.log;
      epoch = whole.epoch;
      pages = whole.pages;
      room = whole.room;
      unpinned = whole.unpinned;
      waiting = whole.waiting;
      numbered = whole.numbered;
      still = whole.still;
    }

  -- where the runs are given back, they were kept for this reader alone
  module _ (are : AreIn v.shadow.kept runs) (unheld : AreUnheld (set v.shadow.held p None) runs) where
    pub kept_left : (s : ℕ) → contains (without_sectors v.shadow.kept runs).sectors s ≡ (contains v.shadow.kept.sectors s && not (contains (sectors_of runs) s))
    kept_left = without_runs v.layout whole.planned v.shadow.kept runs whole.kept

    pub map_given : (s : ℕ) → contains (together v.map runs).sectors s ≡ (contains v.map.sectors s || contains (sectors_of runs) s)
    map_given = with_runs v.layout whole.planned v.map runs whole.map (in_data v.layout v.shadow.kept runs whole.kept are)

    fewer_kept : (s : ℕ) → contains (without_sectors v.shadow.kept runs).sectors s ≡ true → (contains v.shadow.kept.sectors s ≡ true) × (contains (sectors_of runs) s ≡ false)
    fewer_kept s now =
        let parts = and_parts (contains v.shadow.kept.sectors s) (not (contains (sectors_of runs) s)) (sym (kept_left s) ∙ now) in
        (parts.0, not-true (contains (sectors_of runs) s) parts.1)

    none_left : (s : ℕ) → contains v.shadow.kept.sectors s ≡ false → contains (without_sectors v.shadow.kept runs).sectors s ≡ false
    none_left s none = kept_left s ∙ ap (λ (b : Bool). b && not (contains (sectors_of runs) s)) none

    pub whole_given : IsWholeVolume (record v { map = together v.map runs; shadow = record v.shadow { kept = without_sectors v.shadow.kept runs; held = others } })
    whole_given = record {
      planned = whole.planned;
      map = of_more v.layout v.map runs whole.map (λ s here. (in_data v.layout v.shadow.kept runs whole.kept are s here).1);
      removed = whole.removed;
      kept = of_fewer v.layout v.shadow.kept (λ s. not (contains (sectors_of runs) s)) whole.kept;
      unfinished = whole.unfinished;
      apart = λ s now. elim (or_cases (contains v.map.sectors s) (contains (sectors_of runs) s) (sym (map_given s) ∙ now)) [
        | inl was ↦
            let none = or_parts (contains v.shadow.removed.sectors s) (contains v.shadow.kept.sectors s || contains v.shadow.unfinished.sectors s) (whole.apart s was) in
            let rest = or_parts (contains v.shadow.kept.sectors s) (contains v.shadow.unfinished.sectors s) none.1 in
            or_from (contains v.shadow.removed.sectors s) (contains (without_sectors v.shadow.kept runs).sectors s || contains v.shadow.unfinished.sectors s) none.0
            (or_from (contains (without_sectors v.shadow.kept runs).sectors s) (contains v.shadow.unfinished.sectors s) (none_left s rest.0) rest.1)
        | inr mine ↦
            let kept = are.inside s mine in
            let not_removed : contains v.shadow.removed.sectors s ≡ false = false_from_ne_true (contains v.shadow.removed.sectors s)
            (λ went. both_ways (contains v.shadow.kept.sectors s) (or_parts (contains v.shadow.kept.sectors s) (contains v.shadow.unfinished.sectors s) (whole.once.removed s went)).0 kept) in
            or_from (contains v.shadow.removed.sectors s) (contains (without_sectors v.shadow.kept runs).sectors s || contains v.shadow.unfinished.sectors s) not_removed
            (or_from (contains (without_sectors v.shadow.kept runs).sectors s) (contains v.shadow.unfinished.sectors s)
            (false_from_ne_true (contains (without_sectors v.shadow.kept runs).sectors s) (λ still. both_ways (contains (sectors_of runs) s) (fewer_kept s still).1 mine)) (whole.once.kept s kept))
      ];
      once = record {
        removed = λ s went.
            let none = or_parts (contains v.shadow.kept.sectors s) (contains v.shadow.unfinished.sectors s) (whole.once.removed s went) in
            or_from (contains (without_sectors v.shadow.kept runs).sectors s) (contains v.shadow.unfinished.sectors s) (none_left s none.0) none.1;
        kept = λ s now. whole.once.kept s (fewer_kept s now).0;
        readers = λ s now. let was = fewer_kept s now in elim (held_split v.shadow.held p runs s there (whole.once.readers s was.0)) [
          | inl still ↦ still
          | inr mine ↦ absurd (both_ways (contains (sectors_of runs) s) was.1 mine)
        ];
        slots = length-set v.shadow.held p None ∙ whole.once.slots;
      };
      log = whole.log;
      epoch = whole.epoch;
      pages = whole.pages;
      room = whole.room;
      unpinned = whole.unpinned;
      waiting = whole.waiting;
      numbered = whole.numbered;
      still = whole.still;
    }

-- ---- what is free and kept without a reader

free_on : (a b r n d y : Bool) → (y ≡ true → n ≡ false → ((n || y) && not b && not r) ≡ false) → (a && not b && not (not b && (r || (n || y) || d))) ≡ (a && not b && not (not b && (r || n || d)))
free_on false b r n d y none = refl
free_on true true r n d y none = refl
free_on true false true n d y none = refl
free_on true false false true d y none = refl
free_on true false false false d false none = refl
free_on true false false false d true none = absurd (cc (none refl refl))

alone_on : (b r n y : Bool) → (y ≡ true → n ≡ false → ((n || y) && not b && not r) ≡ false) → ((n || y) && not b && not r) ≡ (n && not b && not r)
alone_on b r true y none = refl
alone_on b r false false none = refl
alone_on b r false true none = none refl refl

free_back : (a b r n d y : Bool) → (y ≡ true → (a ≡ true) × (b ≡ false) × (r ≡ false) × (n ≡ false) × (d ≡ false)) → ((a && not b && not (not b && (r || (n || y) || d))) || y) ≡ (a && not b && not (not b && (r || n || d)))
free_back a b r n d true so =
    let p = so refl in or-true (a && not b && not (not b && (r || (n || true) || d))) ∙ sym (λ i. p.0 i && not (p.1 i) && not (not (p.1 i) && (p.2 i || p.3 i || p.4 i)))
free_back false b r n d false so = refl
free_back true true r n d false so = refl
free_back true false true n d false so = refl
free_back true false false true d false so = refl
free_back true false false false true false so = refl
free_back true false false false false false so = refl

alone_back : (b r n y : Bool) → (y ≡ true → n ≡ false) → (((n || y) && not b && not r) && not y) ≡ (n && not b && not r)
alone_back b r n true out = and-false ((n || true) && not b && not r) ∙ sym (ap (λ (x : Bool). x && not b && not r) (out refl))
alone_back b r true false out = and-true (not b && not r)
alone_back b r false false out = refl

module _ (v : VolumeValue) (whole : IsWholeVolume v) (p : ℕ) (runs : List Run) (there : get_or v.shadow.held p None ≡ Some runs) (k : Known) (now : Moment) (stands : Stands state IsMemoryOf v k now) where
  at : (x : HeldVersion) × (slice_index_or k.opened.readers p None ≡ Some x) × (x.runs ≡ runs)
  at = some_at k.opened.readers p runs (ap (λ (slots : Slots). get_or slots p None) (sym stands.opened.places) ∙ there)

  disk : IsMounted (reopen k.mounted k.opened) k.windows k.changes (forced_of k) now.image
  disk = mounted_opened v k now stands

  places : set v.shadow.held p None ≡ map (λ place. option_map (λ x. x.runs) place) (set k.opened.readers p None)
  places = ap (λ (slots : Slots). set slots p None) stands.opened.places ∙ map_set (λ (place : Option HeldVersion). option_map (λ x. x.runs) place) k.opened.readers p None

  abbrev still : Volume
  still = (reopen k.mounted (read_at k.opened p None)).volume

  mounted : IsMounted (reopen k.mounted (read_at k.opened p None)) k.windows k.changes (forced_of k) now.image
  mounted = mounted_given k.mounted k.opened p at.0 k.windows k.changes (forced_of k) now.image disk at.1

  -- what is held is held still, or is this version's
  held_was : (s : ℕ) → is_in (reopen k.mounted k.opened).volume.held s ≡ (is_in still.held s || contains (sectors_of runs) s)
  held_was s = held_by k.mounted k.opened p at.0 k.windows k.changes (forced_of k) now.image disk at.1 s ∙ ap (λ (rs : List Run). is_in still.held s || contains (sectors_of rs) s) at.2

  held_is_still : (s : ℕ) → is_in still.held s ≡ is_held (set v.shadow.held p None) s
  held_is_still s = ap (λ (plans : List (List Run)). is_in plans s) (sym (ap held_runs places ∙ places_held (set k.opened.readers p None))) ∙ held_is (set v.shadow.held p None) s

  kept_was : (s : ℕ) → contains v.shadow.kept.sectors s ≡ ((is_in still.held s || contains (sectors_of runs) s) && not (in_version (volume_of k) s) && not (contains (volume_of k).removed s))
  kept_was s =
      stands.holds.kept s ∙ ap (λ (m : Mounted). is_kept_alone m.volume s) (as_opened v k now stands)
      ∙ ap (λ (b : Bool). b && not (in_version (volume_of k) s) && not (contains (volume_of k).removed s)) (held_was s)

  free_was : (s : ℕ) → contains v.map.sectors s
      ≡ (is_data (volume_of k).layout s && not (in_version (volume_of k) s) && not (not (in_version (volume_of k) s) && (contains (volume_of k).removed s || (is_in still.held s || contains (sectors_of runs) s) || is_in still.drafts s)))
  free_was s =
      stands.holds.map s ∙ ap (λ (m : Mounted). is_free m.volume s) (as_opened v k now stands)
      ∙ ap (λ (b : Bool). is_data (volume_of k).layout s && not (in_version (volume_of k) s) && not (not (in_version (volume_of k) s) && (contains (volume_of k).removed s || b || is_in still.drafts s))) (held_was s)

  unfinished_still : (s : ℕ) → contains v.shadow.unfinished.sectors s ≡ is_in still.drafts s
  unfinished_still s = stands.holds.unfinished s ∙ ap (λ (m : Mounted). is_in m.volume.drafts s) (as_opened v k now stands)

  pub stands_kept : given_back v.shadow.kept (set v.shadow.held p None) (Some runs) ≡ None → Stands state IsMemoryOf (released v p None) (with_opened k (read_at k.opened p None)) now
  stands_kept none =
      let alone : (s : ℕ) → contains (sectors_of runs) s ≡ true → is_in still.held s ≡ false
      → ((is_in still.held s || contains (sectors_of runs) s) && not (in_version (volume_of k) s) && not (contains (volume_of k).removed s)) ≡ false =
      λ s mine out. sym (kept_was s) ∙ false_from_ne_true (contains v.shadow.kept.sectors s) (λ kept. both_ways (is_in still.held s) out (held_is_still s ∙ held_on v whole p runs there none s mine kept)) in
      stands_opened v k now stands v.map (record v.shadow { held = set v.shadow.held p None }) (read_at k.opened p None) (whole_kept v whole p runs there none) mounted
      (λ s. free_was s ∙ free_on (is_data (volume_of k).layout s) (in_version (volume_of k) s) (contains (volume_of k).removed s) (is_in still.held s) (is_in still.drafts s) (contains (sectors_of runs) s) (alone s))
      stands.holds.removed
      (λ s. kept_was s ∙ alone_on (in_version (volume_of k) s) (contains (volume_of k).removed s) (is_in still.held s) (contains (sectors_of runs) s) (alone s))
      unfinished_still places (written_opened v k now stands)

  pub stands_given : (are : AreIn v.shadow.kept runs) → AreUnheld (set v.shadow.held p None) runs → Stands state IsMemoryOf (released v p (Some runs)) (with_opened k (read_at k.opened p None)) now
  stands_given are unheld =
      let out : (s : ℕ) → contains (sectors_of runs) s ≡ true → is_in still.held s ≡ false = λ s mine. held_is_still s ∙ unheld s mine in
      let parts : (s : ℕ) → contains (sectors_of runs) s ≡ true → (in_version (volume_of k) s ≡ false) × (contains (volume_of k).removed s ≡ false) =
      λ s mine. (let all = and_parts ((is_in still.held s || contains (sectors_of runs) s) && not (in_version (volume_of k) s)) (not (contains (volume_of k).removed s)) (sym (kept_was s) ∙ are.inside s mine) in
      let first = and_parts (is_in still.held s || contains (sectors_of runs) s) (not (in_version (volume_of k) s)) all.0 in
      (not-true (in_version (volume_of k) s) first.1, not-true (contains (volume_of k).removed s) all.1)) in
      let held : (s : ℕ) → contains (sectors_of runs) s ≡ true → is_in (reopen k.mounted k.opened).volume.held s ≡ true = λ s mine. held_was s ∙ or_right (is_in still.held s) (contains (sectors_of runs) s) mine in
      stands_opened v k now stands (together v.map runs) (record v.shadow { kept = without_sectors v.shadow.kept runs; held = set v.shadow.held p None }) (read_at k.opened p None) (whole_given v whole p runs there are unheld) mounted
      (λ s. map_given v whole p runs there are unheld s ∙ ap (λ (b : Bool). b || contains (sectors_of runs) s) (free_was s)
      ∙ free_back (is_data (volume_of k).layout s) (in_version (volume_of k) s) (contains (volume_of k).removed s) (is_in still.held s) (is_in still.drafts s) (contains (sectors_of runs) s)
      (λ mine. (
        disk.spaced.area s (or_right (contains (volume_of k).removed s) (is_in (reopen k.mounted k.opened).volume.held s) (held s mine)),
        (parts s mine).0,
        (parts s mine).1,
        out s mine,
        false_from_ne_true (is_in still.drafts s) (λ draft. both_ways (is_in (reopen k.mounted k.opened).volume.held s) (or_parts (contains (volume_of k).removed s) (is_in (reopen k.mounted k.opened).volume.held s) (disk.spaced.drafts s draft)).1 (held s mine)),
      )))
      stands.holds.removed
      (λ s. kept_left v whole p runs there are unheld s ∙ ap (λ (b : Bool). b && not (contains (sectors_of runs) s)) (kept_was s)
      ∙ alone_back (in_version (volume_of k) s) (contains (volume_of k).removed s) (is_in still.held s) (contains (sectors_of runs) s) (out s))
      unfinished_still places (written_opened v k now stands)

  -- so it does, whatever is given back
  pub stands_released : (given : Option (List Run)) → given ≡ given_back v.shadow.kept (set v.shadow.held p None) (Some runs) → IfSome given (λ rs. AreIn v.shadow.kept rs) → IfSome given (λ rs. AreUnheld (set v.shadow.held p None) rs)
      → Stands state IsMemoryOf (released v p given) (with_opened k (read_at k.opened p None)) now
  stands_released None is are unheld = stands_kept (sym is)
  stands_released (Some rs) is are unheld =
      let same : rs ≡ runs = by (meets v.shadow.kept.sectors runs && not (list_any (has_same runs) (set v.shadow.held p None))) is in
      subst (λ (x : List Run). Stands state IsMemoryOf (released v p (Some x)) (with_opened k (read_at k.opened p None)) now) (sym same)
      (stands_given (subst (λ (x : List Run). AreIn v.shadow.kept x) same are) (subst (λ (x : List Run). AreUnheld (set v.shadow.held p None) x) same unheld))
    where
      by : (b : Bool) → Some rs ≡ (if b then Some runs else None) → rs ≡ runs
      by true e = cc e
      by false e = absurd (cc e)

-- it is whole then
pub whole_released : (v : VolumeValue) (whole : IsWholeVolume v) (p : ℕ) (runs : List Run) (there : get_or v.shadow.held p None ≡ Some runs) (given : Option (List Run)) → given ≡ given_back v.shadow.kept (set v.shadow.held p None) (Some runs)
    → IfSome given (λ rs. AreIn v.shadow.kept rs) → IfSome given (λ rs. AreUnheld (set v.shadow.held p None) rs) → IsWholeVolume (released v p given)
whole_released v whole p runs there None is are unheld = whole_kept v whole p runs there (sym is)
whole_released v whole p runs there (Some rs) is are unheld =
    let same : rs ≡ runs = by (meets v.shadow.kept.sectors runs && not (list_any (has_same runs) (set v.shadow.held p None))) is in
    subst (λ (x : List Run). IsWholeVolume (released v p (Some x))) (sym same)
    (whole_given v whole p runs there (subst (λ (x : List Run). AreIn v.shadow.kept x) same are) (subst (λ (x : List Run). AreUnheld (set v.shadow.held p None) x) same unheld))
  where
    by : (b : Bool) → Some rs ≡ (if b then Some runs else None) → rs ≡ runs
    by true e = cc e
    by false e = absurd (cc e)

-- ---- as a call knows it

module _ (v w : VolumeValue) (is : v ≡ w) (whole : IsWholeVolume v) (h : Held) (held : IsHeldVersion (state w) h) where
  pub held_there : get_or v.shadow.held h.place None ≡ Some h.entry.runs
  held_there = ap (λ (x : VolumeValue). get_or (state x).readers h.place None) is ∙ held.runs

  module _ (given : Option (List Run)) (given_is : given ≡ given_back v.shadow.kept (set v.shadow.held h.place None) (get_or v.shadow.held h.place None)) (are : IfSome given (λ rs. AreIn v.shadow.kept rs))
      (unheld : IfSome given (λ rs. AreUnheld (set v.shadow.held h.place None) rs)) where
    given_of : given ≡ given_back v.shadow.kept (set v.shadow.held h.place None) (Some h.entry.runs)
    given_of = given_is ∙ ap (given_back v.shadow.kept (set v.shadow.held h.place None)) held_there

    module _ (map : Area) (shadow : Waits) (map_is : map ≡ map_with v.map given) (removed : shadow.removed ≡ v.shadow.removed) (kept : shadow.kept ≡ left_kept v.shadow.kept given) (unfinished : shadow.unfinished ≡ v.shadow.unfinished) (slots : shadow.held ≡ set v.shadow.held h.place None) where
      then_is : released v h.place given ≡ record v { map = map; shadow = shadow }
      then_is = λ i. record v { map = sym map_is i; shadow = record { removed = sym removed i; kept = sym kept i; unfinished = sym unfinished i; held = sym slots i } }

      pub whole_up : IsWholeVolume (record v { map = map; shadow = shadow })
      whole_up = subst IsWholeVolume then_is (whole_released v whole h.place h.entry.runs held_there given given_of are unheld)

      pub unholds_up : Unholds h.place (state w) (state (record v { map = map; shadow = shadow }))
      unholds_up =
          subst (λ (x : VolumeValue). Unholds h.place (state w) (state x)) then_is
          (subst (λ (x : VolumeValue). Unholds h.place (state x) (state (released v h.place given))) is (record { is = refl }))

      pub stands_up : (k : Known) (now : Moment) → Stands state IsMemoryOf w k now → Stands state IsMemoryOf (record v { map = map; shadow = shadow }) (with_opened k (read_at k.opened h.place None)) now
      stands_up k now stands =
          subst (λ (x : VolumeValue). Stands state IsMemoryOf x (with_opened k (read_at k.opened h.place None)) now) then_is
          (stands_released v whole h.place h.entry.runs held_there k now (subst (λ (x : VolumeValue). Stands state IsMemoryOf x k now) (sym is) stands) given given_of are unheld)

-- what is given back waited for a reader alone
pub given_out : (v : VolumeValue) → IsWholeVolume v → (runs : List Run) → AreIn v.shadow.kept runs → AreOut v.map runs
given_out v whole runs are = waiting_out v whole v.shadow.kept runs whole.kept are
    (λ s there. or_right (contains v.shadow.removed.sectors s) (contains v.shadow.kept.sectors s || contains v.shadow.unfinished.sectors s) (or_left (contains v.shadow.kept.sectors s) (contains v.shadow.unfinished.sectors s) there))

module _ (v w : VolumeValue) (is : v ≡ w) (whole : IsWholeVolume v) (runs : List Run) (taken : are_taken w runs ≡ true) (room : list_any is_none (state w).readers ≡ true) where
  taken_here : are_taken v runs ≡ true
  taken_here = ap (λ (x : VolumeValue). are_taken x runs) is ∙ taken

  pub hold_idle : AreIdle v.shadow runs
  hold_idle = (taken_is_out v whole runs taken_here).1

  pub hold_agree : All (IsSameOrApart runs) v.shadow.held
  hold_agree = (taken_is_out v whole runs taken_here).2

  pub hold_room : list_any is_empty v.shadow.held ≡ true
  hold_room = same_room v.shadow.held ∙ ap (λ (x : VolumeValue). list_any is_none (state x).readers) is ∙ room
    where
      same_room : (slots : Slots) → list_any is_empty slots ≡ list_any is_none slots
      same_room [] = refl
      same_room (None ∷ slots) = refl
      same_room (Some x ∷ slots) = same_room slots

  module _ (p : ℕ) (shadow : Waits) (low : p < 8) (empty : get_or v.shadow.held p None ≡ None) (slots : shadow.held ≡ set v.shadow.held p (Some runs)) (removed : shadow.removed ≡ v.shadow.removed) (kept : shadow.kept ≡ v.shadow.kept) (unfinished : shadow.unfinished ≡ v.shadow.unfinished) where
    holding_is : holding v p runs ≡ record v { shadow = shadow }
    holding_is = λ i. record v { shadow = record { removed = sym removed i; kept = sym kept i; unfinished = sym unfinished i; held = sym slots i } }

    pub whole_hold : IsWholeVolume (record v { shadow = shadow })
    whole_hold = subst IsWholeVolume holding_is (whole_holding v whole p runs empty)

    -- what waits for a force has none of its sectors, so as much is free behind one
    unheld_hold : (unheld (set v.shadow.held p (Some runs)) v.shadow.removed).sectors ≡ (unheld v.shadow.held v.shadow.removed).sectors
    unheld_hold =
        where_same (λ s. contains v.shadow.removed.sectors s && not (is_held (set v.shadow.held p (Some runs)) s)) (λ s. contains v.shadow.removed.sectors s && not (is_held v.shadow.held s)) v.shadow.removed.from v.shadow.removed.to
        (λ s from to. by s (contains v.shadow.removed.sectors s) refl)
      where
        by : (s : ℕ) (b : Bool) → contains v.shadow.removed.sectors s ≡ b → (b && not (is_held (set v.shadow.held p (Some runs)) s)) ≡ (b && not (is_held v.shadow.held s))
        by s false is_out = refl
        by s true went = ap not (held_other v.shadow.held p runs s empty (false_from_ne_true (contains (sectors_of runs) s) (λ mine. both_ways (contains v.shadow.removed.sectors s) (hold_idle.0.outside s mine) went)))

    freed_hold : freed_sectors (holding v p runs) ≡ freed_sectors v
    freed_hold = ap (λ (xs : List ℕ). where_free (λ s. contains v.map.sectors s || contains xs s) v.map.from v.map.to) unheld_hold

    pub state_hold : state (record v { shadow = shadow }) ≡ record (state w) { readers = set (state w).readers p (Some runs) }
    state_hold = ap state (sym holding_is) ∙ (λ i. record (state v) { freed = runs_of (freed_hold i); readers = set v.shadow.held p (Some runs) }) ∙ ap (λ (x : VolumeValue). record (state x) { readers = set (state x).readers p (Some runs) }) is

    pub empty_hold : slice_index_or (state w).readers p None ≡ None
    empty_hold = ap (λ (x : VolumeValue). slice_index_or (state x).readers p None) (sym is) ∙ empty

    pub inside_hold : p < length shadow.held
    inside_hold = omega (arith, low, ap (λ (xs : Slots). length xs) slots, length-set v.shadow.held p (Some runs), whole.once.slots)

    pub there_hold : slice_index_or shadow.held p None ≡ Some runs
    there_hold = ap (λ (xs : Slots). get_or xs p None) slots ∙ set_there v.shadow.held p (omega (arith, low, whole.once.slots))
      where
        set_there : (xs : Slots) (n : ℕ) → n < length xs → get_or (set xs n (Some runs)) n None ≡ Some runs
        set_there [] n lt = absurd (omega (arith, lt))
        set_there (x ∷ xs) zero lt = refl
        set_there (x ∷ xs) (suc n) lt = set_there xs n (omega (arith, lt))

    pub stands_hold : (k : Known) (now : Moment) (bytes : List ℕ) (e : Entry) → Contains (volume_of k).entries e → e.runs ≡ runs → KeptIn now.image (in_runs k.windows) bytes runs → Stands state IsMemoryOf w k now
        → Stands state IsMemoryOf (record v { shadow = shadow }) (with_opened k (read_at k.opened p (Some (record { runs = runs; bytes = bytes })))) now
    stands_hold k now bytes e has same kept stands =
        subst (λ (x : VolumeValue). Stands state IsMemoryOf x (with_opened k (read_at k.opened p (Some (record { runs = runs; bytes = bytes })))) now) holding_is
        (stands_holding v whole p runs empty k now bytes e low has same kept (subst (λ (x : VolumeValue). Stands state IsMemoryOf x k now) (sym is) stands))
