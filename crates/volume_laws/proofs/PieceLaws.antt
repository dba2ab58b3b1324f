-- A volume that stands still stands once a creation is begun or over, and once a reader holds a version or gives it up.
use Rattle.std.proofs.Common.{◌≡◌, inl, inr, ℕ, zero, suc, ◌-◌, ◌<◌, ◌≤◌, Bool, true, false, cond, not, ◌&&◌, ◌||◌, List, [], ◌∷◌, length, map, Option, None, Some, refl, sym, ap, subst, ◌∙◌, arith}
use Rattle.std.specs.Prelude.{drop, option_map, replicate}
use Rattle.std.specs.List.{AllZip, list_any}
use Rattle.std.proofs.lemmas.Bool.{and_parts, both_ways, false_from_ne_true, not-true, or_cases, or_from, or_parts, or_right}
use Rattle.volume_layout.specs.declared.layout.Layout.{Layout}
use Rattle.volume_layout.specs.Layout.{data_start, IsPlanned}
use Rattle.volume_layout.proofs.GrownLaws.{most_least}
use Rattle.run_table.specs.declared.run.Run.{Run}
use Rattle.run_table.specs.RunTable.{same_runs, sectors_of, total}
use Rattle.run_table.specs.Space.{contains}
use Rattle.run_table.proofs.SectorLaws.{length_of_sectors}
use Rattle.sector_set.specs.Area.{Area, AreIn, AreOut, together, without_sectors}
use Rattle.shadow_frees.specs.Waits.{AreIdle, Waits, waits_in}
use Rattle.sector_disk.specs.Image.{open_damage}
use Rattle.sector_disk.specs.Machine.{Moment}
use Rattle.fsd_formats.specs.NamePage.{sectors_for}
use Rattle.fsd_files.specs.Disk.{Image, Sectors, in_runs}
use Rattle.fsd_files.specs.Kept.{data_sectors}
use Rattle.fsd_files.specs.Volume.{is_free, is_in}
use Rattle.fsd_files.specs.Waiting.{is_kept_alone}
use Rattle.fsd_files.proofs.ChangeLaws.{AreFree}
use Rattle.fsd_files.proofs.CountLaws.{differ_occurs, occurs_contains}
use Rattle.fsd_files.proofs.EachLaws.{each_kept}
use Rattle.fsd_sound.specs.Mounted.{IsMounted, Mounted, Wrote}
use Rattle.volume_contract.specs.declared.token.Draft.{Draft}
use Rattle.volume_contract.specs.Pieces.{GivesBack, IsDraft, TakesPlace, draft_begun, drafts_without, ended, slice_count, slices_in, with_opened}
use Rattle.volume_contract.specs.State.{Known, OpenParts, HeldVersion, StandWritten, Stands, WrittenDraft, forced_of, held_runs, readings, volume_of}
use Rattle.volume_contract.specs.Order.{with_drawn}
use Rattle.volume_laws.specs.Placing.{IsPlace, drawn_known, drawn_volume}
use Rattle.volume_laws.specs.State.{IsMemoryOf, state}
use Rattle.volume_laws.specs.Volume.{IsWholeVolume, VolumeValue}
use Rattle.table_survey.specs.Claims.{IsOfData}
use Rattle.table_survey.proofs.DataLaws.{of_data_within}
use Rattle.volume_laws.proofs.OpenedLaws.{each_zip, zip_each, free_again, free_more, in_fewer, mounted_fewer, mounted_more, reopen, drafts_more}
use Rattle.volume_laws.proofs.WrittenLaws.{stands_drawn}
use Rattle.volume_laws.proofs.SpaceLaws.{none_outside, of_fewer, of_more, same_free, same_freed, same_unfinished, same_waiting, same_waits, test_there}

-- ---- sets

pub with_runs : (l : Layout) → IsPlanned l → (m : Area) (runs : List Run) → IsOfData l m → ((s : ℕ) → contains (sectors_of runs) s ≡ true → (data_start l ≤ s) × (s < l.sectors)) → (s : ℕ) → contains (together m runs).sectors s ≡ (contains m.sectors s || contains (sectors_of runs) s)
with_runs l planned m runs of_data within s =
    test_there l planned m.from m.to (λ t. contains m.sectors t || contains (sectors_of runs) t) s (ap (λ (a : Area). a.from) of_data) (ap (λ (a : Area). a.to) of_data)
    (λ out. λ i. none_outside l m s of_data out i || false_from_ne_true (contains (sectors_of runs) s) (λ here. let w = within s here in out w.0 w.1) i)

pub without_runs : (l : Layout) → IsPlanned l → (m : Area) (runs : List Run) → IsOfData l m → (s : ℕ) → contains (without_sectors m runs).sectors s ≡ (contains m.sectors s && not (contains (sectors_of runs) s))
without_runs l planned m runs of_data s =
    test_there l planned m.from m.to (λ t. contains m.sectors t && not (contains (sectors_of runs) t)) s (ap (λ (a : Area). a.from) of_data) (ap (λ (a : Area). a.to) of_data)
    (λ out. ap (λ (b : Bool). b && not (contains (sectors_of runs) s)) (none_outside l m s of_data out))

-- sectors of a set of the data area lie in it
pub in_data : (l : Layout) (m : Area) (runs : List Run) → IsOfData l m → AreIn m runs → (s : ℕ) → contains (sectors_of runs) s ≡ true → (data_start l ≤ s) × (s < l.sectors)
in_data l m runs of_data are s here = of_data_within l m of_data s (are.inside s here)

-- ---- what is open, and what it tells

pub places_held : (places : List (Option HeldVersion)) → held_runs (map (λ place. option_map (λ x. x.runs) place) places) ≡ map (λ x. x.runs) (readings places)
places_held [] = refl
places_held (None ∷ places) = places_held places
places_held (Some x ∷ places) = ap (λ (plans : List (List Run)). x.runs ∷ plans) (places_held places)

module _ (v : VolumeValue) (k : Known) (now : Moment) (stands : Stands state IsMemoryOf v k now) where
  held_there : (volume_of k).held ≡ map (λ x. x.runs) (readings k.opened.readers)
  held_there = stands.fits.held ∙ ap held_runs stands.opened.places ∙ places_held k.opened.readers

  -- what is mounted is that with what is open
  pub as_opened : k.mounted ≡ reopen k.mounted k.opened
  as_opened = λ i. record k.mounted {
    volume = record k.mounted.volume { drafts = stands.opened.drafts i; held = held_there i };
    slices = stands.opened.slices i;
    bytes = stands.opened.bytes i;
  }

  pub mounted_opened : IsMounted (reopen k.mounted k.opened) k.windows k.changes (forced_of k) now.image
  mounted_opened = subst (λ (m : Mounted). IsMounted m k.windows k.changes (forced_of k) now.image) as_opened stands.disk

  pub written_opened : StandWritten (open_damage now.windows) now.image (map (λ x. x.slices) k.opened.drafts) (map (λ x. x.runs) k.opened.drafts)
  written_opened = subst (λ (m : Mounted). StandWritten (open_damage now.windows) now.image m.slices m.volume.drafts) as_opened stands.written

  -- with other things open it stands, where its free and waiting sectors are those of the volume then
  module _ (free : Area) (w : Waits) (o : OpenParts) (whole : IsWholeVolume (record v { map = free; shadow = w })) (disk : IsMounted (reopen k.mounted o) k.windows k.changes (forced_of k) now.image)
      (map_is : (s : ℕ) → contains free.sectors s ≡ is_free (reopen k.mounted o).volume s) (removed : (s : ℕ) → contains w.removed.sectors s ≡ contains (volume_of k).removed s)
      (kept : (s : ℕ) → contains w.kept.sectors s ≡ is_kept_alone (reopen k.mounted o).volume s) (unfinished : (s : ℕ) → contains w.unfinished.sectors s ≡ is_in (reopen k.mounted o).volume.drafts s)
      (places : w.held ≡ map (λ place. option_map (λ x. x.runs) place) o.readers) (written : StandWritten (open_damage now.windows) now.image (map (λ x. x.slices) o.drafts) (map (λ x. x.runs) o.drafts)) where
    abbrev next : VolumeValue
    next = record v { map = free; shadow = w }

    held : (reopen k.mounted o).volume.held ≡ held_runs w.held
    held = sym (ap held_runs places ∙ places_held o.readers)

    pub stands_opened : Stands state IsMemoryOf next (with_opened k o) now
    stands_opened = record {
      fits = record {
        layout = stands.fits.layout;
        serial = stands.fits.serial;
        anchor = stands.fits.anchor;
        head = stands.fits.head;
        dirty = stands.fits.dirty;
        free = same_free next (reopen k.mounted o).volume whole stands.fits.layout map_is removed kept unfinished held disk.spaced;
        freed = same_freed next (reopen k.mounted o).volume whole stands.fits.layout map_is removed kept unfinished held disk.spaced;
        waiting = same_waiting next (reopen k.mounted o).volume whole stands.fits.layout map_is removed kept unfinished held disk.spaced;
        waits = same_waits next (reopen k.mounted o).volume whole stands.fits.layout map_is removed kept unfinished held disk.spaced;
        unfinished = same_unfinished next (reopen k.mounted o).volume whole stands.fits.layout map_is removed kept unfinished held disk.spaced;
        held = held;
        pages_free = stands.fits.pages_free;
        versions = stands.fits.versions;
        up = stands.fits.up;
      };
      opened = record { drafts = refl; slices = refl; places = places; bytes = refl };
      holds = record {
        planned = stands.holds.planned;
        pages = stands.holds.pages;
        inside = stands.holds.inside;
        map = map_is;
        removed = removed;
        kept = kept;
        unfinished = unfinished;
        free_pages = stands.holds.free_pages;
        log = stands.holds.log;
        fits = stands.holds.fits;
        indexed = stands.holds.indexed;
      };
      lists = record { table = stands.lists.table; slots = stands.lists.slots; free_pages = stands.lists.free_pages };
      ends = stands.ends;
      disk = disk;
      written = written;
    }

-- ---- a creation is over: its sectors are free

abbrev pub abandoned : VolumeValue → List Run → VolumeValue
abandoned v runs = record v { map = together v.map runs; shadow = record v.shadow { unfinished = without_sectors v.shadow.unfinished runs } }

module _ (v : VolumeValue) (whole : IsWholeVolume v) (runs : List Run) (are : AreIn v.shadow.unfinished runs) where
  -- they wait for it alone
  alone : (s : ℕ) → contains v.shadow.unfinished.sectors s ≡ true → (contains v.shadow.removed.sectors s ≡ false) × (contains v.shadow.kept.sectors s ≡ false)
  alone s there = (
    false_from_ne_true (contains v.shadow.removed.sectors s) (λ went. both_ways (contains v.shadow.unfinished.sectors s) (or_parts (contains v.shadow.kept.sectors s) (contains v.shadow.unfinished.sectors s) (whole.once.removed s went)).1 there),
    false_from_ne_true (contains v.shadow.kept.sectors s) (λ kept. both_ways (contains v.shadow.unfinished.sectors s) (whole.once.kept s kept) there),
  )

  pub unfinished_left : (s : ℕ) → contains (without_sectors v.shadow.unfinished runs).sectors s ≡ (contains v.shadow.unfinished.sectors s && not (contains (sectors_of runs) s))
  unfinished_left = without_runs v.layout whole.planned v.shadow.unfinished runs whole.unfinished

  pub map_more : (s : ℕ) → contains (together v.map runs).sectors s ≡ (contains v.map.sectors s || contains (sectors_of runs) s)
  map_more = with_runs v.layout whole.planned v.map runs whole.map (in_data v.layout v.shadow.unfinished runs whole.unfinished are)

  less : (s : ℕ) → contains v.shadow.unfinished.sectors s ≡ false → contains (without_sectors v.shadow.unfinished runs).sectors s ≡ false
  less s none = unfinished_left s ∙ ap (λ (b : Bool). b && not (contains (sectors_of runs) s)) none

  apart_over : (s : ℕ) → contains (together v.map runs).sectors s ≡ true → waits_in (abandoned v runs).shadow s ≡ false
  apart_over s there = elim (or_cases (contains v.map.sectors s) (contains (sectors_of runs) s) (sym (map_more s) ∙ there)) [
    | inl was ↦
        let none = or_parts (contains v.shadow.removed.sectors s) (contains v.shadow.kept.sectors s || contains v.shadow.unfinished.sectors s) (whole.apart s was) in
        let rest = or_parts (contains v.shadow.kept.sectors s) (contains v.shadow.unfinished.sectors s) none.1 in
        or_from (contains v.shadow.removed.sectors s) (contains v.shadow.kept.sectors s || contains (without_sectors v.shadow.unfinished runs).sectors s) none.0
        (or_from (contains v.shadow.kept.sectors s) (contains (without_sectors v.shadow.unfinished runs).sectors s) rest.0 (less s rest.1))
    | inr mine ↦
        let out = alone s (are.inside s mine) in
        or_from (contains v.shadow.removed.sectors s) (contains v.shadow.kept.sectors s || contains (without_sectors v.shadow.unfinished runs).sectors s) out.0
        (or_from (contains v.shadow.kept.sectors s) (contains (without_sectors v.shadow.unfinished runs).sectors s) out.1
        (unfinished_left s ∙ taken (contains v.shadow.unfinished.sectors s) mine))
  ]
    where
      taken : (a : Bool) {b : Bool} → b ≡ true → (a && not b) ≡ false
      taken true is = ap not is
      taken false is = refl

  pub whole_abandoned : IsWholeVolume (abandoned v runs)
  whole_abandoned = record {
    planned = whole.planned;
    map = of_more v.layout v.map runs whole.map (λ s here. (in_data v.layout v.shadow.unfinished runs whole.unfinished are s here).1);
    removed = whole.removed;
    kept = whole.kept;
    unfinished = of_fewer v.layout v.shadow.unfinished (λ s. not (contains (sectors_of runs) s)) whole.unfinished;
    apart = apart_over;
    once = record {
      removed = λ s there.
          let none = or_parts (contains v.shadow.kept.sectors s) (contains v.shadow.unfinished.sectors s) (whole.once.removed s there) in
          or_from (contains v.shadow.kept.sectors s) (contains (without_sectors v.shadow.unfinished runs).sectors s) none.0 (less s none.1);
      kept = λ s there. less s (whole.once.kept s there);
      readers = whole.once.readers;
      slots = whole.once.slots;
    };
    log = whole.log;
    epoch = whole.epoch;
    pages = whole.pages;
    room = whole.room;
    unpinned = whole.unpinned;
    waiting = whole.waiting;
    numbered = whole.numbered;
    still = whole.still;
  }

  -- a volume that stands stands without the creation
  pub stands_abandoned : (k : Known) (now : Moment) (before : List (Option (List ℕ))) → slices_in k.opened.drafts runs ≡ Some before → Stands state IsMemoryOf v k now → Stands state IsMemoryOf (abandoned v runs) (with_opened k (ended k.opened runs)) now
  stands_abandoned k now before is stands =
      let there = has_draft k.opened.drafts is in
      let disk = mounted_opened v k now stands in
      stands_opened v k now stands (together v.map runs) (record v.shadow { unfinished = without_sectors v.shadow.unfinished runs }) (ended k.opened runs) whole_abandoned
      (mounted_fewer k.mounted k.opened runs k.windows k.changes (forced_of k) now.image disk there)
      (λ s. map_more s ∙ ap (λ (b : Bool). b || contains (sectors_of runs) s) (stands.holds.map s ∙ ap (λ (m : Mounted). is_free m.volume s) (as_opened v k now stands))
      ∙ sym (free_again k.mounted k.opened runs k.windows k.changes (forced_of k) now.image disk there s))
      stands.holds.removed
      (λ s. stands.holds.kept s ∙ ap (λ (m : Mounted). is_kept_alone m.volume s) (as_opened v k now stands))
      (λ s. unfinished_left s ∙ ap (λ (b : Bool). b && not (contains (sectors_of runs) s)) (stands.holds.unfinished s ∙ ap (λ (m : Mounted). is_in m.volume.drafts s) (as_opened v k now stands))
      ∙ sym (in_fewer k.mounted k.opened runs k.windows k.changes (forced_of k) now.image disk there s))
      stands.opened.places
      (each_zip (λ slices rs. AllZip (Wrote (open_damage now.windows) now.image) slices (data_sectors rs)) (λ x. x.slices) (λ x. x.runs) (drafts_without k.opened.drafts runs)
      (each_kept (λ (x : WrittenDraft). AllZip (Wrote (open_damage now.windows) now.image) x.slices (data_sectors x.runs)) (λ x. not (same_runs x.runs runs)) k.opened.drafts
      (zip_each (λ slices rs. AllZip (Wrote (open_damage now.windows) now.image) slices (data_sectors rs)) (λ x. x.slices) (λ x. x.runs) k.opened.drafts (written_opened v k now stands))))
    where
      has_draft : (drafts : List WrittenDraft) → slices_in drafts runs ≡ Some before → list_any (λ x. same_runs x.runs runs) drafts ≡ true
      has_draft [] none = absurd (cc none)
      has_draft (x ∷ drafts) some = by (same_runs x.runs runs) (has_draft drafts) some
        where
          by : (b : Bool) → (slices_in drafts runs ≡ Some before → list_any (λ x. same_runs x.runs runs) drafts ≡ true) → cond b (Some x.slices) (slices_in drafts runs) ≡ Some before → (b || list_any (λ x. same_runs x.runs runs) drafts) ≡ true
          by true rest some = refl
          by false rest some = rest some

-- ---- a creation is begun: free sectors are its own

abbrev pub reserved : VolumeValue → List Run → VolumeValue
reserved v runs = record v { map = without_sectors v.map runs; shadow = record v.shadow { unfinished = together v.shadow.unfinished runs } }

module _ (v : VolumeValue) (whole : IsWholeVolume v) (runs : List Run) (are : AreIn v.map runs) where
  pub unfinished_more : (s : ℕ) → contains (together v.shadow.unfinished runs).sectors s ≡ (contains v.shadow.unfinished.sectors s || contains (sectors_of runs) s)
  unfinished_more = with_runs v.layout whole.planned v.shadow.unfinished runs whole.unfinished (in_data v.layout v.map runs whole.map are)

  pub map_fewer : (s : ℕ) → contains (without_sectors v.map runs).sectors s ≡ (contains v.map.sectors s && not (contains (sectors_of runs) s))
  map_fewer = without_runs v.layout whole.planned v.map runs whole.map

  -- what was free waited nowhere
  idle_at : (s : ℕ) → contains (sectors_of runs) s ≡ true → (contains v.shadow.removed.sectors s ≡ false) × (contains v.shadow.kept.sectors s ≡ false) × (contains v.shadow.unfinished.sectors s ≡ false)
  idle_at s mine =
      let none = or_parts (contains v.shadow.removed.sectors s) (contains v.shadow.kept.sectors s || contains v.shadow.unfinished.sectors s) (whole.apart s (are.inside s mine)) in
      let rest = or_parts (contains v.shadow.kept.sectors s) (contains v.shadow.unfinished.sectors s) none.1 in
      (none.0, rest.0, rest.1)

  not_mine : (s : ℕ) → contains v.shadow.removed.sectors s ≡ true → contains (sectors_of runs) s ≡ false
  not_mine s went = false_from_ne_true (contains (sectors_of runs) s) (λ mine. both_ways (contains v.shadow.removed.sectors s) (idle_at s mine).0 went)

  not_kept : (s : ℕ) → contains v.shadow.kept.sectors s ≡ true → contains (sectors_of runs) s ≡ false
  not_kept s kept = false_from_ne_true (contains (sectors_of runs) s) (λ mine. both_ways (contains v.shadow.kept.sectors s) (idle_at s mine).1 kept)

  pub whole_reserved : IsWholeVolume (reserved v runs)
  whole_reserved = record {
    planned = whole.planned;
    map = of_fewer v.layout v.map (λ s. not (contains (sectors_of runs) s)) whole.map;
    removed = whole.removed;
    kept = whole.kept;
    unfinished = of_more v.layout v.shadow.unfinished runs whole.unfinished (λ s here. (in_data v.layout v.map runs whole.map are s here).1);
    apart = λ s there.
        let parts = and_parts (contains v.map.sectors s) (not (contains (sectors_of runs) s)) (sym (map_fewer s) ∙ there) in
        let none = or_parts (contains v.shadow.removed.sectors s) (contains v.shadow.kept.sectors s || contains v.shadow.unfinished.sectors s) (whole.apart s parts.0) in
        let rest = or_parts (contains v.shadow.kept.sectors s) (contains v.shadow.unfinished.sectors s) none.1 in
        or_from (contains v.shadow.removed.sectors s) (contains v.shadow.kept.sectors s || contains (together v.shadow.unfinished runs).sectors s) none.0
        (or_from (contains v.shadow.kept.sectors s) (contains (together v.shadow.unfinished runs).sectors s) rest.0
        (unfinished_more s ∙ (λ i. rest.1 i || not-true (contains (sectors_of runs) s) parts.1 i)));
    once = record {
      removed = λ s there.
          let none = or_parts (contains v.shadow.kept.sectors s) (contains v.shadow.unfinished.sectors s) (whole.once.removed s there) in
          or_from (contains v.shadow.kept.sectors s) (contains (together v.shadow.unfinished runs).sectors s) none.0 (unfinished_more s ∙ (λ i. none.1 i || not_mine s there i));
      kept = λ s there. unfinished_more s ∙ (λ i. whole.once.kept s there i || not_kept s there i);
      readers = whole.once.readers;
      slots = whole.once.slots;
    };
    log = whole.log;
    epoch = whole.epoch;
    pages = whole.pages;
    room = whole.room;
    unpinned = whole.unpinned;
    waiting = whole.waiting;
    numbered = whole.numbered;
    still = whole.still;
  }

  -- nothing is written of it
  nothing_written : (hurt : Sectors) (i : Image) (n : ℕ) (sectors : List ℕ) → n ≡ length sectors → AllZip (Wrote hurt i) (replicate n None) sectors
  nothing_written hurt i zero [] is = tt
  nothing_written hurt i zero (s ∷ sectors) is = absurd (cc is)
  nothing_written hurt i (suc n) [] is = absurd (cc is)
  nothing_written hurt i (suc n) (s ∷ sectors) is = (tt, nothing_written hurt i n sectors (omega (arith, is)))

  behind_first : (sectors : List ℕ) (n : ℕ) → length sectors ≡ n → n - 1 ≡ length (drop 1 sectors)
  behind_first [] n is = omega (arith, is)
  behind_first (s ∷ sectors) n is = omega (arith, is)

  pub stands_reserved : (k : Known) (now : Moment) (len : ℕ) → total runs ≡ sectors_for len → Stands state IsMemoryOf v k now → Stands state IsMemoryOf (reserved v runs) (with_opened k (draft_begun k.opened runs len)) now
  stands_reserved k now len size stands =
      let disk = mounted_opened v k now stands in
      let w : WrittenDraft = record { runs = runs; slices = replicate (slice_count len) None } in
      let free : AreFree (reopen k.mounted k.opened).volume runs = record {
        once = differ_occurs (sectors_of runs) are.differ;
        free = λ s some. ap (λ (m : Mounted). is_free m.volume s) (sym (as_opened v k now stands)) ∙ sym (stands.holds.map s) ∙ are.inside s (occurs_contains s (sectors_of runs) some);
      } in
      let none : (hurt : Sectors) → AllZip (Wrote hurt now.image) (replicate (slice_count len) None) (data_sectors runs) =
      λ hurt. nothing_written hurt now.image (slice_count len) (data_sectors runs) (behind_first (sectors_of runs) (sectors_for len) (length_of_sectors runs ∙ size)) in
      let written = none (in_runs k.windows) in
      stands_opened v k now stands (without_sectors v.map runs) (record v.shadow { unfinished = together v.shadow.unfinished runs }) (draft_begun k.opened runs len) whole_reserved
      (mounted_more k.mounted k.opened w k.windows k.changes (forced_of k) now.image disk free written)
      (λ s. map_fewer s ∙ ap (λ (b : Bool). b && not (contains (sectors_of runs) s)) (stands.holds.map s ∙ ap (λ (m : Mounted). is_free m.volume s) (as_opened v k now stands))
      ∙ sym (free_more k.mounted k.opened w k.windows k.changes (forced_of k) now.image disk free written s))
      stands.holds.removed
      (λ s. stands.holds.kept s ∙ ap (λ (m : Mounted). is_kept_alone m.volume s) (as_opened v k now stands))
      (λ s. unfinished_more s ∙ ap (λ (b : Bool). b || contains (sectors_of runs) s) (stands.holds.unfinished s ∙ ap (λ (m : Mounted). is_in m.volume.drafts s) (as_opened v k now stands)) ∙ sym (drafts_more s k.opened.drafts w))
      stands.opened.places
      (none (open_damage now.windows), written_opened v k now stands)

-- ---- as a call knows it

-- sectors of a set of the data area that wait are not free
pub waiting_out : (v : VolumeValue) → IsWholeVolume v → (m : Area) (runs : List Run) → IsOfData v.layout m → AreIn m runs → ((s : ℕ) → contains m.sectors s ≡ true → waits_in v.shadow s ≡ true) → AreOut v.map runs
waiting_out v whole m runs of_data are waiting = record {
  within = λ s here. let at = in_data v.layout m runs of_data are s here in (omega (arith, at.0, ap (λ (a : Area). a.from) whole.map), omega (arith, at.1, most_least v.layout whole.planned, ap (λ (a : Area). a.to) whole.map));
  outside = λ s here. false_from_ne_true (contains v.map.sectors s) (λ free. both_ways (waits_in v.shadow s) (whole.apart s free) (waiting s (are.inside s here)));
  differ = are.differ;
}

module _ (v w : VolumeValue) (is : v ≡ w) (whole : IsWholeVolume v) (d : Draft) (draft : IsDraft (state w) d) where
  pub draft_in : AreIn v.shadow.unfinished d.runs
  draft_in = record { inside = λ s here. subst (λ (x : VolumeValue). contains (state x).unfinished s ≡ true) (sym is) (draft.unfinished s here); differ = draft.differ }

  pub draft_out : AreOut v.map d.runs
  draft_out = waiting_out v whole v.shadow.unfinished d.runs whole.unfinished draft_in
      (λ s there. or_right (contains v.shadow.removed.sectors s) (contains v.shadow.kept.sectors s || contains v.shadow.unfinished.sectors s) (or_right (contains v.shadow.kept.sectors s) (contains v.shadow.unfinished.sectors s) there))

  module _ (map : Area) (shadow : Waits) (map_is : map ≡ together v.map d.runs) (removed : shadow.removed ≡ v.shadow.removed) (kept : shadow.kept ≡ v.shadow.kept) (unfinished : shadow.unfinished ≡ without_sectors v.shadow.unfinished d.runs) (held : shadow.held ≡ v.shadow.held) where
    then_is : abandoned v d.runs ≡ record v { map = map; shadow = shadow }
    then_is = λ i. record v { map = sym map_is i; shadow = record { removed = sym removed i; kept = sym kept i; unfinished = sym unfinished i; held = sym held i } }

    pub whole_over : IsWholeVolume (record v { map = map; shadow = shadow })
    whole_over = subst IsWholeVolume then_is (whole_abandoned v whole d.runs draft_in)

    pub gives_over : GivesBack d.runs (state w) (state (record v { map = map; shadow = shadow }))
    gives_over =
        subst (λ (x : VolumeValue). GivesBack d.runs (state w) (state x)) then_is
        (subst (λ (x : VolumeValue). GivesBack d.runs (state x) (state (abandoned v d.runs))) is (record { is = refl; unfinished = unfinished_left v whole d.runs draft_in }))

    pub stands_over : (k : Known) (now : Moment) (before : List (Option (List ℕ))) → slices_in k.opened.drafts d.runs ≡ Some before → Stands state IsMemoryOf w k now → Stands state IsMemoryOf (record v { map = map; shadow = shadow }) (with_opened k (ended k.opened d.runs)) now
    stands_over k now before there stands =
        subst (λ (x : VolumeValue). Stands state IsMemoryOf x (with_opened k (ended k.opened d.runs)) now) then_is
        (stands_abandoned v whole d.runs draft_in k now before there (subst (λ (x : VolumeValue). Stands state IsMemoryOf x k now) (sym is) stands))

module _ (v w : VolumeValue) (is : v ≡ w) (whole : IsWholeVolume v) (len : ℕ) (runs : List Run) (place : IsPlace w.map (sectors_for len) runs) where
  pub place_in : AreIn v.map runs
  place_in = subst (λ (x : VolumeValue). AreIn x.map runs) (sym is) place.free

  -- free sectors wait nowhere
  pub place_idle : AreIdle v.shadow runs
  place_idle = (
    record { within = within v.shadow.removed whole.removed; outside = λ s here. (idle_at v whole runs place_in s here).0; differ = place.free.differ },
    record { within = within v.shadow.kept whole.kept; outside = λ s here. (idle_at v whole runs place_in s here).1; differ = place.free.differ },
    record { within = within v.shadow.unfinished whole.unfinished; outside = λ s here. (idle_at v whole runs place_in s here).2; differ = place.free.differ },
  )
    where
      within : (m : Area) → IsOfData v.layout m → (s : ℕ) → contains (sectors_of runs) s ≡ true → (m.from ≤ s) × (s < m.to)
      within m of_data s here =
          let at = in_data v.layout v.map runs whole.map place_in s here in
          (omega (arith, at.0, ap (λ (a : Area). a.from) of_data), omega (arith, at.1, most_least v.layout whole.planned, ap (λ (a : Area). a.to) of_data))

  module _ (map : Area) (shadow : Waits) (map_is : map ≡ without_sectors v.map runs) (removed : shadow.removed ≡ v.shadow.removed) (kept : shadow.kept ≡ v.shadow.kept) (unfinished : shadow.unfinished ≡ together v.shadow.unfinished runs) (held : shadow.held ≡ v.shadow.held) where
    begun_is : reserved v runs ≡ record v { map = map; shadow = shadow }
    begun_is = λ i. record v { map = sym map_is i; shadow = record { removed = sym removed i; kept = sym kept i; unfinished = sym unfinished i; held = sym held i } }

    pub whole_begun : IsWholeVolume (record v { map = map; shadow = shadow })
    whole_begun = subst IsWholeVolume begun_is (whole_reserved v whole runs place_in)

    module _ (new : VolumeValue) (drawn : new ≡ drawn_volume (record v { map = map; shadow = shadow })) where
      as_new : drawn_volume (reserved v runs) ≡ new
      as_new = ap drawn_volume begun_is ∙ sym drawn

      pub takes_begun : TakesPlace runs (with_drawn (state w)) (state new)
      takes_begun =
          subst (λ (x : VolumeValue). TakesPlace runs (with_drawn (state w)) (state x)) as_new
          (subst (λ (x : VolumeValue). TakesPlace runs (with_drawn (state x)) (state (drawn_volume (reserved v runs)))) is
          (record { is = refl; unfinished = unfinished_more v whole runs place_in; apart = λ s here. (idle_at v whole runs place_in s here).2 }))

      pub unfinished_begun : (s : ℕ) → contains (sectors_of runs) s ≡ true → contains (state new).unfinished s ≡ true
      unfinished_begun s here =
          subst (λ (x : VolumeValue). contains (state x).unfinished s ≡ true) as_new
          (unfinished_more v whole runs place_in s ∙ or_right (contains v.shadow.unfinished.sectors s) (contains (sectors_of runs) s) here)

      pub stands_begun : (k : Known) (now : Moment) → Stands state IsMemoryOf w k now → Stands state IsMemoryOf new (with_opened (drawn_known k) (draft_begun k.opened runs len)) now
      stands_begun k now stands =
          subst (λ (x : VolumeValue). Stands state IsMemoryOf x (with_opened (drawn_known k) (draft_begun k.opened runs len)) now) as_new
          (stands_drawn (reserved v runs) (with_opened k (draft_begun k.opened runs len)) now
          (stands_reserved v whole runs place_in k now len place.count (subst (λ (x : VolumeValue). Stands state IsMemoryOf x k now) (sym is) stands)))
