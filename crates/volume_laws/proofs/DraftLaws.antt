-- A volume that stands still stands where sectors of its unfinished creations are written.
use Rattle.std.proofs.Common.{◌≡◌, inl, inr, ℕ, true, false, ◌||◌, List, map, refl, sym, ap, ◌∙◌}
use Rattle.std.proofs.lemmas.Bool.{both_ways, false_from_ne_true, or_cases, or_from, or_parts, or_right}
use Rattle.run_table.specs.Space.{contains}
use Rattle.sector_set.specs.Area.{Area, area}
use Rattle.shadow_frees.specs.Waits.{waits_in}
use Rattle.sector_disk.specs.Image.{AreShort, open_damage}
use Rattle.sector_disk.specs.Machine.{Moment}
use Rattle.fsd_files.specs.Disk.{Sectors, in_runs}
use Rattle.fsd_files.specs.Volume.{Volume, is_free, is_in}
use Rattle.fsd_files.specs.Waiting.{is_kept_alone}
use Rattle.fsd_sound.specs.Mounted.{Mounted}
use Rattle.version_data.specs.Writing.{WritesIn}
use Rattle.volume_contract.specs.Pieces.{with_opened}
use Rattle.volume_contract.specs.State.{Known, Leaves, Stands, WrittenDraft, forced_of}
use Rattle.volume_laws.specs.State.{IsMemoryOf, state}
use Rattle.volume_laws.specs.Volume.{IsWholeVolume, VolumeValue}
use Rattle.volume_laws.proofs.ClearedLaws.{AreWritten, free_cleared, mounted_again, mounted_cleared, no_drafts, same_volume}
use Rattle.table_survey.proofs.DataLaws.{of_data_within}
use Rattle.volume_laws.proofs.PieceLaws.{as_opened, mounted_opened, stands_opened}
use Rattle.volume_laws.proofs.SpaceLaws.{none_outside, of_test, test_there}
use Rattle.volume_laws.proofs.WrittenLaws.{leaves_written, stands_written}

-- ---- over any machine

abbrev pub cleared : VolumeValue → VolumeValue
cleared v = record v {
  map = area v.map.from v.map.to (λ s. contains v.map.sectors s || contains v.shadow.unfinished.sectors s);
  shadow = record v.shadow { unfinished = area v.shadow.unfinished.from v.shadow.unfinished.to (λ s. false) };
}

module _ (v : VolumeValue) (whole : IsWholeVolume v) where
  map_cleared : (s : ℕ) → contains (cleared v).map.sectors s ≡ (contains v.map.sectors s || contains v.shadow.unfinished.sectors s)
  map_cleared s =
      test_there v.layout whole.planned v.map.from v.map.to (λ t. contains v.map.sectors t || contains v.shadow.unfinished.sectors t) s (ap (λ (a : Area). a.from) whole.map) (ap (λ (a : Area). a.to) whole.map)
      (λ out. λ i. none_outside v.layout v.map s whole.map out i || none_outside v.layout v.shadow.unfinished s whole.unfinished out i)

  none_cleared : (s : ℕ) → contains (cleared v).shadow.unfinished.sectors s ≡ false
  none_cleared s =
      test_there v.layout whole.planned v.shadow.unfinished.from v.shadow.unfinished.to (λ t. false) s (ap (λ (a : Area). a.from) whole.unfinished) (ap (λ (a : Area). a.to) whole.unfinished) (λ out. refl)

  still_idle : (s : ℕ) → contains v.shadow.removed.sectors s ≡ false → contains v.shadow.kept.sectors s ≡ false → waits_in (cleared v).shadow s ≡ false
  still_idle s went kept =
      or_from (contains v.shadow.removed.sectors s) (contains v.shadow.kept.sectors s || contains (cleared v).shadow.unfinished.sectors s) went
      (or_from (contains v.shadow.kept.sectors s) (contains (cleared v).shadow.unfinished.sectors s) kept (none_cleared s))

  whole_cleared : IsWholeVolume (cleared v)
  whole_cleared = record {
    planned = whole.planned;
    map = of_test v.layout v.map (λ s. contains v.map.sectors s || contains v.shadow.unfinished.sectors s) whole.map (λ s there. elim (or_cases (contains v.map.sectors s) (contains v.shadow.unfinished.sectors s) there) [
      | inl was ↦ (of_data_within v.layout v.map whole.map s was).1
      | inr mine ↦ (of_data_within v.layout v.shadow.unfinished whole.unfinished s mine).1
    ]);
    removed = whole.removed;
    kept = whole.kept;
    unfinished = of_test v.layout v.shadow.unfinished (λ s. false) whole.unfinished (λ s there. absurd (both_ways false refl there));
    apart = λ s there. elim (or_cases (contains v.map.sectors s) (contains v.shadow.unfinished.sectors s) (sym (map_cleared s) ∙ there)) [
      | inl was ↦
          let none = or_parts (contains v.shadow.removed.sectors s) (contains v.shadow.kept.sectors s || contains v.shadow.unfinished.sectors s) (whole.apart s was) in
          still_idle s none.0 (or_parts (contains v.shadow.kept.sectors s) (contains v.shadow.unfinished.sectors s) none.1).0
      | inr mine ↦
          still_idle s
          (false_from_ne_true (contains v.shadow.removed.sectors s) (λ went. both_ways (contains v.shadow.unfinished.sectors s) (or_parts (contains v.shadow.kept.sectors s) (contains v.shadow.unfinished.sectors s) (whole.once.removed s went)).1 mine))
          (false_from_ne_true (contains v.shadow.kept.sectors s) (λ kept. both_ways (contains v.shadow.unfinished.sectors s) (whole.once.kept s kept) mine))
    ];
    once = record {
      removed = λ s there.
          or_from (contains v.shadow.kept.sectors s) (contains (cleared v).shadow.unfinished.sectors s) (or_parts (contains v.shadow.kept.sectors s) (contains v.shadow.unfinished.sectors s) (whole.once.removed s there)).0 (none_cleared s);
      kept = λ s there. none_cleared s;
      readers = whole.once.readers;
      slots = whole.once.slots;
    };
    log = whole.log;
    epoch = whole.epoch;
    pages = whole.pages;
    room = whole.room;
    unpinned = whole.unpinned;
    waiting = whole.waiting;
    numbered = whole.numbered;
    still = whole.still;
  }

  -- ---- it stands

  pub stands_cleared : (k : Known) (now : Moment) → Stands state IsMemoryOf v k now → Stands state IsMemoryOf (cleared v) (with_opened k (no_drafts k.opened)) now
  stands_cleared k now stands =
      let disk = mounted_opened v k now stands in
      let reopened_is = as_opened v k now stands in
      stands_opened v k now stands (cleared v).map (cleared v).shadow (no_drafts k.opened) whole_cleared (mounted_cleared k.mounted k.opened k.windows k.changes (forced_of k) now.image disk)
      (λ s. map_cleared s ∙ (λ i. (stands.holds.map s ∙ ap (λ (m : Mounted). is_free m.volume s) reopened_is) i || (stands.holds.unfinished s ∙ ap (λ (m : Mounted). is_in m.volume.drafts s) reopened_is) i)
      ∙ sym (free_cleared k.mounted k.opened k.windows k.changes (forced_of k) now.image disk s))
      stands.holds.removed
      (λ s. stands.holds.kept s ∙ ap (λ (m : Mounted). is_kept_alone m.volume s) reopened_is)
      none_cleared
      stands.opened.places
      tt

  module _ (old new : Moment) (may : Sectors) (short : AreShort old.windows) (within : (s : ℕ) → may s ≡ true → contains v.shadow.unfinished.sectors s ≡ true) (writes : WritesIn may old new) where
    free : (s : ℕ) → may s ≡ true → contains (cleared v).map.sectors s ≡ true
    free s mine = map_cleared s ∙ or_right (contains v.map.sectors s) (contains v.shadow.unfinished.sectors s) (within s mine)

    -- a stop leaves a sound disk
    pub leaves_drafts : Leaves state IsMemoryOf v may old new
    leaves_drafts k stands =
        let l = leaves_written (cleared v) (with_opened k (no_drafts k.opened)) old new may free writes (stands_cleared k old stands) short in
        record { sound = l.sound; roots = l.roots; windows = l.windows; said = l.said; touches = l.touches }

    -- so it does with the same creations, where what is written of them stands
    pub stands_again : (k : Known) → Stands state IsMemoryOf v k old → (drafts : List WrittenDraft) → map (λ x. x.runs) drafts ≡ map (λ x. x.runs) k.opened.drafts → AreWritten (in_runs k.windows) new.image drafts → AreWritten (open_damage new.windows) new.image drafts
        → Stands state IsMemoryOf v (with_opened k (record k.opened { drafts = drafts })) new
    stands_again k stands drafts same written now =
        let ghost : Known = with_opened k (no_drafts k.opened) in
        let then = stands_written (cleared v) ghost old new may free writes (stands_cleared k old stands) short in
        let disk = mounted_opened v k old stands in
        let reopened_is = as_opened v k old stands in
        let volume = same_volume k.mounted k.opened k.windows k.changes (forced_of k) old.image disk drafts same new.image then.disk written in
        stands_opened (cleared v) ghost new then v.map v.shadow (record k.opened { drafts = drafts }) whole
        (mounted_again k.mounted k.opened k.windows k.changes (forced_of k) old.image disk drafts same new.image then.disk written)
        (λ s. stands.holds.map s ∙ ap (λ (m : Mounted). is_free m.volume s) reopened_is ∙ ap (λ (w : Volume). is_free w s) volume)
        stands.holds.removed
        (λ s. stands.holds.kept s ∙ ap (λ (m : Mounted). is_kept_alone m.volume s) reopened_is ∙ ap (λ (w : Volume). is_kept_alone w s) volume)
        (λ s. stands.holds.unfinished s ∙ ap (λ (m : Mounted). is_in m.volume.drafts s) reopened_is ∙ ap (λ (w : Volume). is_in w.drafts s) volume)
        stands.opened.places
        now
