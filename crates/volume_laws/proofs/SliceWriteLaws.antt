-- A volume that stands still stands once slices of an unfinished creation are written, or were not where the disk failed.
use Rattle.std.proofs.Common.{◌≡◌, inl, inr, ℕ, ◌+◌, ◌-◌, ◌≤◌, Bool, true, false, cond, List, [], ◌∷◌, ◌++◌, length, map, take, drop, Option, Some, None, refl, sym, ap, subst, ◌∙◌, arith}
use Rattle.std.specs.List.{AllZip, last_or}
use Rattle.std.proofs.lemmas.Bool.{both_ways, false_from_ne_true}
use Rattle.run_table.specs.declared.run.Run.{Run}
use Rattle.run_table.specs.RunTable.{same_runs, sectors_of}
use Rattle.run_table.specs.Space.{contains}
use Rattle.run_table.proofs.SameLaws.{same_runs_are}
use Rattle.sector_disk.specs.Image.{AreShort, open_damage, sector_at}
use Rattle.sector_disk.specs.Machine.{Moment}
use Rattle.fsd_formats.specs.NamePage.{sectors_for}
use Rattle.fsd_files.specs.Disk.{Image, SectorWorn, Sectors, Within, in_runs}
use Rattle.fsd_files.specs.Kept.{data_sectors}
use Rattle.fsd_files.specs.Volume.{plans_of}
use Rattle.fsd_files.proofs.ChangeLaws.{used-append}
use Rattle.fsd_files.proofs.CountLaws.{used}
use Rattle.fsd_files.proofs.KeptLaws.{behind_there}
use Rattle.fsd_sound.specs.Mounted.{Wrote}
use Rattle.fsd_sound.proofs.SoundLaws.{weak_within_hurt}
use Rattle.fsd_sound.proofs.WindowLaws.{fewer}
use Rattle.version_data.specs.Writing.{WritesIn}
use Rattle.volume_contract.specs.declared.token.Draft.{Draft}
use Rattle.volume_contract.specs.Pieces.{IsDraft, drafts_with, in_slices, slice_sectors, slices_in, with_opened, with_slices, draft_wrote}
use Rattle.volume_contract.specs.State.{Known, Leaves, Stands, WrittenDraft, volume_of}
use Rattle.volume_contract.proofs.DraftLaws.{runs_with}
use Rattle.volume_laws.specs.State.{IsMemoryOf, state}
use Rattle.volume_laws.specs.Volume.{IsWholeVolume, VolumeValue}
use Rattle.volume_laws.proofs.ClearedLaws.{AreWritten}
use Rattle.volume_laws.proofs.DraftLaws.{leaves_drafts, stands_again}
use Rattle.volume_laws.proofs.OpenedLaws.{used_apart}
use Rattle.volume_laws.proofs.PieceLaws.{mounted_opened, written_opened}
use Rattle.volume_laws.proofs.WroteLaws.{differ_behind, drafts_written, dropped_in, slices_written, taken_in}

-- the open window is one of those so far
pub hurt_open : {v : VolumeValue} (k : Known) (old : Moment) → Stands state IsMemoryOf v k old → Within (open_damage old.windows) (in_runs k.windows)
hurt_open k old stands s bad = weak_within_hurt k.windows s (fewer (last_or None k.windows) old.windows.present old.windows.next stands.ends.last stands.ends.some s bad)

-- the slices of a creation that is among them stand
pub its_written : (windows : Sectors) (i : Image) (drafts : List WrittenDraft) (runs : List Run) (before : List (Option (List ℕ))) → slices_in drafts runs ≡ Some before
    → AllZip (λ slices rs. AllZip (Wrote windows i) slices (data_sectors rs)) (map (λ x. x.slices) drafts) (map (λ x. x.runs) drafts) → AllZip (Wrote windows i) before (data_sectors runs)
its_written windows i [] runs before none all = absurd (cc none)
its_written windows i (x ∷ drafts) runs before some all = by (same_runs x.runs runs) refl (λ later. its_written windows i drafts runs before later all.1) some
  where
    by : (b : Bool) → same_runs x.runs runs ≡ b → (slices_in drafts runs ≡ Some before → AllZip (Wrote windows i) before (data_sectors runs)) → cond b (Some x.slices) (slices_in drafts runs) ≡ Some before → AllZip (Wrote windows i) before (data_sectors runs)
    by true same rest is =
        let these : x.slices ≡ before = cc is in
        subst (λ (slices : List (Option (List ℕ))). AllZip (Wrote windows i) slices (data_sectors runs)) these
        (subst (λ (rs : List Run). AllZip (Wrote windows i) x.slices (data_sectors rs)) (same_runs_are x.runs runs same) all.0)
    by false other rest is = rest is

module _ (v : VolumeValue) (whole : IsWholeVolume v) (d : Draft) (draft : IsDraft (state v) d) (first len : ℕ) (old new : Moment) (short : AreShort old.windows) (writes : WritesIn (in_slices d.runs first len) old new) where
  -- slices are sectors of the creation
  pub among : (s : ℕ) → in_slices d.runs first len s ≡ true → contains (sectors_of d.runs) s ≡ true
  among s mine = behind_there s (sectors_of d.runs) (dropped_in first s (data_sectors d.runs) (taken_in (sectors_for len - 1) s (drop first (data_sectors d.runs)) mine))

  within : (s : ℕ) → in_slices d.runs first len s ≡ true → contains v.shadow.unfinished.sectors s ≡ true
  within s mine = draft.unfinished s (among s mine)

  -- what a stop leaves
  pub leaves_slices : Leaves state IsMemoryOf v (in_slices d.runs first len) old new
  leaves_slices = leaves_drafts v whole old new (in_slices d.runs first len) short within writes

  module _ (k : Known) (stands : Stands state IsMemoryOf v k old) (before : List (Option (List ℕ))) (there : slices_in k.opened.drafts d.runs ≡ Some before) where
    once : (s : ℕ) → used s (map (λ x. x.runs) k.opened.drafts) ≤ 1
    once s =
        let all = used_apart (volume_of k).layout (plans_of (volume_of k).entries ++ map (λ x. x.runs) k.opened.drafts) (mounted_opened v k old stands).spaced.apart s in
        omega (arith, all.0, used-append s (plans_of (volume_of k).entries) (map (λ x. x.runs) k.opened.drafts))

    -- with these slices from there on
    module _ (slices : List (Option (List ℕ))) (count : length slices ≡ sectors_for len - 1) (fits : first + (sectors_for len - 1) ≤ length (data_sectors d.runs)) where
      abbrev then_written : List WrittenDraft
      then_written = drafts_with k.opened.drafts d.runs (with_slices before first slices)

      -- all that is written stands but for damage there, where these do
      all_written : (hurt : Sectors) → Within (open_damage old.windows) hurt → AreWritten hurt old.image k.opened.drafts → AllZip (Wrote hurt new.image) slices (slice_sectors d.runs first len) → AreWritten hurt new.image then_written
      all_written hurt wider all written =
          drafts_written hurt old.image new.image d.runs (with_slices before first slices) worn_outside
          (slices_written hurt old.image new.image first before slices (data_sectors d.runs) (omega (arith, count, fits)) (differ_behind 1 (sectors_of d.runs) draft.differ) (its_written hurt old.image k.opened.drafts d.runs before there all)
          (λ s out. worn s (same (sectors_for len - 1) (sym count) s ∙ out)) (subst (λ (m : ℕ). AllZip (Wrote hurt new.image) slices (take m (drop first (data_sectors d.runs)))) (sym count) written))
          k.opened.drafts before there once all
        where
          worn : (s : ℕ) → in_slices d.runs first len s ≡ false → SectorWorn (hurt s) (sector_at old.image s) (sector_at new.image s)
          worn s out = elim (writes.touches.others s out) [
            | inl same ↦ inl same
            | inr bad ↦ inr (wider s bad.0, bad.1)
          ]

          worn_outside : (s : ℕ) → contains (sectors_of d.runs) s ≡ false → SectorWorn (hurt s) (sector_at old.image s) (sector_at new.image s)
          worn_outside s out = worn s (false_from_ne_true (in_slices d.runs first len s) (λ mine. both_ways (contains (sectors_of d.runs) s) out (among s mine)))

          same : (n : ℕ) → n ≡ length slices → (s : ℕ) → contains (take n (drop first (data_sectors d.runs))) s ≡ contains (take (length slices) (drop first (data_sectors d.runs))) s
          same n is s = ap (λ (m : ℕ). contains (take m (drop first (data_sectors d.runs))) s) is

      -- it stands where they do
      pub stands_with : AllZip (Wrote (in_runs k.windows) new.image) slices (slice_sectors d.runs first len) → AllZip (Wrote (open_damage new.windows) new.image) slices (slice_sectors d.runs first len)
          → Stands state IsMemoryOf v (with_opened k (draft_wrote k.opened d.runs (with_slices before first slices))) new
      stands_with written now =
          let same_open : open_damage old.windows ≡ open_damage new.windows = ap open_damage (sym writes.windows) in
          stands_again v whole old new (in_slices d.runs first len) short within writes k stands then_written (runs_with k.opened.drafts d.runs (with_slices before first slices))
          (all_written (in_runs k.windows) (hurt_open k old stands) (mounted_opened v k old stands).open_ones.drafts written)
          (subst (λ (w : Sectors). AreWritten w new.image then_written) same_open
          (all_written (open_damage old.windows) (λ s bad. bad) (written_opened v k old stands) (subst (λ (w : Sectors). AllZip (Wrote w new.image) slices (slice_sectors d.runs first len)) (sym same_open) now)))
