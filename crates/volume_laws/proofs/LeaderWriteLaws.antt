-- A volume that stands still stands once the leader of an unfinished creation is written.
use Rattle.std.proofs.Common.{◌≡◌, inl, inr, ℕ, ◌≤◌, true, false, List, [], ◌∷◌, ◌++◌, map, Option, None, Some, refl, sym, ap, subst, arith, if◌then◌else◌}
use Rattle.std.specs.List.{AllZip}
use Rattle.std.proofs.lemmas.Bool.{both_ways, false_from_ne_true}
use Rattle.run_table.specs.declared.run.Run.{Run}
use Rattle.run_table.specs.RunTable.{sectors_of}
use Rattle.run_table.specs.Space.{contains}
use Rattle.sector_set.specs.Area.{AreIn}
use Rattle.sector_disk.specs.Image.{AreShort, Windows, open_damage, sector_at}
use Rattle.sector_disk.specs.Machine.{Moment}
use Rattle.fsd_files.specs.Disk.{Has, Image, SectorWorn, Sectors, Within, in_runs}
use Rattle.fsd_files.specs.Kept.{KeptIn, data_sectors, filled_slices}
use Rattle.fsd_files.specs.Volume.{plans_of}
use Rattle.fsd_files.proofs.ChangeLaws.{used-append}
use Rattle.fsd_files.proofs.CountLaws.{used}
use Rattle.fsd_sound.specs.Mounted.{Wrote}
use Rattle.version_data.specs.Writing.{WritesIn}
use Rattle.volume_contract.specs.Pieces.{in_leader, slices_if, slices_in, with_opened}
use Rattle.volume_contract.specs.State.{Known, Leaves, OpenParts, Stands, WrittenDraft, volume_of}
use Rattle.volume_contract.proofs.DraftLaws.{slices_same}
use Rattle.volume_laws.specs.State.{IsMemoryOf, state}
use Rattle.volume_laws.specs.Volume.{IsWholeVolume, VolumeValue}
use Rattle.volume_laws.proofs.ClearedLaws.{AreWritten}
use Rattle.volume_laws.proofs.DraftLaws.{leaves_drafts, stands_again}
use Rattle.volume_laws.proofs.OpenedLaws.{used_apart}
use Rattle.volume_laws.proofs.PieceLaws.{as_opened, mounted_opened, written_opened}
use Rattle.volume_laws.proofs.SliceWriteLaws.{hurt_open, its_written}
use Rattle.volume_laws.proofs.WroteLaws.{differ_parts, drafts_written, taken_in, written_on}

-- ---- nothing is known of what is written

abbrev blank_drafts : List WrittenDraft → List WrittenDraft
blank_drafts drafts = map (λ x. record { runs = x.runs; slices = map (λ slice. None) x.slices }) drafts

-- the same creations, of which nothing is known
abbrev pub blanked : OpenParts → OpenParts
blanked o = record o { drafts = blank_drafts o.drafts }

same_blank : (drafts : List WrittenDraft) → map (λ x. x.runs) (blank_drafts drafts) ≡ map (λ x. x.runs) drafts
same_blank [] = refl
same_blank (x ∷ drafts) = ap (λ (plans : List (List Run)). x.runs ∷ plans) (same_blank drafts)

zip_blank : (hurt : Sectors) (i j : Image) (slices : List (Option (List ℕ))) (ys : List ℕ) → AllZip (Wrote hurt i) slices ys → AllZip (Wrote hurt j) (map (λ slice. None) slices) ys
zip_blank hurt i j [] [] all = tt
zip_blank hurt i j [] (y ∷ ys) all = absurd all
zip_blank hurt i j (x ∷ slices) [] all = absurd all
zip_blank hurt i j (x ∷ slices) (y ∷ ys) all = (tt, zip_blank hurt i j slices ys all.1)

blank_written : (hurt : Sectors) (i j : Image) (drafts : List WrittenDraft) → AreWritten hurt i drafts → AreWritten hurt j (blank_drafts drafts)
blank_written hurt i j [] all = tt
blank_written hurt i j (x ∷ drafts) all = (zip_blank hurt i j x.slices (data_sectors x.runs) all.0, blank_written hurt i j drafts all.1)

-- ---- the leader is written

module _ (v : VolumeValue) (whole : IsWholeVolume v) (runs : List Run) (are : AreIn v.shadow.unfinished runs) (old new : Moment) (short : AreShort old.windows) (writes : WritesIn (in_leader runs) old new) where
  among : (s : ℕ) → in_leader runs s ≡ true → contains (sectors_of runs) s ≡ true
  among s mine = taken_in 1 s (sectors_of runs) mine

  within : (s : ℕ) → in_leader runs s ≡ true → contains v.shadow.unfinished.sectors s ≡ true
  within s mine = are.inside s (among s mine)

  -- what a stop leaves
  pub leaves_leader : Leaves state IsMemoryOf v (in_leader runs) old new
  leaves_leader = leaves_drafts v whole old new (in_leader runs) short within writes

  module _ (k : Known) (stands : Stands state IsMemoryOf v k old) where
    -- it stands, whatever was known of its creations
    pub stands_blank : Stands state IsMemoryOf v (with_opened k (blanked k.opened)) new
    stands_blank =
        stands_again v whole old new (in_leader runs) short within writes k stands (blank_drafts k.opened.drafts) (same_blank k.opened.drafts)
        (blank_written (in_runs k.windows) old.image new.image k.opened.drafts (mounted_opened v k old stands).open_ones.drafts)
        (subst (λ (w : Windows). AreWritten (open_damage w) new.image (blank_drafts k.opened.drafts)) (sym writes.windows)
        (blank_written (open_damage old.windows) old.image new.image k.opened.drafts (written_opened v k old stands)))

    once : (s : ℕ) → used s (map (λ x. x.runs) k.opened.drafts) ≤ 1
    once s =
        let all = used_apart (volume_of k).layout (plans_of (volume_of k).entries ++ map (λ x. x.runs) k.opened.drafts) (mounted_opened v k old stands).spaced.apart s in
        omega (arith, all.0, used-append s (plans_of (volume_of k).entries) (map (λ x. x.runs) k.opened.drafts))

    same_known : k ≡ with_opened k k.opened
    same_known = λ i. record k { mounted = as_opened v k old stands i }

    module _ (before : List (Option (List ℕ))) (there : slices_in k.opened.drafts runs ≡ Some before) where
      -- all that is written stands as it did, but for damage there
      all_written : (hurt : Sectors) → Within (open_damage old.windows) hurt → AreWritten hurt old.image k.opened.drafts → AreWritten hurt new.image k.opened.drafts
      all_written hurt wider all =
          subst (AreWritten hurt new.image) (slices_same k.opened.drafts runs before there)
          (drafts_written hurt old.image new.image runs before worn_outside (written_on hurt old.image new.image before (data_sectors runs) worn_behind (its_written hurt old.image k.opened.drafts runs before there all))
          k.opened.drafts before there once all)
        where
          worn : (s : ℕ) → in_leader runs s ≡ false → SectorWorn (hurt s) (sector_at old.image s) (sector_at new.image s)
          worn s out = elim (writes.touches.others s out) [
            | inl same ↦ inl same
            | inr bad ↦ inr (wider s bad.0, bad.1)
          ]

          worn_outside : (s : ℕ) → contains (sectors_of runs) s ≡ false → SectorWorn (hurt s) (sector_at old.image s) (sector_at new.image s)
          worn_outside s out = worn s (false_from_ne_true (in_leader runs s) (λ mine. both_ways (contains (sectors_of runs) s) out (among s mine)))

          -- no slice lies in the leader's sector
          worn_behind : (s : ℕ) → contains (data_sectors runs) s ≡ true → SectorWorn (hurt s) (sector_at old.image s) (sector_at new.image s)
          worn_behind s behind = worn s (false_from_ne_true (in_leader runs s) (λ mine. both_ways (contains (data_sectors runs) s) (differ_parts 1 s (sectors_of runs) are.differ mine) behind))

      -- it stands as it did, where the creation is one of its own
      pub stands_led : Stands state IsMemoryOf v k new
      stands_led =
          subst (λ (x : Known). Stands state IsMemoryOf v x new) (sym same_known)
          (stands_again v whole old new (in_leader runs) short within writes k stands k.opened.drafts refl
          (all_written (in_runs k.windows) (hurt_open k old stands) (mounted_opened v k old stands).open_ones.drafts)
          (subst (λ (w : Windows). AreWritten (open_damage w) new.image k.opened.drafts) (sym writes.windows) (all_written (open_damage old.windows) (λ s bad. bad) (written_opened v k old stands))))

-- ---- what is written of a creation

zip_has : (weak : Sectors) (i : Image) (bs : List (List ℕ)) (ys : List ℕ) → AllZip (Wrote weak i) (map (λ x. if true then Some x else None) bs) ys → AllZip (Has weak i) bs ys
zip_has weak i [] [] all = tt
zip_has weak i [] (y ∷ ys) all = absurd all
zip_has weak i (b ∷ bs) [] all = absurd all
zip_has weak i (b ∷ bs) (y ∷ ys) all = (all.0, zip_has weak i bs ys all.1)

-- where all its slices are written they stand, but for damage in the open window
pub slices_kept : (v : VolumeValue) (k : Known) (now : Moment) (runs : List Run) (bytes : List ℕ) → Stands state IsMemoryOf v k now → slices_in k.opened.drafts runs ≡ Some (slices_if true bytes) → KeptIn now.image (open_damage now.windows) bytes runs
slices_kept v k now runs bytes stands there =
    zip_has (open_damage now.windows) now.image (filled_slices bytes) (data_sectors runs) (its_written (open_damage now.windows) now.image k.opened.drafts runs (slices_if true bytes) there (written_opened v k now stands))
