-- How a write of slices of an unfinished creation ends: they stand, or nothing is known of them.
use Rattle.std.proofs.Common.{◌≡◌, ℕ, ◌+◌, ◌-◌, ◌≤◌, true, false, List, length, Option, Some, sym, subst, ◌∙◌}
use Rattle.std.specs.List.{AllZip}
use Rattle.sector_disk.specs.Image.{AreShort, Windows, open_damage}
use Rattle.sector_disk.specs.Machine.{Moment}
use Rattle.fsd_formats.specs.NamePage.{sectors_for}
use Rattle.fsd_files.specs.Disk.{Has, Within, in_runs}
use Rattle.fsd_files.specs.Kept.{data_sectors, filled_slices}
use Rattle.version_data.specs.Writing.{WritesIn}
use Rattle.version_data.proofs.SliceLaws.{places_count}
use Rattle.volume_contract.specs.declared.token.Draft.{Draft}
use Rattle.volume_contract.specs.Pieces.{IsDraft, in_slices, slice_sectors, slices_if, slices_in, with_opened, with_slices, draft_wrote}
use Rattle.volume_contract.specs.State.{Known, Stands}
use Rattle.volume_laws.specs.State.{IsMemoryOf, state}
use Rattle.volume_laws.specs.Volume.{IsWholeVolume, VolumeValue}
use Rattle.volume_laws.proofs.SliceFits.{count_if, count_slices}
use Rattle.volume_laws.proofs.SliceWriteLaws.{hurt_open, stands_with}
use Rattle.volume_laws.proofs.WroteLaws.{zip_there, zip_unknown}
use Rattle.volume_laws.proofs.NewVersionLaws.{zip_wider}

module _ (v : VolumeValue) (whole : IsWholeVolume v) (d : Draft) (draft : IsDraft (state v) d) (first : ℕ) (bytes : List ℕ) (old new : Moment) (short : AreShort old.windows) (writes : WritesIn (in_slices d.runs first (length bytes)) old new)
    (k : Known) (stands : Stands state IsMemoryOf v k old) (before : List (Option (List ℕ))) (there : slices_in k.opened.drafts d.runs ≡ Some before) (fits : first + (sectors_for (length bytes) - 1) ≤ length (data_sectors d.runs)) where
  pub slices_stand : AllZip (Has (open_damage new.windows) new.image) (filled_slices bytes) (slice_sectors d.runs first (length bytes)) → Stands state IsMemoryOf v (with_opened k (draft_wrote k.opened d.runs (with_slices before first (slices_if true bytes)))) new
  slices_stand stand =
      stands_with v whole d draft first (length bytes) old new short writes k stands before there (slices_if true bytes) (count_if _ bytes) fits
      (zip_there (in_runs k.windows) new.image (filled_slices bytes) (slice_sectors d.runs first (length bytes))
      (zip_wider (open_damage new.windows) (in_runs k.windows) new.image (filled_slices bytes) (slice_sectors d.runs first (length bytes))
      (subst (λ (w : Windows). Within (open_damage w) (in_runs k.windows)) (sym writes.windows) (hurt_open k old stands)) stand))
      (zip_there (open_damage new.windows) new.image (filled_slices bytes) (slice_sectors d.runs first (length bytes)) stand)

  pub slices_lost : Stands state IsMemoryOf v (with_opened k (draft_wrote k.opened d.runs (with_slices before first (slices_if false bytes)))) new
  slices_lost =
      let as_many = count_slices bytes ∙ sym (places_count d.runs first (sectors_for (length bytes) - 1) fits) in
      stands_with v whole d draft first (length bytes) old new short writes k stands before there (slices_if false bytes) (count_if _ bytes) fits
      (zip_unknown (in_runs k.windows) new.image (filled_slices bytes) (slice_sectors d.runs first (length bytes)) as_many)
      (zip_unknown (open_damage new.windows) new.image (filled_slices bytes) (slice_sectors d.runs first (length bytes)) as_many)
