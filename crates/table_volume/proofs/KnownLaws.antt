-- The opening of a name table whose homes are known.
use Rattle.std.proofs.Common.{◌≡◌, inl, inr, ℕ, ◌<◌, List, Ok, Err, refl, sym, subst}
use Rattle.std.specs.Prelude.{IfErr, IfOk, IsSome, Result}
use Rattle.volume_layout.specs.declared.layout.Layout.{Layout}
use Rattle.volume_layout.specs.Layout.{home_a, home_b}
use Rattle.sector_disk.specs.declared.sector.Sector.{Sector}
use Rattle.sector_disk.specs.declared.sector.Sector.TheVariants.{Whole}
use Rattle.sector_disk.specs.Image.{IsCalm, bytes_of, sector_at}
use Rattle.sector_disk.specs.Machine.{Moment}
use Rattle.sector_disk.proofs.Calm.{calm_nowhere}
use Rattle.fsd_files.specs.Disk.{bytes_at, first_whole}
use Rattle.fsd_sound.specs.Homes.{HasBothHomes, HasSome, home_of}
use Rattle.fsd_sound.specs.declared.fault.MountFault.{MountFault}
use Rattle.fsd_sound.specs.declared.fault.MountFault.TheVariants.{Memory}
use Rattle.cached_table.specs.Homes.{KnowsHomes}
use Rattle.cached_table.specs.declared.opening.Opened.{Opened}
use Rattle.cached_table.specs.Opening.{IsNoTable, IsTableOf, home_pages}
use Rattle.cached_table.proofs.HomeReadLaws.{calm_knows}
use Rattle.table_volume.specs.Mounting.{OpensKnown, opened_of}
use Rattle.volume_laws.specs.Volume.{VolumeValue}

module _ (l : Layout) (at : Moment) where
  -- with the table that is opened the volume is made, or memory is refused
  pub opens_known : (o : Opened) → IsTableOf l (home_pages l at.image) o → (r : Result VolumeValue MountFault) → IfOk r (λ v. opened_of v ≡ o) → IfErr r (λ fault. fault ≡ Memory) → OpensKnown l at r
  opens_known o table (Ok v) is memory = subst (IsTableOf l (home_pages l at.image)) (sym is) table
  opens_known o table (Err fault) is memory = subst (λ (f : MountFault). IsNoTable l (home_pages l at.image) f) (sym memory) tt

  -- where nothing wears each home that stands is whole
  module _ (calm : IsCalm at.windows) where
    whole_at : (s : ℕ) → HasSome at s → (bytes : List ℕ) × (sector_at at.image s ≡ Whole bytes)
    whole_at s (bytes, inl whole) = (bytes, whole)
    whole_at s (bytes, inr hurt) = absurd (calm_nowhere at.windows.present at.windows.next s calm.present calm.next hurt.0)

    home_there : (page : ℕ) → HasBothHomes l at page → IsSome (home_of l at.image page)
    home_there page both = subst (λ (s : Sector). IsSome (first_whole (bytes_of s) (bytes_at at.image (home_b l page)))) (sym (whole_at (home_a l page) both.0).1) refl

    pub stand_known : ((page : ℕ) → page < l.pages → HasBothHomes l at page) → KnowsHomes l at
    stand_known both = calm_knows l at calm (λ page lt. home_there page (both page lt))
