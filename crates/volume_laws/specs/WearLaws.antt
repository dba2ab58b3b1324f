-- A volume that stands over a disk stands over it as it is worn.
-- The law stands here since the `impl` of a volume's files rests on it.
use Rattle.std.proofs.Common.{◌≡◌, ◌^◌, ◌<◌, ◌≤◌, sym, ap, subst, ◌∙◌, arith}
use Rattle.volume_layout.specs.declared.layout.Layout.{Layout}
use Rattle.volume_layout.proofs.RootLaws.{planned_bounds}
use Rattle.sector_disk.specs.Image.{AreShort, IsWorn, Windows, open_damage}
use Rattle.sector_disk.specs.Machine.{Moment}
use Rattle.fsd_formats.specs.declared.anchor.Anchor.{Anchor}
use Rattle.fsd_log.specs.Scan.{Walked}
use Rattle.fsd_sound.specs.Laid.{HasOwnLog}
use Rattle.fsd_sound.specs.Shown.{records_by}
use Rattle.fsd_sound.specs.Sound.{EndIn, weak_of}
use Rattle.fsd_sound.specs.Windows.{IsApart}
use Rattle.fsd_sound.proofs.LaidLaws.{own_worn}
use Rattle.fsd_sound.proofs.MountedWearLaws.{mounted_still}
use Rattle.fsd_sound.proofs.OpenLaws.{drafts_worn}
use Rattle.fsd_sound.proofs.WindowLaws.{open_is_weak, borne_apart}
use Rattle.volume_contract.specs.State.{Known, Ages, ListsPages, StandWritten, Stands, forced_of}
use Rattle.volume_laws.specs.State.{IsMemoryOf, state}
use Rattle.volume_laws.specs.Volume.{VolumeValue}
use Rattle.volume_layout.specs.Kinds.{gap_of}

module _ (v : VolumeValue) (k : Known) (old new : Moment) (short : AreShort old.windows) (ages : Ages old new) (stands : Stands state IsMemoryOf v k old) where
  apart : IsApart (gap_of k.mounted.volume.layout) (weak_of k.windows)
  apart = borne_apart k.mounted.volume.layout k.windows stands.disk.over.shows.readable.borne

  worn : IsWorn (weak_of k.windows) old.image new.image
  worn = open_is_weak old.windows k.windows old.image new.image stands.ends ages.image

  small : k.mounted.volume.layout.pages ≤ 2 ^ 32
  small = omega (arith, (planned_bounds v.layout stands.holds.planned).pages_most, ap (λ (l : Layout). l.pages) stands.fits.layout)

  epoch : k.mounted.anchor.epoch < 2 ^ 32
  epoch = omega (arith, stands.holds.fits.epoch, ap (λ (a : Anchor). a.epoch) stands.fits.anchor)

  same_records : records_by k.mounted.volume.layout old.image k.mounted.anchor ≡ records_by k.mounted.volume.layout new.image k.mounted.anchor
  same_records =
      let own = stands.disk.over.own in
      let own_now : HasOwnLog k.mounted.volume.layout k.mounted.anchor stands.disk.records k.mounted.head (weak_of k.windows) new.image =
      own_worn k.mounted.volume.layout small k.mounted.anchor epoch stands.disk.third (weak_of k.windows) apart old.image new.image worn stands.disk.records k.mounted.head own in
      ap (λ (w : Walked). w.records) own.log.scanned ∙ sym (ap (λ (w : Walked). w.records) own_now.log.scanned)

  pub stands_worn : Stands state IsMemoryOf v k new
  stands_worn = record {
    fits = stands.fits;
    opened = stands.opened;
    holds = subst (IsMemoryOf v k.mounted) same_records stands.holds;
    lists = subst (ListsPages (state v) k.mounted.pages) same_records stands.lists;
    ends = subst (λ (w : Windows). EndIn w k.windows) (sym ages.windows) stands.ends;
    disk = mounted_still k.mounted k.windows k.changes (forced_of k) old.image new.image small apart worn stands.disk;
    written = subst (λ (w : Windows). StandWritten (open_damage w) new.image k.mounted.slices k.mounted.volume.drafts) (sym ages.windows)
        (drafts_worn (open_damage old.windows) old.image new.image k.mounted.slices k.mounted.volume.drafts (λ s there. ages.image.each s) stands.written);
  }
