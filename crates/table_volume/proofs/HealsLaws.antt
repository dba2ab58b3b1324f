-- What a mount has healed stays so while it reads.
use Rattle.std.proofs.Common.{◌<◌, ℕ, List, sym, subst, arith}
use Rattle.volume_layout.specs.declared.layout.Layout.{Layout}
use Rattle.volume_layout.specs.Layout.{home_a, home_b}
use Rattle.fsd_formats.specs.Anchors.{anchor_bytes}
use Rattle.sector_disk.specs.Image.{Windows, open_damage}
use Rattle.sector_disk.specs.Machine.{Moment, Wears}
use Rattle.fsd_files.specs.Disk.{Has}
use Rattle.fsd_files.proofs.KeptLaws.{has_on}
use Rattle.log_thirds.specs.LogValue.{LogValue}
use Rattle.mount_recover.specs.Recover.{HasAnchorTwice}
use Rattle.volume_contract.specs.Mount.{HealsAnchors, HealsHomes}
use Rattle.table_volume.specs.Mounting.{IsAssembled}
use Rattle.volume_laws.specs.State.{state}
use Rattle.volume_laws.specs.Volume.{VolumeValue}
use Rattle.fsd_sound.specs.Homes.{HasBothHomes}

module _ (mid new : Moment) (wears : Wears mid new) where
  -- a sector that stands is only worn
  stands_read : (bytes : List ℕ) (s : ℕ) → Has (open_damage mid.windows) mid.image bytes s → Has (open_damage new.windows) new.image bytes s
  stands_read bytes s has = subst (λ (w : Windows). Has (open_damage w) new.image bytes s) (sym wears.windows) (has_on (open_damage mid.windows) mid.image new.image bytes s (wears.image.each s) has)

  module _ (l : Layout) (log : LogValue) (v : VolumeValue) (a : IsAssembled l log v) where
    pub anchors_read : HasAnchorTwice log.anchor mid → HealsAnchors (state v) new
    anchors_read has = subst (λ (x : VolumeValue). HealsAnchors (state x) new) (sym a.is) (record {
      first = stands_read (anchor_bytes log.anchor) 8 has.0;
      second = stands_read (anchor_bytes log.anchor) 12 has.1;
      apart = omega (arith);
    })

    pub homes_read : ((page : ℕ) → page < l.pages → HasBothHomes l mid page) → HealsHomes (state v) new
    homes_read has = subst (λ (x : VolumeValue). HealsHomes (state x) new) (sym a.is) (λ page lt.
        let both = has page lt in
        ((both.0.0, stands_read both.0.0 (home_a l page) both.0.1), (both.1.0, stands_read both.1.0 (home_b l page) both.1.1)))
