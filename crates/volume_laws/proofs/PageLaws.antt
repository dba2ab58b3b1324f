-- What a volume that stands over a disk reads there.
use Rattle.std.proofs.Common.{◌≡◌, ⊎_elim, ℕ, ◌<◌, ◌≤◌, List, length, Option, Some, None, refl, sym, ap, subst, ◌∙◌, arith}
use Rattle.std.specs.Option.{option_or}
use Rattle.volume_layout.specs.declared.layout.Layout.{Layout}
use Rattle.fsd_formats.specs.declared.anchor.Anchor.{Anchor}
use Rattle.fsd_formats.specs.Record.{bears}
use Rattle.sector_disk.specs.declared.sector.Sector.TheVariants.{Damaged}
use Rattle.sector_disk.specs.Image.{sector_at}
use Rattle.sector_disk.specs.Machine.{Moment}
use Rattle.page_cache.specs.Cache.{IsCache, cached_bytes, newest_bytes}
use Rattle.fsd_log.specs.Plain.{either_copy as either_good}
use Rattle.fsd_log.specs.Scan.{Head}
use Rattle.fsd_files.specs.Disk.{bytes_of as sector_bytes, first_whole}
use Rattle.fsd_sound.specs.Homes.{AreHomesOf, home_of}
use Rattle.fsd_sound.specs.Mounted.{StandsOver, image_at}
use Rattle.fsd_sound.specs.Shown.{records_by}
use Rattle.log_thirds.specs.Append.{IsIndexed}
use Rattle.log_thirds.specs.Disk.{reads}
use Rattle.log_thirds.specs.Images.{AreLogged, IsUnlogged}
use Rattle.log_thirds.proofs.ImageLaws.{image_there, no_last_image}
use Rattle.group_commit.specs.Newest.{AreCopiesIn, newest_by}
use Rattle.group_commit.proofs.NewestLaws.{in_layout}
use Rattle.group_commit.proofs.StandsLaws.{page_newest, page_in_memory}
use Rattle.volume_contract.specs.State.{Known, Stands}
use Rattle.volume_laws.specs.State.{IsMemoryOf, state}
use Rattle.volume_laws.specs.Volume.{IsWholeVolume, VolumeValue}
use Rattle.cached_table.proofs.ResidentLaws.{clean_absent}

-- ---- over the disk

module _ (v : VolumeValue) (k : Known) (now : Moment) (whole : IsWholeVolume v) (stands : Stands state IsMemoryOf v k now) where
  same_layout : k.mounted.volume.layout ≡ v.log.layout
  same_layout = stands.fits.layout ∙ sym whole.log

  -- what it stands over, by its own log
  pub over : StandsOver v.log.layout v.log.anchor v.log.head stands.disk.records stands.disk.disk k.mounted.pages v.cache.dirty k.windows now.image
  over =
      subst (λ (l : Layout). StandsOver l v.log.anchor v.log.head stands.disk.records stands.disk.disk k.mounted.pages v.cache.dirty k.windows now.image) same_layout
      (subst (λ (a : Anchor). StandsOver k.mounted.volume.layout a v.log.head stands.disk.records stands.disk.disk k.mounted.pages v.cache.dirty k.windows now.image) stands.fits.anchor
      (subst (λ (h : Head). StandsOver k.mounted.volume.layout k.mounted.anchor h stands.disk.records stands.disk.disk k.mounted.pages v.cache.dirty k.windows now.image) stands.fits.head
      (subst (λ (dirty : List ℕ). StandsOver k.mounted.volume.layout k.mounted.anchor k.mounted.head stands.disk.records stands.disk.disk k.mounted.pages dirty k.windows now.image) stands.fits.dirty stands.disk.over)))

  pub indexed : IsIndexed v.log (records_by v.log.layout now.image v.log.anchor)
  indexed = subst (λ (l : Layout). IsIndexed v.log (records_by l now.image v.log.anchor)) same_layout (subst (λ (a : Anchor). IsIndexed v.log (records_by k.mounted.volume.layout now.image a)) stands.fits.anchor stands.holds.indexed)

  module _ (page : ℕ) (within : page < v.layout.pages) where
    in_log_layout : page < v.log.layout.pages
    in_log_layout = omega (arith, within, ap (λ (l : Layout). l.pages) whole.log)

    -- what stands on the disk
    on_disk : newest_by v.log now.image page ≡ Some (image_at stands.disk.disk page)
    on_disk = in_layout v.log page in_log_layout now.image ∙ page_newest v.log.layout v.log.anchor v.log.head stands.disk.records stands.disk.disk k.mounted.pages v.cache.dirty k.windows now.image over page in_log_layout

    -- what is read of the page
    pub page_read : IsCache v.cache → newest_bytes v.cache (newest_by v.log now.image) page ≡ Some (image_at k.mounted.pages page)
    page_read cache = by (cached_bytes v.cache page) refl
      where
        by : (o : Option (List ℕ)) → cached_bytes v.cache page ≡ o → option_or o (newest_by v.log now.image page) ≡ Some (image_at k.mounted.pages page)
        by None none = in_layout v.log page in_log_layout now.image ∙ page_in_memory v.log.layout v.log.anchor v.log.head stands.disk.records stands.disk.disk k.mounted.pages v.cache.dirty k.windows now.image over page in_log_layout (clean_absent v.cache cache page none)
        by (Some bytes) there = ap (λ (x : List ℕ). Some x) (sym (stands.holds.pages page bytes there))

    module _ (a b : ℕ) (first : sector_at now.image a ≡ Damaged) (second : sector_at now.image b ≡ Damaged) where
      homes_not_lost : IsUnlogged v.log page → AreHomesOf v.log.layout page a b → ⊥
      homes_not_lost none homes =
          let inside : page < length v.log.slots = omega (arith, in_log_layout, stands.holds.fits.table) in
          let at_home : newest_by v.log now.image page ≡ home_of v.log.layout now.image page = in_layout v.log page in_log_layout now.image ∙ ap (λ (o : Option (List ℕ)). option_or o (home_of v.log.layout now.image page)) (no_last_image v.log.layout v.log.anchor.third page (records_by v.log.layout now.image v.log.anchor) (sym (indexed.slots page inside) ∙ none)) in
          let gone : home_of v.log.layout now.image page ≡ None =
          λ i. first_whole (sector_bytes ((ap (sector_at now.image) (sym homes.first) ∙ first) i)) (sector_bytes ((ap (sector_at now.image) (sym homes.second) ∙ second) i)) in
          absurd (cc (on_disk, at_home, gone))

      logged_not_lost : AreLogged v.log page a b → ⊥
      logged_not_lost logged =
          let inside : page < length v.log.slots = omega (arith, in_log_layout, stands.holds.fits.table) in
          let third : v.log.anchor.third ≤ 2 = stands.holds.fits.third in
          let gives = image_there v.log (records_by v.log.layout now.image v.log.anchor) now page third indexed inside (record { place = a; copy = b; number = logged.lies.number }) refl logged.lies.is in
          let gone : either_good (bears page (record { epoch = v.log.anchor.epoch; number = logged.lies.number })) (reads now.image a) (reads now.image b) ≡ None =
          λ i. either_good (bears page (record { epoch = v.log.anchor.epoch; number = logged.lies.number })) (sector_bytes (first i)) (sector_bytes (second i)) in
          absurd (cc (gives.read, gone))

      pub never_lost : AreCopiesIn v.log page a b → ⊥
      never_lost copies = ⊎_elim logged_not_lost (λ home. homes_not_lost home.0 home.1) copies
