-- A mount where nothing wears.
use Rattle.std.proofs.Common.{◌≡◌, inl, inr, ℕ, ◌-◌, ◌<◌, List, [], length, map, Option, Some, None, refl, Result, Ok, Err, sym, ap, subst, ◌∙◌, arith}
use Rattle.std.specs.Prelude.{IfOk, IfSome, IsErrAnd, option_and_then}
use Rattle.std.specs.Option.{unwrap_or}
use Rattle.std.proofs.lemmas.List.{length-map}
use Rattle.sector_disk.proofs.Wear.{worn_refl}
use Rattle.fsd_formats.specs.declared.entry.Entry.{Entry}
use Rattle.fsd_table.specs.Breaks.{Breaks}
use Rattle.volume_layout.specs.declared.layout.Layout.{Layout}
use Rattle.volume_layout.specs.Layout.{IsPlanned}
use Rattle.sector_disk.specs.declared.machine.Machine.{Ghosts}
use Rattle.sector_disk.specs.Image.{IsCalm, open_damage}
use Rattle.sector_disk.specs.Machine.{Moment}
use Rattle.fsd_files.specs.Disk.{Image}
use Rattle.fsd_files.specs.Files.{Files}
use Rattle.fsd_sound.specs.Homes.{home_of}
use Rattle.fsd_sound.specs.Lost.{LosesShown}
use Rattle.fsd_sound.specs.Shown.{all_pages, newest, records_by, shown_by}
use Rattle.fsd_sound.proofs.EachLaws.{all_in_range, each_of_all}
use Rattle.fsd_sound.specs.declared.fault.MountFault.{MountFault}
use Rattle.fsd_sound.specs.declared.fault.MountFault.TheVariants.{Device, Lost, Memory, Unsound}
use Rattle.log_thirds.specs.LogValue.{LogValue}
use Rattle.mount_recover.specs.Lost.{StandAsShown}
use Rattle.mount_recover.specs.Recover.{IsNotUnsound, IsSettled}
use Rattle.table_pages.specs.Kept.{images_given}
use Rattle.saved_map.specs.declared.believing.SavedMap.{SavedMap}
use Rattle.saved_map.specs.Reading.{Believes}
use Rattle.volume_contract.specs.Mount.{BelievesNone, MountsCalm, MountsShown, ShowsVolumePages}
use Rattle.cached_table.specs.HomeLaws.{in_homes}
use Rattle.cached_table.specs.Homes.{KnowsHomes, home_by}
use Rattle.table_volume.specs.Mounting.{IsAssembled, OpensKnown, OpensSaved, fresh_mounted, opened_of}
use Rattle.cached_table.specs.Opening.{IsNoTable, IsTableOf, home_pages}
use Rattle.volume_laws.specs.State.{IsMemoryOf, resident, state}
use Rattle.volume_laws.specs.Volume.{VolumeValue}
use Rattle.table_volume.proofs.BelievedLaws.{mounts_saved}
use Rattle.table_volume.proofs.FreshLaws.{fresh_fits, fresh_holds}
use Rattle.volume_laws.proofs.ListLaws.{lists_of}

-- ---- the pages at home are those that the image shows

module _ (sectors : ℕ) (l : Layout) (log : LogValue) (i : Image) (at : Moment) (is : IsSettled sectors i l log) (stand : StandAsShown l is.anchor i at.image) where
  module _ (knows : KnowsHomes l at) (calm : IsCalm at.windows) where
    at_home : (page : ℕ) → page < l.pages → newest l i (records_by l i is.anchor) page ≡ Some (unwrap_or (home_by l at.image page) [])
    at_home page lt =
        let k = knows page lt in
        let there : home_of l at.image page ≡ Some k.bytes = k.stays at.image (worn_refl (open_damage at.windows) at.image) in
        sym (stand page lt) ∙ there ∙ ap (λ (o : Option (List ℕ)). Some (unwrap_or o [])) (sym (in_homes l at.image page lt ∙ there))

    shown_pages : shown_by l i is.anchor ≡ Some (home_pages l at.image)
    unfolding images_given
    shown_pages = each_of_all (newest l i (records_by l i is.anchor)) (λ page. unwrap_or (home_by l at.image page) []) (all_pages l)
        (all_in_range (λ page. newest l i (records_by l i is.anchor) page ≡ Some (unwrap_or (home_by l at.image page) [])) 0 l.pages (λ page from lt. at_home page (omega (arith, lt))))

    pub shows : ShowsVolumePages sectors i l (home_pages l at.image)
    shows = record { anchor = is.anchor; found = is.found; shows = ap (option_and_then (shown_by l i)) is.found.anchor ∙ shown_pages }

    no_table_shown : BelievesNone sectors i → (fault : MountFault) → IsNoTable l (home_pages l at.image) fault → MountsCalm state resident IsMemoryOf sectors i (Err fault)
    no_table_shown none (Unsound s) fails = ((l, home_pages l at.image, shows, fails), none)
    no_table_shown none (Device s) fails = tt
    no_table_shown none Memory fails = tt
    no_table_shown none other fails = absurd fails

    module _ (planned : IsPlanned l) where
      table_shown : (v : VolumeValue) → IsAssembled l log v → IsTableOf l (home_pages l at.image) (opened_of v) → MountsShown state resident IsMemoryOf sectors i v
      table_shown v a t =
          let pages = home_pages l at.image in
          let files : Files = map (λ (e : Entry). (e.key, record { bytes = []; keep = 0 })) t.telling.entries in
          let count : length files ≡ length t.telling.entries = length-map t.telling.entries (λ (e : Entry). (e.key, record { bytes = []; keep = 0 })) in
          let same : l ≡ (state v).layout = ap (λ (x : VolumeValue). x.layout) (sym a.is) in
          record {
            mounted = fresh_mounted l log pages t.telling files;
            shows = subst (λ (k : Layout). ShowsVolumePages sectors i k pages) same shows;
            holds = fresh_holds l planned log v a pages t files count;
            fits = fresh_fits l planned log v a pages t files count;
            lists = lists_of v (fresh_mounted l log pages t.telling files) [] (fresh_holds l planned log v a pages t files count);
            told = t.told;
            whole = subst (λ (k : Layout). (page : ℕ) → Breaks k pages page → ⊥) same t.whole;
          }

-- ---- by its pages, or by its saved map

module _ (sectors : ℕ) (l : Layout) (planned : IsPlanned l) (log : LogValue) where
  module _ (i : Image) (at : Moment) (is : IsSettled sectors i l log) (stand : StandAsShown l is.anchor i at.image) (calm : IsCalm at.windows) where
    pub mounts_walked : BelievesNone sectors i → (r : Result VolumeValue MountFault) → IfOk r (IsAssembled l log) → KnowsHomes l at → OpensKnown l at r → MountsCalm state resident IsMemoryOf sectors i r
    mounts_walked none (Ok v) a knows opens = inr (table_shown sectors l log i at is stand knows calm planned v a opens, none)
    mounts_walked none (Err fault) a knows opens = no_table_shown sectors l log i at is stand knows calm none fault opens

  module _ {D : Type 0} (M : Ghosts D) (old new : D) (honest : M.honest new) (is : IsSettled sectors (M.now old).image l log) where
    pub mounts_believed : (saved : SavedMap) → Believes M l (log.anchor.epoch - 1) old new saved → (r : Result VolumeValue MountFault) → IfOk r (IsAssembled l log) → OpensSaved saved r → MountsCalm state resident IsMemoryOf sectors (M.now old).image r
    mounts_believed saved b (Ok v) a opened = inl (mounts_saved M l (log.anchor.epoch - 1) old new saved b honest planned log v a opened sectors is refl)
    mounts_believed saved b (Err fault) a memory = subst (λ (f : MountFault). MountsCalm state resident IsMemoryOf sectors (M.now old).image (Err f)) (sym memory) tt

    pub mounts_calm : (saved : Option SavedMap) → IfSome saved (Believes M l (log.anchor.epoch - 1) old new) → (r : Result VolumeValue MountFault) → IfOk r (IsAssembled l log) → IfSome saved (λ x. OpensSaved x r)
        → (saved ≡ None → MountsCalm state resident IsMemoryOf sectors (M.now old).image r) → MountsCalm state resident IsMemoryOf sectors (M.now old).image r
    mounts_calm (Some saved) b r a opened walked = mounts_believed saved b r a opened
    mounts_calm None b r a opened walked = walked refl

-- ---- what fails before

pub fails_calm : (sectors : ℕ) (i : Image) (fault : MountFault) → IsNotUnsound fault → LosesShown sectors i fault → MountsCalm state resident IsMemoryOf sectors i (Err fault)
fails_calm sectors i (Unsound s) sound loses = absurd sound
fails_calm sectors i (Lost a b) sound loses = loses
fails_calm sectors i other sound loses = tt

pub calm_handed : (sectors : ℕ) (i : Image) (r : Result VolumeValue MountFault) (fault : MountFault) → IsErrAnd r (λ told. told ≡ fault) → MountsCalm state resident IsMemoryOf sectors i (Err fault) → MountsCalm state resident IsMemoryOf sectors i r
calm_handed sectors i (Ok v) fault is fails = absurd is
calm_handed sectors i (Err told) fault is fails = subst (λ (f : MountFault). MountsCalm state resident IsMemoryOf sectors i (Err f)) (sym is) fails
