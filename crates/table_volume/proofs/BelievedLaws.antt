-- A saved map that is believed: what a mount says by it, and what the pages tell.
use Rattle.std.proofs.Common.{◌≡◌, ◌⊎◌, inl, inr, ℕ, ◌-◌, ◌<◌, Bool, false, List, length, Option, Some, None, Ok, Err, refl, sym, ap, subst, ◌∙◌, arith}
use Rattle.std.specs.Prelude.{IfErr, IfOk, IfSome, Result, slice_index_or}
use Rattle.std.proofs.lemmas.Option.{same_Some}
use Rattle.volume_layout.specs.declared.layout.Layout.{Layout}
use Rattle.volume_layout.specs.Layout.{data_start, home_a, IsPlanned}
use Rattle.run_table.specs.Space.{runs_of, where_free}
use Rattle.sector_set.specs.Area.{Area}
use Rattle.sector_set.proofs.FreeLaws.{where_same}
use Rattle.sector_disk.specs.declared.machine.Machine.{Ghosts}
use Rattle.sector_disk.specs.Image.{IsCalm}
use Rattle.sector_disk.specs.Machine.{Moment}
use Rattle.sector_disk.proofs.Calm.{calm_worn}
use Rattle.fsd_formats.specs.declared.anchor.Anchor.{Anchor}
use Rattle.fsd_formats.specs.SavedMap.{IsMapOf, MapCounts, is_set_in}
use Rattle.fsd_files.specs.Disk.{Image}
use Rattle.fsd_sound.specs.Saved.{AreSaved, IsBelieved, IsClosedAt, SavesPages, SeesNone, map_of}
use Rattle.fsd_sound.specs.declared.fault.MountFault.{MountFault}
use Rattle.fsd_sound.specs.declared.fault.MountFault.TheVariants.{Memory}
use Rattle.log_thirds.specs.LogValue.{LogValue}
use Rattle.mount_recover.specs.Recover.{IsSettled}
use Rattle.saved_map.specs.declared.believing.SavedMap.{SavedMap}
use Rattle.saved_map.specs.Reading.{Believes, IsSavedMap}
use Rattle.table_survey.proofs.DataLaws.{data_sectors}
use Rattle.page_cache.specs.Cache.{cached_bytes}
use Rattle.cached_table.specs.declared.opening.Opened.{Opened}
use Rattle.cached_table.specs.Opening.{opened_by}
use Rattle.volume_contract.specs.Mount.{BelievesNone, IsByMap, IsByMapSeen, MountsSaved}
use Rattle.volume_laws.specs.State.{resident, state}
use Rattle.volume_laws.specs.Volume.{VolumeValue}
use Rattle.table_volume.specs.Mounting.{IsAssembled, OpensSaved, assembled, opened_of}

-- ---- lists of pages

-- the pages whose flag is set, where the flags agree with a test
flagged : (flags : List Bool) (n : ℕ) (f : ℕ → Bool) → length flags ≡ n → ((page : ℕ) → page < n → slice_index_or flags page false ≡ f page)
    → where_free (λ page. slice_index_or flags page false) 0 (length flags) ≡ where_free f 0 n
flagged flags n f many each =
    ap (λ (k : ℕ). where_free (λ page. slice_index_or flags page false) 0 k) many
    ∙ where_same (λ page. slice_index_or flags page false) f 0 n (λ page from lt. each page lt)

-- ---- a map that is believed

module _ {D : Type 0} (M : Ghosts D) (l : Layout) (epoch : ℕ) (old new : D) (saved : SavedMap) (b : Believes M l epoch old new saved) where
  pub saved_is : IsSavedMap l saved
  saved_is = record { counts = b.counts; sectors = b.sectors; is = b.is }

  module _ (honest : M.honest new) where
    abbrev seen : Image
    seen = (M.now old).image

    -- the image has it
    is_believed : (e : ℕ) → epoch ≡ e → IsBelieved l e seen
    is_believed e same = record {
      closed = subst (λ (n : ℕ). IsClosedAt n seen 8 ⊎ IsClosedAt n seen 12) same (b.closed honest);
      sectors = b.sectors;
      whole = b.whole honest;
      counts = b.counts;
      is = subst (λ (n : ℕ). IsMapOf l n b.counts b.sectors) same b.of;
      worth = b.worth;
    }

    -- a map of the anchor's epoch says what the pages tell
    abbrev Says : (pages : List (List ℕ)) → Anchor → Type 0
    Says pages a = (sectors : List (List ℕ)) (counts : MapCounts) → map_of l seen ≡ Some sectors → IsMapOf l a.epoch counts sectors → AreSaved l counts sectors pages

    -- what it says is told by the pages that the image may show
    pub are_saved : (pages : List (List ℕ)) → SavesPages l seen pages → AreSaved l b.counts b.sectors pages
    are_saved pages saves = by (b.closed honest)
      where
        at : (a : Anchor) → a.epoch ≡ epoch → Says pages a → AreSaved l b.counts b.sectors pages
        at a same says = says b.sectors b.counts (b.whole honest) (subst (λ (n : ℕ). IsMapOf l n b.counts b.sectors) (sym same) b.of)

        by : IsClosedAt epoch seen 8 ⊎ IsClosedAt epoch seen 12 → AreSaved l b.counts b.sectors pages
        by (inl first) = at first.0 first.2 (subst (λ (o : Option Anchor). IfSome o (Says pages)) first.1 saves.0)
        by (inr second) = at second.0 second.2 (subst (λ (o : Option Anchor). IfSome o (Says pages)) second.1 saves.1)

    -- ---- the volume that is mounted by it

    module _ (planned : IsPlanned l) (log : LogValue) (v : VolumeValue) (a : IsAssembled l log v) (opened : opened_of v ≡ opened_by saved) where
      flags_are : v.free_pages ≡ saved.free_pages.items
      flags_are = ap (λ (o : Opened). o.free_pages) opened

      flag_at : (page : ℕ) → page < l.pages → slice_index_or v.free_pages page false ≡ is_set_in b.sectors (home_a l page)
      flag_at page lt = ap (λ (xs : List Bool). slice_index_or xs page false) flags_are ∙ b.is.flags page lt

      free_are : v.map.sectors ≡ where_free (is_set_in b.sectors) (data_start l) l.sectors
      free_are = ap (λ (o : Opened). o.map.sectors) opened ∙ ap (λ (m : Area). m.sectors) b.is.map ∙ data_sectors l planned (is_set_in b.sectors)

      by_map : (e : ℕ) → epoch ≡ e → IsByMap e seen (state (assembled l log (opened_of v)))
      unfolding is_believed
      by_map e same = record {
        believed = is_believed e same;
        free = ap runs_of free_are;
        spare = flagged v.free_pages l.pages (λ page. is_set_in b.sectors (home_a l page)) (ap (λ (xs : List Bool). length xs) flags_are ∙ b.is.pages) flag_at;
        versions = ap (λ (o : Opened). o.versions) opened ∙ b.is.versions;
      }

      -- it tells so, also where sectors wear
      pub by_map_seen : epoch ≡ log.anchor.epoch - 1 → IsByMapSeen (state v) (M.now old)
      by_map_seen before = subst (λ (x : VolumeValue). IsByMapSeen (state x) (M.now old)) (sym a.is) (inl (by_map (log.anchor.epoch - 1) before))

      pub mounts_saved : (sectors : ℕ) (is : IsSettled sectors seen l log) → epoch ≡ log.anchor.epoch - 1 → MountsSaved (resident v) sectors seen (state v)
      mounts_saved sectors is before = subst (λ (x : VolumeValue). MountsSaved (resident x) sectors seen (state x)) (sym a.is) (record {
        anchor = is.anchor;
        found = is.found;
        by = by_map is.anchor.epoch (omega (arith, before, is.epoch));
        unread = λ page. ap (λ (o : Opened). cached_bytes o.cache page) opened;
      })

-- with what is opened by a map the volume is made, or memory is refused
pub opens_saved : (saved : SavedMap) (o : Opened) → o ≡ opened_by saved → (r : Result VolumeValue MountFault) → IfOk r (λ v. opened_of v ≡ o) → IfErr r (λ fault. fault ≡ Memory) → OpensSaved saved r
opens_saved saved o by (Ok v) is memory = is ∙ by
opens_saved saved o by (Err fault) is memory = memory

-- ---- by a map, or none was seen

-- a volume that is mounted tells which of the two
pub map_seen : {D : Type 0} (M : Ghosts D) (l : Layout) (planned : IsPlanned l) (log : LogValue) (old mid : D) → M.honest mid → (saved : Option SavedMap) → IfSome saved (Believes M l (log.anchor.epoch - 1) old mid)
    → (saved ≡ None → SeesNone l (log.anchor.epoch - 1) (M.now old)) → (r : Result VolumeValue MountFault) → IfOk r (IsAssembled l log) → IfSome saved (λ x. OpensSaved x r) → IfOk r (λ v. IsByMapSeen (state v) (M.now old))
map_seen M l planned log old mid honest (Some saved) b none (Ok v) a opened = by_map_seen M l (log.anchor.epoch - 1) old mid saved b honest planned log v a opened refl
map_seen M l planned log old mid honest None b none (Ok v) a opened = subst (λ (x : VolumeValue). IsByMapSeen (state x) (M.now old)) (sym a.is) (inr (none refl))
map_seen M l planned log old mid honest saved b none (Err fault) a opened = tt

-- ---- where none is believed

-- where nothing wears, what was seen is the image
pub none_believed : (sectors : ℕ) (l : Layout) (log : LogValue) (old : Moment) → IsCalm old.windows → IsSettled sectors old.image l log → SeesNone l (log.anchor.epoch - 1) old → BelievesNone sectors old.image
none_believed sectors l log old calm is none k a found believed =
    let same_layout : k ≡ l = same_Some k l (sym found.root ∙ is.found.root) in
    let same_anchor : a ≡ is.anchor = same_Some a is.anchor (sym found.anchor ∙ is.found.anchor) in
    let same_epoch : a.epoch ≡ log.anchor.epoch - 1 = ap (λ (x : Anchor). x.epoch) same_anchor ∙ (let e : is.anchor.epoch ≡ log.anchor.epoch - 1 = omega (arith, is.epoch) in e) in
    let here : IsBelieved l (log.anchor.epoch - 1) old.image = subst (λ (n : ℕ). IsBelieved l n old.image) same_epoch (subst (λ (x : Layout). IsBelieved x a.epoch old.image) same_layout believed) in
    none.none (subst (IsBelieved l (log.anchor.epoch - 1)) (sym (calm_worn old.windows old.image none.seen calm none.from)) here)
