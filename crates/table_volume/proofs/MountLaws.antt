-- What a mount answers.
use Rattle.std.proofs.Common.{◌≡◌, inl, inr, ℕ, ◌^◌, ◌<◌, ◌≤◌, false, not, ◌||◌, ◌&&◌, List, [], length, replicate, Some, None, refl, sym, ap, subst, ◌∙◌, arith}
use Rattle.std.specs.Prelude.{IfSome, ◌==◌}
use Rattle.std.proofs.Math.Bool.{or-false}
use Rattle.std.proofs.lemmas.List.{ext_get_or, get_or-replicate, length-replicate}
use Rattle.volume_layout.specs.declared.layout.Layout.{Layout}
use Rattle.volume_layout.specs.Layout.{data_start, most_of, IsPlanned}
use Rattle.run_table.specs.Space.{contains, runs_of}
use Rattle.sector_set.specs.Area.{Area}
use Rattle.sector_set.proofs.FreeLaws.{where_same}
use Rattle.shadow_frees.specs.Readers.{is_held, unheld}
use Rattle.shadow_frees.specs.Waits.{waits_in}
use Rattle.sector_disk.specs.declared.machine.Machine.{Ghosts}
use Rattle.sector_disk.specs.Image.{IsCalm, Windows}
use Rattle.sector_disk.specs.Machine.{Moment, Wears}
use Rattle.sector_disk.proofs.Calm.{calm_worn}
use Rattle.sector_disk.proofs.Damage.{lost_as}
use Rattle.fsd_files.specs.Disk.{Image}
use Rattle.fsd_sound.specs.Lost.{AreCopiesOn, AreHomes, LostIn}
use Rattle.fsd_sound.specs.Mounting.{EachBears, HasRoot}
use Rattle.fsd_sound.specs.Roots.{root_of}
use Rattle.fsd_sound.specs.declared.fault.MountFault.{MountFault}
use Rattle.fsd_sound.specs.declared.fault.MountFault.TheVariants.{Device, Lost, Memory, NoAnchor, NotVolume, Unsound, WornOut}
use Rattle.log_thirds.specs.LogValue.{LogValue}
use Rattle.mount_recover.specs.Recover.{IsNotUnsound, IsRefusedFor, IsSettled, IsSettledIn, LeavesAll}
use Rattle.table_survey.proofs.DataLaws.{of_data_own}
use Rattle.volume_contract.specs.Mount.{CountsMount, IsFound, IsRefused, KeepsAll, MountOpens}
use Rattle.volume_contract.specs.State.{IsNew}
use Rattle.table_volume.specs.Mounting.{IsAssembled, assembled, no_area, opened_of}
use Rattle.cached_table.specs.Opening.{IsOpenFault}
use Rattle.volume_laws.specs.State.{freed_sectors, state}
use Rattle.volume_laws.specs.Volume.{VolumeValue}
use Rattle.volume_laws.proofs.FreeLaws.{nothing}
use Rattle.table_volume.proofs.AssembleLaws.{none_of_area, none_wait}

-- ---- a new volume

module _ (l : Layout) (log : LogValue) (v : VolumeValue) (a : IsAssembled l log v) where
  w : VolumeValue
  w = assembled l log (opened_of v)

  slots : log.slots ≡ replicate l.pages None
  slots =
      let many : length log.slots ≡ l.pages = a.fits.table ∙ ap (λ (k : Layout). k.pages) a.fresh.layout in
      ext_get_or None log.slots (replicate l.pages None) (many ∙ sym (length-replicate l.pages None))
      (λ page lt. let within : page < l.pages = omega (arith, lt, many) in a.fresh.indexed.slots page lt ∙ sym (get_or-replicate l.pages page None None within))

  none_unheld : (unheld (replicate 8 None) (no_area l)).sectors ≡ []
  none_unheld =
      where_same (λ s. contains (no_area l).sectors s && not (is_held (replicate 8 None) s)) (λ s. false) (data_start l) (most_of l) (λ s from to. ap (λ (xs : List ℕ). contains xs s && not (is_held (replicate 8 None) s)) (none_of_area l))
      ∙ nothing (data_start l) (most_of l)

  freed : freed_sectors (assembled l log (opened_of v)) ≡ v.map.sectors
  freed =
      where_same (λ s. contains v.map.sectors s || contains (unheld (replicate 8 None) (no_area l)).sectors s) (contains v.map.sectors) v.map.from v.map.to
      (λ s from to. ap (λ (xs : List ℕ). contains v.map.sectors s || contains xs s) none_unheld ∙ or-false (contains v.map.sectors s))
      ∙ sym (ap (λ (m : Area). m.sectors) (of_data_own l v.map a.opened.map))

  new_state : IsNew (state (assembled l log (opened_of v)))
  new_state = record {
    anchor = a.fresh.anchor;
    head = a.fresh.head;
    slots = slots;
    count = refl;
    dirty = a.opened.dirty;
    waiting = where_same (waits_in (assembled l log (opened_of v)).shadow) (λ s. false) (data_start l) (most_of l) (λ s from to. none_wait l s) ∙ nothing (data_start l) (most_of l);
    waits = ap (λ (xs : List ℕ). not (length xs == 0)) (none_of_area l);
    unfinished = none_of_area l;
    readers = refl;
    freed = ap runs_of freed;
    up = refl;
  }

  pub is_new : IsNew (state v)
  is_new = subst (λ (x : VolumeValue). IsNew (state x)) (sym a.is) new_state

  same_layout : v.layout ≡ l
  same_layout = ap (λ (x : VolumeValue). x.layout) a.is

  pub opens_new : {D : Type 0} (M : Ghosts D) (sectors : ℕ) (old new : D) → l.sectors ≤ sectors → IsPlanned l → (M.tells new → CountsMount (state v) (M.ledger old) (M.ledger new)) → MountOpens M sectors (state v) old new
  opens_new M sectors old new room planned counted = record {
    room = subst (λ (k : Layout). k.sectors ≤ sectors) (sym same_layout) room;
    planned = subst (λ (k : Layout). IsPlanned k) (sym same_layout) planned;
    fresh = is_new;
    counted = counted;
  }

-- ---- what it found

module _ (sectors : ℕ) (l : Layout) (log : LogValue) (old mid new : Moment) (is : IsSettledIn sectors l log old mid) (wears : Wears mid new) (left : log.anchor.epoch < 2 ^ 32) where
  pub found_open : (v : VolumeValue) → IsAssembled l log v → IsFound sectors (state v) old new
  found_open v a = subst (λ (x : VolumeValue). IsFound sectors (state x) old new) (sym a.is) (record {
    seen = is.seen;
    from = is.from;
    anchor = is.settled.anchor;
    found = is.settled.found;
    left = omega (arith, is.settled.epoch, left);
    next = is.settled.epoch;
    bears = subst (λ (w : Windows). IfSome w.present (EachBears sectors is.seen)) (sym wears.windows) is.bears;
  })

-- ---- why it is refused

module _ (sectors : ℕ) (l : Layout) (log : LogValue) (old mid : Moment) (in_epoch : log.anchor.epoch < 2 ^ 32) (is : IsSettledIn sectors l log old mid) where
  pub refused_open : (fault : MountFault) → IsOpenFault fault → IsRefused sectors fault old
  refused_open (Device s) open_fault = record { seen = is.seen; from = is.from; why = tt }
  refused_open Memory open_fault = record { seen = is.seen; from = is.from; why = tt }
  refused_open (Lost a b) open_fault = record { seen = is.seen; from = is.from; why = record { layout = l; anchor = is.settled.anchor; found = is.settled.found; epoch = omega (arith, is.settled.epoch, in_epoch) } }
  refused_open (Unsound s) open_fault = record { seen = is.seen; from = is.from; why = record { layout = l; anchor = is.settled.anchor; found = is.settled.found; epoch = omega (arith, is.settled.epoch, in_epoch) } }
  refused_open other open_fault = absurd open_fault

-- what is refused before the pages are read at home
pub refused_early : (sectors : ℕ) (old : Moment) (fault : MountFault) → IsNotUnsound fault → IsRefusedFor sectors fault old → IsRefused sectors fault old
refused_early sectors old (Unsound s) none is = absurd none
refused_early sectors old (Device s) none is = record { seen = is.seen; from = is.from; why = is.why }
refused_early sectors old (Lost a b) none is = record { seen = is.seen; from = is.from; why = is.why }
refused_early sectors old Memory none is = record { seen = is.seen; from = is.from; why = is.why }
refused_early sectors old NotVolume none is = record { seen = is.seen; from = is.from; why = is.why }
refused_early sectors old NoAnchor none is = record { seen = is.seen; from = is.from; why = is.why }
refused_early sectors old WornOut none is = record { seen = is.seen; from = is.from; why = is.why }

pub keeps_early : (old new : Moment) (fault : MountFault) → LeavesAll fault old new → KeepsAll fault old new
keeps_early old new NotVolume leaves = leaves
keeps_early old new NoAnchor leaves = leaves
keeps_early old new WornOut leaves = leaves
keeps_early old new other leaves = tt

-- once they are, nothing is left to be kept
pub keeps_open : (old new : Moment) (fault : MountFault) → IsOpenFault fault → KeepsAll fault old new
keeps_open old new NotVolume open_fault = absurd open_fault
keeps_open old new NoAnchor open_fault = absurd open_fault
keeps_open old new WornOut open_fault = absurd open_fault
keeps_open old new other open_fault = tt

-- where nothing wears, what was seen is the image
pub settled_in : (sectors : ℕ) (l : Layout) (log : LogValue) (old mid : Moment) → IsCalm old.windows → IsSettledIn sectors l log old mid → IsSettled sectors old.image l log
settled_in sectors l log old mid calm is = subst (λ (i : Image). IsSettled sectors i l log) (calm_worn old.windows old.image is.seen calm is.from) is.settled

-- ---- what it loses

module _ (sectors : ℕ) (l : Layout) (log : LogValue) (old mid : Moment) (image : Image) (root : HasRoot sectors old.image l) (is : IsSettledIn sectors l log old mid) where
  calm_root : IsCalm old.windows → root_of sectors old.image ≡ Some l
  calm_root calm = (settled_in sectors l log old mid calm is).found.root

  pub home_lost : (fault : MountFault) → LostIn (AreHomes l) image fault → LostIn (AreCopiesOn sectors old) image fault
  home_lost (Lost a b) lost = lost_as (AreHomes l) a b (AreCopiesOn sectors old) image (λ homes. inr (inl (record { layout = l; root = root; homes = homes; calm = calm_root }))) lost
  home_lost other lost = tt
