-- The saved map, as a mount finds it.
use Rattle.std.proofs.Common.{◌≡◌, ⊎_elim, inl, inr, ℕ, Option, None, sym, ap, subst}
use Rattle.std.specs.Prelude.{IfSome}
use Rattle.volume_layout.specs.declared.layout.Layout.{Layout}
use Rattle.sector_disk.specs.declared.machine.Machine.{Ghosts}
use Rattle.sector_disk.specs.Calls.{OnlyReads}
use Rattle.sector_disk.specs.Image.{Windows, IsWorn, open_damage}
use Rattle.sector_disk.specs.Machine.{Moment, Wears}
use Rattle.sector_disk.proofs.Wear.{worn_trans}
use Rattle.fsd_sound.specs.Mounting.{device_of_mount}
use Rattle.fsd_sound.specs.Saved.{IsBelieved}
use Rattle.fsd_sound.specs.declared.fault.MountFault.{MountFault}
use Rattle.fsd_sound.proofs.HomedLaws.{if_more}
use Rattle.log_thirds.specs.LogValue.{LogValue}
use Rattle.saved_map.specs.declared.believing.MapFault.{MapFault}
use Rattle.saved_map.specs.declared.believing.MapFault.TheVariants as map
use Rattle.saved_map.specs.declared.believing.SavedMap.{SavedMap}
use Rattle.saved_map.specs.Reading.{Believes, device_of_map}
use Rattle.saved_map.proofs.ReadingLaws.{closed_was, map_was}
use Rattle.fsd_sound.specs.Saved.{SeesNone}
use Rattle.mount_recover.specs.Finding.{map_fault_of, IsBorneFound, IsNotFound}
use Rattle.mount_recover.specs.Recover.{IsNotUnsound}

-- ---- faults

pub map_told : (fault : MapFault) (told : MountFault) → told ≡ map_fault_of fault → device_of_mount told ≡ device_of_map fault
map_told (map.Device s) told is = ap device_of_mount is
map_told map.Memory told is = ap device_of_mount is

pub map_sound : (fault : MapFault) (told : MountFault) → told ≡ map_fault_of fault → IsNotUnsound told
map_sound (map.Device s) told is = subst IsNotUnsound (sym is) tt
map_sound map.Memory told is = subst IsNotUnsound (sym is) tt

pub map_refused : (sectors : ℕ) (old new : Moment) (fault : MapFault) (told : MountFault) → told ≡ map_fault_of fault → Wears old new → IsNotFound sectors told old
map_refused sectors old new (map.Device s) told is wears = subst (λ (f : MountFault). IsNotFound sectors f old) (sym is) (record { seen = new.image; from = wears.image; why = tt })
map_refused sectors old new map.Memory told is wears = subst (λ (f : MountFault). IsNotFound sectors f old) (sym is) (record { seen = new.image; from = wears.image; why = tt })

-- ---- what was found

-- it was, also where the map was read behind it
pub still_found : (sectors : ℕ) (l : Layout) (log : LogValue) (longest : ℕ) (old mid new : Moment) → Wears old mid → Wears mid new → IsBorneFound sectors l log longest old mid → IsBorneFound sectors l log longest old new
still_found sectors l log longest old mid new wears more found = record {
  is = record {
    seen = found.is.seen;
    from = found.is.from;
    to = worn_trans (open_damage old.windows) found.is.seen mid.image new.image found.is.to (subst (λ (w : Windows). IsWorn (open_damage w) mid.image new.image) wears.windows more.image);
    root = found.is.root;
    knows = found.is.knows;
  };
  bears = found.bears;
}

-- ---- what is believed

module _ {D : Type 0} (M : Ghosts D) (l : Layout) (epoch : ℕ) where
  -- what was whole behind some reads was so before them
  pub believed_before : (old mid new : D) → OnlyReads M None old mid → (M.honest new → M.honest mid) → (o : Option SavedMap) → IfSome o (Believes M l epoch mid new) → IfSome o (Believes M l epoch old new)
  believed_before old mid new reads back o = if_more o (Believes M l epoch mid new) (Believes M l epoch old new) (λ saved is. record {
    counts = is.counts;
    sectors = is.sectors;
    of = is.of;
    worth = is.worth;
    is = is.is;
    whole = λ h. map_was l _ (M.now old).image (M.now mid).image is.sectors (reads.worn (back h)).image (is.whole h);
    closed = λ h. ⊎_elim
        (λ first. inl (closed_was _ (M.now old).image (M.now mid).image epoch 8 (reads.worn (back h)).image first))
        (λ copy. inr (closed_was _ (M.now old).image (M.now mid).image epoch 12 (reads.worn (back h)).image copy)) (is.closed h);
  })

  -- an end that is honest had an honest machine before
  pub believed_later : (old mid new : D) → (M.honest new → M.honest mid) → (o : Option SavedMap) → IfSome o (Believes M l epoch old mid) → IfSome o (Believes M l epoch old new)
  believed_later old mid new back o = if_more o (Believes M l epoch old mid) (Believes M l epoch old new) (λ saved is. record {
    counts = is.counts;
    sectors = is.sectors;
    of = is.of;
    worth = is.worth;
    is = is.is;
    whole = λ h. is.whole (back h);
    closed = λ h. is.closed (back h);
  })

pub none_seen : (l : Layout) (epoch : ℕ) (old new : Moment) → Wears old new → (IsBelieved l epoch new.image → ⊥) → SeesNone l epoch old
none_seen l epoch old new wears none = record { seen = new.image; from = wears.image; none = none }
