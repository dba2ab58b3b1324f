-- What a page's slot in the log gives while pages are mended.
use Rattle.std.proofs.Common.{◌≡◌, ◌⊎◌, inl, inr, ℕ, ◌+◌, ◌*◌, ◌<◌, List, [], ◌∷◌, Option, Some, None, refl, sym, ap, subst, ◌∙◌}
use Rattle.std.specs.List.{AllByRecursion}
use Rattle.std.specs.Prelude.{slice_index_or}
use Rattle.fsd_log.specs.declared.slot.Slot.{Slot}
use Rattle.volume_layout.specs.declared.layout.Layout.{Layout}
use Rattle.volume_layout.specs.Kinds.{gap_of}
use Rattle.sector_disk.specs.declared.machine.LoadFault.{LoadFault}
use Rattle.sector_disk.specs.declared.machine.LoadFault.TheVariants as load
use Rattle.sector_disk.specs.declared.sector.Sector.{Sector}
use Rattle.sector_disk.specs.declared.sector.Sector.TheVariants.{Whole, Damaged}
use Rattle.sector_disk.specs.declared.sector.WeakRun.{WeakRun}
use Rattle.sector_disk.specs.Damage.{LostCause, IsDevice}
use Rattle.sector_disk.specs.Image.{sector_at}
use Rattle.sector_disk.specs.Machine.{Moment, Wears}
use Rattle.sector_disk.proofs.Holding.{holds_wears}
use Rattle.sector_disk.proofs.Wear.{worn_twice}
use Rattle.fsd_formats.specs.declared.anchor.Anchor.{Anchor}
use Rattle.fsd_log.specs.Images.{last_image}
use Rattle.fsd_log.specs.Scan.{Placed}
use Rattle.fsd_files.specs.Disk.{Image, Sectors, SectorWorn, Has}
use Rattle.fsd_sound.specs.Shown.{records_by}
use Rattle.fsd_sound.specs.Sound.{weak_of}
use Rattle.fsd_sound.specs.Laid.{AllLaid, StandsTwice}
use Rattle.fsd_sound.proofs.LogPlaces.{IsRecord, scan_records}
use Rattle.fsd_sound.proofs.SectorFacts.{has_bytes, has_weak}
use Rattle.fsd_sound.proofs.TwiceLaws.{image_stands}
use Rattle.fsd_files.proofs.KeptLaws.{has_on}
use Rattle.log_thirds.specs.Append.{IsIndexed}
use Rattle.log_thirds.specs.Images.{AreLogged, StandsInSlot}
use Rattle.fsd_log.specs.Slots.{LiesAt, last_slot}
use Rattle.log_thirds.specs.LogValue.{LogValue}
use Rattle.log_thirds.proofs.ImageLaws.{logged_by}
use Rattle.log_thirds.proofs.GivesLaws.{EachImage, Gives, slot_gives as slot_gives_at}
use Rattle.mount_recover.specs.Mending.{IsCompleted, IsMending}
use Rattle.mount_recover.proofs.GivenLaws.{slot_inside}
use Rattle.mount_recover.proofs.MendingLaws.{weaker}

-- ---- a record that was laid whole

each_image : (l : Layout) (a : Anchor) (weak : Sectors) (i : Image) (rs : List Placed) → AllByRecursion (IsRecord l a.third) rs → AllLaid l a weak i rs → AllByRecursion (EachImage l a.third (StandsTwice (gap_of l) weak i)) rs
each_image l a weak i [] are laid = tt
each_image l a weak i (r ∷ rs) are laid = (record { many = are.0.images; each = image_stands l a weak i r are.0 laid.0.0 laid.0.1 }, each_image l a weak i rs are.1 laid.1)

-- ---- a page's slot

module _ (l : Layout) (windows : List WeakRun) (choices : List (List (List ℕ))) (log : LogValue) (first : Moment) (c : IsCompleted l windows choices log first) (same : log.layout ≡ l) (n : ℕ) (lt : n < l.pages) (end many : ℕ) (now : Moment) (at : IsMending l windows choices log first c end many now) where
  abbrev records : List Placed
  records = records_by l c.clean log.anchor

  indexed : IsIndexed log (records_by l c.clean log.anchor)
  indexed = c.slots

  log_worn : (left : Moment) → Wears now left → (s : ℕ) → s < 16 + 3 * l.third → SectorWorn (weak_of windows s) (sector_at c.clean s) (sector_at left.image s)
  log_worn left wears s inside =
      let later = holds_wears first at.image now left at.holds wears in
      worn_twice (weak_of windows s) (sector_at c.clean s) (sector_at at.image s) (sector_at left.image s)
      (subst (λ (x : Sector). SectorWorn (weak_of windows s) (sector_at c.clean s) x) (sym (at.front s inside)) (c.worn.each s))
      ((weaker l windows choices log first c at.image left.image later.worn).each s)

  module _ (a b : ℕ) (lies : LiesAt (slice_index_or log.slots n None) a b) where
    found : last_slot l log.anchor.third n (records_by l c.clean log.anchor) ≡ Some (record { place = a; copy = b; number = (logged_by log (records_by l c.clean log.anchor) n a b indexed lies).number })
    found = subst (λ (k : Layout). last_slot k log.anchor.third n (records_by l c.clean log.anchor) ≡ Some (record { place = a; copy = b; number = (logged_by log (records_by l c.clean log.anchor) n a b indexed lies).number })) same
        (logged_by log (records_by l c.clean log.anchor) n a b indexed lies).is

    gives : Gives l log.anchor.third (StandsTwice (gap_of l) (weak_of windows) c.clean) n (records_by l c.clean log.anchor) (record { place = a; copy = b; number = (logged_by log (records_by l c.clean log.anchor) n a b indexed lies).number })
    gives = slot_gives_at l log.anchor.third (StandsTwice (gap_of l) (weak_of windows) c.clean) n (records_by l c.clean log.anchor) (record { place = a; copy = b; number = (logged_by log (records_by l c.clean log.anchor) n a b indexed lies).number })
        (each_image l log.anchor (weak_of windows) c.clean (records_by l c.clean log.anchor) (scan_records l c.clean log.anchor c.low) c.laid) found

    inside : (a < 16 + 3 * l.third) × (b < 16 + 3 * l.third)
    inside = slot_inside l log.anchor.third n (records_by l c.clean log.anchor) (record { place = a; copy = b; number = (logged_by log (records_by l c.clean log.anchor) n a b indexed lies).number }) (scan_records l c.clean log.anchor c.low) found

    module _ (left : Moment) (wears : Wears now left) where
      has_a : Has (weak_of windows) left.image gives.bytes a
      has_a = has_on (weak_of windows) c.clean left.image gives.bytes a (log_worn left wears a inside.0) gives.is.first

      has_b : Has (weak_of windows) left.image gives.bytes b
      has_b = has_on (weak_of windows) c.clean left.image gives.bytes b (log_worn left wears b inside.1) gives.is.second

      slot_bytes : (bytes : List ℕ) → (sector_at left.image a ≡ Whole bytes) ⊎ (sector_at left.image b ≡ Whole bytes) → last_image n (records_by l c.clean log.anchor) ≡ Some bytes
      slot_bytes bytes (inl is) = gives.last ∙ ap (λ (x : List ℕ). Some x) (has_bytes (weak_of windows) left.image gives.bytes bytes a has_a is)
      slot_bytes bytes (inr is) = gives.last ∙ ap (λ (x : List ℕ). Some x) (has_bytes (weak_of windows) left.image gives.bytes bytes b has_b is)

      not_both : sector_at left.image a ≡ Damaged → sector_at left.image b ≡ Damaged → ⊥
      not_both first_is second_is = c.apart a b gives.is.apart (has_weak (weak_of windows) left.image gives.bytes a has_a first_is) (has_weak (weak_of windows) left.image gives.bytes b has_b second_is)

  -- what was read of it is its last image
  pub slot_gives : (bytes : List ℕ) → Wears now now → StandsInSlot (slice_index_or log.slots n None) now.image bytes → last_image n (records_by l c.clean log.anchor) ≡ Some bytes
  slot_gives bytes here stands = slot_bytes stands.a stands.b stands.lies now here bytes stands.stands

  -- it is not lost
  pub slot_not_lost : (left : Moment) → Wears now left → (fault : LoadFault) → LostCause (AreLogged log n) left.image fault → IsDevice fault
  slot_not_lost left wears (load.Device s) lost = tt
  slot_not_lost left wears (load.Lost a b) lost = not_both a b lost.copies.lies left wears lost.first lost.second

  pub slot_none : (((records : List Placed) → IsIndexed log records → last_image n records ≡ None)) → last_image n (records_by l c.clean log.anchor) ≡ None
  slot_none nowhere = nowhere (records_by l c.clean log.anchor) indexed

  -- a page that has a slot has an image
  pub slot_has : (slice_index_or log.slots n None ≡ None → ⊥) → last_image n (records_by l c.clean log.anchor) ≡ None → ⊥
  slot_has has none = by_slot (slice_index_or log.slots n None) refl
    where
      by_slot : (o : Option Slot) → slice_index_or log.slots n None ≡ o → ⊥
      by_slot None is = has is
      by_slot (Some slot) is =
          let given = gives slot.place slot.copy (record { number = slot.number; is = is }) in
          absurd (cc (given.last, none))
