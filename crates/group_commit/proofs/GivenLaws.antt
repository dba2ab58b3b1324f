-- Where a log's records were laid whole, each page's slot gives its last image, however a narrow run wears.
use Rattle.std.proofs.Common.{◌≡◌, ◌⊎◌, ◌≤◌, ℕ, List, [], ◌∷◌, Some, ap, ◌∙◌, sym}
use Rattle.std.specs.List.{AllByRecursion}
use Rattle.volume_layout.specs.declared.layout.Layout.{Layout}
use Rattle.volume_layout.specs.Kinds.{gap_of}
use Rattle.fsd_formats.specs.declared.anchor.Anchor.{Anchor}
use Rattle.sector_disk.specs.declared.sector.Sector.TheVariants.{Whole, Damaged}
use Rattle.sector_disk.specs.Image.{sector_at, IsWorn}
use Rattle.fsd_log.specs.Scan.{Placed}
use Rattle.fsd_log.specs.Images.{last_image}
use Rattle.fsd_files.specs.Disk.{Image, Sectors}
use Rattle.fsd_sound.specs.Laid.{AllLaid, StandsTwice}
use Rattle.fsd_sound.specs.Shown.{records_by}
use Rattle.fsd_sound.specs.Windows.{IsApart}
use Rattle.fsd_sound.proofs.LogPlaces.{IsRecord, scan_records}
use Rattle.fsd_sound.proofs.TwiceLaws.{image_stands, one_is, not_both}
use Rattle.fsd_log.specs.declared.slot.Slot.{Slot}
use Rattle.fsd_log.specs.Slots.{last_slot}
use Rattle.log_thirds.proofs.GivesLaws.{EachImage, Gives, slot_gives}

module _ (l : Layout) (a : Anchor) (weak : Sectors) (i : Image) where
  each_image : (rs : List Placed) → AllByRecursion (IsRecord l a.third) rs → AllLaid l a weak i rs → AllByRecursion (EachImage l a.third (StandsTwice (gap_of l) weak i)) rs
  each_image [] are laid = tt
  each_image (r ∷ rs) are laid = (record { many = are.0.images; each = image_stands l a weak i r are.0 laid.0.0 laid.0.1 }, each_image rs are.1 laid.1)

  pub gives_last : (page : ℕ) (rs : List Placed) (slot : Slot) → AllByRecursion (IsRecord l a.third) rs → AllLaid l a weak i rs → last_slot l a.third page rs ≡ Some slot → Gives l a.third (StandsTwice (gap_of l) weak i) page rs slot
  gives_last page rs slot are laid found = slot_gives l a.third (StandsTwice (gap_of l) weak i) page rs slot (each_image rs are laid) found

module _ (l : Layout) (a : Anchor) (low : a.third ≤ 2) (weak : Sectors) (apart : IsApart (gap_of l) weak) (i j : Image) (w : IsWorn weak i j) (laid : AllLaid l a weak i (records_by l i a)) (page : ℕ) (slot : Slot) (found : last_slot l a.third page (records_by l i a) ≡ Some slot) where
  given : Gives l a.third (StandsTwice (gap_of l) weak i) page (records_by l i a) slot
  given = gives_last l a weak i page (records_by l i a) slot (scan_records l i a low) laid found

  pub given_is : (bytes : List ℕ) → (sector_at j slot.place ≡ Whole bytes) ⊎ (sector_at j slot.copy ≡ Whole bytes) → last_image page (records_by l i a) ≡ Some bytes
  given_is bytes stands = given.last ∙ ap (λ (b : List ℕ). Some b) (sym (one_is (gap_of l) weak apart i j w given.bytes slot.place slot.copy given.is bytes stands))

  pub never_lost : sector_at j slot.place ≡ Damaged → sector_at j slot.copy ≡ Damaged → ⊥
  never_lost = not_both (gap_of l) weak apart i j w given.bytes slot.place slot.copy given.is
