-- What the log has of a page, and the copies of a record's pages and of its end.
use Rattle.std.specs.Prelude.{◌≡◌, ℕ, ◌+◌, ◌*◌, List, [], ◌∷◌, ◌++◌, length, Option, Some, None, slice_index_or}
use Rattle.volume_layout.specs.declared.layout.Layout.{Layout}
use Rattle.volume_layout.specs.Shape.{Shape}
use Rattle.volume_layout.specs.Kinds.{gap_of}
use Rattle.fsd_formats.specs.declared.anchor.Anchor.{Anchor}
use Rattle.fsd_formats.specs.Record.{end_bytes}
use Rattle.sector_disk.specs.declared.sector.WeakRun.{WeakRun}
use Rattle.sector_disk.specs.declared.sector.Sector.TheVariants.{Whole}
use Rattle.sector_disk.specs.Image.{AllWorn, IsWorn, open_damage, sector_at}
use Rattle.sector_disk.specs.Machine.{Moment}
use Rattle.fsd_log.specs.Images.{last_image}
use Rattle.fsd_log.specs.Scan.{Placed, place_of}
use Rattle.fsd_log.specs.Slots.{AreOfSlot}
use Rattle.fsd_log.specs.declared.slot.Slot.{Slot}
use Rattle.fsd_files.specs.Disk.{Image, Sectors}
use Rattle.fsd_sound.specs.Anchors.{EachAnchor, anchor_of}
use Rattle.fsd_sound.specs.Shown.{records_by}
use Rattle.fsd_sound.specs.Sound.{ShowsPages}

-- each anchor that stands has the page in its log, however the image wears
abbrev pub IsLogged : Layout → Sectors → (page : ℕ) → Image → Type 0
IsLogged l weak page = AllWorn weak (λ i. EachAnchor i (λ a. last_image page (records_by l i a) ≡ None → ⊥))

-- where the copies of a record's pages and end begin on the disk
abbrev pub copies_at : Layout → Anchor → Placed → ℕ
copies_at l a r = place_of l a.third r.at + (4 + 2 * gap_of l + length r.entry.pages)

abbrev pub copies_of : Anchor → Placed → List (List ℕ)
copies_of a r = r.entry.images ++ end_bytes (record { epoch = a.epoch; number = r.entry.number }) (length r.entry.pages) ∷ []

-- The image j shows one of the page lists too, and has the anchor and the records of i.
pub record KeepsLogged (l : Layout) (windows : List WeakRun) (choices : List (List (List ℕ))) (t : Anchor) (i j : Image) : Type 0 where
  pub shows : ShowsPages l windows choices j
  pub taken : anchor_of j ≡ Some t
  pub records : records_by l j t ≡ records_by l i t

-- These bytes of the page stand in both of its copies in the last record that has it, but for what has been worn since.
pub record StandsLogged (l : Shape) (slots : List (Option Slot)) (now : Moment) (page : ℕ) (bytes : List ℕ) : Type 0 where
  pub seen : Image
  pub worn : IsWorn (open_damage now.windows) seen now.image
  pub a : ℕ
  pub b : ℕ
  pub logged : AreOfSlot l (slice_index_or slots page None) a b
  pub first : sector_at seen a ≡ Whole bytes
  pub second : sector_at seen b ≡ Whole bytes
