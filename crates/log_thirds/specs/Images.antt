-- What a page's slot gives of its last image.
use Rattle.std.specs.Prelude.{◌≡◌, ◌<◌, ◌⊎◌, ⊤, ℕ, Bool, List, Option, Some, None, IfSome, slice_index_or}
use Rattle.std.specs.Option.{option_or}
use Rattle.sector_disk.specs.declared.sector.Sector.{Sector}
use Rattle.sector_disk.specs.declared.sector.Sector.TheVariants.{Whole}
use Rattle.sector_disk.specs.Image.{sector_at}
use Rattle.sector_disk.specs.Machine.{Moment}
use Rattle.sector_disk.specs.declared.machine.LoadFault.{LoadFault}
use Rattle.sector_disk.specs.declared.machine.LoadFault.TheVariants.{Device, Lost}
use Rattle.fsd_formats.specs.Record.{bears}
use Rattle.fsd_log.specs.Judged.{Reader}
use Rattle.fsd_log.specs.Plain.{either_copy}
use Rattle.fsd_log.specs.Images.{last_image}
use Rattle.fsd_log.specs.Scan.{Placed}
use Rattle.log_thirds.specs.Disk.{reads}
use Rattle.log_thirds.specs.Reading.{ReadWorn}
use Rattle.log_thirds.specs.LogValue.{LogValue}
use Rattle.fsd_log.specs.Slots.{AreOfSlot, LiesAt, last_slot}
use Rattle.fsd_log.specs.declared.slot.Slot.{Slot}

-- The page, or else its copy, bears the record's stamp, and is the image that is meant.
pub record GivesSlot (page epoch : ℕ) (disk : Reader) (slot : Slot) (o : Option (List ℕ)) : Type 0 where
  pub image : List ℕ
  pub read : either_copy (bears page (record { epoch = epoch; number = slot.number })) (disk slot.place) (disk slot.copy) ≡ Some image
  pub is : o ≡ Some image

-- where one of these records has the page, the slot in the last of them gives the image that it has there
abbrev pub GivesLast : LogValue → List Placed → (page : ℕ) → List Sector → Type 0
GivesLast log records page sectors = IfSome (last_slot log.layout log.anchor.third page records) (λ slot. GivesSlot page log.anchor.epoch (reads sectors) slot (last_image page records))

-- Of two copies the one that passes the test, the first where both do; where neither does, one that could be read.
abbrev pub best_copy : (List ℕ → Bool) → Option (List ℕ) → Option (List ℕ) → Option (List ℕ)
best_copy test first copy = option_or (option_or (either_copy test first copy) first) copy

-- what could be read of a page at its slot: its image there or at the copy, or else one of the two that is whole
pub record SeesSlot (old : Moment) (slot : Slot) (page epoch : ℕ) (image : Option (List ℕ)) : Type 0 where
  pub first : Option (List ℕ)
  pub copy : Option (List ℕ)
  pub read_first : ReadWorn old slot.place first
  pub read_copy : ReadWorn old slot.copy copy
  pub serves : image ≡ best_copy (bears page (record { epoch = epoch; number = slot.number })) first copy

-- a lost image's two sectors are those of its slot
abbrev pub NamesSlot : Option Slot → LoadFault → Type 0
NamesSlot slot (Device place) = ⊤
NamesSlot slot (Lost a b) = LiesAt slot a b

-- those of the page's slot, in the record that the log names as the page's last
abbrev pub AreLogged : LogValue → (page a b : ℕ) → Type 0
AreLogged log page a b = AreOfSlot log.layout (slice_index_or log.slots page None) a b

-- The sectors are the two of the last image of some page.
pub record AreOfLogged (log : LogValue) (a b : ℕ) : Type 0 where
  pub page : ℕ
  pub within : page < log.layout.pages
  pub logged : AreLogged log page a b

-- The bytes stand whole in one of a slot's two sectors.
pub record StandsInSlot (slot : Option Slot) (image : List Sector) (bytes : List ℕ) : Type 0 where
  pub a : ℕ
  pub b : ℕ
  pub lies : LiesAt slot a b
  pub stands : (sector_at image a ≡ Whole bytes) ⊎ (sector_at image b ≡ Whole bytes)

-- the log has no image of the page
abbrev pub IsUnlogged : LogValue → (page : ℕ) → Type 0
IsUnlogged log page = slice_index_or log.slots page None ≡ None
