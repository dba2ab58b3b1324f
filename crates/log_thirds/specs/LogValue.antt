-- A log, as clauses see it.
use Rattle.std.specs.Prelude.{◌≡◌, ◌<◌, ◌≤◌, ◌+◌, ◌*◌, ◌^◌, ℕ, List, length, Option}
use Rattle.fsd_formats.specs.declared.anchor.Anchor.{Anchor}
use Rattle.volume_layout.specs.Shape.{Shape}
use Rattle.fsd_log.specs.Scan.{Head, IsIn}
use Rattle.fsd_log.specs.declared.slot.Slot.{Slot}
use Rattle.log_thirds.specs.declared.firsts.Firsts.{Firsts}
use Rattle.log_thirds.specs.Firsts.{AreNumbers}
use Rattle.fsd_log.specs.Slots.{LieInRecords, SlotsInside}
use Rattle.log_thirds.specs.Copies.{Copies, FitsDisk, copies_count}

pub record LogValue : Type 0 where
  pub layout : Shape
  pub anchor : Anchor
  pub head : Head
  pub firsts : Firsts
  pub slots : List (Option Slot)
  pub copies : Copies

pub record IsShaped (layout : Shape) (anchor : Anchor) (head : Head) (firsts : Firsts) (slots : List (Option Slot)) (copies : Copies) (buffer : List ℕ) : Type 0 where
  pub least : 200 ≤ layout.third
  pub most : layout.third ≤ 4096
  pub inside : 16 + 3 * layout.third ≤ layout.sectors
  pub third : anchor.third ≤ 2
  pub begun : 1 ≤ anchor.epoch
  pub opens : 1 ≤ anchor.first
  pub is_in : IsIn layout head
  pub numbers : AreNumbers head.number firsts
  pub table : length slots ≡ layout.pages
  pub on_disk : SlotsInside layout.sectors slots
  pub in_records : LieInRecords layout slots
  pub copied : FitsDisk layout.sectors copies
  pub few : copies_count copies ≤ 97
  pub long : length buffer ≡ 101888

-- A log lies in its layout, and its head in a third.
pub record FitsLayout (log : LogValue) : Type 0 where
  pub least : 200 ≤ log.layout.third
  pub inside : 16 + 3 * log.layout.third ≤ log.layout.sectors
  pub third : log.anchor.third ≤ 2
  pub is_in : IsIn log.layout log.head
  pub begun : 1 ≤ log.anchor.epoch
  pub epoch : log.anchor.epoch < 2 ^ 32
  pub number : log.head.number < 2 ^ 32
  pub numbers : AreNumbers log.head.number log.firsts
  pub pages : log.layout.pages < 2 ^ 32
  pub table : length log.slots ≡ log.layout.pages
