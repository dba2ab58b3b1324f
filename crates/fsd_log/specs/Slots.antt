-- Where each page's last image lies.
use Rattle.std.specs.Prelude.{◌≡◌, ◌<◌, ◌≤◌, IsTrue, Bool, false, ◌&&◌, nat_le, nat_lt, ℕ, ◌+◌, List, [], ◌∷◌, length, slice_set, slice_index_or, Option, Some, None, IfSome, ◌==◌, if◌then◌else◌}
use Rattle.std.specs.Option.{option_or}
use Rattle.volume_layout.specs.Shape.{Shape}
use Rattle.volume_layout.specs.Kinds.{gap_of}
use Rattle.fsd_log.specs.Places.{LieInRecord}
use Rattle.fsd_log.specs.Scan.{Placed, place_of}
use Rattle.fsd_log.specs.declared.slot.Slot.{Slot}

-- the page's slot among these pages, whose images begin at a place and their copies at another
abbrev pub slot_in : (page number place copy : ℕ) → (pages : List ℕ) → Option Slot
slot_in page number place copy [] = None
slot_in page number place copy (p ∷ pages) = if p == page then Some (record { place = place; copy = copy; number = number }) else slot_in page number (place + 1) (copy + 1) pages

abbrev pub slot_in_record : Shape → (third page : ℕ) → Placed → Option Slot
slot_in_record l third page r = let place = place_of l third r.at + 3 + gap_of l in slot_in page r.entry.number place (place + length r.entry.pages + 1 + gap_of l) r.entry.pages

-- its slot in the last record that has it
abbrev pub last_slot : Shape → (third page : ℕ) → List Placed → Option Slot
last_slot l third page [] = None
last_slot l third page (r ∷ records) = option_or (last_slot l third page records) (slot_in_record l third page r)

-- the table with the slots of these pages
abbrev pub noted_slots : (number place copy : ℕ) → (pages : List ℕ) → List (Option Slot) → List (Option Slot)
noted_slots number place copy [] slots = slots
noted_slots number place copy (p ∷ pages) slots = slice_set (noted_slots number (place + 1) (copy + 1) pages slots) p (Some (record { place = place; copy = copy; number = number }))

-- with those of a record that begins there on the tape
abbrev pub slots_with : Shape → (third number at : ℕ) → (pages : List ℕ) → List (Option Slot) → List (Option Slot)
slots_with l third number at pages slots = let place = place_of l third at + 3 + gap_of l in noted_slots number place (place + length pages + 1 + gap_of l) pages slots

-- the table has of each page the slot in the last record that has it
abbrev pub AreLastSlots : Shape → (third : ℕ) → List Placed → List (Option Slot) → Type 0
AreLastSlots l third records slots = (page : ℕ) → page < length slots → slice_index_or slots page None ≡ last_slot l third page records

-- the slots lie on a disk of so many sectors
abbrev pub SlotsInside : (sectors : ℕ) → List (Option Slot) → Type 0
SlotsInside sectors slots = (page : ℕ) → IfSome (slice_index_or slots page None) (λ slot. (slot.place < sectors) × (slot.copy < sectors))

-- the sectors of each slot lie in a record that lies in the log
abbrev pub LieInRecords : Shape → List (Option Slot) → Type 0
LieInRecords l slots = (page : ℕ) → IfSome (slice_index_or slots page None) (λ slot. LieInRecord l slot.place slot.copy)

-- a slot's image lies in so many sectors from a start on
abbrev pub lies_in : (start count : ℕ) → Option Slot → Bool
lies_in start count None = false
lies_in start count (Some slot) = nat_le start slot.place && nat_lt slot.place (start + count)

-- the least page from one on whose slot lies there
pub record IsLeastIn (slots : List (Option Slot)) (first start count page : ℕ) : Type 0 where
  pub from : first ≤ page
  pub there : page < length slots
  pub lies : IsTrue (lies_in start count (slice_index_or slots page None))
  pub before : (q : ℕ) → first ≤ q → q < page → lies_in start count (slice_index_or slots q None) ≡ false

-- no slot from one on lies there
abbrev pub NoneLiesIn : List (Option Slot) → (first start count : ℕ) → Type 0
NoneLiesIn slots first start count = (q : ℕ) → first ≤ q → q < length slots → lies_in start count (slice_index_or slots q None) ≡ false

-- the slot, unless its image lies in so many sectors from a start on
abbrev pub slot_outside : (start count : ℕ) → Option Slot → Option Slot
slot_outside start count slot = if lies_in start count slot then None else slot

-- ---- the two sectors that a slot names

-- the two sectors of a page's slot: the page's own and its copy, in the record that the slot is of
pub record LiesAt (slot : Option Slot) (a b : ℕ) : Type 0 where
  pub number : ℕ
  pub is : slot ≡ Some (record { place = a; copy = b; number = number })

-- The sectors are those of a slot, and a page's own and its copy in a record that lies in the log.
pub record AreOfSlot (l : Shape) (slot : Option Slot) (a b : ℕ) : Type 0 where
  pub lies : LiesAt slot a b
  pub in_record : LieInRecord l a b
