-- The slots of adjacent sectors.
use Rattle.std.specs.Prelude.{◌≡◌, ◌⊎◌, ℕ, ◌+◌, ◌-◌, ◌*◌, ◌<◌, ◌≤◌, List, take, drop}
use Rattle.fsd_formats.specs.Slot.{slot_of}
use Rattle.sector_disk.specs.Image.{slice_of}
use Rattle.image_file.specs.declared.stretch.Stretch.{Stretch}

-- this sector is one of so many, from the first on
abbrev pub IsPart : (first count sector : ℕ) → Type 0
IsPart first count sector = (first ≤ sector) × (sector < first + count)

-- it has the slot of this sector
abbrev pub HoldsSector : Stretch → ℕ → Type 0
HoldsSector s sector = IsPart s.first s.count sector

-- the slot in its place
abbrev pub slot_at : Stretch → ℕ → List ℕ
slot_at s sector = take 520 (drop (520 * (sector - s.first)) s.slots.items)

-- this sector is the one behind it, unless it has none
abbrev pub IsBehind : ℕ → Stretch → Type 0
IsBehind sector s = 0 < s.count → s.first + s.count ≡ sector

-- the slot of this sector is there now as it was
abbrev pub Keeps : Stretch → Stretch → ℕ → Type 0
Keeps old new sector = HoldsSector old sector × (slot_at new sector ≡ slot_at old sector)

-- each slot that is there now is of one of so many sectors, or was there
abbrev pub AddsOnly : (first count : ℕ) → Stretch → Stretch → Type 0
AddsOnly first count old new = (sector : ℕ) → HoldsSector new sector → IsPart first count sector ⊎ Keeps old new sector

-- Of so many sectors of a write, from the first on: each that it has is spelled in its own place, with its own bytes.
abbrev pub Spells : (first : ℕ) → (bytes : List ℕ) → (count : ℕ) → Stretch → Type 0
Spells first bytes count s = (k : ℕ) → k < count → HoldsSector s (first + k) → slot_at s (first + k) ≡ slot_of (first + k) (slice_of bytes k)
