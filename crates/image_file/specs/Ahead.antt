-- Slots that were read ahead, in blocks of 64.
use Rattle.std.specs.Prelude.{◌≡◌, ◌/◌, ℕ, List, [], Some, None, nat_eq}
use Rattle.std.specs.Map.{lookup}
use Rattle.image_file.specs.declared.ahead.Ahead.{Ahead}
use Rattle.image_file.specs.declared.stretch.Stretch.{Stretch}
use Rattle.image_file.specs.Stretch.{HoldsSector, IsPart, slot_at}

-- this block is none of them
abbrev pub IsOut : List (ℕ × Stretch) → ℕ → Type 0
IsOut blocks block = lookup (nat_eq block) blocks ≡ None

-- it is this sector's slot in the block that has it
abbrev pub GivesIn : List (ℕ × Stretch) → ℕ → List ℕ → Type 0
GivesIn blocks sector slot = (s : Stretch) × (lookup (nat_eq (sector / 64)) blocks ≡ Some s) × HoldsSector s sector × (slot ≡ slot_at s sector)

-- the blocks, with their numbers
abbrev pub blocks_of : Ahead → List (ℕ × Stretch)
blocks_of a = elim a.blocks [ None ↦ [] | Some blocks ↦ blocks.entries ]

abbrev pub HasNone : Ahead → Type 0
HasNone a = blocks_of a ≡ []

-- no block has one of so many sectors
abbrev pub AreApart : (first count : ℕ) → Ahead → Type 0
AreApart first count a = (sector : ℕ) → IsPart first count sector → IsOut (blocks_of a) (sector / 64)

-- no block has a sector that waits
abbrev pub IsApartFrom : Stretch → Ahead → Type 0
IsApartFrom waiting a = (sector : ℕ) → HoldsSector waiting sector → IsOut (blocks_of a) (sector / 64)

-- no block has come
abbrev pub KeepsOut : List (ℕ × Stretch) → List (ℕ × Stretch) → Type 0
KeepsOut old new = (block : ℕ) → IsOut old block → IsOut new block

abbrev pub AddsNone : Ahead → Ahead → Type 0
AddsNone old new = KeepsOut (blocks_of old) (blocks_of new)

abbrev pub Gives : Ahead → ℕ → List ℕ → Type 0
Gives a sector slot = GivesIn (blocks_of a) sector slot
