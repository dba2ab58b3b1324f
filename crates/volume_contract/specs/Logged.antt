-- What a force leaves of the pages that waited, over any image.
use Rattle.std.specs.Prelude.{◌≡◌, ℕ, List, Option, Some, None, IsTrue, slice_index_or}
use Rattle.run_table.specs.Space.{contains}
use Rattle.volume_layout.specs.Kinds.{gap_of}
use Rattle.sector_disk.specs.Image.{open_damage}
use Rattle.sector_disk.specs.Machine.{Moment}
use Rattle.fsd_formats.specs.NamePage.{Content}
use Rattle.fsd_sound.specs.Laid.{StandsTwice}
use Rattle.fsd_log.specs.Slots.{AreOfSlot}
use Rattle.volume_contract.specs.State.{State, resident_content}

-- The page is in memory, and its bytes stand in both of its copies in the last record that has it,
-- but for what the open window may wear.
pub record StandsInBothCopies (s : State) (resident : ℕ → Option (List ℕ)) (now : Moment) (page : ℕ) : Type 0 where
  pub bytes : List ℕ
  pub there : resident page ≡ Some bytes
  pub place : ℕ
  pub copy : ℕ
  pub copies : AreOfSlot s.layout (slice_index_or s.slots page None) place copy
  pub twice : StandsTwice (gap_of s.layout) (open_damage now.windows) now.image bytes place copy

-- so does each page that waited
abbrev pub AllLogged : (old new : State) → (resident : ℕ → Option (List ℕ)) → Moment → Type 0
AllLogged old new resident now = (page : ℕ) → IsTrue (contains old.dirty page) → StandsInBothCopies new resident now page

-- what the grammar accepted of the pages in memory it accepts then, as the same
abbrev pub KeepsPages : (old new : State) → (before after : ℕ → Option (List ℕ)) → Type 0
KeepsPages old new before after = (page : ℕ) (x : Content) → resident_content old before page ≡ Some x → resident_content new after page ≡ Some x
