-- How far apart two sectors lie that are weak at once, and when a window was named.
use Rattle.std.specs.Prelude.{◌≡◌, ℕ, ◌+◌, ◌≤◌, Option, IsSome, IsTrue}
use Rattle.sector_disk.specs.declared.sector.WeakRun.{WeakRun}
use Rattle.sector_disk.specs.Machine.{Moment}
use Rattle.fsd_files.specs.Disk.{Sectors}

-- no two sectors that lie two sectors and the gap apart, or further, are weak at once
abbrev pub IsApart : (gap : ℕ) → Sectors → Type 0
IsApart gap weak = (s t : ℕ) → s + (2 + gap) ≤ t → IsTrue (weak s) → IsTrue (weak t) → ⊥

-- no two sectors that lie as far apart as what stands twice are weak at once
abbrev pub IsNarrow : Sectors → Type 0
IsNarrow weak = (s t : ℕ) → s + 4 ≤ t → IsTrue (weak s) → IsTrue (weak t) → ⊥

-- At a moment that a stop since a time may have left this run was the next one, also for what began earlier.
pub record IsNamedSince (Past : ℕ → Moment → Type 0) (began : ℕ) (run : Option WeakRun) : Type 0 where
  pub left : Moment
  pub passed : (t : ℕ) → t ≤ began → Past t left
  pub named : IsSome left.windows.next
  pub same : left.windows.next ≡ run
