-- What a stop of a machine in memory leaves that loses its last calls.
use Rattle.std.specs.Prelude.{ℕ, ◌-◌, max, List, [], ◌∷◌, drop, reverse}
use Rattle.sector_disk.specs.declared.sector.Sector.{Sector}
use Rattle.memory_machine.specs.declared.past.Step.{Step}
use Rattle.memory_machine.specs.declared.memory.MemoryMachine.{MemoryMachine}
use Rattle.sector_disk.specs.Machine.{Moment}
use Rattle.memory_machine.specs.Past.{heal_all, undone, before}
use Rattle.memory_machine.specs.Memory.{memory_now, memory_calls}

-- the moment before these steps, the newest first
abbrev pub back_over : List Step → Moment → Moment
back_over [] now = now
back_over (step ∷ steps) now = back_over steps (before step now)

-- the image before them
abbrev pub undo_all : List Step → List Sector → List Sector
undo_all [] image = image
undo_all (step ∷ steps) image = undo_all steps (heal_all step.hurts.items (undone step.work image))

-- what was there at a time, between two calls
abbrev pub moment_at : ℕ → MemoryMachine → Moment
moment_at time m = back_over (reverse (drop time m.past.items)) (memory_now m)

-- the time before so many calls, but none before the last sync
abbrev pub time_before : ℕ → MemoryMachine → ℕ
time_before held m = max (memory_now m).synced (memory_calls m - held)

-- what a stop now leaves that loses so many calls, or those since the last sync where these are fewer
abbrev pub left_by : ℕ → MemoryMachine → Moment
left_by held m = record (memory_now m) { image = (moment_at (time_before held m) m).image }
