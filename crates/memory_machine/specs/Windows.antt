-- The weak runs of a machine in memory, and the hurts that its windows allow.
use Rattle.std.specs.Prelude.{ℕ, ◌-◌, Bool, true, List, length, min, slice_index_or, Option, Some, None, nat_le}
use Rattle.std.specs.List.{list_all}
use Rattle.sector_disk.specs.declared.sector.WeakRun.{WeakRun}
use Rattle.memory_machine.specs.declared.past.Hurt.{Hurt}
use Rattle.sector_disk.specs.Image.{weak, longest_run}

-- there is no run, or none longer than any may be
abbrev pub is_short : Option WeakRun → Bool
is_short None = true
is_short (Some run) = nat_le run.count longest_run

-- all of them are allowed by the windows
abbrev pub all_weak : Option WeakRun → Option WeakRun → List Hurt → Bool
all_weak present next = list_all (λ hurt. weak present next hurt.sector)

-- its first sectors, at most so many
abbrev pub shorter : (longest : ℕ) → WeakRun → WeakRun
shorter longest run = record { first = run.first; count = min run.count longest }

-- the run that the healing after so many names, in a window that may have a run of so many sectors
abbrev pub weak_run_at : (longest : ℕ) → List WeakRun → ℕ → WeakRun
weak_run_at longest runs named = shorter longest (slice_index_or runs (min named (length runs - 1)) record { first = 0; count = 0 })
