-- The last line of a run.
use Rattle.std.specs.Prelude.{◌≡◌, ◌⊎◌, ◌==◌, ℕ, Bool}
use Rattle.sector_disk.specs.Machine.{Moment}
use Rattle.fsd_texts.specs.declared.fault.Fault.{Fault}
use Rattle.fsd_texts.specs.declared.line.Line.{Line}
use Rattle.fsd_texts.specs.declared.line.Line.TheVariants as Says
use Rattle.fsd_texts.specs.Text.{text}
use Rattle.fsd_runs.specs.Errands.{fault_status}
use Rattle.volume_turns.specs.Turns.{SaysAll}

-- the status of a run whose output failed
abbrev pub is_unsaid : ℕ → Bool
is_unsaid status = status == 6

-- this status, or that of an output that failed
abbrev pub IsStatusAs : ℕ → ℕ → Type 0
IsStatusAs gives status = (status ≡ gives) ⊎ (status ≡ 6)

-- so it is of a fault
abbrev pub IsStatusFor : Fault → ℕ → Type 0
IsStatusFor why status = IsStatusAs (fault_status why) status

-- the output failed, or the line is said whole and its status given
abbrev pub EndsLast : Line → (gives : ℕ) → (old new : Moment) → ℕ → Type 0
EndsLast line gives old new status = (status ≡ 6) ⊎ ((status ≡ gives) × SaysAll (text line) old new)

-- so it is of a fault
abbrev pub EndsWith : Fault → (old new : Moment) → ℕ → Type 0
EndsWith why old new status = EndsLast (Says.Ended why) (fault_status why) old new status
