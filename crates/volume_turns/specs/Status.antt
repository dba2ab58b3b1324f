-- The status of a run, over any machine.
use Rattle.std.specs.Prelude.{◌≡◌, ◌⊎◌, ◌≤◌, ◌==◌, ◌||◌, not, ℕ, Bool, false, [], ◌∷◌, IsTrue}
use Rattle.std.specs.List.{list_any}
use Rattle.sector_disk.specs.Machine.{Report, Rose}
use Rattle.fsd_texts.specs.declared.command.Command.{Command}
use Rattle.fsd_texts.specs.declared.fault.Fault.{Fault}
use Rattle.fsd_runs.specs.Errands.{fault_status}
use Rattle.volume_turns.specs.Steps.{IsOfVolume}
use Rattle.volume_turns.specs.Commands.{IsStatusFrom}
use Rattle.volume_turns.specs.Turns.{KeepsSectors}

-- ---- which statuses there are

-- the status of a fault of the volume
abbrev pub IsStatusOfFault : ℕ → Type 0
IsStatusOfFault status = (why : Fault) × IsOfVolume why × (status ≡ fault_status why)

-- that of a fault of the volume, or of an output that failed
abbrev pub IsStatusBroken : ℕ → Type 0
IsStatusBroken status = IsStatusOfFault status ⊎ (status ≡ 6)

-- one command ends with the status of its reply, or of a fault, or its output failed
abbrev pub IsOneStatus : Command → ℕ → Type 0
IsOneStatus command status = IsStatusFrom command status ⊎ IsStatusBroken status

-- so does a put of the input, which may also be too long
abbrev pub IsPutStatus : ℕ → Type 0
IsPutStatus status = (status ≤ 1) ⊎ ((status ≡ 5) ⊎ IsStatusBroken status)

-- An input that is too long was refused: no put was made or refused, and the mount is not worn out.
pub record IsStatusOfLong (status : ℕ) : Type 0 where
  pub put : IsPutStatus status
  pub unmade : status ≤ 1 → ⊥
  pub unspent : status ≡ 9 → ⊥

-- a script is done, or a line of it is bad, or the input failed or is too long
abbrev pub IsScriptStatus : ℕ → Type 0
IsScriptStatus status = (status ≡ 0) ⊎ ((status ≡ 2) ⊎ ((status ≡ 5) ⊎ IsStatusBroken status))

-- commands that are made up are all done
abbrev pub IsMadeStatus : ℕ → Type 0
IsMadeStatus status = (status ≡ 0) ⊎ IsStatusBroken status

-- a dump is done, or refused, or has damaged data sectors
abbrev pub IsDumpStatus : ℕ → Type 0
IsDumpStatus status = (status ≤ 1) ⊎ ((status ≡ 8) ⊎ IsStatusBroken status)

-- ---- what is counted

-- No fault is counted.
pub record CountsNone (old new : Report) : Type 0 where
  pub disk : new.disk_faults ≡ old.disk_faults
  pub input : new.input_faults ≡ old.input_faults
  pub output : new.output_faults ≡ old.output_faults

-- None of the disk or of the output is.
pub record CountsInput (old new : Report) : Type 0 where
  pub disk : new.disk_faults ≡ old.disk_faults
  pub output : new.output_faults ≡ old.output_faults

-- the statuses of a run that was answered to its end, or to a line that is bad, or for which memory was refused,
-- or of a mount that is worn out
abbrev pub is_quiet : ℕ → Bool
is_quiet status = list_any (λ s. s == status) (0 ∷ 1 ∷ 2 ∷ 7 ∷ 8 ∷ 9 ∷ [])

-- all but those of a call of the disk or of the output that failed
abbrev pub is_unfailed : ℕ → Bool
is_unfailed status = not (status == 4 || status == 6)

-- A run that takes no input: where its status tells a fault of the disk or of the output, this is counted, and where it
-- tells no call of the outside none is.
pub record CountsRunBy (longer : Bool) (old new : Report) (status : ℕ) : Type 0 where
  pub sectors : KeepsSectors longer old.sectors new.sectors
  pub disk : status ≡ 4 → Rose old.disk_faults new.disk_faults
  pub input : new.input_faults ≡ old.input_faults
  pub output : status ≡ 6 → Rose old.output_faults new.output_faults
  pub quiet : IsTrue (is_unfailed status) → CountsNone old new

-- so it is of one that keeps the image's length
abbrev pub CountsRun : (old new : Report) → (status : ℕ) → Type 0
CountsRun old new status = CountsRunBy false old new status

-- One that takes the input: so it is of the disk and the output.
-- A fault found in the volume may end one whose input has failed.
pub record CountsTaking (old new : Report) (status : ℕ) : Type 0 where
  pub sectors : new.sectors ≡ old.sectors
  pub disk : status ≡ 4 → Rose old.disk_faults new.disk_faults
  pub output : status ≡ 6 → Rose old.output_faults new.output_faults
  pub quiet : IsTrue (is_quiet status) → CountsNone old new
  pub unfailed : IsTrue (is_unfailed status) → CountsInput old new
