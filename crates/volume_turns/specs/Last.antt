-- The last line of a script, and its status.
use Rattle.std.specs.Prelude.{◌≡◌, ℕ, false, Option, Some, None, Result, Ok, Err}
use Rattle.sector_disk.specs.declared.machine.Machine.{Ghosts}
use Rattle.sector_disk.specs.Calls.{LeavesDisk}
use Rattle.sector_disk.specs.Machine.{Utters}
use Rattle.fsd_texts.specs.declared.end.End.TheVariants.{Bad, Done, TooLong}
use Rattle.fsd_texts.specs.declared.fault.Fault.TheVariants as Ends
use Rattle.fsd_texts.specs.declared.line.Line.{Line}
use Rattle.fsd_texts.specs.declared.line.Line.TheVariants as Says
use Rattle.fsd_texts.specs.Text.{text}
use Rattle.fsd_runs.specs.Errands.{fault_status}
use Rattle.volume_turns.specs.declared.script.Stop.{Stop}
use Rattle.volume_turns.specs.declared.script.Stop.TheVariants.{Ended, Input, WornOut}
use Rattle.volume_turns.specs.declared.turns.Halt.{Halt}
use Rattle.volume_turns.specs.declared.turns.Halt.TheVariants.{Fault as Stopped, Output}
use Rattle.volume_turns.specs.Line.{EndsLast, IsStatusAs, is_unsaid}

-- the line that is said last, if one is
abbrev pub ending_line : Result Stop Halt → Option Line
ending_line (Ok (Ended Done)) = None
ending_line (Ok (Ended (Bad bad))) = Some (Says.Bad bad)
ending_line (Ok (Ended TooLong)) = Some (Says.Ended Ends.InputTooLong)
ending_line (Ok Input) = Some (Says.Ended Ends.Input)
ending_line (Ok WornOut) = Some (Says.Ended Ends.WornOut)
ending_line (Err (Stopped why)) = Some (Says.Ended why)
ending_line (Err Output) = None

-- and the status behind it
abbrev pub ending_status : Result Stop Halt → ℕ
ending_status (Ok (Ended Done)) = 0
ending_status (Ok (Ended (Bad bad))) = 2
ending_status (Ok (Ended TooLong)) = 5
ending_status (Ok Input) = 5
ending_status (Ok WornOut) = 9
ending_status (Err (Stopped why)) = fault_status why
ending_status (Err Output) = 6

-- A last line is said and its status given, or the output failed.
pub record SaysLast {D : Type 0} (M : Ghosts D) (line : Line) (gives : ℕ) (old new : D) (status : ℕ) : Type 0 where
  pub says : LeavesDisk M false (is_unsaid status) (Utters (text line)) old new
  pub ends : M.honest new → EndsLast line gives (M.now old) (M.now new) status
  pub status_is : IsStatusAs gives status

-- or there is none to say
abbrev pub EndsSo : {D : Type 0} → (M : Ghosts D) → Option Line → (gives : ℕ) → (old new : D) → (status : ℕ) → Type 0
EndsSo M (Some line) gives old new status = SaysLast M line gives old new status
EndsSo M None gives old new status = (status ≡ gives) × (new ≡ old)
