-- What bytes begin with.
use Rattle.std.specs.Prelude.{◌≡◌, ℕ, ◌≤◌, List, length, take, drop, Result, Ok, Err, nat_le, ◌==◌, if◌then◌else◌, slice_index}
use Rattle.fsd_texts.specs.declared.asking.Asking.{Asking}
use Rattle.fsd_texts.specs.declared.bad_line.Cause.{Cause}
use Rattle.fsd_texts.specs.declared.bad_line.Cause.TheVariants.{ShortBytes, NoNewlineAfterBytes}
use Rattle.fsd_texts.specs.declared.script_command.ScriptCommand.{ScriptCommand}
use Rattle.fsd_texts.specs.Script.{command_at, whole_command}
use Rattle.script_text.specs.declared.fault.BodyFault.{BodyFault}
use Rattle.script_text.specs.declared.fault.BodyFault.TheVariants.{Bad, Memory}

-- what is read is this, unless memory is refused
abbrev pub ReadsSo : {A : Type 0} → Result A BodyFault → Result A Cause → Type 0
ReadsSo (Ok x) read = read ≡ Ok x
ReadsSo (Err (Bad cause)) read = read ≡ Err cause
ReadsSo (Err Memory) read = Unit {0}

-- a command that takes so many first bytes
pub record TakesCommand (read : Result (ScriptCommand × List ℕ) Cause) (bytes : List ℕ) (command : ScriptCommand) (used : ℕ) : Type 0 where
  pub found : read ≡ Ok (command, drop used bytes)
  pub within : used ≤ length bytes

abbrev pub TakesFirst : Result (ScriptCommand × List ℕ) Cause → List ℕ → Result (ScriptCommand × ℕ) BodyFault → Type 0
TakesFirst read bytes (Ok x) = TakesCommand read bytes x.0 x.1
TakesFirst read bytes (Err (Bad cause)) = read ≡ Err cause
TakesFirst read bytes (Err Memory) = Unit {0}

-- the command that bytes begin with, by how many of them it takes, or why they begin with none
abbrev pub BeginsWithCommand : List ℕ → Result (ScriptCommand × ℕ) BodyFault → Type 0
BeginsWithCommand bytes result = TakesFirst (command_at bytes) bytes result

-- the same of the bytes behind a line
abbrev pub BehindLine : Asking → List ℕ → Result (ScriptCommand × ℕ) BodyFault → Type 0
BehindLine asking rest result = TakesFirst (whole_command asking rest) rest result

-- so many bytes and a newline, or why not
abbrev pub bytes_in : List ℕ → ℕ → Result (List ℕ) Cause
bytes_in rest len = if nat_le (length rest) len then Err ShortBytes else (if slice_index rest len == 10 then Ok (take len rest) else Err NoNewlineAfterBytes)
