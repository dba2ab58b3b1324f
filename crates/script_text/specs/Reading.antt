-- What a reader of a script has taken and given, and what is still to come of the script.
use Rattle.std.specs.Prelude.{◌≡◌, ℕ, ◌+◌, ◌-◌, ◌<◌, ◌≤◌, ◌==◌, if◌then◌else◌, List, [], ◌∷◌, ◌++◌, length, drop, true, nat_lt, Option, Some, None, Result, Ok, Err}
use Rattle.fsd_texts.specs.declared.bad_line.Cause.{Cause}
use Rattle.fsd_texts.specs.declared.script_command.ScriptCommand.{ScriptCommand}
use Rattle.fsd_texts.specs.declared.end.End.{End}
use Rattle.fsd_texts.specs.declared.end.End.TheVariants as Ends
use Rattle.fsd_texts.specs.Script.{Script, command_at, ends_early, max_input, script_from}
use Rattle.script_text.specs.declared.fault.BodyFault.{BodyFault}
use Rattle.script_text.specs.declared.fault.BodyFault.TheVariants as Stops
use Rattle.script_text.specs.declared.fault.ScriptFault.{ScriptFault}
use Rattle.script_text.specs.declared.fault.ScriptFault.TheVariants.{Bad, Input, TooLong, Memory}

-- The bytes taken of the input and not yet given as commands, how many were taken in all, how many commands were given,
-- and how the script has ended, if that is known.
pub record Reading : Type 0 where
  pub waiting : List ℕ
  pub taken : ℕ
  pub given : ℕ
  pub end : Option End

-- one that has taken nothing
abbrev pub fresh : Reading
fresh = record { waiting = []; taken = 0; given = 0; end = None }

-- how many more bytes may be read, those that wait among them
abbrev pub room_of : Reading → ℕ
room_of r = max_input - (r.taken - length r.waiting)

abbrev pub unless_ended : Option End → Script → Script
unless_ended None script = script
unless_ended (Some end) script = ([], end)

-- the script that is still to come, with so much of the input left
abbrev pub script_left : Reading → List ℕ → Script
script_left r input = unless_ended r.end (script_from (room_of r) (r.given + 1) (r.waiting ++ input))

-- bytes that begin with no command for want of more
pub record WantsMore (bytes : List ℕ) : Type 0 where
  pub cause : Cause
  pub read : command_at bytes ≡ Err cause
  pub early : ends_early cause ≡ true

-- ---- answers

-- what is answered where the script has ended
abbrev pub end_answer : End → Result (Option ScriptCommand) ScriptFault
end_answer Ends.Done = Ok None
end_answer (Ends.Bad bad) = Err (Bad bad)
end_answer Ends.TooLong = Err TooLong

-- An answer, of the script that was to come and of the one that is to come now: its first command, or that it has ended
-- and how, or that the input or memory failed.
abbrev pub AnswersScript : Result (Option ScriptCommand) ScriptFault → Script → Script → Type 0
AnswersScript (Ok (Some command)) before now = before ≡ (command ∷ now.0, now.1)
AnswersScript (Ok None) before now = (before ≡ ([], Ends.Done)) × (now ≡ before)
AnswersScript (Err (Bad bad)) before now = (before ≡ ([], Ends.Bad bad)) × (now ≡ before)
AnswersScript (Err TooLong) before now = (before ≡ ([], Ends.TooLong)) × (now ≡ before)
AnswersScript (Err Input) before now = now ≡ before
AnswersScript (Err Memory) before now = now ≡ before

-- An answer where the script has not ended: the first command of what was to come, or nothing of it.
abbrev pub Ahead : Result (Option ScriptCommand) ScriptFault → Script → Script → Type 0
Ahead (Ok (Some command)) before now = before ≡ (command ∷ now.0, now.1)
Ahead (Err Input) before now = before ≡ now
Ahead (Err Memory) before now = before ≡ now
Ahead ended before now = Unit {0}

-- Where the input fails no whole command waits.
abbrev pub NoneWaits : Result (Option ScriptCommand) ScriptFault → List ℕ → Type 0
NoneWaits (Err Input) waiting = WantsMore waiting
NoneWaits other waiting = Unit {0}

-- What is given is a command that some bytes begin with.
abbrev pub IsSpelledCommand : Result (Option ScriptCommand) ScriptFault → Type 0
IsSpelledCommand (Ok (Some command)) = (bytes : List ℕ) × (rest : List ℕ) × (command_at bytes ≡ Ok (command, rest))
IsSpelledCommand other = Unit {0}

-- the end that is known with an answer, and the commands given with it
abbrev pub end_with : Result (Option ScriptCommand) ScriptFault → Option End
end_with (Ok (Some command)) = None
end_with (Ok None) = Some Ends.Done
end_with (Err (Bad bad)) = Some (Ends.Bad bad)
end_with (Err TooLong) = Some Ends.TooLong
end_with (Err Input) = None
end_with (Err Memory) = None

abbrev pub count_with : Result (Option ScriptCommand) ScriptFault → ℕ
count_with (Ok (Some command)) = 1
count_with other = 0

-- What a reader counts behind an answer, and the end that is known then. What it has taken is bounded, and each command
-- took a byte at least.
pub record CountsOn (result : Result (Option ScriptCommand) ScriptFault) (old new : Reading) : Type 0 where
  pub ended : new.end ≡ end_with result
  pub counted : new.given ≡ old.given + count_with result
  pub most : new.taken ≤ max_input + 1
  pub most_while_open : new.end ≡ None → new.taken ≤ max_input
  pub few : new.given ≤ new.taken

-- What is given is a command that some bytes begin with, and where the input fails no whole command waits.
pub record GivesWhole (result : Result (Option ScriptCommand) ScriptFault) (waiting : List ℕ) : Type 0 where
  pub spelled : IsSpelledCommand result
  pub waits : NoneWaits result waiting

-- Where the script had ended so, this is answered again, and neither the reader nor the machine changes.
pub record AnswersAgain {D : Type 0} (result : Result (Option ScriptCommand) ScriptFault) (end : End) (old new : Reading) (before now : D) : Type 0 where
  pub answered : result ≡ end_answer end
  pub kept : new ≡ old
  pub unasked : now ≡ before

-- ---- one step of a reader that has not ended

-- the bytes that wait begin with a command, which is given
pub record GivesCommand (old : Reading) (command : ScriptCommand) (new : Reading) : Type 0 where
  pub used : ℕ
  pub within : used ≤ length old.waiting
  pub read : command_at old.waiting ≡ Ok (command, drop used old.waiting)
  pub new_is : new ≡ record { waiting = drop used old.waiting; taken = old.taken; given = old.given + 1; end = old.end }

abbrev pub GivesFirst : Reading → Result ScriptCommand BodyFault → Reading → Type 0
GivesFirst old (Ok command) new = GivesCommand old command new
GivesFirst old (Err (Stops.Bad cause)) new = (command_at old.waiting ≡ Err cause) × (new ≡ old)
GivesFirst old (Err Stops.Memory) new = new ≡ old

-- how the script ends where no more bytes come, or none may help
abbrev pub end_by : Reading → Cause → End
end_by r cause = if length r.waiting == 0 then Ends.Done else Ends.Bad (record { line = r.given + 1; cause = cause })

-- the end is known now, or bytes were taken, and no more than may be read
pub record ReadsFurther (old new : Reading) : Type 0 where
  pub more : new.end ≡ None → old.taken < new.taken
  pub most : new.end ≡ None → new.taken ≤ max_input
  pub within : old.taken ≤ max_input
  pub given : new.given ≡ old.given

-- bytes are not taken: the reader is as it was, and no whole command waits
pub record TakesNoBytes (old new : Reading) : Type 0 where
  pub kept : new ≡ old
  pub short : WantsMore old.waiting

-- the end, if it is known after so many more bytes came, of so many in all
abbrev pub end_after : End → (count taken : ℕ) → Option End
end_after end count taken = if count == 0 then Some end else (if nat_lt max_input taken then Some Ends.TooLong else None)

-- what a reader keeps: each command took a byte at least,
-- and only where the script is too long a byte more than the most is taken
pub record IsReading (bytes : List ℕ) (start taken given : ℕ) (end : Option End) : Type 0 where
  pub start_within : start ≤ length bytes
  pub each_took : given + (length bytes - start) ≤ taken
  pub most : taken ≤ max_input + 1
  pub most_while_open : end ≡ None → taken ≤ max_input
