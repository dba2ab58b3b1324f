-- A command that is read from a script or made up is no scrub, no upgrade and no growth.
use Rattle.std.proofs.Common.{◌≡◌, ℕ, ◌+◌, false, List, ◌∷◌, ◌++◌, Option, Some, None, Ok, refl, subst}
use Rattle.std.specs.Prelude.{IfOk, Result}
use Rattle.fsd_texts.specs.declared.bad_line.Cause.{Cause}
use Rattle.fsd_texts.specs.declared.command.Command.{Command}
use Rattle.fsd_texts.specs.declared.command.Command.TheVariants as Word
use Rattle.fsd_texts.specs.declared.end.End.{End}
use Rattle.fsd_texts.specs.declared.script_command.ScriptCommand.{ScriptCommand}
use Rattle.fsd_texts.specs.declared.script_command.ScriptCommand.TheVariants.{Plain, OfClient}
use Rattle.fsd_texts.specs.Script.{Script, script_from}
use Rattle.fsd_runs.proofs.OtherLaws.{AreOthers, AreOthersIn, GivesOther, IsOther, IsOtherIn, command_other, made_others, script_others}
use Rattle.script_text.specs.Making.{Making, made_left}
use Rattle.script_text.specs.Reading.{AnswersScript, IsSpelledCommand, Reading, room_of, script_left, unless_ended}
use Rattle.volume_turns.specs.Steps.{is_alone, is_alone_in}

unless_others : (end : Option End) (s : Script) → AreOthersIn s.0 → AreOthersIn (unless_ended end s).0
unless_others None s others = others
unless_others (Some end) s others = tt

left_others : (r : Reading) (input : List ℕ) → AreOthersIn (script_left r input).0
left_others r input = unless_others r.end (script_from (room_of r) (r.given + 1) (r.waiting ++ input)) (script_others (room_of r) (r.given + 1) (r.waiting ++ input))

pub read_other : (r s : Reading) (before now : List ℕ) (command : ScriptCommand) → AnswersScript (Ok (Some command)) (script_left r before) (script_left s now) → IsOtherIn command
read_other r s before now command is =
    let all : AreOthersIn (command ∷ (script_left s now).0) = subst (λ (x : Script). AreOthersIn x.0) is (left_others r before) in
    all.0

pub made_other : (old new : Making) (command : Command) → made_left old ≡ command ∷ made_left new → IsOther command
made_other old new command is =
    let all : AreOthers (command ∷ made_left new) = subst (λ (x : List Command). AreOthers x) is (made_others old.left old.ordinal old.state) in
    all.0

-- one that some bytes begin with
pub spelled_other : (command : ScriptCommand) → IsSpelledCommand (Ok (Some command)) → IsOtherIn command
spelled_other command is = subst (λ (r : Result (ScriptCommand × List ℕ) Cause). IfOk r GivesOther) is.2 (command_other is.0)

pub not_alone : (command : Command) → IsOther command → is_alone command ≡ false
not_alone Word.Scrub other = absurd other
not_alone Word.Upgrade other = absurd other
not_alone (Word.Grow sectors) other = absurd other
not_alone command other = refl

pub not_alone_in : (command : ScriptCommand) → IsOtherIn command → is_alone_in command ≡ false
not_alone_in (Plain command) other = not_alone command other
not_alone_in (OfClient c call) other = refl
