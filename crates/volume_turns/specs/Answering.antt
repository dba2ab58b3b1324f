-- What one command by itself says and writes, whatever the image:
-- one reply, or the line of the fault that has ended it.
use Rattle.std.specs.Prelude.{◌≡◌, ◌⊎◌, ⊤, ℕ, List, [], ◌++◌, Result, Ok, Err, IfErr, IfOk, IsTrue}
use Rattle.sector_disk.specs.Machine.{Moment}
use Rattle.fsd_files.specs.Disk.{Touches}
use Rattle.fsd_files.specs.declared.reply.Reply.{Reply}
use Rattle.fsd_sound.specs.Writes.{MountKeeps}
use Rattle.fsd_texts.specs.declared.command.Command.{Command}
use Rattle.fsd_texts.specs.declared.fault.Fault.{Fault}
use Rattle.fsd_texts.specs.declared.fault.Fault.TheVariants as Ends
use Rattle.fsd_texts.specs.Text.{fault_text}
use Rattle.fsd_runs.specs.Commands.{reply_alone, reply_status}
use Rattle.fsd_runs.specs.Errands.{fault_status}
use Rattle.volume_contract.specs.Closing.{may_close}
use Rattle.volume_contract.specs.State.{State, is_worn}
use Rattle.scrub.specs.Telling.{AreOfPage}
use Rattle.volume_turns.specs.declared.turns.Halt.{Halt}
use Rattle.volume_turns.specs.declared.turns.Halt.TheVariants.{Fault as Stopped, Output}
use Rattle.volume_turns.specs.Numbers.{GoesUp}
use Rattle.volume_turns.specs.Steps.{IsToldOn}
use Rattle.volume_turns.specs.Commands.{KeepsState, MayLose, MayReply, TouchesAlone, TouchesBy, WritesBehind}
use Rattle.volume_turns.specs.Turns.{KeepsSaid}

-- ---- one command, step by step

-- It is answered, or a fault has ended it.
pub record MayAnswer (command : Command) (s t : State) (old new : Moment) (result : Result Reply Fault) : Type 0 where
  pub replies : IfOk result (λ a. MayReply command new.image a)
  pub rest : TouchesBy command s old new
  pub still : KeepsState command s t
  -- a mount is told as worn out only where it is
  pub worn : result ≡ Err Ends.WornOut → IsTrue (is_worn s)
  pub numbers : GoesUp 1 s t
  pub told : IfErr result (IsToldOn (MayLose command) s.layout new.image)

-- a text is said, and nothing in front of a fault
abbrev pub SaysBy : {T : Type 0} → (text : List ℕ) → (old new : Moment) → Result T Halt → Type 0
SaysBy text old new (Ok x) = new.said ≡ old.said ++ text
SaysBy text old new (Err (Stopped why)) = new.said ≡ old.said
SaysBy text old new (Err Output) = ⊤

-- The use of a volume has ended, and a text is said.
pub record ClosesBy {T : Type 0} (s : State) (text : List ℕ) (old new : Moment) (result : Result T Halt) : Type 0 where
  pub windows : new.windows ≡ old.windows
  pub says : SaysBy text old new result
  pub rest : Touches (may_close s) old new
  -- nor is it told as worn out
  pub unworn : result ≡ Err (Stopped Ends.WornOut) → ⊥
  pub told : (why : Fault) → result ≡ Err (Stopped why) → IsToldOn AreOfPage s.layout new.image why

-- One reply is all that is said, and the status is its own.
pub record SaysReply (command : Command) (old new : Moment) (status : ℕ) : Type 0 where
  pub reply : Reply
  pub may : MayReply command new.image reply
  pub gives : status ≡ reply_status reply
  pub said : new.said ≡ old.said ++ reply_alone reply

-- A command is done alone over a volume of this state;
-- all is said of one of which no page waits, as it is behind a mount.
pub record AnswersAlone (command : Command) (s : State) (old new : Moment) (result : Result ℕ Halt) : Type 0 where
  pub windows : new.windows ≡ old.windows
  pub quiet : KeepsSaid old new result
  pub replies : s.dirty ≡ [] → IfOk result (SaysReply command old new)
  pub rest : s.dirty ≡ [] → TouchesAlone command s old new
  pub worn : result ≡ Err (Stopped Ends.WornOut) → IsTrue (is_worn s)
  pub told : (why : Fault) → result ≡ Err (Stopped why) → IsToldOn (MayLose command) s.layout new.image why

-- ---- to the last line

-- The line of a fault is all that is said, and the status is its own.
pub record SaysFaultAlone (old new : Moment) (status : ℕ) : Type 0 where
  pub why : Fault
  pub gives : status ≡ fault_status why
  pub said : new.said ≡ old.said ++ fault_text why

-- the output failed, or that is all
abbrev pub SaysNoReply : (old new : Moment) → (status : ℕ) → Type 0
SaysNoReply old new status = (status ≡ 6) ⊎ SaysFaultAlone old new status

-- so it is, or one reply is all that is said
abbrev pub SaysOne : Command → (old new : Moment) → (status : ℕ) → Type 0
SaysOne command old new status = SaysReply command old new status ⊎ SaysNoReply old new status

-- One command over a volume that was just mounted.
pub record EndsOne (command : Command) (s : State) (old new : Moment) (status : ℕ) : Type 0 where
  pub windows : new.windows ≡ old.windows
  pub says : SaysOne command old new status
  pub rest : TouchesAlone command s old new

-- ---- from the mount on

-- A mount writes only where it may, and the command behind it.
pub record WritesOne (command : Command) (sectors : ℕ) (old new : Moment) : Type 0 where
  pub mounted : Moment
  pub rest : MountKeeps sectors old mounted
  pub behind : WritesBehind command sectors old mounted new

-- One command from the mount on.
pub record RunsOne (command : Command) (sectors : ℕ) (old new : Moment) (status : ℕ) : Type 0 where
  pub says : SaysOne command old new status
  pub rest : WritesOne command sectors old new
