-- What a script has said, whatever the image: in order, for each of its commands a reply that this may have.
use Rattle.std.specs.Prelude.{◌≡◌, ◌⊎◌, ◌≤◌, ⊤, ℕ, ◌+◌, Bool, List, [], ◌∷◌, ◌++◌, Result, OnOk, IsTrue, sum_by}
use Rattle.std.specs.List.{flat_map}
use Rattle.sector_disk.specs.declared.machine.Machine.{Ghosts}
use Rattle.sector_disk.specs.Machine.{Ledger, Moment}
use Rattle.fsd_files.specs.Disk.{Image}
use Rattle.fsd_files.specs.declared.reply.Reply.{Reply}
use Rattle.fsd_texts.specs.declared.bad_line.BadLine.{BadLine}
use Rattle.fsd_texts.specs.declared.end.End.TheVariants.{Bad}
use Rattle.fsd_texts.specs.declared.line.Line.TheVariants as Says
use Rattle.fsd_texts.specs.declared.script_command.ScriptCommand.{ScriptCommand}
use Rattle.fsd_texts.specs.Script.{script_in}
use Rattle.fsd_texts.specs.Text.{text}
use Rattle.fsd_runs.specs.Commands.{reply_text}
use Rattle.fsd_runs.specs.Errands.{Errand, forced_turn}
use Rattle.volume_turns.specs.declared.turns.Halt.{Halt}
use Rattle.volume_turns.specs.Calls.{MayReplyTo}
use Rattle.volume_turns.specs.Turns.{SaysWhole}

-- One reply is said, which the command may have over the image as it is then.
pub record SaysOnce (says : Reply → List ℕ) (command : ScriptCommand) (old new : Moment) : Type 0 where
  pub reply : Reply
  pub may : MayReplyTo command new.image reply
  pub said : new.said ≡ old.said ++ says reply

-- no sync is done, or one for a reply that tells something as forced, which the command may have
abbrev pub SyncsFor : (forces : Reply → Bool) → ScriptCommand → (old new : Ledger) → Type 0
SyncsFor forces command old new = (new.syncs ≡ old.syncs) ⊎ ((i : Image) × (reply : Reply) × MayReplyTo command i reply × IsTrue (forces reply) × (new.syncs ≡ old.syncs + 1))

-- A command has said whole replies, and no more; where it is done, one that it may have. It does no sync but in front of a
-- reply that tells something as forced.
pub record SaysStep {D T : Type 0} (M : Ghosts D) (e : Errand) (command : ScriptCommand) (a b : D) (result : Result T Halt) : Type 0 where
  pub whole_replies : M.honest b → SaysWhole e.says (M.now a) (M.now b) result
  pub once : OnOk result (M.honest b → SaysOnce e.says command (M.now a) (M.now b))
  pub syncs : M.honest b → SyncsFor e.forces command (M.ledger a) (M.ledger b)

-- a count of commands in which each counts that may have a reply that tells something as forced
abbrev pub CountsForced : (forces : Reply → Bool) → (count : ScriptCommand → ℕ) → Type 0
CountsForced forces count = (command : ScriptCommand) (i : Image) (reply : Reply) → MayReplyTo command i reply → IsTrue (forces reply) → 1 ≤ count command

-- Of these commands those that are left are still to be done: by each such count no more syncs were done than the others
-- count, and so many more.
abbrev pub SyncsRead : (forces : Reply → Bool) → (more : ℕ) → (commands left : List ScriptCommand) → (old new : Ledger) → Type 0
SyncsRead forces more commands left old new = (count : ScriptCommand → ℕ) → CountsForced forces count → new.syncs + sum_by count left ≤ old.syncs + (sum_by count commands + more)

-- it may be answered so over the image of one of these moments
abbrev pub MayReplyIn : (Past : Moment → Type 0) → ScriptCommand → Reply → Type 0
MayReplyIn Past command reply = (at : Moment) × Past at × MayReplyTo command at.image reply

-- one reply for each command, in order
abbrev pub AreReplies : (Past : Moment → Type 0) → List ScriptCommand → List Reply → Type 0
AreReplies Past [] [] = ⊤
AreReplies Past (command ∷ commands) (reply ∷ replies) = MayReplyIn Past command reply × AreReplies Past commands replies
AreReplies Past commands replies = ⊥

-- For each of the commands a reply is said that it may have, in order, each whole, and no more.
pub record SaysEach (says : Reply → List ℕ) (Past : Moment → Type 0) (commands : List ScriptCommand) (before after : List ℕ) : Type 0 where
  pub replies : List Reply
  pub each : AreReplies Past commands replies
  pub said : after ≡ before ++ flat_map says replies

-- so it is between two states of a machine, over the images that a stop might have left since a
-- moment that is no later than the first
abbrev pub SaysBetween : {D : Type 0} → (M : Ghosts D) → (says : Reply → List ℕ) → List ScriptCommand → (a b : D) → Type 0
SaysBetween M says commands a b = M.honest b → (t : ℕ) → t ≤ M.moment a → SaysEach says (M.left_since b t) commands (M.now a).said (M.now b).said

-- So it is of the commands of a script, and last it is said that all is forced.
pub record SaysForced (says : Reply → List ℕ) (Past : Moment → Type 0) (commands : List ScriptCommand) (before after : List ℕ) : Type 0 where
  pub front : List ℕ
  pub whole : SaysEach says Past commands before front
  pub said : after ≡ front ++ forced_turn.said

-- A line of the script is outside the grammar. So it is of the commands before it,
-- and behind that it is said that it is bad.
pub record SaysBadLine (Past : Moment → Type 0) (input before : List ℕ) (new : Moment) : Type 0 where
  pub bad : BadLine
  pub ends : (script_in input).1 ≡ Bad bad
  pub front : List ℕ
  pub behind : SaysForced reply_text Past (script_in input).0 before front
  pub said : new.said ≡ front ++ text (Says.Bad bad)
