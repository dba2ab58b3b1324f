-- Sessions: a volume and its clients. What the commands of a script are answered, what they changed, and what they meet.
use Rattle.std.specs.Prelude.{◌≡◌, ⊤, ℕ, Bool, false, List, [], ◌∷◌, length, Option, None, Result, Ok, nat_le}
use Rattle.std.specs.List.{flat_map}
use Rattle.run_table.specs.declared.run.Run.{Run}
use Rattle.fsd_bytes.specs.declared.refusal.Refusal.{Refusal}
use Rattle.fsd_formats.specs.NamePage.{max_length}
use Rattle.fsd_files.specs.Answers.{FindsDamage, Met, Outcome}
use Rattle.fsd_files.specs.Desk.{Session, Open, Nothing, Writes, Reads, begin_outcome, close_outcome, done_outcome, drop_outcome, next_count, next_outcome, no_clients, open_outcome, opened_by, piece_outcome}
use Rattle.fsd_files.specs.Disk.{Image}
use Rattle.fsd_files.specs.Files.{Change}
use Rattle.fsd_files.specs.Kept.{range_sectors}
use Rattle.fsd_files.specs.declared.reply.Reply.{Reply}
use Rattle.fsd_files.specs.declared.reply.Reply.TheVariants.{Made}
use Rattle.fsd_files.specs.Volume.{Volume, HasReach, is_in}
use Rattle.fsd_texts.specs.declared.call.Call.{Call}
use Rattle.fsd_texts.specs.declared.call.Call.TheVariants as Calls
use Rattle.fsd_texts.specs.declared.script_command.ScriptCommand.{ScriptCommand}
use Rattle.fsd_texts.specs.declared.script_command.ScriptCommand.TheVariants.{Plain, OfClient}
use Rattle.fsd_runs.specs.Commands.{answer, changes_of, MayFind, may_wear_out}

-- What a command meets: beside what it meets of the volume, in which order this lists the versions that clients read
-- then.
pub record Meeting : Type 0 where
  pub met : Met
  pub held : List (List Run)

-- none has something open
abbrev pub session_over : Volume → Session
session_over v = record { volume = v; clients = no_clients }

-- what clients have open is dropped, or done
abbrev pub finished : Session → Session
finished s = session_over (record s.volume { held = []; drafts = [] })

-- ---- answers

-- the volume answers, and the clients stay
abbrev pub by_volume : Session → Outcome → Reply × Session
by_volume s out = (out.0, record s { volume = out.1 })

abbrev pub call_answer : Meeting → Session → (c : ℕ) → Call → Reply × Session
call_answer x s c (Calls.Begin name len) = begin_outcome s c name len
call_answer x s c (Calls.Piece bytes) = piece_outcome s c bytes
call_answer x s c Calls.Close = close_outcome x.met s c
call_answer x s c Calls.Drop = drop_outcome s c
call_answer x s c (Calls.Open key) = open_outcome x.held s c key
call_answer x s c (Calls.Next len) = next_outcome x.met.damaged s c len
call_answer x s c Calls.Done = done_outcome x.held s c

-- what a command is answered, and the session then
abbrev pub answer_in : Meeting → Session → ScriptCommand → Reply × Session
answer_in x s (Plain command) = by_volume s (answer x.met s.volume command)
answer_in x s (OfClient c call) = call_answer x s c call

-- ---- where a mount is worn out

-- a client that has nothing open begins a version of so many bytes
abbrev pub may_begin : Result Open Refusal → (len : ℕ) → Bool
may_begin (Ok Nothing) len = nat_le len max_length
may_begin other len = false

-- one that has all bytes of its version closes it
abbrev pub may_close : Result Open Refusal → Bool
may_close (Ok (Writes name len runs serial bytes)) = nat_le len (length bytes)
may_close other = false

abbrev pub call_may_wear_out : List Open → (c : ℕ) → Call → Bool
call_may_wear_out clients c (Calls.Begin name len) = may_begin (opened_by clients c) len
call_may_wear_out clients c (Calls.Piece bytes) = false
call_may_wear_out clients c Calls.Close = may_close (opened_by clients c)
call_may_wear_out clients c Calls.Drop = false
call_may_wear_out clients c (Calls.Open key) = false
call_may_wear_out clients c (Calls.Next len) = false
call_may_wear_out clients c Calls.Done = false

-- such a mount would refuse it
abbrev pub may_wear_out_in : Session → ScriptCommand → Bool
may_wear_out_in s (Plain command) = may_wear_out command
may_wear_out_in s (OfClient c call) = call_may_wear_out s.clients c call

-- ---- what a command meets

-- the sectors of so many next bytes
abbrev pub FindsNext : Image → Image → Result Open Refusal → (len : ℕ) → Option ℕ → Type 0
FindsNext i j (Ok (Reads key runs bytes place)) len damaged = FindsDamage i j (range_sectors runs place (next_count bytes place len)) damaged
FindsNext i j other len damaged = ⊤

abbrev pub CallMayFind : Image → Image → List Open → (c : ℕ) → Call → Met → Type 0
CallMayFind i j clients c (Calls.Begin name len) met = ⊤
CallMayFind i j clients c (Calls.Piece bytes) met = ⊤
CallMayFind i j clients c Calls.Close met = ⊤
CallMayFind i j clients c Calls.Drop met = ⊤
CallMayFind i j clients c (Calls.Open key) met = ⊤
CallMayFind i j clients c (Calls.Next len) met = FindsNext i j (opened_by clients c) len met.damaged
CallMayFind i j clients c Calls.Done met = ⊤

-- what may read as damaged, between these images
abbrev pub MayFindIn : Image → Image → Session → ScriptCommand → Met → Type 0
MayFindIn i j s (Plain command) met = MayFind i j s.volume command met
MayFindIn i j s (OfClient c call) met = CallMayFind i j s.clients c call met

abbrev pub runs_read : Open → List (List Run)
runs_read Nothing = []
runs_read (Writes name len runs serial bytes) = []
runs_read (Reads key runs bytes place) = runs ∷ []

-- the runs of the versions that clients read
abbrev pub read_by : List Open → List (List Run)
read_by clients = flat_map runs_read clients

-- the volume holds what clients read
abbrev pub HoldsRead : Session → Type 0
HoldsRead s = (t : ℕ) → is_in s.volume.held t ≡ is_in (read_by s.clients) t

-- What a command may meet: what it reads, the pages of the table then, and what is held then.
pub record MayMeet (i j : Image) (s : Session) (command : ScriptCommand) (x : Meeting) : Type 0 where
  pub find : MayFindIn i j s command x.met
  pub reach : HasReach (answer_in x s command).1.volume
  pub hold : HoldsRead (answer_in x s command).1

-- ---- what is changed

-- the version that a client has made
abbrev pub changes_closed : Result Open Refusal → Reply → List Change
changes_closed (Ok (Writes name len runs serial bytes)) (Made key sectors) = Change.Put name None bytes ∷ []
changes_closed other reply = []

abbrev pub call_changes : List Open → (c : ℕ) → Call → Reply → List Change
call_changes clients c (Calls.Begin name len) reply = []
call_changes clients c (Calls.Piece bytes) reply = []
call_changes clients c Calls.Close reply = changes_closed (opened_by clients c) reply
call_changes clients c Calls.Drop reply = []
call_changes clients c (Calls.Open key) reply = []
call_changes clients c (Calls.Next len) reply = []
call_changes clients c Calls.Done reply = []

-- the change that was accepted, if one was; the session is that before
abbrev pub changes_in_session : Session → ScriptCommand → Reply → List Change
changes_in_session s (Plain command) reply = changes_of command reply
changes_in_session s (OfClient c call) reply = call_changes s.clients c call reply
