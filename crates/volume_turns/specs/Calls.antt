-- What a call of a client may be answered, whatever the image, and what it tells then.
use Rattle.std.specs.Prelude.{◌≡◌, ◌⊎◌, ⊤, ℕ, ◌<◌, ◌≤◌, length, min, Option, Some, None, Result, Err, IfErr, IfOk, IsTrue, IsFalse}
use Rattle.volume_layout.specs.declared.layout.Layout.{Layout}
use Rattle.fsd_bytes.specs.declared.key.Key.{Key}
use Rattle.fsd_bytes.specs.declared.refusal.Refusal.{Refusal}
use Rattle.fsd_bytes.specs.declared.refusal.Refusal.TheVariants as Why
use Rattle.fsd_formats.specs.NamePage.{max_length, sectors_for}
use Rattle.sector_disk.specs.Machine.{Moment}
use Rattle.fsd_files.specs.Answers.{least_pages}
use Rattle.fsd_files.specs.Desk.{is_client}
use Rattle.fsd_files.specs.Disk.{Image}
use Rattle.fsd_files.specs.declared.reply.Reply.{Reply}
use Rattle.fsd_files.specs.declared.reply.Reply.TheVariants as Said
use Rattle.fsd_texts.specs.declared.call.Call.{Call}
use Rattle.fsd_texts.specs.declared.call.Call.TheVariants as Calls
use Rattle.fsd_texts.specs.declared.fault.Fault.{Fault}
use Rattle.fsd_texts.specs.declared.fault.Fault.TheVariants as Ends
use Rattle.fsd_texts.specs.declared.script_command.ScriptCommand.{ScriptCommand}
use Rattle.fsd_texts.specs.declared.script_command.ScriptCommand.TheVariants.{Plain, OfClient}
use Rattle.scrub.specs.Telling.{AreOfPage}
use Rattle.volume_contract.specs.State.{State, is_worn}
use Rattle.volume_turns.specs.Commands.{HasDamaged, MayLose, MayReply}
use Rattle.volume_turns.specs.Numbers.{GoesUp}
use Rattle.volume_turns.specs.Steps.{IsToldOn, ended_by, read_ended_by}

-- ---- refusals

-- there is no such client, or it has something open
abbrev pub RefusesBusy : (c : ℕ) → Refusal → Type 0
RefusesBusy c (Why.BadClient d) = (d ≡ c) × IsFalse (is_client c)
RefusesBusy c (Why.Busy d) = (d ≡ c) × IsTrue (is_client c)
RefusesBusy c why = ⊥

-- or it has not that open which it is to go on with
abbrev pub RefusesIdle : (c : ℕ) → Refusal → Type 0
RefusesIdle c (Why.BadClient d) = (d ≡ c) × IsFalse (is_client c)
RefusesIdle c (Why.Idle d) = (d ≡ c) × IsTrue (is_client c)
RefusesIdle c why = ⊥

-- a version of so many bytes is too long, or there is no place for it
abbrev pub LacksPlace : (len : ℕ) → Refusal → Type 0
LacksPlace len (Why.TooLong n) = (n ≡ len) × (max_length < len)
LacksPlace len (Why.NoSpace need free) = (len ≤ max_length) × (need ≡ sectors_for len) × (free < need)
LacksPlace len (Why.TooFragmented need most) = (len ≤ max_length) × (need ≡ sectors_for len) × (most < need)
LacksPlace len why = ⊥

-- so many bytes more are too many
abbrev pub IsTooLong : (count : ℕ) → Refusal → Type 0
IsTooLong count (Why.Long declared got) = (declared < got) × (count ≤ got)
IsTooLong count why = ⊥

-- bytes are wanting, or free name pages, or the name has had its last version
abbrev pub LacksEntry : Refusal → Type 0
LacksEntry (Why.Short declared got) = got < declared
LacksEntry (Why.NameTableFull free) = free < least_pages
LacksEntry Why.VersionsUsedUp = ⊤
LacksEntry why = ⊥

-- ---- replies

-- the call may be answered so over this image; a sector that is told as damaged is so
abbrev pub CallMayReply : (c : ℕ) → Call → Image → Reply → Type 0
CallMayReply c (Calls.Begin name len) i (Said.Begun d) = (d ≡ c) × IsTrue (is_client c) × (len ≤ max_length)
CallMayReply c (Calls.Begin name len) i (Said.Refused why) = RefusesBusy c why ⊎ LacksPlace len why
CallMayReply c (Calls.Begin name len) i reply = ⊥
CallMayReply c (Calls.Piece bytes) i (Said.Took d sum) = (d ≡ c) × IsTrue (is_client c) × (length bytes ≤ sum)
CallMayReply c (Calls.Piece bytes) i (Said.Refused why) = RefusesIdle c why ⊎ IsTooLong (length bytes) why
CallMayReply c (Calls.Piece bytes) i reply = ⊥
CallMayReply c Calls.Close i (Said.Made key sectors) = IsTrue (is_client c)
CallMayReply c Calls.Close i (Said.Refused why) = RefusesIdle c why ⊎ LacksEntry why
CallMayReply c Calls.Close i reply = ⊥
CallMayReply c Calls.Drop i (Said.Dropped d) = (d ≡ c) × IsTrue (is_client c)
CallMayReply c Calls.Drop i (Said.Refused why) = RefusesIdle c why
CallMayReply c Calls.Drop i reply = ⊥
CallMayReply c (Calls.Open key) i (Said.Opened d len) = (d ≡ c) × IsTrue (is_client c)
CallMayReply c (Calls.Open key) i (Said.Refused why) = RefusesBusy c why ⊎ (why ≡ Why.NoSuch)
CallMayReply c (Calls.Open key) i reply = ⊥
CallMayReply c (Calls.Next len) i (Said.Given d bytes) = (d ≡ c) × IsTrue (is_client c) × (length bytes ≤ len)
CallMayReply c (Calls.Next len) i (Said.DamagedAt key s) = HasDamaged i s
CallMayReply c (Calls.Next len) i (Said.Refused why) = RefusesIdle c why
CallMayReply c (Calls.Next len) i reply = ⊥
CallMayReply c Calls.Done i (Said.Done d) = (d ≡ c) × IsTrue (is_client c)
CallMayReply c Calls.Done i (Said.Refused why) = RefusesIdle c why
CallMayReply c Calls.Done i reply = ⊥

-- so it is of a script's command
abbrev pub MayReplyTo : ScriptCommand → Image → Reply → Type 0
MayReplyTo (Plain command) i reply = MayReply command i reply
MayReplyTo (OfClient c call) i reply = CallMayReply c call i reply

-- the sectors that it may tell as lost
abbrev pub MayLoseIn : ScriptCommand → Layout → (a b : ℕ) → Type 0
MayLoseIn (Plain command) = MayLose command
MayLoseIn (OfClient c call) = AreOfPage

-- It is answered, or a fault has ended it.
pub record AnswersIn (command : ScriptCommand) (s t : State) (old new : Moment) (result : Result Reply Fault) : Type 0 where
  pub replies : IfOk result (λ a. MayReplyTo command new.image a)
  -- a mount is told as worn out only where it is
  pub worn : result ≡ Err Ends.WornOut → IsTrue (is_worn s)
  pub numbers : GoesUp 1 s t
  pub told : IfErr result (IsToldOn (MayLoseIn command) s.layout new.image)

-- ---- what the code counts

-- the sectors of a version of so many bytes, where one was declared
abbrev pub sectors_made : Option ℕ → ℕ
sectors_made (Some len) = sectors_for len
sectors_made None = 0

-- a client is given at most what it has left
abbrev pub room_for : Option ℕ → (len : ℕ) → ℕ
room_for (Some left) len = min left len
room_for None len = 0

-- a refusal of a read is said with the version's key, or ends the run
abbrev pub next_ended_by : Option Key → Refusal → Result Reply Fault
next_ended_by (Some key) why = read_ended_by key why
next_ended_by None why = ended_by why
