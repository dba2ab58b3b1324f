-- What a run does over the volume that it has mounted, by what the words ask for.
use Rattle.std.specs.Option.{option_or}
use Rattle.std.specs.Prelude.{ℕ, suc, Bool, true, false, List, [], ◌∷◌, length, map, take, Option, Some, None, Result, Ok, Err, sum_by, nat_lt, if◌then◌else◌}
use Rattle.fsd_files.specs.Desk.{Session}
use Rattle.fsd_bytes.specs.declared.key.Key.{Key}
use Rattle.fsd_bytes.specs.declared.refusal.Refusal.{Refusal}
use Rattle.fsd_bytes.specs.declared.refusal.Refusal.TheVariants as Why
use Rattle.fsd_dumps.specs.Dump.{Dumped}
use Rattle.fsd_dumps.specs.Front.{ItemsRead, dumped_in}
use Rattle.fsd_files.specs.Files.{Change}
use Rattle.fsd_files.specs.Volume.{Volume}
use Rattle.fsd_files.specs.declared.reply.Reply.{Reply}
use Rattle.fsd_files.specs.declared.reply.Reply.TheVariants.{Refused, Made, Deleted, Kept, Bytes, DamagedAt, Forced}
use Rattle.fsd_texts.specs.declared.command.Command.{Command}
use Rattle.fsd_texts.specs.declared.command.Command.TheVariants as Word
use Rattle.fsd_texts.specs.declared.script_command.ScriptCommand.{ScriptCommand}
use Rattle.fsd_texts.specs.declared.script_command.ScriptCommand.TheVariants.{Plain}
use Rattle.fsd_texts.specs.declared.fault.Fault.{Fault}
use Rattle.fsd_texts.specs.declared.fault.Fault.TheVariants as Ends
use Rattle.fsd_texts.specs.declared.line.Line.{Line}
use Rattle.fsd_texts.specs.declared.line.Line.TheVariants as Says
use Rattle.fsd_texts.specs.Text.{text}
use Rattle.fsd_texts.specs.declared.end.End.{End}
use Rattle.fsd_texts.specs.declared.end.End.TheVariants.{Done, Bad, TooLong}
use Rattle.fsd_texts.specs.Script.{max_input, script_in}
use Rattle.fsd_texts.specs.Script.{Script as Spelled}
use Rattle.fsd_texts.specs.Generator.{made_up}
use Rattle.fsd_runs.specs.declared.request.Request.{Request}
use Rattle.fsd_runs.specs.declared.request.Request.TheVariants.{Put, One, Script, Generate, Dump, Restore}
use Rattle.fsd_runs.specs.Commands.{reply_text, reply_alone, reply_status}
use Rattle.fsd_runs.specs.declared.span.Span.{Span}
use Rattle.fsd_runs.specs.Dumps.{dump_of, first_there, span_of}
use Rattle.fsd_runs.specs.Sessions.{changes_in_session}

-- a command, its reply, and the changes that were accepted with it
pub record Answered : Type 0 where
  pub command : ScriptCommand
  pub reply : Reply
  pub changes : List Change

-- where the session, the command and its reply tell the changes
abbrev pub answered_so : Session → ScriptCommand → Reply → Answered
answered_so s command reply = record { command = command; reply = reply; changes = changes_in_session s command reply }

-- One step of a run: what is said, what it has changed, and whether all changes so far are forced once that is said.
pub record Turn : Type 0 where
  pub said : List ℕ
  pub changes : List Change
  pub forces : Bool

-- how a run ends: what is said behind the replies, and the status
pub record Ending : Type 0 where
  pub turns : List Turn
  pub status : ℕ

-- Commands one after another, what is said of each reply, whether all is forced by then, and how the run ends.
pub record Errand : Type 0 where
  pub commands : List ScriptCommand
  pub says : Reply → List ℕ
  pub forces : Reply → Bool
  pub ends : List Answered → Ending

-- ---- how runs end

abbrev pub said_turn : List ℕ → Turn
said_turn bytes = record { said = bytes; changes = []; forces = false }

abbrev pub line_turn : Line → Turn
line_turn line = said_turn (text line)

-- nothing said and nothing done: it stands behind the turns of a run that was broken off
abbrev pub blank : Turn
blank = record { said = []; changes = []; forces = false }

-- a force, and the line that says it
abbrev pub forced_turn : Turn
forced_turn = record { said = text Says.Forced; changes = []; forces = true }

abbrev pub fault_status : Fault → ℕ
fault_status Ends.NotVolume = 3
fault_status (Ends.Lost a b) = 3
fault_status Ends.NoAnchor = 3
fault_status (Ends.Unsound s) = 3
fault_status (Ends.Device s) = 4
fault_status Ends.Input = 5
fault_status Ends.InputTooLong = 5
fault_status Ends.Memory = 7
fault_status Ends.WornOut = 9

-- a fault, with nothing forced
abbrev pub fault_ending : Fault → Ending
fault_ending why = record { turns = line_turn (Says.Ended why) ∷ []; status = fault_status why }

-- what a group of commands ends with: a force, and then how
abbrev pub group_ending : List Turn → ℕ → Ending
group_ending turns status = record { turns = forced_turn ∷ turns; status = status }

abbrev pub cut_ending : Fault → Ending
cut_ending why = group_ending (line_turn (Says.Ended why) ∷ []) (fault_status why)

abbrev pub script_ending : End → Ending
script_ending Done = group_ending [] 0
script_ending (Bad bad) = group_ending (line_turn (Says.Bad bad) ∷ []) 2
script_ending TooLong = cut_ending Ends.InputTooLong

-- ---- one command

abbrev pub alone_ending : List Answered → Ending
alone_ending [] = record { turns = []; status = 0 }
alone_ending (p ∷ done) = record { turns = []; status = reply_status p.reply }

-- the change is made and forced before its reply is said
abbrev pub errand_alone : Command → Errand
errand_alone command = record { commands = Plain command ∷ []; says = reply_alone; forces = λ reply. true; ends = alone_ending }

abbrev pub nothing_but : Fault → Errand
nothing_but why = record { commands = []; says = reply_alone; forces = λ reply. true; ends = λ done. fault_ending why }

-- ---- a script

abbrev pub is_forced : Reply → Bool
is_forced Forced = true
is_forced other = false

-- a reply is said after each command
abbrev pub scripted : Spelled → Errand
scripted s = record { commands = s.0; says = reply_text; forces = is_forced; ends = λ done. script_ending s.1 }

-- ---- commands that are made up

abbrev pub is_made : Reply → ℕ
is_made (Made key sectors) = 1
is_made other = 0

abbrev pub is_deleted : Reply → ℕ
is_deleted (Deleted key) = 1
is_deleted other = 0

abbrev pub is_kept : Reply → ℕ
is_kept (Kept key keep) = 1
is_kept other = 0

abbrev pub is_read : Reply → ℕ
is_read (Bytes key bytes) = 1
is_read other = 0

abbrev pub is_refused : Reply → ℕ
is_refused (Refused why) = 1
is_refused (DamagedAt key s) = 1
is_refused other = 0

abbrev pub bytes_read : Reply → ℕ
bytes_read (Bytes key bytes) = length bytes
bytes_read other = 0

-- the bytes of a version that was made or read
abbrev pub bytes_moved : Command → Reply → ℕ
bytes_moved (Word.Put name bytes keep) (Made key sectors) = length bytes
bytes_moved (Word.Put name bytes keep) reply = bytes_read reply
-- by default those of a version that was read
bytes_moved command reply = bytes_read reply

-- of a script's command
abbrev pub moved_in : ScriptCommand → Reply → ℕ
moved_in (Plain command) reply = bytes_moved command reply
moved_in other reply = bytes_read reply

-- of so many replies it is so
abbrev pub replies_with : (Reply → ℕ) → List Answered → ℕ
replies_with f done = sum_by (λ p. f p.reply) done

abbrev pub generated_line : List Answered → Line
generated_line done = Says.Generated (record {
  count = length done;
  made = replies_with is_made done;
  deleted = replies_with is_deleted done;
  kept = replies_with is_kept done;
  read = replies_with is_read done;
  bytes = sum_by (λ p. moved_in p.command p.reply) done;
  refused = replies_with is_refused done;
})

-- nothing is said of a reply
abbrev pub generated : (seed count : ℕ) → Errand
generated seed count = record {
  commands = map (λ command. Plain command) (made_up seed count);
  says = λ reply. [];
  forces = λ reply. false;
  ends = λ done. group_ending (line_turn (generated_line done) ∷ []) 0;
}

-- ---- dumps

-- a line that is said once all is forced
abbrev pub forced_line : Line → ℕ → Ending
forced_line line status = record { turns = record { said = text line; changes = []; forces = true } ∷ []; status = status }

-- nothing is done, and the line says why
abbrev pub refusing : Line → Errand
refusing line = record { commands = []; says = λ reply. []; forces = λ reply. false; ends = λ done. forced_line line 1 }

-- the parts of the dump are said one after another, where so many bytes hold the first version
abbrev pub dumping : Result Span ℕ → Volume → Errand
dumping (Ok span) v = record { commands = []; says = λ reply. []; forces = λ reply. false; ends = λ done. record { turns = map said_turn (dump_of span v); status = 0 } }
dumping (Err need) v = refusing (Says.Refused (Why.TooLong need))

-- ---- restores

abbrev pub load_of : Dumped → ScriptCommand
load_of x = Plain (Word.Load x.key x.keep x.bytes)

abbrev pub refusal_of : Reply → Option Refusal
refusal_of (Refused why) = Some why
refusal_of other = None

-- the first refusal, if one came
abbrev pub first_refusal : List Answered → Option Refusal
first_refusal [] = None
first_refusal (p ∷ done) = option_or (refusal_of p.reply) (first_refusal done)

abbrev pub restored_unless : Option Refusal → (count : ℕ) → Ending
restored_unless (Some why) count = forced_line (Says.Refused why) 1
restored_unless None count = forced_line (Says.Restored count) 0

-- each version is loaded, and nothing is said of it
abbrev pub restoring : List Dumped → Errand
restoring items = record { commands = map load_of items; says = λ reply. []; forces = λ reply. false; ends = λ done. restored_unless (first_refusal done) (length done) }

-- where none is there already
abbrev pub restoring_unless : Option Key → List Dumped → Errand
restoring_unless (Some key) items = refusing (Says.Exists key)
restoring_unless None items = restoring items

abbrev pub restore_of : ItemsRead → Volume → Errand
restore_of (Err place) v = refusing (Says.NoDump place)
restore_of (Ok items) v = restoring_unless (first_there items v.entries) items

-- ---- by what the words ask for

-- where the input isn't too long
abbrev pub of_input : (input : List ℕ) → Errand → Errand
of_input input errand = if nat_lt max_input (length input) then nothing_but Ends.InputTooLong else errand

-- Of a request that mounts, over the volume that the mount gives; the others have nothing to do over a volume. The whole
-- input is put, or is the dump.
abbrev pub errand_of : Request → (input : List ℕ) → Volume → Errand
errand_of (Put name keep) input v = of_input input (errand_alone (Word.Put name input keep))
errand_of (One command) input v = errand_alone command
errand_of Script input v = scripted (script_in input)
errand_of (Generate seed count) input v = generated seed count
errand_of (Dump since most) input v = dumping (span_of since most v.entries) v
errand_of Restore input v = of_input input (restore_of (dumped_in input) v)
errand_of request input v = nothing_but Ends.NotVolume

-- the requests that mount the image
abbrev pub IfMounts : Request → Type 0 → Type 0
IfMounts (Put name keep) P = P
IfMounts (One command) P = P
IfMounts Script P = P
IfMounts (Generate seed count) P = P
IfMounts (Dump since most) P = P
IfMounts Restore P = P
IfMounts request P = Unit {0}

-- ---- how a run is cut off

-- How a run goes otherwise.
pub data Cutting : Type 0 where
  -- A fault ends a group behind so many commands: what was done is forced, and then the fault is said. A script's input
  -- may fail, and the mount may be worn out.
  ByFault : (count : ℕ) → Fault → Cutting
  -- A restore ends behind so many loads, the last of which is refused.
  ByRefusal : (count : ℕ) → Cutting
  -- A dump tells these data sectors as damaged, and has none of the versions.
  Damages : List (Key × ℕ) → Cutting
  -- A dump ends behind so many versions, for a data sector of the next.
  BySector : (count sector : ℕ) → Cutting

-- if it does
abbrev pub Cut : Type 0
Cut = Option Cutting

abbrev pub MayCut : Request → Cut → Type 0
MayCut request None = Unit {0}
MayCut Script (Some (ByFault k Ends.Input)) = Unit {0}
MayCut Script (Some (ByFault k Ends.WornOut)) = Unit {0}
MayCut (Generate seed count) (Some (ByFault k Ends.WornOut)) = Unit {0}
MayCut Restore (Some (ByRefusal k)) = Unit {0}
MayCut (Dump since most) (Some (Damages found)) = Unit {0}
MayCut (Dump since most) (Some (BySector k s)) = Unit {0}
MayCut request cut = ⊥

-- the head, and so many versions
abbrev pub first_turns : ℕ → Ending → Ending
first_turns k e = record { turns = take (suc k) e.turns; status = 8 }

abbrev pub damage_turn : Key × ℕ → Turn
damage_turn x = line_turn (Says.Damaged x.0 x.1)

abbrev pub cut_off : Cut → Errand → Errand
cut_off None e = e
cut_off (Some (ByFault k why)) e = record e { commands = take k e.commands; ends = λ done. cut_ending why }
cut_off (Some (ByRefusal k)) e = record e { commands = take k e.commands }
cut_off (Some (Damages found)) e = record e { ends = λ done. record { turns = map damage_turn found; status = 8 } }
cut_off (Some (BySector k s)) e = record e { ends = λ done. first_turns k (e.ends done) }
