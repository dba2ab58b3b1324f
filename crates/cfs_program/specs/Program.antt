-- What the program answers and leaves, by what its words ask for.
use Rattle.std.specs.Prelude.{◌≡◌, ◌⊎◌, ◌≤◌, ◌+◌, ⊤, ℕ, List, [], ◌∷◌, ◌++◌, length, take, Option, Some, None, Result, Ok, Err, IsFalse, IsTrue}
use Rattle.volume_layout.specs.declared.layout.Layout.{Layout}
use Rattle.volume_layout.specs.declared.fault.LayoutFault.{LayoutFault}
use Rattle.volume_layout.specs.Layout.{plan_most}
use Rattle.sector_disk.specs.declared.machine.Machine.{Ghosts}
use Rattle.sector_disk.specs.Calls.{IsHeld}
use Rattle.sector_disk.specs.Machine.{Asked, Ledger, Moment, Report, Rose, Trusts}
use Rattle.fsd_texts.specs.declared.command.Command.TheVariants as Word
use Rattle.fsd_texts.specs.declared.fault.Fault.TheVariants as Ends
use Rattle.fsd_texts.specs.declared.line.Line.{Line}
use Rattle.fsd_texts.specs.declared.line.Line.TheVariants as Says
use Rattle.fsd_texts.specs.declared.end.End.TheVariants.{Done}
use Rattle.fsd_texts.specs.Script.{max_input, script_in}
use Rattle.fsd_texts.specs.Text.{text}
use Rattle.fsd_texts.specs.declared.bad_line.Cause.{Cause}
use Rattle.fsd_runs.specs.declared.request.Request.{Request}
use Rattle.fsd_runs.specs.declared.request.Request.TheVariants.{NoCommand, BadField, Format, Put, One, Script, Generate, Dump, Restore, Drill}
use Rattle.fsd_runs.specs.Commands.{is_status_of, reply_statuses, reply_text}
use Rattle.fsd_runs.specs.Errands.{IfMounts}
use Rattle.fsd_runs.specs.Leaves.{IsSoundAsSaid, LeavesRun, NoneRose, Was}
use Rattle.cfs_program.specs.Drill.{SaysDrill}
use Rattle.cfs_program.specs.Formatting.{IsMadeBy, SaysFormat, SparesUnplanned, format_status, plan_asks}
use Rattle.volume_contract.specs.State.{Ages}
use Rattle.scrub.specs.Telling.{AreOfPage, StandTwice}
use Rattle.volume_turns.specs.Answering.{SaysOne}
use Rattle.volume_turns.specs.Causes.{FailsInput, Front, Nothing, Parts, Replies, HasSpent, HasVolume, SaysCause, SaysFaultAt, SaysMade, SaysOfInput, is_of_fault, is_of_mounted}
use Rattle.volume_turns.specs.Each.{SaysBadLine, SaysForced}
use Rattle.volume_turns.specs.Healing.{IfScrub, is_of_answer}
use Rattle.volume_turns.specs.Status.{CountsInput, CountsNone, is_unfailed, is_quiet}
use Rattle.volume_turns.specs.Commands.{MayLose}
use Rattle.volume_turns.specs.Syncs.{most_in_script}
use Rattle.cfs_program.specs.Opening.{AcceptsSound, AsFound, AsksOrNot, HealsFound, IsSoundDisk, WritesFound, is_from_outside, mount_asks}

-- ---- statuses

-- where no call of the outside fails
abbrev pub complete_statuses : Request → List ℕ
complete_statuses NoCommand = 2 ∷ 7 ∷ []
complete_statuses (BadField cause) = 2 ∷ 7 ∷ []
complete_statuses (Format n t p kind q) = format_status (plan_most kind n t p q) ∷ 7 ∷ []
complete_statuses (Put name keep) = 0 ∷ 1 ∷ 3 ∷ 5 ∷ 7 ∷ 9 ∷ []
complete_statuses (One command) = reply_statuses command ++ 3 ∷ 7 ∷ 9 ∷ []
complete_statuses Script = 0 ∷ 2 ∷ 3 ∷ 5 ∷ 7 ∷ 9 ∷ []
complete_statuses (Generate seed count) = 0 ∷ 3 ∷ 7 ∷ 9 ∷ []
complete_statuses (Dump since most) = 0 ∷ 1 ∷ 3 ∷ 7 ∷ 8 ∷ 9 ∷ []
complete_statuses Restore = 0 ∷ 1 ∷ 3 ∷ 5 ∷ 7 ∷ 9 ∷ []
complete_statuses Drill = 0 ∷ 7 ∷ []

abbrev pub plan_faults : Result Layout LayoutFault → List ℕ
plan_faults (Ok l) = 4 ∷ 6 ∷ []
plan_faults (Err why) = 6 ∷ []

-- where one fails
abbrev pub fault_statuses : Request → List ℕ
fault_statuses NoCommand = 6 ∷ []
fault_statuses (BadField cause) = 6 ∷ []
fault_statuses (Format n t p kind q) = plan_faults (plan_most kind n t p q)
fault_statuses (Put name keep) = 4 ∷ 5 ∷ 6 ∷ []
fault_statuses Script = 4 ∷ 5 ∷ 6 ∷ []
fault_statuses Restore = 4 ∷ 5 ∷ 6 ∷ []
fault_statuses Drill = 6 ∷ []
fault_statuses request = 4 ∷ 6 ∷ []

-- ---- attaches and input

-- the attaches that a request asks for
abbrev pub asks_of : Request → List ℕ → List Asked
asks_of NoCommand path = []
asks_of (BadField cause) path = []
asks_of (Format n t p kind q) path = plan_asks (plan_most kind n t p q) path
asks_of Drill path = []
asks_of request path = mount_asks path

-- A run of one command does one sync at most, and so does one that makes its commands up, a dump and a restore; a script
-- over an honest machine does at most one for each command that asks for a force, and one at its end; another request
-- does none.
abbrev pub SyncsAtMost : Request → (Honest : Type 0) → (old new : Ledger) → Type 0
SyncsAtMost (Put name keep) Honest old new = new.syncs ≤ old.syncs + 1
SyncsAtMost (One command) Honest old new = new.syncs ≤ old.syncs + 1
SyncsAtMost (Generate seed count) Honest old new = new.syncs ≤ old.syncs + 1
SyncsAtMost (Dump since most) Honest old new = new.syncs ≤ old.syncs + 1
SyncsAtMost Restore Honest old new = new.syncs ≤ old.syncs + 1
SyncsAtMost Script Honest old new = Honest → new.syncs ≤ old.syncs + most_in_script old.input
SyncsAtMost request Honest old new = new.syncs ≡ old.syncs

-- only a put, a script and a restore take input
abbrev pub LeavesInput : Request → (old new : List ℕ) → Type 0
LeavesInput (Put name keep) old new = ⊤
LeavesInput Script old new = ⊤
LeavesInput Restore old new = ⊤
LeavesInput request old new = new ≡ old

-- nor has another request a fault of it
abbrev pub SparesInput : Request → (old new : Report) → Type 0
SparesInput (Put name keep) old new = ⊤
SparesInput Script old new = ⊤
SparesInput Restore old new = ⊤
SparesInput request old new = new.input_faults ≡ old.input_faults

-- what it was and what is left of it where a put, a script or a restore is done, or a put or a restore is refused
abbrev pub TakesAll : Request → (input left : List ℕ) → Type 0
TakesAll (Put name keep) input left = (left ≡ []) × (length input ≤ max_input)
TakesAll Script input left = left ≡ []
TakesAll Restore input left = (left ≡ []) × (length input ≤ max_input)
TakesAll request input left = ⊤

-- no line of a script is bad: its commands stand in it to its end
abbrev pub IsSpelled : Request → List ℕ → Type 0
IsSpelled Script input = (script_in input).1 ≡ Done
IsSpelled request input = ⊤

-- of a script a line is bad; for each of the commands before it a reply is said, then that all is forced,
-- and last that line
abbrev pub HasBadLine : Request → (Past : Moment → Type 0) → (input before : List ℕ) → Moment → Type 0
HasBadLine Script Past input before new = SaysBadLine Past input before new
HasBadLine request Past input before new = ⊤

-- the input that a request is about
abbrev pub input_for : Request → List ℕ → List ℕ
input_for (Put name keep) input = input
input_for Script input = input
input_for Restore input = input
input_for request input = []

-- ---- what is said

-- the line of the first field that is refused
abbrev pub field_line : Cause → Line
field_line cause = Says.Bad (record { line = 0; cause = cause })

-- some first bytes of the line are said
abbrev pub BeginsLine : Line → (old new : Moment) → Type 0
BeginsLine line old new = (heard : ℕ) × (new.said ≡ old.said ++ take heard (text line))

-- the whole line is said and its status given, or the output failed behind some first bytes
abbrev pub SaysLine : Line → ℕ → (old new : Moment) → ℕ → Type 0
SaysLine line status old new result = ((result ≡ 6) × BeginsLine line old new) ⊎ ((result ≡ status) × (new.said ≡ old.said ++ text line))

-- memory was refused before anything was done for the request
abbrev pub SaysMemory : (old new : Moment) → ℕ → Type 0
SaysMemory old new result = SaysLine (Says.Ended Ends.Memory) 7 old new result × Ages old new

-- of the requests that mount nothing; place is that of the disk's last fault
abbrev pub SaysAnswer : Request → (place : ℕ) → (old new : Moment) → ℕ → Type 0
SaysAnswer NoCommand place old new result = SaysLine Says.Usage 2 old new result
SaysAnswer (BadField cause) place old new result = SaysLine (field_line cause) 2 old new result
SaysAnswer (Format n t p kind q) place old new result = SaysFormat (plan_most kind n t p q) place old new result
SaysAnswer Drill place old new result = SaysDrill old new result
SaysAnswer request place old new result = ⊤

-- what is said before the last line: of a script replies, and of a dump some bytes of it
abbrev pub front_of : Request → Front
front_of Script = Replies
front_of (Dump since most) = Parts
front_of request = Nothing

-- the sectors that a call of a run may tell as lost
abbrev pub RunMayLose : Request → Layout → (a b : ℕ) → Type 0
RunMayLose (One command) = MayLose command
RunMayLose (Dump since most) = StandTwice
RunMayLose request = AreOfPage

-- how many commands it does at most with no force between them that its words ask for
abbrev pub made_for : Request → Option ℕ
made_for (Generate seed count) = Some count
made_for Restore = Some max_input
made_for request = None

-- where it was answered to its end, a script says for each of its commands a reply that this may have, over the image
-- of one of these moments, and that all is forced, and a run that makes its commands up that
-- all is forced and what came of so many
abbrev pub SaysToEnd : Request → (Past : Moment → Type 0) → (input before : List ℕ) → Moment → Type 0
SaysToEnd Script Past input before new = SaysForced reply_text Past (script_in input).0 before new.said
SaysToEnd (Generate seed count) Past input before new = SaysMade count before new
SaysToEnd request Past input before new = ⊤

-- one command says one reply, or the line of the fault that has ended it, and no more
abbrev pub SaysAlone : Request → (input : List ℕ) → (old new : Moment) → ℕ → Type 0
SaysAlone (Put name keep) input old new result = SaysOne (Word.Put name input keep) old new result
SaysAlone (One command) input old new result = SaysOne command old new result
SaysAlone request input old new result = ⊤

-- ---- the image

-- one command that takes no input writes no more than the mount and it may
abbrev pub WritesAlone : Request → (old new : Moment) → Type 0
WritesAlone (One command) old new = WritesFound command old new
WritesAlone request old new = ⊤

-- where it is a scrub
abbrev pub IfScrubs : Request → Type 0 → Type 0
IfScrubs (One command) P = IfScrub command P
IfScrubs request P = ⊤

-- After status 0, by what each moment since the last sync has, the present one among them: so a stop behind a format leaves
-- its volume.
abbrev pub HoldsAfter : Request → (Held : (Moment → Type 0) → Type 0) → Type 0
HoldsAfter NoCommand Held = ⊥
HoldsAfter (BadField cause) Held = ⊥
HoldsAfter (Format n t p kind q) Held = IsMadeBy (plan_most kind n t p q) Held
HoldsAfter request Held = ⊤

-- a request that asks for no attach leaves the disk as it was
abbrev pub SparesImage : Request → (old new : Moment) → Type 0
SparesImage NoCommand old new = Ages old new
SparesImage (BadField cause) old new = Ages old new
SparesImage (Format n t p kind q) old new = SparesUnplanned (plan_most kind n t p q) old new
SparesImage Drill old new = Ages old new
SparesImage request old new = ⊤

-- ---- a sound disk

-- So a request that mounts its image leaves each sound disk, where each moment since the last sync is as sound as the run
-- begins.
abbrev pub LeavesEachSound : {D : Type 0} → Ghosts D → Request → (a b : D) → (result : ℕ) → Type 0
LeavesEachSound M request a b result =
    (was : Was) → IsSoundDisk was.layout was.windows was.changes was.forced (M.now a) → IsHeld M a (λ c. IsSoundAsSaid was.layout was.windows was.changes was.forced (M.now a).image c.image) →
    IfMounts request (LeavesRun M request (input_for request (M.ledger a).input) (M.ledger b).input was a b result)

-- ---- the whole

-- What the program does for a request, over any machine and over an honest one.
pub record Ran {D : Type 0} (M : Ghosts D) (request : Request) (path : List ℕ) (a b : D) (result : ℕ) : Type 0 where
  pub status : IsTrue (is_status_of (complete_statuses request ++ fault_statuses request) result)
  pub complete : NoneRose (M.report a) (M.report b) → IsTrue (is_status_of (complete_statuses request) result)
  pub device : result ≡ 4 → Rose (M.report a).disk_faults (M.report b).disk_faults
  pub output : result ≡ 6 → Rose (M.report a).output_faults (M.report b).output_faults
  pub quiet : IsTrue (is_quiet result) → CountsNone (M.report a) (M.report b)
  pub unfailed : IsTrue (is_unfailed result) → CountsInput (M.report a) (M.report b)
  pub attaches : M.tells b → AsksOrNot (asks_of request path) (M.ledger a).attaches (M.ledger b).attaches
  pub attached : IsFalse (is_from_outside result) → M.tells b → (M.ledger b).attaches ≡ (M.ledger a).attaches ++ asks_of request path
  pub syncs : M.tells b → SyncsAtMost request (M.honest b) (M.ledger a) (M.ledger b)
  pub taken : M.tells b → LeavesInput request (M.ledger a).input (M.ledger b).input
  pub spared : SparesInput request (M.report a) (M.report b)
  pub input : result ≡ 5 → M.tells b → FailsInput (M.ledger a).input (M.report a) (M.report b)
  pub fails : result ≡ 5 → M.honest b → SaysOfInput (M.ledger a).input (M.report a) (M.report b) (M.now b)
  pub bad : result ≡ 2 → M.honest b → HasBadLine request (M.left_since b (M.moment a)) (M.ledger a).input (M.now a).said (M.now b)
  pub whole : result ≤ 1 → M.tells b → TakesAll request (M.ledger a).input (M.ledger b).input
  pub spelled : result ≡ 0 → M.tells b → IsSpelled request (M.ledger a).input
  pub trust : Trusts (M.tells a) (M.tells b) (M.honest a) (M.honest b)
  pub says : M.honest b → SaysAnswer request (M.report b).fault_place (M.now a) (M.now b) result ⊎ SaysMemory (M.now a) (M.now b) result
  pub one : M.honest b → SaysAlone request (M.ledger a).input (M.now a) (M.now b) result
  pub rest : M.honest b → WritesAlone request (M.now a) (M.now b)
  pub healed : IsTrue (is_of_answer result) → M.honest b → IfScrubs request (HealsFound M a b)
  pub mounted : IsTrue (is_of_mounted result) → M.honest b → IfMounts request (AsFound HasVolume (M.now a))
  pub refused : result ≡ 3 → M.honest b → AsFound (λ sectors at. SaysCause (front_of request) (RunMayLose request) sectors at (M.now b)) (M.now a)
  pub last : IsTrue (is_of_fault result) → M.honest b → IfMounts request (SaysFaultAt (M.report b).fault_place (M.now b) result)
  pub spent : result ≡ 9 → M.honest b → AsFound (HasSpent (made_for request)) (M.now a)
  pub all : result ≡ 0 → M.honest b → SaysToEnd request (M.left_since b (M.moment a)) (M.ledger a).input (M.now a).said (M.now b)
  pub image : result ≡ 0 → M.honest b → HoldsAfter request (IsHeld M b)
  pub untouched : M.honest b → SparesImage request (M.now a) (M.now b)
  pub leaves : M.honest b → LeavesEachSound M request a b result
  pub accepted : M.honest b → AcceptsSound (M.now a) result
