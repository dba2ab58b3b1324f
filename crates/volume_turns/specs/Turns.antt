-- Commands one after another over a mounted volume, each with its reply said: what a stop leaves, and how they end.
use Rattle.std.specs.Prelude.{◌≡◌, ◌⊎◌, ⊤, Bool, true, false, ℕ, suc, ◌+◌, ◌≤◌, List, ◌∷◌, ◌++◌, length, take, slice_get, Option, None, Result, Ok, Err, IfErr, IsTrue}
use Rattle.volume_layout.specs.declared.layout.Layout.{Layout}
use Rattle.fsd_log.specs.Scan.{Placed}
use Rattle.std.specs.List.{flat_map, list_any}
use Rattle.sector_disk.specs.declared.machine.Machine.{Ghosts}
use Rattle.sector_disk.specs.Machine.{Moment, Report, Rose, Trusts, Utters, Wears}
use Rattle.fsd_files.specs.Disk.{Image, in_runs}
use Rattle.fsd_files.specs.Desk.{Session}
use Rattle.fsd_files.specs.declared.reply.Reply.{Reply}
use Rattle.fsd_files.specs.Volume.{Volume}
use Rattle.fsd_sound.specs.Mounted.{Mounted}
use Rattle.fsd_sound.specs.Sound.{IsSound}
use Rattle.fsd_texts.specs.declared.fault.Fault.{Fault}
use Rattle.fsd_texts.specs.declared.fault.Fault.TheVariants as Ends
use Rattle.fsd_texts.specs.declared.script_command.ScriptCommand.{ScriptCommand}
use Rattle.fsd_runs.specs.Errands.{Errand, Turn, answered_so}
use Rattle.fsd_runs.specs.Runs.{Goes, IsStep, IsWornOut, session_behind, changes_in, forced_in, said_in, turn_of, WearsOut, turns_begun}
use Rattle.fsd_runs.specs.Leaves.{SaysNext}
use Rattle.fsd_runs.specs.Sessions.{Meeting, answer_in}
use Rattle.client_desk.specs.declared.client.Client.{Client}
use Rattle.volume_turns.specs.declared.turns.Halt.{Halt}
use Rattle.volume_turns.specs.declared.turns.Halt.TheVariants.{Fault as Stopped, Output}
use Rattle.sector_disk.specs.Calls.{DiskFaults, IsHeld, Since, StopsOnly}
use Rattle.volume_contract.specs.State.{State, Ages, Known, forced_of}
use Rattle.volume_turns.specs.Seats.{Seated, SitsAt, known_of, session_in}
use Rattle.volume_turns.specs.Steps.{IsOfCall, IsToldOn, device_told}
use Rattle.volume_turns.specs.Syncs.{SyncsOnce, SyncsUpTo}

-- What a stop leaves in a run of these turns over a volume that stands so, of whose changes so many were told as forced:
-- some turns are said whole, and a part of what comes next. The disk is sound for the changes of the turns said and of the
-- one under way.
pub record InRun (k : Known) (f : ℕ) (turns : List Turn) (old left : Moment) : Type 0 where
  pub windows : left.windows ≡ old.windows
  pub whole : ℕ
  pub part : List ℕ
  pub said : left.said ≡ old.said ++ (said_in (take whole turns) ++ part)
  pub forced : ℕ
  pub next : SaysNext (length k.changes + forced_in (take (suc whole) turns) ≤ forced) (slice_get turns whole) part
  pub least : f ≤ forced
  pub enough : IsTrue (list_any (λ t. t.forces) (take whole turns)) → length k.changes + forced_in (take whole turns) ≤ forced
  pub sound : IsSound k.mounted.volume.layout k.windows (k.changes ++ changes_in (take (suc whole) turns)) forced left.image

-- Whichever of the moments since the last sync is on the disk, it is sound for the changes so far, with so many forced.
pub record OnDisk {D : Type 0} (M : Ghosts D) (k : Known) (f : ℕ) (m : D) : Type 0 where
  pub most : f ≤ forced_of k
  pub each : IsHeld M m (λ c. IsSound k.mounted.volume.layout k.windows k.changes f c.image)

-- Some first bytes of a text are said; where it is to stand behind a sync, none before one.
pub record UttersBehind (syncs : Bool) (text : List ℕ) (old left : Moment) : Type 0 where
  pub utters : Utters text old left
  pub synced : IsTrue syncs → (left.said ≡ old.said) ⊎ (old.time ≤ left.synced)

-- All of it is said, or none where memory was refused or the sync in front of it has failed.
pub record SaysAll (text : List ℕ) (old new : Moment) : Type 0 where
  pub ages : Ages old new
  pub said : new.said ≡ old.said ++ text

abbrev pub Unsaid : Moment → Moment → Halt → Type 0
Unsaid old new (Stopped Ends.Memory) = Wears old new
Unsaid old new (Stopped (Ends.Device s)) = Wears old new
Unsaid old new Output = ⊤
Unsaid old new end = ⊥

-- What stands behind a turn, in front of which so many changes were told as forced, and so many behind it.
pub record Carries (k after : Known) (f g : ℕ) (t : Turn) : Type 0 where
  pub layout : after.mounted.volume.layout ≡ k.mounted.volume.layout
  pub windows : after.windows ≡ k.windows
  pub changes : after.changes ≡ k.changes ++ t.changes
  pub least : f ≤ g
  pub all : IsTrue t.forces → g ≡ length after.changes

-- Nothing, or what a group that is cut off asks for: the mount is worn out.
abbrev pub Behind : Result (Unit {0}) Halt → Volume → Image → Type 0
Behind (Err (Stopped Ends.WornOut)) v i = IsWornOut v i
Behind result v i = ⊤

-- a fault that ends a run at once
abbrev pub EndsAtOnce : Fault → Type 0
EndsAtOnce (Ends.Device s) = ⊤
EndsAtOnce Ends.Memory = ⊤
EndsAtOnce fault = ⊥

-- an end by a fault of a call of the volume, or by the output
abbrev pub IsEndOfVolume : Halt → Type 0
IsEndOfVolume (Stopped fault) = IsOfCall fault
IsEndOfVolume Output = ⊤

-- what it tells of the image is so by this layout
abbrev pub IsEndOn : (AreCopies : Layout → ℕ → ℕ → Type 0) → Layout → Image → Halt → Type 0
IsEndOn AreCopies l i (Stopped why) = IsToldOn AreCopies l i why
IsEndOn AreCopies l i Output = ⊤

-- memory is wanted, or the next numbers of a mount
abbrev pub IsWant : Fault → Type 0
IsWant Ends.Memory = ⊤
IsWant Ends.WornOut = ⊤
IsWant fault = ⊥

-- an end that is no want
abbrev pub WantsNone : Halt → Type 0
WantsNone (Stopped fault) = IsWant fault → ⊥
WantsNone Output = ⊤

-- The disk is sound for the changes of so many turns alone.
pub record Undone (k : Known) (f : ℕ) (turns : List Turn) (whole : ℕ) (i : Image) : Type 0 where
  pub forced : ℕ
  pub least : f ≤ forced
  pub enough : IsTrue (list_any (λ t. t.forces) (take whole turns)) → length k.changes + forced_in (take whole turns) ≤ forced
  pub sound : IsSound k.mounted.volume.layout k.windows (k.changes ++ changes_in (take whole turns)) forced i

-- What was said is whole turns, and not all that were begun, or no more were. Whichever of the moments since the last sync
-- is on the disk, it is sound for the changes of these and of the one behind them, where one was begun; what is there now
-- for these alone, where memory was refused.
pub record Said {D : Type 0} (M : Ghosts D) (k : Known) (f : ℕ) (why : Fault) (turns : List Turn) (a b : D) : Type 0 where
  pub windows : (M.now b).windows ≡ (M.now a).windows
  pub whole : ℕ
  pub most : whole ≤ length turns
  pub said : (M.now b).said ≡ (M.now a).said ++ said_in (take whole turns)
  pub forced : ℕ
  pub least : f ≤ forced
  pub enough : IsTrue (list_any (λ t. t.forces) (take whole turns)) → length k.changes + forced_in (take whole turns) ≤ forced
  pub sound : IsHeld M b (λ c. IsSound k.mounted.volume.layout k.windows (k.changes ++ changes_in (take (suc whole) turns)) forced c.image)
  pub undone : why ≡ Ends.Memory → Undone k f turns whole (M.now b).image

abbrev pub turn_by : Errand → Session → ScriptCommand → Meeting → Turn
turn_by e s command x = turn_of e (answered_so s command (answer_in x s command).0)

module _ {S : Type 0} (state : S → State) (has : S → Mounted → List Placed → Type 0) where
  -- The commands that were begun are answered and said, and the volume stands behind them.
  pub record StandsBehind {D : Type 0} (M : Ghosts D) (e : Errand) (k : Seated) (f : ℕ) (mets : List Meeting) (commands : List ScriptCommand) (s : S × List Client) (a b : D) : Type 0 where
    pub after : Seated
    pub is : session_in after ≡ session_behind mets (session_in k) commands
    pub windows : after.windows ≡ k.windows
    pub changes : after.changes ≡ k.changes ++ changes_in (turns_begun e mets (session_in k) commands)
    pub said : (M.now b).said ≡ (M.now a).said ++ said_in (turns_begun e mets (session_in k) commands)
    pub open_windows : (M.now b).windows ≡ (M.now a).windows
    pub layout : after.mounted.volume.layout ≡ k.mounted.volume.layout
    -- so many changes are told as forced
    pub told : ℕ
    pub least : f ≤ told
    pub forced : IsTrue (list_any (λ t. t.forces) (turns_begun e mets (session_in k) commands)) → length k.changes + forced_in (turns_begun e mets (session_in k) commands) ≤ told
    pub held : OnDisk M (known_of after) told b
    pub stands : SitsAt state has s after (M.now b)

  abbrev pub EndsBy : {D : Type 0} → (M : Ghosts D) → Errand → Seated → (f : ℕ) → List Meeting → List ScriptCommand → S × List Client → (a b : D) → Result (Unit {0}) Halt → Type 0
  EndsBy M e k f mets commands s a b (Ok x) = (length mets ≡ length commands) × StandsBehind M e k f mets commands s a b
  EndsBy M e k f mets commands s a b (Err (Stopped Ends.WornOut)) = WearsOut (session_behind mets (session_in k) commands) (slice_get commands (length mets)) × StandsBehind M e k f mets commands s a b
  EndsBy M e k f mets commands s a b (Err (Stopped fault)) = EndsAtOnce fault × Said M (known_of k) f fault (turns_begun e mets (session_in k) commands) a b
  EndsBy M e k f mets commands s a b (Err Output) = ⊤

  -- The commands over the volume as it stood at a moment that has been worn since.
  pub record RunsFrom {D : Type 0} (M : Ghosts D) (e : Errand) (k : Seated) (f : ℕ) (from : Moment) (commands : List ScriptCommand) (a b : D) (s : S × List Client) (result : Result (Unit {0}) Halt) : Type 0 where
    pub mets : List Meeting
    pub goes : (t : ℕ) → t ≤ M.moment a → Goes (in_runs k.windows) (M.left_since b t) (Behind result) e (M.now a).said from.image (session_in k) mets commands
    pub moments : (rest : List Turn) → StopsOnly M a b (InRun (known_of k) f (turns_begun e mets (session_in k) commands ++ rest) (M.now a))
    pub ends : EndsBy M e k f mets commands s a b result

  abbrev pub RunsTurns : {D : Type 0} → (M : Ghosts D) → Errand → List ScriptCommand → (old : S × List Client) → (a : D) → (new : S × List Client) → (b : D) → Result (Unit {0}) Halt → Type 0
  RunsTurns M e commands old a new b result =
      M.honest b → (k : Seated) (f : ℕ) (from : Moment) → SitsAt state has old k from → Ages from (M.now a) → OnDisk M (known_of k) f a → RunsFrom M e k f from commands a b new result

  -- ---- one command

  -- It is answered and said: the volume stands so before its reply is said, and since.
  pub record StepsOk {D : Type 0} (M : Ghosts D) (e : Errand) (k : Seated) (f : ℕ) (from : Moment) (command : ScriptCommand) (a b : D) (s : S × List Client) : Type 0 where
    pub met : Meeting
    pub after : Seated
    pub mid : Moment
    pub step : (t : ℕ) → t ≤ M.moment a → IsStep (in_runs k.windows) (M.left_since b t) (M.now a).said from.image mid.image (session_in k) command met
    pub is : session_in after ≡ (answer_in met (session_in k) command).1
    pub told : ℕ
    pub carries : Carries (known_of k) (known_of after) f told (turn_by e (session_in k) command met)
    pub held : OnDisk M (known_of after) told b
    pub stands : SitsAt state has s after mid
    pub ages : Ages mid (M.now b)
    pub open_windows : (M.now b).windows ≡ (M.now a).windows
    pub said : (M.now b).said ≡ (M.now a).said ++ (turn_by e (session_in k) command met).said
    pub moments : (rest : List Turn) → StopsOnly M a b (InRun (known_of k) f (turn_by e (session_in k) command met ∷ rest) (M.now a))

  -- where it ends the run, it does so whatever commands would follow
  abbrev pub StepsBy : {D : Type 0} → (M : Ghosts D) → Errand → Seated → (f : ℕ) → Moment → ScriptCommand → (a b : D) → S × List Client → Result (Unit {0}) Halt → Type 0
  StepsBy M e k f from command a b s (Ok x) = StepsOk M e k f from command a b s
  StepsBy M e k f from command a b s (Err end) = (more : List ScriptCommand) → RunsFrom M e k f from (command ∷ more) a b s (Err end)

  abbrev pub Steps : {D : Type 0} → (M : Ghosts D) → Errand → ScriptCommand → (old : S × List Client) → (a : D) → (new : S × List Client) → (b : D) → Result (Unit {0}) Halt → Type 0
  Steps M e command old a new b result =
      M.honest b → (k : Seated) (f : ℕ) (from : Moment) → SitsAt state has old k from → Ages from (M.now a) → OnDisk M (known_of k) f a → StepsBy M e k f from command a b new result

-- ---- what is said over any image

-- replies are said, each whole, and no more
abbrev pub SaysReplies : (says : Reply → List ℕ) → (before after : List ℕ) → Type 0
SaysReplies says before after = (replies : List Reply) × (after ≡ before ++ flat_map says replies)

-- so it is in front of a fault
abbrev pub EndsWhole : (says : Reply → List ℕ) → (old new : Moment) → Halt → Type 0
EndsWhole says old new (Stopped why) = SaysReplies says old.said new.said
EndsWhole says old new Output = ⊤

abbrev pub BreaksWhole : {T : Type 0} → (says : Reply → List ℕ) → (old new : Moment) → Result T Halt → Type 0
BreaksWhole says old new (Ok x) = ⊤
BreaksWhole says old new (Err end) = EndsWhole says old new end

-- and where all went well
abbrev pub SaysWhole : {T : Type 0} → (says : Reply → List ℕ) → (old new : Moment) → Result T Halt → Type 0
SaysWhole says old new (Ok x) = SaysReplies says old.said new.said
SaysWhole says old new (Err end) = EndsWhole says old new end

-- nothing is said in front of a fault
abbrev pub KeepsEnd : (old new : Moment) → Halt → Type 0
KeepsEnd old new (Stopped why) = new.said ≡ old.said
KeepsEnd old new Output = ⊤

abbrev pub KeepsSaid : {T : Type 0} → (old new : Moment) → Result T Halt → Type 0
KeepsSaid old new (Ok x) = ⊤
KeepsSaid old new (Err end) = KeepsEnd old new end

-- ---- what is counted

abbrev pub device_end : {T : Type 0} → Result T Halt → Option ℕ
device_end (Err (Stopped fault)) = device_told fault
device_end result = None

-- the output's fault that ends it is counted, or there was none
abbrev pub Unheard : {T : Type 0} → Report → Report → Result T Halt → Type 0
Unheard old new (Err Output) = Rose old.output_faults new.output_faults
Unheard old new result = new.output_faults ≡ old.output_faults

-- as many sectors are told as before, or where the image may have got more no fewer
abbrev pub KeepsSectors : (longer : Bool) → (old new : ℕ) → Type 0
KeepsSectors false old new = new ≡ old
KeepsSectors true old new = old ≤ new

-- Of a run of commands the fault that ends it is counted, and no other of the disk.
pub record FaultToldBy (longer : Bool) {T : Type 0} (old new : Report) (result : Result T Halt) : Type 0 where
  pub sectors : KeepsSectors longer old.sectors new.sectors
  pub disk : DiskFaults (device_end result) old new
  pub input : new.input_faults ≡ old.input_faults
  pub later : old.output_faults ≤ new.output_faults
  pub output : Unheard old new result

-- so it is of one that keeps the image's length
abbrev pub FaultTold : {T : Type 0} → (old new : Report) → Result T Halt → Type 0
FaultTold old new result = FaultToldBy false old new result

-- What a text that is said asks for and keeps: where it is to stand behind a sync that sync, else no sync, and nothing
-- beside.
pub record SaysText {D T : Type 0} (M : Ghosts D) (syncs : Bool) (a b : D) (result : Result T Halt) : Type 0 where
  pub told : FaultTold (M.report a) (M.report b) result
  pub fault : IfErr result IsEndOfVolume
  pub ledger : M.tells b → SyncsOnce syncs (M.ledger a) (M.ledger b)
  pub trust : Trusts (M.tells a) (M.tells b) (M.honest a) (M.honest b)
  pub since : M.honest b → Since M a b

-- What commands over a mounted volume, with what is said of them, ask for and keep: the end of the volume is told as it is
-- counted, and is one of a call of it or of the output; nothing is asked for but writes and so many syncs at most; a machine
-- that tells, or is honest, behind them was so before; what a stop might have left before it might leave still.
pub record SpeaksBy (longer : Bool) {D T : Type 0} (M : Ghosts D) (most : ℕ) (a b : D) (result : Result T Halt) : Type 0 where
  pub told : FaultToldBy longer (M.report a) (M.report b) result
  pub fault : IfErr result IsEndOfVolume
  pub ledger : M.tells b → SyncsUpTo most (M.ledger a) (M.ledger b)
  pub trust : Trusts (M.tells a) (M.tells b) (M.honest a) (M.honest b)
  pub since : M.honest b → Since M a b
  pub later : M.honest b → M.moment a ≤ M.moment b

-- so it is of those that keep the image's length
abbrev pub Speaks : {D T : Type 0} → (M : Ghosts D) → (most : ℕ) → (a b : D) → Result T Halt → Type 0
Speaks M most a b result = SpeaksBy false M most a b result

-- What the rest of the machine's calls keep.
pub record KeepsCalls {D : Type 0} (M : Ghosts D) (a b : D) : Type 0 where
  pub honest : M.honest b → M.honest a
  pub since : M.honest b → Since M a b
  pub later : M.honest b → M.moment a ≤ M.moment b
