-- Commands that are read from the input: each is done, and its reply said, before the next one is read.
use Rattle.std.specs.Prelude.{◌≡◌, ◌⊎◌, ⊤, ℕ, ◌+◌, ◌≤◌, Bool, true, false, List, [], ◌++◌, length, take, Option, Some, None, Result, Ok, Err, OnErr, IfErr, IfOk}
use Rattle.volume_layout.specs.declared.layout.Layout.{Layout}
use Rattle.fsd_log.specs.Scan.{Placed}
use Rattle.sector_disk.specs.declared.machine.Machine.{Ghosts}
use Rattle.sector_disk.specs.Calls.{DiskFaults, Since}
use Rattle.sector_disk.specs.Machine.{Report, Rose, Trusts}
use Rattle.fsd_files.specs.declared.reply.Reply.{Reply}
use Rattle.fsd_sound.specs.Mounted.{Mounted}
use Rattle.fsd_texts.specs.declared.end.End.{End}
use Rattle.fsd_texts.specs.declared.end.End.TheVariants.{Done}
use Rattle.fsd_texts.specs.declared.fault.Fault.TheVariants as Ends
use Rattle.fsd_texts.specs.declared.script_command.ScriptCommand.{ScriptCommand}
use Rattle.fsd_texts.specs.Script.{max_input, script_in, script_of}
use Rattle.fsd_runs.specs.Errands.{Errand}
use Rattle.client_desk.specs.declared.client.Client.{Client}
use Rattle.script_text.specs.Reading.{WantsMore, Reading, fresh, script_left}
use Rattle.scrub.specs.Telling.{AreOfPage}
use Rattle.volume_contract.specs.State.{State, Known}
use Rattle.volume_turns.specs.declared.turns.Halt.{Halt}
use Rattle.volume_turns.specs.declared.turns.Halt.TheVariants.{Fault as Stopped}
use Rattle.volume_turns.specs.declared.script.Stop.{Stop}
use Rattle.volume_turns.specs.declared.script.Stop.TheVariants.{Ended, Input, WornOut}
use Rattle.volume_turns.specs.Each.{SaysBetween, SaysForced, SyncsRead}
use Rattle.volume_turns.specs.Group.{IsGroup}
use Rattle.volume_turns.specs.Turns.{BreaksWhole, IsEndOfVolume, IsEndOn, IsWant, KeepsCalls, RunsTurns, SaysWhole, Unheard, device_end}

-- ---- what is counted

-- Of a run that reads, the fault that ends it is counted, and no other of the disk.
pub record Heard {T : Type 0} (old new : Report) (result : Result T Halt) : Type 0 where
  pub sectors : new.sectors ≡ old.sectors
  pub disk : DiskFaults (device_end result) old new
  pub later : old.output_faults ≤ new.output_faults
  pub output : Unheard old new result

-- a fault of the input is counted, where that ends it, or there was none
abbrev pub RoseBy : Report → Report → Option Stop → Type 0
RoseBy old new (Some Input) = Rose old.input_faults new.input_faults
RoseBy old new other = new.input_faults ≡ old.input_faults

-- where memory is wanted, or the mount is worn out, no fault of the input is counted
abbrev pub SparesWanting : (old new : Report) → Halt → Type 0
SparesWanting old new (Stopped fault) = IsWant fault → new.input_faults ≡ old.input_faults
SparesWanting old new end = ⊤

-- What commands that are read ask for and keep, with what is said of them: as `Speaks` of those that are given, but that
-- input is taken, and nothing is attached.
pub record SpeaksReading {D T : Type 0} (M : Ghosts D) (a b : D) (result : Result T Halt) : Type 0 where
  pub heard : Heard (M.report a) (M.report b) result
  pub fault : IfErr result IsEndOfVolume
  pub attaches : M.tells b → (M.ledger b).attaches ≡ (M.ledger a).attaches
  pub trust : Trusts (M.tells a) (M.tells b) (M.honest a) (M.honest b)
  pub since : M.honest b → Since M a b
  pub later : M.honest b → M.moment a ≤ M.moment b

-- ---- what is said

-- Whole replies are said, and no more, and what the fault that ends it tells of the image is so by this layout.
pub record SaysRead {D T : Type 0} (M : Ghosts D) (says : Reply → List ℕ) (l : Layout) (a b : D) (result : Result T Halt) : Type 0 where
  pub whole_replies : M.honest b → SaysWhole says (M.now a) (M.now b) result
  pub image : IfErr result (λ end. M.honest b → IsEndOn AreOfPage l (M.now b).image end)

-- So it is of all commands of the input; where the script has ended, a reply was said for each of them.
pub record SaysAllRead {D : Type 0} (M : Ghosts D) (says : Reply → List ℕ) (l : Layout) (a b : D) (result : Result Stop Halt) : Type 0 where
  pub read : SaysRead M says l a b result
  pub replies : (end : End) → result ≡ Ok (Ended end) → SaysBetween M says (script_in (M.ledger a).input).0 a b

-- In front of a fault whole replies are said; what that tells of the image is so by this layout, and it is no worn-out
-- mount.
pub record BreaksRead {D : Type 0} (M : Ghosts D) (says : Reply → List ℕ) (l : Layout) (a b : D) (result : Result Stop Halt) : Type 0 where
  pub broken : M.honest b → BreaksWhole says (M.now a) (M.now b) result
  pub image : IfErr result (λ end. M.honest b → IsEndOn AreOfPage l (M.now b).image end)
  pub unworn : result ≡ Err (Stopped Ends.WornOut) → ⊥

-- ---- what is read

-- a command was given, and the reader goes on
abbrev pub GoesOnReading : Reading → Reading → Option Stop → Type 0
GoesOnReading old new None = (new.given ≡ old.given + 1) × (new.end ≡ None) × (new.given ≤ max_input)
GoesOnReading old new other = ⊤

-- the commands that are left, where there was one and no end
abbrev pub left_by : Result (Option Stop) Halt → List ScriptCommand → List ScriptCommand
left_by (Ok None) left = left
left_by result left = []

-- A fault of the input is counted where that ends it, and no other; where the script is done, all of the input is taken.
-- The reader goes on, and has not taken too much while its end is not known. No more syncs are done than the command may
-- have replies that tell something as forced.
pub record ReadsNext {D : Type 0} (M : Ghosts D) (forces : Reply → Bool) (r s : Reading) (a b : D) (result : Result (Option Stop) Halt) : Type 0 where
  pub rose : IfOk result (RoseBy (M.report a) (M.report b))
  pub quiet : OnErr result ((M.report b).input_faults ≡ (M.report a).input_faults)
  pub whole : result ≡ Ok (Some (Ended Done)) → r.end ≡ None → M.tells b → (M.ledger b).input ≡ []
  pub on : IfOk result (GoesOnReading r s)
  pub few : s.end ≡ None → s.taken ≤ max_input
  pub syncs : M.honest b → SyncsRead forces 0 (script_left r (M.ledger a).input).0 (left_by result (script_left s (M.ledger b).input).0) (M.ledger a) (M.ledger b)

-- So it is of the input from its first byte on.
pub record ReadsInput {D : Type 0} (M : Ghosts D) (forces : Reply → Bool) (a b : D) (result : Result Stop Halt) : Type 0 where
  pub rose : IfOk result (λ stop. RoseBy (M.report a) (M.report b) (Some stop))
  pub quiet : OnErr result ((M.report b).input_faults ≡ (M.report a).input_faults)
  pub whole : result ≡ Ok (Ended Done) → M.tells b → (M.ledger b).input ≡ []
  pub syncs : M.honest b → SyncsRead forces 0 (script_in (M.ledger a).input).0 [] (M.ledger a) (M.ledger b)

-- A fault of the input is counted where that ends it; where memory is wanted, or the mount is worn out, none is.
pub record HearsInput (old new : Report) (result : Result Stop Halt) : Type 0 where
  pub rose : IfOk result (λ stop. RoseBy old new (Some stop))
  pub memory : IfErr result (SparesWanting old new)

-- Where it is told that the script has ended so, it does; where it is done all of the input is taken; and a reply was said
-- for each of its commands, and last that all is forced. One more sync than those of the commands is done at most.
pub record EndsScript {D : Type 0} (M : Ghosts D) (e : Errand) (a b : D) (result : Result Stop Halt) : Type 0 where
  pub ends : (end : End) → result ≡ Ok (Ended end) → M.tells b → (script_in (M.ledger a).input).1 ≡ end
  pub whole : result ≡ Ok (Ended Done) → M.tells b → (M.ledger b).input ≡ []
  pub says : (end : End) → result ≡ Ok (Ended end) → M.honest b → (t : ℕ) → t ≤ M.moment a → SaysForced e.says (M.left_since b t) (script_in (M.ledger a).input).0 (M.now a).said (M.now b).said
  pub syncs : M.honest b → SyncsRead e.forces 1 (script_in (M.ledger a).input).0 [] (M.ledger a) (M.ledger b)

-- Some bytes of the input are taken: whatever stands behind them, they spell these commands and what is to come.
pub record Spells (before left : List ℕ) (old new : Reading) (commands : List ScriptCommand) : Type 0 where
  pub bytes : List ℕ
  pub all : before ≡ bytes ++ left
  pub count : new.taken ≡ old.taken + length bytes
  pub spells : (rest : List ℕ) → script_left old (bytes ++ rest) ≡ (commands ++ (script_left new rest).0, (script_left new rest).1)

module _ {S : Type 0} (state : S → State) (has : S → Mounted → List Placed → Type 0) where
  -- commands are done and said, and more of them may follow
  abbrev pub LeadsFurther : {D : Type 0} → (M : Ghosts D) → Errand → List ScriptCommand → (old : S × List Client) → (a : D) → (new : S × List Client) → (b : D) → Type 0
  LeadsFurther {D = D} M e done old a new b =
      (more : List ScriptCommand) (z : S × List Client) (c : D) (result : Result (Unit {0}) Halt) → KeepsCalls M b c → RunsTurns state has M e more new b z c result → RunsTurns state has M e (done ++ more) old a z c result

  -- Some first commands of what is to come are done.
  pub record DoneSo {D : Type 0} (M : Ghosts D) (e : Errand) (r s : Reading) (old : S × List Client) (a : D) (new : S × List Client) (b : D) : Type 0 where
    pub done : List ScriptCommand
    pub taken : Spells (M.ledger a).input (M.ledger b).input r s done
    pub says : SaysBetween M e.says done a b
    pub leads : LeadsFurther M e done old a new b

  -- All commands that stand whole in what was taken are done, and the input has failed.
  pub record FailsBehind {D : Type 0} (M : Ghosts D) (e : Errand) (r s : Reading) (old : S × List Client) (a : D) (new : S × List Client) (b : D) : Type 0 where
    pub done : List ScriptCommand
    pub taken : Spells (M.ledger a).input (M.ledger b).input r s done
    pub runs : RunsTurns state has M e done old a new b (Ok tt)
    pub still : s.end ≡ None
    pub short : WantsMore s.waiting

  abbrev pub ReadsScript : {D : Type 0} → (M : Ghosts D) → Errand → (r s : Reading) → (old : S × List Client) → (a : D) → (new : S × List Client) → (b : D) → Result (Option Stop) Halt → Type 0
  ReadsScript M e r s old a new b (Ok None) = DoneSo M e r s old a new b
  ReadsScript M e r s old a new b (Ok (Some (Ended end))) = ((script_left r (M.ledger a).input).1 ≡ end) × RunsTurns state has M e (script_left r (M.ledger a).input).0 old a new b (Ok tt) × SaysBetween M e.says (script_left r (M.ledger a).input).0 a b
  ReadsScript M e r s old a new b (Ok (Some Input)) = FailsBehind M e r s old a new b
  ReadsScript M e r s old a new b (Ok (Some WornOut)) = ⊥
  ReadsScript M e r s old a new b (Err end) = RunsTurns state has M e (script_left r (M.ledger a).input).0 old a new b (Err end)

  abbrev pub stopped : Result Stop Halt → Result (Option Stop) Halt
  stopped (Ok stop) = Ok (Some stop)
  stopped (Err end) = Err end

  -- from the script's first byte on
  pub record WholeRead {D : Type 0} (M : Ghosts D) (e : Errand) (old : S × List Client) (a : D) (new : S × List Client) (b : D) (result : Result Stop Halt) : Type 0 where
    pub last : Reading
    pub few : last.end ≡ None → last.taken ≤ max_input
    pub reads : ReadsScript M e fresh last old a new b (stopped result)

-- ---- with the force behind them

-- Commands that stand whole in what was taken are done as a group, and then the input has failed;
-- rest is what was left of it.
pub record FailedGroup {D : Type 0} (M : Ghosts D) (e : Errand) (k : Known) (input rest : List ℕ) (a b : D) (result : Result Bool Halt) : Type 0 where
  pub done : List ScriptCommand
  pub front : take (length done) (script_in input).0 ≡ done
  pub taken : List ℕ
  pub all : input ≡ taken ++ rest
  pub whole : length (script_of taken).0 ≡ length done
  pub rose : Rose (M.report a).input_faults (M.report b).input_faults
  pub group : IsGroup M e k (M.now a) done a b result
  pub uncut : group.cut ≡ false

abbrev pub GroupsBy : {D : Type 0} → (M : Ghosts D) → Errand → Known → (input rest : List ℕ) → (a b : D) → Result Stop Halt → Type 0
GroupsBy M e k input rest a b (Ok (Ended end)) = ((script_in input).1 ≡ end) × IsGroup M e k (M.now a) (script_in input).0 a b (Ok true)
GroupsBy M e k input rest a b (Ok Input) = FailedGroup M e k input rest a b (Ok true)
GroupsBy M e k input rest a b (Ok WornOut) = IsGroup M e k (M.now a) (script_in input).0 a b (Ok false)
GroupsBy M e k input rest a b (Err end) = IsGroup M e k (M.now a) (script_in input).0 a b (Err end) ⊎ FailedGroup M e k input rest a b (Err end)
