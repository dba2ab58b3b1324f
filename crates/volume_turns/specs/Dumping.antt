-- A dump over a mounted volume, to its last line.
use Rattle.std.specs.Prelude.{◌≡◌, ◌⊎◌, ⊤, ℕ, List, map, false, Option, Result, Ok, Err, IfErr}
use Rattle.sector_disk.specs.declared.machine.Machine.{Ghosts}
use Rattle.sector_disk.specs.Calls.{LeavesDisk, device_in}
use Rattle.sector_disk.specs.Machine.{Utters}
use Rattle.fsd_bytes.specs.declared.key.Key.{Key}
use Rattle.fsd_bytes.specs.declared.key.Serial.{Serial}
use Rattle.fsd_bytes.specs.declared.refusal.Refusal.{Refusal}
use Rattle.fsd_bytes.specs.declared.refusal.Refusal.TheVariants as Why
use Rattle.fsd_formats.specs.declared.entry.Entry.{Entry}
use Rattle.fsd_files.specs.declared.reply.Reply.{Reply}
use Rattle.fsd_log.specs.Scan.{Placed}
use Rattle.fsd_sound.specs.Mounted.{Mounted}
use Rattle.fsd_texts.specs.declared.fault.Fault.{Fault}
use Rattle.fsd_texts.specs.declared.fault.Fault.TheVariants as Ends
use Rattle.fsd_texts.specs.declared.line.Line.{Line}
use Rattle.fsd_texts.specs.declared.line.Line.TheVariants as Says
use Rattle.fsd_texts.specs.Text.{fault_text, text}
use Rattle.fsd_runs.specs.declared.span.Span.{Span}
use Rattle.fsd_runs.specs.Dumps.{span_of}
use Rattle.fsd_runs.specs.Errands.{damage_turn, fault_status}
use Rattle.fsd_runs.specs.Runs.{said_in}
use Rattle.scrub.specs.Reading.{ReadsVolume}
use Rattle.scrub.specs.Telling.{TellsOn}
use Rattle.scrub.specs.Walk.{IsFromOutside}
use Rattle.volume_contract.specs.Ends.{device_of}
use Rattle.volume_contract.specs.Order.{IsLookUp}
use Rattle.volume_contract.specs.State.{Known, Stands, State, volume_of}
use Rattle.volume_dump.specs.Dump.{EndsDump, FollowsDump, LeavesDumped, ReadsAndSays, TellsDump, device_in_dump, is_unsaid_dump}
use Rattle.volume_dump.specs.declared.fault.DumpFault.{DumpFault}
use Rattle.volume_dump.specs.declared.fault.DumpFault.TheVariants.{Refused, Found, Cut, Output, Memory}
use Rattle.volume_turns.specs.Line.{IsStatusAs, is_unsaid}
use Rattle.volume_turns.specs.Steps.{ended_by}
use Rattle.volume_turns.specs.Turns.{SaysAll}

-- ---- what is said last

-- a line for each damaged sector
abbrev pub damages_text : List (Key × ℕ) → List ℕ
damages_text found = said_in (map damage_turn found)

-- a refusal that doesn't end a run is said by a line of its own, with status 1
abbrev pub refusal_line : Refusal → Result Reply Fault → Line
refusal_line why (Ok a) = Says.Refused why
refusal_line why (Err fault) = Says.Ended fault

abbrev pub refusal_status : Result Reply Fault → ℕ
refusal_status (Ok a) = 1
refusal_status (Err fault) = fault_status fault

-- A text is said and this status given, or the output has failed. Nothing else is asked for.
pub record SaysAtEnd {D : Type 0} (M : Ghosts D) (bytes : List ℕ) (gives : ℕ) (a b : D) (status : ℕ) : Type 0 where
  pub says : LeavesDisk M false (is_unsaid status) (Utters bytes) a b
  pub ledger : M.tells b → M.ledger b ≡ M.ledger a
  pub kind : IsStatusAs gives status
  pub ends : M.honest b → (status ≡ 6) ⊎ ((status ≡ gives) × SaysAll bytes (M.now a) (M.now b))

-- what is said behind a dump that has ended so, and the status
abbrev pub EndsBehind : {D : Type 0} → (M : Ghosts D) → Result ℕ DumpFault → (a b : D) → (status : ℕ) → Type 0
EndsBehind M (Ok count) a b status = (b ≡ a) × (status ≡ 0)
EndsBehind M (Err (Cut s)) a b status = (b ≡ a) × (status ≡ 8)
EndsBehind M (Err Output) a b status = (b ≡ a) × (status ≡ 6)
EndsBehind M (Err (Found found)) a b status = SaysAtEnd M (damages_text found.items) 8 a b status
EndsBehind M (Err (Refused why)) a b status = SaysAtEnd M (text (refusal_line why (ended_by why))) (refusal_status (ended_by why)) a b status
EndsBehind M (Err Memory) a b status = SaysAtEnd M (fault_text Ends.Memory) 7 a b status

-- ---- over a mounted volume

-- what a span is refused for: that so many bytes are too few, or what a look-up is
abbrev pub IsOfSpan : Refusal → Type 0
IsOfSpan (Why.TooLong need) = ⊤
IsOfSpan other = IsLookUp other

-- it is the span that is asked for, or there is none, or a fault from outside has ended it
abbrev pub EndsFinding : Serial → (most : Option ℕ) → List Entry → Result Span Refusal → Type 0
EndsFinding since most entries (Ok span) = span_of since most entries ≡ Ok span
EndsFinding since most entries (Err (Why.TooLong need)) = span_of since most entries ≡ Err need
EndsFinding since most entries (Err why) = IsFromOutside why

-- A span is looked for, and all stays as it is.
pub record FindsSpan {S D : Type 0} (state : S → State) (has : S → Mounted → List Placed → Type 0) (M : Ghosts D) (since : Serial) (most : Option ℕ) (old new : S) (a b : D) (result : Result Span Refusal) : Type 0 where
  pub refusal : IfErr result IsOfSpan
  pub reads : ReadsVolume M state has (device_in device_of result) old new a b
  pub tells : IfErr result (λ why. M.honest b → TellsOn (state old).layout (M.now b).image why)
  pub done : M.honest b → (k : Known) → Stands state has old k (M.now a) → EndsFinding since most (volume_of k).entries result

-- A dump of a span of a volume has ended so, and then the run.
pub record DumpsAndEnds {S D : Type 0} (state : S → State) (has : S → Mounted → List Placed → Type 0) (M : Ghosts D) (span : Span) (v : S) (a b : D) (status : ℕ) : Type 0 where
  pub result : Result ℕ DumpFault
  pub mid : D
  pub order : FollowsDump (state v) result
  pub disk : ReadsAndSays M (device_in_dump result) (is_unsaid_dump result) (LeavesDumped state has v span) a mid
  pub tells : M.honest mid → TellsDump (state v).layout (M.now mid).image result
  pub done : M.honest mid → (k : Known) → Stands state has v k (M.now a) → EndsDump span (volume_of k) (M.now a) (M.now mid) result
  pub ends : EndsBehind M result mid b status

-- what comes behind a span that was looked for: its dump, or the line of why there is none
abbrev pub EndsAsked : {S D : Type 0} → (state : S → State) → (has : S → Mounted → List Placed → Type 0) → (M : Ghosts D) → S → Result Span Refusal → (a b : D) → (status : ℕ) → Type 0
EndsAsked state has M v (Ok span) a b status = DumpsAndEnds state has M span v a b status
EndsAsked state has M v (Err why) a b status = SaysAtEnd M (text (refusal_line why (ended_by why))) (refusal_status (ended_by why)) a b status

-- The dump that is asked for has ended so, and then the run.
pub record DumpsAsked {S D : Type 0} (state : S → State) (has : S → Mounted → List Placed → Type 0) (M : Ghosts D) (since : Serial) (most : Option ℕ) (v : S) (a b : D) (status : ℕ) : Type 0 where
  pub result : Result Span Refusal
  pub after : S
  pub mid : D
  pub finds : FindsSpan state has M since most v after a mid result
  pub ends : EndsAsked state has M after result mid b status
