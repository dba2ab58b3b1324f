-- What a dump says of a volume, and why none is said.
use Rattle.std.specs.Prelude.{◌≡◌, ◌⊎◌, ⊤, ℕ, suc, Bool, true, false, List, [], ◌∷◌, ◌++◌, length, take, IsSome, IsFalse, Result, Ok, Err, Option, None, ◌==◌, slice_get, IsTrue}
use Rattle.std.specs.List.{concat}
use Rattle.volume_layout.specs.declared.layout.Layout.{Layout}
use Rattle.volume_layout.specs.Layout.{is_data}
use Rattle.fsd_bytes.specs.declared.key.Key.{Key}
use Rattle.fsd_bytes.specs.declared.refusal.Refusal.{Refusal}
use Rattle.fsd_bytes.specs.declared.refusal.Refusal.TheVariants as Why
use Rattle.sector_disk.specs.declared.machine.Machine.{Ghosts}
use Rattle.sector_disk.specs.declared.sector.Sector.TheVariants.{Damaged}
use Rattle.sector_disk.specs.Calls.{Counts, DiskFaults, Since}
use Rattle.sector_disk.specs.Image.{sector_at}
use Rattle.sector_disk.specs.Machine.{LeavesOnly, Moment, Trusts, Utters}
use Rattle.fsd_log.specs.Scan.{Placed}
use Rattle.fsd_files.specs.Disk.{Image}
use Rattle.fsd_files.specs.Scrub.{Picks, all_data}
use Rattle.fsd_files.specs.Volume.{Volume}
use Rattle.fsd_sound.specs.Mounted.{Mounted}
use Rattle.fsd_runs.specs.declared.span.Span.{Span}
use Rattle.fsd_runs.specs.Dumps.{AreWhole, IsSpoiltAt, chosen, dump_of}
use Rattle.volume_contract.specs.Ends.{device_of}
use Rattle.volume_contract.specs.Order.{CallStep, Comes, Data, LookUp, Through, down}
use Rattle.volume_contract.specs.State.{Known, Stands, State, volume_of}
use Rattle.scrub.specs.Looking.{AreDamaged}
use Rattle.scrub.specs.Telling.{TellsOn}
use Rattle.volume_dump.specs.declared.fault.DumpFault.{DumpFault}
use Rattle.volume_dump.specs.declared.fault.DumpFault.TheVariants.{Refused, Found, Cut, Output, Memory}

-- ---- over any machine

abbrev pub dump_steps : State → List CallStep
dump_steps s = down s ∷ LookUp ∷ Data ∷ []

-- a refusal is told as one, but for want of memory and a damaged sector
abbrev pub RefusesSo : State → Refusal → Type 0
RefusesSo s Why.Memory = ⊥
RefusesSo s (Why.Damaged t) = ⊥
RefusesSo s why = Comes (dump_steps s) why

abbrev pub FollowsDump : {T : Type 0} → State → Result T DumpFault → Type 0
FollowsDump s (Ok x) = Through (dump_steps s)
FollowsDump s (Err (Refused why)) = RefusesSo s why
FollowsDump s (Err other) = Through (down s ∷ [])

-- the place of the call of the disk that failed, where the fault tells one
abbrev pub device_in_dump : {T : Type 0} → Result T DumpFault → Option ℕ
device_in_dump (Err (Refused why)) = device_of why
device_in_dump other = None

abbrev pub is_unsaid_dump : {T : Type 0} → Result T DumpFault → Bool
is_unsaid_dump (Err Output) = true
is_unsaid_dump other = false

-- some bytes are said, and the sectors are worn
abbrev pub SaysSome : Moment → Moment → Type 0
SaysSome old left = (bytes : List ℕ) × Utters bytes old left

-- the one text begins with the other
abbrev pub IsBegun : List ℕ → List ℕ → Type 0
IsBegun front whole = (more : List ℕ) × (whole ≡ front ++ more)

-- A call that reads the disk and says, by the place of the fault of the disk that it tells, and by whether it tells one of
-- the output; of which a stop leaves this.
pub record ReadsAndSays {D : Type 0} (M : Ghosts D) (fault : Option ℕ) (unsaid : Bool) (R : Moment → Moment → Type 0) (old new : D) : Type 0 where
  pub sectors : (M.report new).sectors ≡ (M.report old).sectors
  pub faults : DiskFaults fault (M.report old) (M.report new)
  pub input : (M.report new).input_faults ≡ (M.report old).input_faults
  pub output : Counts unsaid (M.report old).output_faults (M.report new).output_faults
  pub trust : Trusts (M.tells old) (M.tells new) (M.honest old) (M.honest new)
  pub ledger : M.tells new → M.ledger new ≡ M.ledger old
  pub exit : M.honest new → R (M.now old) (M.now new)
  pub since : M.honest new → Since M old new
  pub any_moment : M.honest new → LeavesOnly M.moment M.left_since old new (R (M.now old))
  -- where the output hasn't failed, what was said before, and at each moment, is a beginning of what is said at the exit
  pub begun : IsFalse unsaid → M.honest new → IsBegun (M.now old).said (M.now new).said
  pub said_first : IsFalse unsaid → M.honest new → LeavesOnly M.moment M.left_since old new (λ left. IsBegun left.said (M.now new).said)

-- What it tells of any image, by the layout of its volume alone.
abbrev pub TellsDump : {T : Type 0} → Layout → Image → Result T DumpFault → Type 0
TellsDump l i (Err (Refused why)) = TellsOn l i why
TellsDump l i (Err (Found found)) = IsFalse (length found.items == 0) × AreDamaged l i found.items
TellsDump l i (Err (Cut s)) = IsTrue (is_data l s) × (sector_at i s ≡ Damaged)
TellsDump l i other = ⊤

-- ---- over a volume that stands

-- what a stop leaves: some first bytes of the dump are said
abbrev pub LeavesDumped : {S : Type 0} → (state : S → State) → (has : S → Mounted → List Placed → Type 0) → S → Span → Moment → Moment → Type 0
LeavesDumped state has s span old left = SaysSome old left × ((k : Known) → Stands state has s k old → Utters (concat (dump_of span (volume_of k))) old left)

-- So many versions are chosen, none of their data sectors was damaged as it began, and their dump is said.
pub record HasDumped (span : Span) (v : Volume) (old new : Moment) (count : ℕ) : Type 0 where
  pub whole : AreWhole old.image (chosen span v.entries)
  pub counts : count ≡ length (chosen span v.entries)
  pub said : new.said ≡ old.said ++ concat (dump_of span v)

-- Of their data sectors those that read damaged are found, and no others; nothing is said.
pub record FindsDamages (span : Span) (v : Volume) (old new : Moment) (found : List (Key × ℕ)) : Type 0 where
  pub some : IsFalse (length found == 0)
  pub finds : Picks old.image new.image (all_data (chosen span v.entries)) found
  pub quiet : new.said ≡ old.said

-- All parts in front of the version are said that is damaged.
pub record SaysUpTo (span : Span) (v : Volume) (old new : Moment) (s : ℕ) : Type 0 where
  pub count : ℕ
  pub spoilt : IsSpoiltAt new.image (chosen span v.entries) count s
  pub said : new.said ≡ old.said ++ concat (take (suc count) (dump_of span v))

-- Some first parts are said, not all.
pub record SaysFirst (span : Span) (v : Volume) (old new : Moment) : Type 0 where
  pub count : ℕ
  pub more : IsSome (slice_get (dump_of span v) count)
  pub said : new.said ≡ old.said ++ concat (take count (dump_of span v))

-- no data sector of the chosen versions was damaged as it began, and some first parts are said: up to the version that has
-- one that is now
abbrev pub IsCutOff : Span → Volume → (old new : Moment) → (s : ℕ) → Type 0
IsCutOff span v old new s = AreWhole old.image (chosen span v.entries) × SaysUpTo span v old new s

-- a fault from outside has ended it, at its first reading, or between two parts
abbrev pub BreaksOff : Span → Volume → (old new : Moment) → Type 0
BreaksOff span v old new = (new.said ≡ old.said) ⊎ (AreWhole old.image (chosen span v.entries) × SaysFirst span v old new)

abbrev pub EndsDump : Span → Volume → (old new : Moment) → Result ℕ DumpFault → Type 0
EndsDump span v old new (Ok count) = HasDumped span v old new count
EndsDump span v old new (Err (Found found)) = FindsDamages span v old new found.items
EndsDump span v old new (Err (Cut s)) = IsCutOff span v old new s
EndsDump span v old new (Err Output) = AreWhole old.image (chosen span v.entries)
EndsDump span v old new (Err Memory) = BreaksOff span v old new
EndsDump span v old new (Err (Refused (Why.Device s))) = BreaksOff span v old new
EndsDump span v old new (Err (Refused other)) = ⊥
