-- How a change of a version ends, from its look-up on.
use Rattle.std.specs.Prelude.{◌≡◌, ◌⊎◌, ◌+◌, ◌≤◌, length, ℕ, List, [], ◌∷◌, Result, Ok, Err, MatchResult}
use Rattle.std.specs.Option.{unwrap_or}
use Rattle.fsd_bytes.specs.declared.key.Key.{Key}
use Rattle.fsd_bytes.specs.declared.refusal.Refusal.{Refusal}
use Rattle.fsd_bytes.specs.declared.refusal.Refusal.TheVariants as Why
use Rattle.sector_disk.specs.Machine.{Moment}
use Rattle.fsd_files.specs.Answers.{Met, Outcome, move_outcome}
use Rattle.fsd_files.specs.Files.{Change}
use Rattle.fsd_files.specs.declared.reply.Reply.{Reply}
use Rattle.fsd_files.specs.declared.reply.Reply.TheVariants.{Moved, Refused}
use Rattle.run_table.specs.declared.run.Run.{Run}
use Rattle.sector_set.specs.Area.{together}
use Rattle.shadow_frees.specs.Waits.{Waits}
use Rattle.name_page.specs.Pages.{outer_refusal}
use Rattle.name_btree.specs.declared.fault.TreeFault.{TreeFault}
use Rattle.name_btree.specs.declared.fault.TreeFault.TheVariants.{Pages, Broken}
use Rattle.version_table.specs.declared.fault.VersionFault.{VersionFault}
use Rattle.version_table.specs.declared.fault.VersionFault.TheVariants.{Table, NoSuch, VersionsUsedUp}
use Rattle.volume_contract.specs.Ends.{AnswersAndStands}
use Rattle.volume_contract.specs.Order.{Asks, Fetch, LookUp, CallStep, down, keep_size, table_full, worn}
use Rattle.volume_contract.specs.State.{Known, Stands, State, volume_of}
use Rattle.volume_laws.specs.State.{IsMemoryOf, state}
use Rattle.volume_laws.specs.Volume.{VolumeValue}

-- ---- faults of an edit

-- A refusal from outside is told. Pages that differ from those of the look-up before have no such version.
abbrev pub edit_refusal : TreeFault → Refusal
edit_refusal (Pages refusal) = unwrap_or (outer_refusal refusal) Why.NoSuch
edit_refusal (Broken page) = Why.NoSuch

abbrev pub version_refusal : VersionFault → Refusal
version_refusal (Table fault) = edit_refusal fault
version_refusal NoSuch = Why.NoSuch
version_refusal VersionsUsedUp = Why.NoSuch

abbrev pub kept_told : Result Key VersionFault → Result Key Refusal
kept_told (Ok key) = Ok key
kept_told (Err fault) = Err (version_refusal fault)

-- ---- over any machine

-- the steps of a change of a version from its look-up on, and behind that
abbrev pub look_steps : List CallStep
look_steps = LookUp ∷ Asks Why.NoSuch ∷ []

abbrev pub edit_steps : List CallStep
edit_steps = Fetch ∷ Asks Why.NoSuch ∷ []

-- the steps of a move from its look-up on
abbrev pub moving_steps : State → List CallStep
moving_steps s = LookUp ∷ Asks Why.NoSuch ∷ Asks Why.VersionsUsedUp ∷ table_full s ∷ Fetch ∷ []

-- the tests of a call that sets a keep, and of one that takes a version out or moves it, before a force
abbrev pub keep_tests : State → ℕ → List CallStep
keep_tests s keep = down s ∷ keep_size s keep ∷ worn s ∷ []

abbrev pub delete_tests : State → List CallStep
delete_tests s = down s ∷ worn s ∷ []

-- The table has changed, and what waits with it: no serial is drawn, and the log is where it was.
pub record IsEdited (old new : State) : Type 0 where
  pub is : new ≡ record old { dirty = new.dirty; freed = new.freed; waiting = new.waiting; waits = new.waits; free_pages = new.free_pages; versions = new.versions }

-- so it has, or it is as it was
abbrev pub Edits : {T : Type 0} → State → State → Result T Refusal → Type 0
Edits old new result = MatchResult result (λ x. IsEdited old new) (λ why. new ≡ old)

-- ---- the sectors of a version that was taken out

-- They wait for the next force.
pub record Waited (runs : List Run) (old new : Waits) : Type 0 where
  pub removed : new.removed ≡ together old.removed runs
  pub kept : new.kept ≡ old.kept
  pub unfinished : new.unfinished ≡ old.unfinished
  pub held : new.held ≡ old.held

-- so they do, and one version less is counted; where no page waits for a force, or none is counted,
-- nothing was taken out
abbrev pub GivesUp : (dirty : List ℕ) → List Run → Waits → ℕ → Waits → ℕ → Type 0
GivesUp dirty runs old count new left = (((dirty ≡ []) ⊎ (count ≡ 0)) × (new ≡ old) × (left ≡ count)) ⊎ ((1 ≤ length dirty) × Waited runs old new × (left + 1 ≡ count))

-- ---- over an honest machine

-- It is changed by the definitions; or it stands as it was, and the definitions refuse, or the disk or memory did.
abbrev pub EndsEdit : {T : Type 0} → (Met → Outcome) → (T → Reply) → Change → Known → VolumeValue → Moment → Result T Refusal → Type 0
EndsEdit outcome says change k new now (Ok x) = AnswersAndStands state IsMemoryOf outcome (says x) (change ∷ []) k new now
EndsEdit outcome says change k new now (Err (Why.Device s)) = Stands state IsMemoryOf new k now
EndsEdit outcome says change k new now (Err Why.Memory) = Stands state IsMemoryOf new k now
EndsEdit outcome says change k new now (Err Why.NoSuch) = AnswersAndStands state IsMemoryOf outcome (Refused Why.NoSuch) [] k new now
EndsEdit outcome says change k new now (Err Why.VersionsUsedUp) = AnswersAndStands state IsMemoryOf outcome (Refused Why.VersionsUsedUp) [] k new now
EndsEdit outcome says change k new now (Err (Why.NameTableFull n)) = AnswersAndStands state IsMemoryOf outcome (Refused (Why.NameTableFull n)) [] k new now
EndsEdit outcome says change k new now (Err other) = ⊥

-- so it is of a version that moves to a name
abbrev pub EndsMove : Key → (name : List ℕ) → Known → VolumeValue → Moment → Result Key Refusal → Type 0
EndsMove key name k new now result = EndsEdit (λ met. move_outcome met (volume_of k) key name) (Moved key) (Change.Move key name) k new now result
