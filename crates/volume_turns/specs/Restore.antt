-- A restore over a mounted volume: what it looks up, and how it goes up to the line that is said once all is forced.
use Rattle.std.specs.Prelude.{◌≡◌, ◌⊎◌, ⊤, ◌≤◌, ℕ, Bool, false, List, Option, Some, None, Result, Ok, Err, IfErr, IfOk}
use Rattle.volume_layout.specs.declared.layout.Layout.{Layout}
use Rattle.fsd_log.specs.Scan.{Placed}
use Rattle.sector_disk.specs.declared.machine.Machine.{Ghosts}
use Rattle.sector_disk.specs.Calls.{OnlyReads, StopsOnly}
use Rattle.fsd_files.specs.Disk.{in_runs}
use Rattle.fsd_files.specs.Volume.{Volume}
use Rattle.fsd_files.specs.declared.reply.Reply.{Reply}
use Rattle.fsd_sound.specs.Mounted.{Mounted}
use Rattle.fsd_texts.specs.declared.fault.Fault.{Fault}
use Rattle.fsd_texts.specs.declared.fault.Fault.TheVariants as Ends
use Rattle.fsd_runs.specs.Errands.{ByRefusal, Cut, Errand, cut_off}
use Rattle.fsd_runs.specs.Runs.{Goes, IsRestoredSo, answered, turns_of}
use Rattle.fsd_runs.specs.Sessions.{Meeting, session_over}
use Rattle.scrub.specs.Telling.{AreOfPage}
use Rattle.volume_contract.specs.State.{Known, Stands, State, forced_of, none_open, volume_of}
use Rattle.volume_turns.specs.declared.turns.Halt.{Halt}
use Rattle.volume_turns.specs.declared.turns.Halt.TheVariants.{Fault as Stopped, Output}
use Rattle.volume_turns.specs.Once.{Anything, ClosesAndSays, unit_of}
use Rattle.volume_turns.specs.Status.{IsStatusBroken}
use Rattle.volume_turns.specs.Steps.{IsOfCall, IsToldOn, device_by}
use Rattle.volume_turns.specs.Turns.{EndsAtOnce, InRun, IsEndOn, KeepsSaid, OnDisk, Speaks}
use Rattle.volume_turns.specs.Whole.{Halted, SaysOut}

-- ---- which statuses there are

-- all is made again, or something is refused; or a fault of the volume has come, or the output failed
abbrev pub IsRestoreStatus : ℕ → Type 0
IsRestoreStatus status = (status ≤ 1) ⊎ IsStatusBroken status

-- ---- what is looked up

-- this is found, or a fault from outside has come
abbrev pub FindsOr : {R : Type 0} → (R → Type 0) → Result R Fault → Type 0
FindsOr Found (Ok x) = Found x
FindsOr Found (Err fault) = EndsAtOnce fault

-- a refusal that is said tells that there is none
abbrev pub none_unless : Result Reply Fault → Result Bool Fault
none_unless (Ok reply) = Ok false
none_unless (Err fault) = Err fault

-- Something is looked up in the table, and all stays as it is.
pub record LooksFor {D S R : Type 0} (M : Ghosts D) (state : S → State) (has : S → Mounted → List Placed → Type 0) (Found : Volume → R → Type 0) (old new : S) (a b : D) (result : Result R Fault) : Type 0 where
  pub still : state new ≡ state old
  pub disk : OnlyReads M (device_by result) a b
  pub fault : IfErr result IsOfCall
  pub told : M.honest b → IfErr result (IsToldOn AreOfPage (state old).layout (M.now b).image)
  pub unworn : IfErr result (λ why. why ≡ Ends.WornOut → ⊥)
  pub stands : M.honest b → (k : Known) → Stands state has old k (M.now a) → Stands state has new k (M.now b)
  pub found : M.honest b → (k : Known) → Stands state has old k (M.now a) → FindsOr (Found (volume_of k)) result

-- ---- where a restore ends

-- behind the load that is refused, if one is
abbrev pub cut_at : Option ℕ → Cut
cut_at None = None
cut_at (Some count) = Some (ByRefusal count)

abbrev pub EndsErrand : {D : Type 0} → (M : Ghosts D) → Errand → Known → List Meeting → (a b : D) → Result ℕ Halt → Type 0
EndsErrand M e k mets a b (Ok status) = SaysOut M e k mets a b status
EndsErrand M e k mets a b (Err (Stopped why)) = EndsAtOnce why × Halted M k why (turns_of e mets (session_over (volume_of k))) a b
EndsErrand M e k mets a b (Err Output) = ⊤

-- An errand is done up to its end, which is said, or up to the fault that has ended it, which is not.
pub record IsEnded {D : Type 0} (M : Ghosts D) (e : Errand) (k : Known) (a b : D) (result : Result ℕ Halt) : Type 0 where
  pub mets : List Meeting
  pub goes : (t : ℕ) → t ≤ M.moment a → Goes (in_runs k.windows) (M.left_since b t) Anything e (M.now a).said (M.now a).image (session_over (volume_of k)) mets e.commands
  pub moments : StopsOnly M a b (InRun k (forced_of k) (turns_of e mets (session_over (volume_of k))) (M.now a))
  pub ends : EndsErrand M e k mets a b result

-- So it is of a restore, which goes on as long as nothing is refused.
pub record IsRestored {D : Type 0} (M : Ghosts D) (e : Errand) (k : Known) (a b : D) (result : Result ℕ Halt) : Type 0 where
  pub refused : Option ℕ
  pub ended : IsEnded M (cut_off (cut_at refused) e) k a b result
  pub so : IsRestoredSo (cut_at refused) (answered ended.mets (session_over (volume_of k)) (cut_off (cut_at refused) e).commands)

-- ---- what such calls keep

-- Nothing is said in front of a fault, and what that tells of the image is so by this layout; it is no worn-out mount.
pub record EndsQuiet {D T : Type 0} (M : Ghosts D) (l : Layout) (a b : D) (result : Result T Halt) : Type 0 where
  pub speaks : Speaks M 1 a b result
  pub image : IfErr result (λ end. M.honest b → IsEndOn AreOfPage l (M.now b).image end)
  pub unworn : result ≡ Err (Stopped Ends.WornOut) → M.honest b → ⊥
  pub quiet : M.honest b → KeepsSaid (M.now a) (M.now b) result

-- The volume's use has ended, and this is said.
pub record EndsSaying {D S : Type 0} (M : Ghosts D) (state : S → State) (has : S → Mounted → List Placed → Type 0) (text : List ℕ) (gives : ℕ) (v : S) (a b : D) (result : Result ℕ Halt) : Type 0 where
  pub calls : EndsQuiet M (state v).layout a b result
  pub gives_it : IfOk result (λ status. status ≡ gives)
  pub closes : M.honest b → (k : Known) (f : ℕ) → Stands state has v k (M.now a) → OnDisk M k f a → ClosesAndSays M k f text a b (unit_of result)

-- The errand is done, with status 0 or 1, over the volume as it stands.
pub record Restores {D S : Type 0} (M : Ghosts D) (state : S → State) (has : S → Mounted → List Placed → Type 0) (e : Volume → Errand) (v : S) (a b : D) (result : Result ℕ Halt) : Type 0 where
  pub calls : EndsQuiet M (state v).layout a b result
  pub low : IfOk result (λ status. status ≤ 1)
  pub restored : M.honest b → (k : Known) → k.opened ≡ none_open → Stands state has v k (M.now a) → OnDisk M k (forced_of k) a → IsRestored M (e (volume_of k)) k a b result
