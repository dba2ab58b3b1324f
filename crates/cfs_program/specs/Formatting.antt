-- What the command `format` leaves.
use Rattle.std.specs.Prelude.{◌≡◌, ◌⊎◌, ◌≤◌, ℕ, List, [], ◌∷◌, ◌++◌, take, Option, Some, None, Result, Ok, Err, IsTrue}
use Rattle.sector_disk.specs.declared.machine.Attach.TheVariants.{New}
use Rattle.sector_disk.specs.declared.machine.Machine.{Ghosts}
use Rattle.sector_disk.specs.declared.sector.WeakRun.{WeakRun}
use Rattle.sector_disk.specs.Calls.{DiskFaults, IsHeld}
use Rattle.sector_disk.specs.Machine.{Asked, IsSynced, Ledger, Moment, Report, Rose, Trusts}
use Rattle.volume_layout.specs.declared.layout.Layout.{Layout}
use Rattle.volume_layout.specs.declared.fault.LayoutFault.{LayoutFault}
use Rattle.volume_layout.specs.Kinds.{longest_of}
use Rattle.fsd_sound.specs.Format.{IsFormattedIn}
use Rattle.fsd_sound.specs.Sound.{IsSound}
use Rattle.fsd_texts.specs.declared.fault.Fault.TheVariants as Ends
use Rattle.fsd_texts.specs.Text.{fault_text, format_line, text}
use Rattle.volume_contract.specs.State.{Ages}
use Rattle.volume_turns.specs.Status.{CountsNone, is_unfailed}

-- ---- the image

-- An empty volume stands, in a window of its own, whose run the volume bears, and its disk is sound with no changes.
pub record HoldsVolume (l : Layout) (moment : Moment) : Type 0 where
  pub run : WeakRun
  pub short : run.count ≤ longest_of l.kind
  pub formatted : IsFormattedIn l run moment.image
  pub sound : IsSound l (run ∷ []) [] 0 moment.image
  pub windows : moment.windows ≡ record { present = Some run; next = None }

-- It is made, for certain on the disk, and nothing is said of it.
pub record MakesVolume (l : Layout) (old new : Moment) : Type 0 where
  pub holds : HoldsVolume l new
  pub synced : IsSynced new
  pub said : new.said ≡ old.said

-- after status 0: whichever of the moments since the last sync is on the disk, it is a volume of the plan's numbers
abbrev pub IsMadeBy : Result Layout LayoutFault → (Held : (Moment → Type 0) → Type 0) → Type 0
IsMadeBy (Ok l) Held = Held (λ c. HoldsVolume l c)
IsMadeBy (Err why) Held = ⊥

-- a plan that is refused leaves the disk as it was
abbrev pub SparesUnplanned : Result Layout LayoutFault → (old new : Moment) → Type 0
SparesUnplanned (Ok l) old new = Unit {0}
SparesUnplanned (Err why) old new = Ages old new

-- ---- attaches

-- the attach that a format asks for: a new image, and none where the plan is refused
abbrev pub plan_asks : Result Layout LayoutFault → List ℕ → List Asked
plan_asks (Ok l) path = record { path = path; how = New l.sectors } ∷ []
plan_asks (Err why) path = []

-- these attaches were asked for, or none, and no sync; the input is left
pub record AsksAtMost (asks : List Asked) (old new : Ledger) : Type 0 where
  pub input : new.input ≡ old.input
  pub syncs : new.syncs ≡ old.syncs
  pub attaches : (new.attaches ≡ old.attaches ++ asks) ⊎ (new.attaches ≡ old.attaches)

-- these were asked for; the input is left
pub record AsksAll (asks : List Asked) (old new : Ledger) : Type 0 where
  pub input : new.input ≡ old.input
  pub attaches : new.attaches ≡ old.attaches ++ asks

-- ---- statuses

-- where nothing fails
abbrev pub format_status : Result Layout LayoutFault → ℕ
format_status (Ok l) = 0
format_status (Err why) = 1

-- where a call of the outside fails
abbrev pub IsFaultOfPlan : Result Layout LayoutFault → ℕ → Type 0
IsFaultOfPlan (Ok l) status = (status ≡ 4) ⊎ (status ≡ 6)
IsFaultOfPlan (Err why) status = status ≡ 6

-- the status of its line, or of a call that failed
abbrev pub IsFormatStatus : Result Layout LayoutFault → ℕ → Type 0
IsFormatStatus planned status = (status ≡ format_status planned) ⊎ IsFaultOfPlan planned status

-- Where the status tells a fault of the disk or of the output, this is counted; none of the input is, and none at all
-- where it tells no call of the outside.
pub record CountsFaults (old new : Report) (status : ℕ) : Type 0 where
  pub disk : status ≡ 4 → Rose old.disk_faults new.disk_faults
  pub input : new.input_faults ≡ old.input_faults
  pub output : status ≡ 6 → Rose old.output_faults new.output_faults
  pub quiet : IsTrue (is_unfailed status) → CountsNone old new

-- Calls of the disk, an attach among them: a fault is counted and its place told, or there was none.
pub record UsesAttach (fault : Option ℕ) (old new : Report) : Type 0 where
  pub disk : old.disk_faults ≤ new.disk_faults
  pub faults : DiskFaults fault old new
  pub input : new.input_faults ≡ old.input_faults
  pub output : new.output_faults ≡ old.output_faults

-- ---- what is said

-- the texts that may be said, by the place of the disk's last fault
abbrev pub MaySay : Result Layout LayoutFault → (place : ℕ) → List ℕ → Type 0
MaySay planned place bytes = (bytes ≡ text (format_line planned)) ⊎ (bytes ≡ fault_text (Ends.Device place))

-- the whole text of what the status tells
abbrev pub SaysFor : Result Layout LayoutFault → (place : ℕ) → (status : ℕ) → List ℕ → Type 0
SaysFor planned place status bytes =
    ((status ≡ format_status planned) × (bytes ≡ text (format_line planned))) ⊎ ((status ≡ 4) × (bytes ≡ fault_text (Ends.Device place)))

-- some first bytes of such a text
abbrev pub BeginsFormat : Result Layout LayoutFault → (place : ℕ) → (old new : Moment) → Type 0
BeginsFormat planned place old new = (bytes : List ℕ) × MaySay planned place bytes × (heard : ℕ) × (new.said ≡ old.said ++ take heard bytes)

-- All of it is said, or some first bytes, where the output failed.
abbrev pub SaysFormat : Result Layout LayoutFault → (place : ℕ) → (old new : Moment) → ℕ → Type 0
SaysFormat planned place old new status = ((status ≡ 6) × BeginsFormat planned place old new) ⊎ ((bytes : List ℕ) × SaysFor planned place status bytes × (new.said ≡ old.said ++ bytes))

-- ---- the whole

-- What a format by this plan does: which status it gives and what it counts, which attach it asks for, what it says, and
-- what it leaves.
pub record RunsFormat {D : Type 0} (M : Ghosts D) (planned : Result Layout LayoutFault) (path : List ℕ) (a b : D) (result : ℕ) : Type 0 where
  pub status : IsFormatStatus planned result
  pub counts : CountsFaults (M.report a) (M.report b) result
  pub asks : M.tells b → AsksAtMost (plan_asks planned path) (M.ledger a) (M.ledger b)
  pub asked : result ≡ 0 → M.tells b → AsksAll (plan_asks planned path) (M.ledger a) (M.ledger b)
  pub trust : Trusts (M.tells a) (M.tells b) (M.honest a) (M.honest b)
  pub says : M.honest b → SaysFormat planned (M.report b).fault_place (M.now a) (M.now b) result
  pub made : result ≡ 0 → M.honest b → IsMadeBy planned (IsHeld M b)
  pub untouched : M.honest b → SparesUnplanned planned (M.now a) (M.now b)
