-- What a run over an image does from the mount to its last line, and what it leaves of a sound one.
use Rattle.std.specs.Prelude.{◌≡◌, ◌≤◌, ◌+◌, Bool, false, List, [], ℕ, length, IsTrue}
use Rattle.volume_layout.specs.declared.layout.Layout.{Layout}
use Rattle.sector_disk.specs.declared.machine.Machine.{Ghosts}
use Rattle.sector_disk.specs.Calls.{IsHeld, Since}
use Rattle.sector_disk.specs.Machine.{Moment, Trusts}
use Rattle.fsd_texts.specs.declared.end.End.TheVariants.{Done}
use Rattle.fsd_texts.specs.Script.{max_input, script_in}
use Rattle.fsd_runs.specs.Commands.{reply_text}
use Rattle.fsd_runs.specs.Leaves.{IsSoundAsSaid, LeavesRun, Was}
use Rattle.fsd_runs.specs.declared.request.Request.{Request}
use Rattle.volume_contract.specs.Mount.{IsSoundAt}
use Rattle.volume_turns.specs.Causes.{FailsInput, Front, SaysFaultAt, SaysOfCall, SaysOfInput, is_of_fault}
use Rattle.volume_turns.specs.Each.{SaysBadLine, SaysForced}
use Rattle.volume_turns.specs.Status.{CountsRunBy, CountsTaking}
use Rattle.volume_turns.specs.Syncs.{SyncsUpTo}

-- Its status is one of these; a machine that tells, or is honest, behind it was so before; and where the status is that
-- of a fault, the last line is this fault's.
pub record EndsRun {D : Type 0} (M : Ghosts D) (IsStatus : ℕ → Type 0) (a b : D) (result : ℕ) : Type 0 where
  pub status : IsStatus result
  pub trust : Trusts (M.tells a) (M.tells b) (M.honest a) (M.honest b)
  pub last : IsTrue (is_of_fault result) → M.honest b → SaysFaultAt (M.report b).fault_place (M.now b) result

-- So it is of a run over a volume that was just mounted; what a stop might have left before it might be left behind it.
pub record EndsMounted {D : Type 0} (M : Ghosts D) (IsStatus : ℕ → Type 0) (a b : D) (result : ℕ) : Type 0 where
  pub run : EndsRun M IsStatus a b result
  pub since : M.honest b → Since M a b

-- ---- the input

-- It asks for nothing but writes and one sync, and what is counted is as its status says.
pub record TakesNothingBy (longer : Bool) {D : Type 0} (M : Ghosts D) (a b : D) (result : ℕ) : Type 0 where
  pub ledger : M.tells b → SyncsUpTo 1 (M.ledger a) (M.ledger b)
  pub counts : CountsRunBy longer (M.report a) (M.report b) result

-- and it keeps the image's length
abbrev pub TakesNothing : {D : Type 0} → (M : Ghosts D) → (a b : D) → (result : ℕ) → Type 0
TakesNothing M a b result = TakesNothingBy false M a b result

-- It takes input and attaches nothing, and over a machine that is so it does so many syncs at most; what is counted is as its
-- status says, and at 5 the input has failed or is too long, and this is said.
pub record TakesInput {D : Type 0} (M : Ghosts D) (Trusted : D → Type 0) (most : ℕ) (a b : D) (result : ℕ) : Type 0 where
  pub attaches : M.tells b → (M.ledger b).attaches ≡ (M.ledger a).attaches
  pub syncs : Trusted b → (M.ledger b).syncs ≤ (M.ledger a).syncs + most
  pub counts : CountsTaking (M.report a) (M.report b) result
  pub input : result ≡ 5 → M.tells b → FailsInput (M.ledger a).input (M.report a) (M.report b)
  pub fails : result ≡ 5 → M.honest b → SaysOfInput (M.ledger a).input (M.report a) (M.report b) (M.now b)

-- of a put the input is taken to its end, and is not too long
pub record TakesToEnd (input left : List ℕ) : Type 0 where
  pub whole : left ≡ []
  pub few : length input ≤ max_input

-- of a script it is taken to its end, and no line of it is bad
pub record ReadsAll (input left : List ℕ) : Type 0 where
  pub whole : left ≡ []
  pub spelled : (script_in input).1 ≡ Done

-- ---- what is said

-- Over a mounted volume of this layout: what a call of it has told, and what else has come where the mount is worn out.
pub record TellsMounted (kind : Front) (AreCopies : Layout → ℕ → ℕ → Type 0) (l : Layout) (Spent : Type 0) (old new : Moment) (result : ℕ) : Type 0 where
  pub says : result ≡ 3 → SaysOfCall kind AreCopies l old.said new
  pub spent : result ≡ 9 → Spent

-- A script that is done, or that has a bad line, has said a reply for each of its commands, over what there was since
-- any time before it began.
pub record SaysScript {D : Type 0} (M : Ghosts D) (a b : D) (result : ℕ) : Type 0 where
  pub bad : result ≡ 2 → (t : ℕ) → t ≤ M.moment a → SaysBadLine (M.left_since b t) (M.ledger a).input (M.now a).said (M.now b)
  pub all : result ≡ 0 → (t : ℕ) → t ≤ M.moment a → SaysForced reply_text (M.left_since b t) (script_in (M.ledger a).input).0 (M.now a).said (M.now b).said

-- ---- a sound image

-- Over an image that was sound, as each moment since the last sync: what a stop leaves, and how the run ends.
abbrev pub LeavesOver : {D : Type 0} → Ghosts D → Request → (input rest : List ℕ) → (sectors : ℕ) → (a b : D) → (result : ℕ) → Type 0
LeavesOver M request input rest sectors a b result =
    (was : Was) → IsSoundAt sectors was.layout was.windows was.changes was.forced (M.now a) → IsHeld M a (λ c. IsSoundAsSaid was.layout was.windows was.changes was.forced (M.now a).image c.image) →
    LeavesRun M request input rest was a b result
