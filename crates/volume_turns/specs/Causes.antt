-- What the status of a run tells of the image that it found, and of its input, whatever these were.
use Rattle.std.specs.Prelude.{◌≡◌, ◌⊎◌, ◌<◌, ◌≤◌, ◌==◌, ℕ, Bool, Option, Some, None, List, [], ◌∷◌, ◌++◌, length, IfSome, IsTrue}
use Rattle.std.specs.List.{list_any}
use Rattle.volume_layout.specs.declared.layout.Layout.{Layout}
use Rattle.sector_disk.specs.Image.{IsWorn, open_damage}
use Rattle.sector_disk.specs.Machine.{Moment, Report, Rose}
use Rattle.fsd_formats.specs.declared.anchor.Anchor.{Anchor}
use Rattle.fsd_files.specs.Disk.{Image}
use Rattle.fsd_sound.specs.Lost.{AreCopiesOn, LostIn}
use Rattle.fsd_sound.specs.Mounting.{IsVolume, last_epoch}
use Rattle.fsd_sound.specs.Writes.{MountKeeps}
use Rattle.fsd_sound.specs.declared.fault.MountFault.{MountFault}
use Rattle.fsd_sound.specs.declared.fault.MountFault.TheVariants.{WornOut}
use Rattle.fsd_texts.specs.declared.counts.Counts.{Counts}
use Rattle.fsd_texts.specs.declared.fault.Fault.{Fault}
use Rattle.fsd_texts.specs.declared.fault.Fault.TheVariants as Ends
use Rattle.fsd_texts.specs.declared.line.Line.TheVariants as Says
use Rattle.fsd_texts.specs.Script.{max_input}
use Rattle.fsd_texts.specs.Text.{fault_text, text}
use Rattle.fsd_runs.specs.Commands.{reply_text}
use Rattle.fsd_runs.specs.Errands.{fault_status, forced_turn}
use Rattle.fsd_runs.specs.Runs.{last_count}
use Rattle.volume_contract.specs.Mount.{IsRefused, KeepsAll, UnsoundFor}
use Rattle.volume_contract.specs.State.{Ages}
use Rattle.volume_turns.specs.Once.{end_by_mount}
use Rattle.volume_turns.specs.Steps.{IsOfImage, IsToldOn, device_told}
use Rattle.volume_turns.specs.Turns.{SaysReplies}

-- ---- it was mounted

-- A root and an anchor of the image were seen, as it may be worn, and an epoch is left behind its own.
pub record HasVolume (sectors : ℕ) (old : Moment) : Type 0 where
  pub seen : Image
  pub from : IsWorn (open_damage old.windows) old.image seen
  pub layout : Layout
  pub anchor : Anchor
  pub found : IsVolume sectors seen layout anchor
  pub left : anchor.epoch < last_epoch

-- the statuses of a run that has done what it was asked for, or was refused it, or could not take its input
abbrev pub is_of_mounted : ℕ → Bool
is_of_mounted status = list_any (λ s. s == status) (0 ∷ 1 ∷ 2 ∷ 5 ∷ 8 ∷ [])

-- ---- it was refused

-- The mount was refused for this fault: the image was so, as it was seen, and what is lost or unsound was so as the
-- mount ended. What is refused before anything is written stays as it was, and a mount writes only where it may.
-- Its line is all that is said.
pub record IsMountRefused (sectors : ℕ) (why : Fault) (old new : Moment) : Type 0 where
  pub fault : MountFault
  pub is : why ≡ end_by_mount fault
  pub refused : IsRefused sectors fault old
  pub ended : Moment
  pub since : Ages ended new
  pub lost : LostIn (AreCopiesOn sectors old) ended.image fault
  pub unsound : UnsoundFor sectors old ended fault
  pub kept : KeepsAll fault old ended
  pub rest : MountKeeps sectors old ended
  pub said : new.said ≡ old.said ++ fault_text why

-- The image was mounted, and a call of the volume told this of it, which is so by its layout as the run ended;
-- what is told as lost is two such copies.
pub record IsCallRefused (AreCopies : Layout → ℕ → ℕ → Type 0) (sectors : ℕ) (why : Fault) (old new : Moment) : Type 0 where
  pub mounted : HasVolume sectors old
  pub of : IsOfImage why
  pub told : IsToldOn AreCopies mounted.layout new.image why

-- What a run says in front of its last line.
pub data Front : Type 0 where
  Nothing : Front
  -- Whole replies.
  Replies : Front
  -- Some bytes, as those of a dump.
  Parts : Front

-- so it has been said
abbrev pub StandsBefore : Front → (said front : List ℕ) → Type 0
StandsBefore Nothing said front = front ≡ said
StandsBefore Replies said front = SaysReplies reply_text said front
StandsBefore Parts said front = (part : List ℕ) × (front ≡ said ++ part)

-- the last line that is said is this fault's, and its status is 3
pub record SaysOfImage (kind : Front) (before : List ℕ) (why : Fault) (new : Moment) : Type 0 where
  pub status : fault_status why ≡ 3
  pub front : List ℕ
  pub behind : StandsBefore kind before front
  pub said : new.said ≡ front ++ fault_text why

-- A fault of the image is said last, and has its cause.
pub record SaysCause (kind : Front) (AreCopies : Layout → ℕ → ℕ → Type 0) (sectors : ℕ) (old new : Moment) : Type 0 where
  pub why : Fault
  pub says : SaysOfImage kind old.said why new
  pub cause : IsMountRefused sectors why old new ⊎ IsCallRefused AreCopies sectors why old new

-- The mount was refused for an epoch that was seen to be the last one; where so many commands are made up that they may
-- use up the numbers of a mount, it may have been mounted.
abbrev pub HasSpent : (made : Option ℕ) → (sectors : ℕ) → Moment → Type 0
HasSpent (Some count) sectors old = (HasVolume sectors old × (last_count ≤ count)) ⊎ IsRefused sectors WornOut old
HasSpent None sectors old = IsRefused sectors WornOut old

-- ---- all of these

-- What a run tells of the image that it found, by its status, what it says in front of its last line, what its calls may
-- tell as lost, and how many commands it makes up, if it does.
pub record TellsImage (kind : Front) (AreCopies : Layout → ℕ → ℕ → Type 0) (made : Option ℕ) (sectors : ℕ) (old new : Moment) (status : ℕ) : Type 0 where
  pub mounted : IsTrue (is_of_mounted status) → HasVolume sectors old
  pub refused : status ≡ 3 → SaysCause kind AreCopies sectors old new
  pub spent : status ≡ 9 → HasSpent made sectors old

-- Over a mounted volume of this layout: status 3 is that of a fault that a call told, and what it tells is so.
pub record SaysOfCall (kind : Front) (AreCopies : Layout → ℕ → ℕ → Type 0) (layout : Layout) (before : List ℕ) (new : Moment) : Type 0 where
  pub why : Fault
  pub of : IsOfImage why
  pub told : IsToldOn AreCopies layout new.image why
  pub says : SaysOfImage kind before why new

-- ---- the fault that is said

-- the statuses of a fault of the disk, of the input and of memory, and of a mount that is worn out
abbrev pub is_of_fault : ℕ → Bool
is_of_fault status = list_any (λ s. s == status) (4 ∷ 5 ∷ 7 ∷ 9 ∷ [])

-- The last line that is said is that of a fault of this status; a fault of the disk has the place that was last told.
pub record SaysFaultAt (place : ℕ) (new : Moment) (status : ℕ) : Type 0 where
  pub why : Fault
  pub gives : status ≡ fault_status why
  pub at : IfSome (device_told why) (λ s. s ≡ place)
  pub front : List ℕ
  pub said : new.said ≡ front ++ fault_text why

-- ---- the input

-- a fault of the input is counted, or it has more bytes than a run takes
abbrev pub FailsInput : List ℕ → (old new : Report) → Type 0
FailsInput input old new = Rose old.input_faults new.input_faults ⊎ (max_input < length input)

-- this fault of the input was so: one was counted, or it has more bytes than a run takes
abbrev pub IsOfInput : Fault → List ℕ → (old new : Report) → Type 0
IsOfInput Ends.Input input old new = Rose old.input_faults new.input_faults
IsOfInput Ends.InputTooLong input old new = max_input < length input
IsOfInput fault input old new = ⊥

-- A fault of the input was so, and its line is said last.
pub record SaysOfInput (input : List ℕ) (old new : Report) (now : Moment) : Type 0 where
  pub why : Fault
  pub cause : IsOfInput why input old new
  pub front : List ℕ
  pub said : now.said ≡ front ++ fault_text why

-- ---- commands that are made up

-- Commands that are made up: it is said that all is forced, and last what came of so many.
pub record SaysMade (count : ℕ) (before : List ℕ) (new : Moment) : Type 0 where
  pub tally : Counts
  pub all : tally.count ≡ count
  pub said : new.said ≡ (before ++ forced_turn.said) ++ text (Says.Generated tally)
