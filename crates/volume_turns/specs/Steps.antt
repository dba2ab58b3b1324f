-- One command over a mounted volume: what it answers, and what it leaves.
use Rattle.std.specs.Prelude.{◌≡◌, ◌⊎◌, ⊤, ℕ, Bool, true, false, List, ◌++◌, Option, Some, None, Result, Ok, Err, IfErr, IsTrue, IsFalse}
use Rattle.volume_layout.specs.declared.layout.Layout.{Layout}
use Rattle.fsd_log.specs.Scan.{Placed}
use Rattle.fsd_bytes.specs.declared.key.Key.{Key}
use Rattle.fsd_bytes.specs.declared.refusal.Refusal.{Refusal}
use Rattle.fsd_bytes.specs.declared.refusal.Refusal.TheVariants as Why
use Rattle.fsd_files.specs.Answers.{Met}
use Rattle.fsd_files.specs.Disk.{Image}
use Rattle.fsd_files.specs.declared.reply.Reply.{Reply}
use Rattle.fsd_files.specs.declared.reply.Reply.TheVariants as Said
use Rattle.fsd_texts.specs.declared.command.Command.{Command}
use Rattle.fsd_texts.specs.declared.command.Command.TheVariants as Word
use Rattle.fsd_texts.specs.declared.script_command.ScriptCommand.{ScriptCommand}
use Rattle.fsd_texts.specs.declared.script_command.ScriptCommand.TheVariants.{Plain, OfClient}
use Rattle.fsd_texts.specs.declared.fault.Fault.{Fault}
use Rattle.fsd_texts.specs.declared.fault.Fault.TheVariants as Ends
use Rattle.fsd_runs.specs.Commands.{answer, changes_of, MayFind, may_wear_out}
use Rattle.sector_disk.specs.Damage.{AreLost}
use Rattle.sector_disk.specs.Machine.{Moment}
use Rattle.fsd_sound.specs.Mounted.{Mounted}
use Rattle.fsd_sound.specs.Sound.{EachSaid, IsSound}
use Rattle.scrub.specs.Scrub.{IsScrubbed}
use Rattle.scrub.specs.Telling.{IsHomeOfPage}
use Rattle.volume_contract.specs.State.{State, Known, volume_of, forced_of, Stands, is_worn}

-- ---- which command it is

-- an upgrade and a growth give the volume another layout: nothing is asked for behind them in a run
abbrev pub is_alone : Command → Bool
is_alone Word.Upgrade = true
is_alone (Word.Grow sectors) = true
is_alone other = false

-- so it is of a script's command
abbrev pub is_alone_in : ScriptCommand → Bool
is_alone_in (Plain command) = is_alone command
is_alone_in (OfClient c call) = false

-- a growth may give the image more sectors
abbrev pub may_grow : Command → Bool
may_grow (Word.Grow sectors) = true
may_grow other = false

-- ---- how a refusal is answered

-- a refusal ends the run, or is said
abbrev pub ended_by : Refusal → Result Reply Fault
ended_by (Why.Device s) = Err (Ends.Device s)
ended_by (Why.Down s) = Err (Ends.Device s)
ended_by (Why.Lost a b) = Err (Ends.Lost a b)
ended_by (Why.Unsound s) = Err (Ends.Unsound s)
ended_by Why.WornOut = Err Ends.WornOut
ended_by Why.Memory = Err Ends.Memory
ended_by why = Ok (Said.Refused why)

abbrev pub read_ended_by : Key → Refusal → Result Reply Fault
read_ended_by key (Why.Damaged s) = Ok (Said.DamagedAt key s)
read_ended_by key why = ended_by why

-- a fault of a volume or of its mount, and none of the input
abbrev pub IsOfVolume : Fault → Type 0
IsOfVolume Ends.Input = ⊥
IsOfVolume Ends.InputTooLong = ⊥
IsOfVolume fault = ⊤

-- a fault that a call of a mounted volume tells
abbrev pub IsOfCall : Fault → Type 0
IsOfCall Ends.NotVolume = ⊥
IsOfCall Ends.NoAnchor = ⊥
IsOfCall fault = IsOfVolume fault

-- and one that it tells of the image
abbrev pub IsOfImage : Fault → Type 0
IsOfImage (Ends.Lost a b) = ⊤
IsOfImage (Ends.Unsound s) = ⊤
IsOfImage fault = ⊥

-- It is so by this layout, in this image: the two sectors that are told as lost are such copies and both damaged, and it
-- is the home of a page of the table that is told as unsound.
abbrev pub IsToldOn : (AreCopies : Layout → ℕ → ℕ → Type 0) → Layout → Image → Fault → Type 0
IsToldOn AreCopies l i (Ends.Lost a b) = AreLost (AreCopies l) i a b
IsToldOn AreCopies l i (Ends.Unsound s) = IsHomeOfPage l s
IsToldOn AreCopies l i fault = ⊤

-- so it is of a refusal that ends the run
abbrev pub IsRefusedOn : (AreCopies : Layout → ℕ → ℕ → Type 0) → Layout → Image → Refusal → Type 0
IsRefusedOn AreCopies l i why = IfErr (ended_by why) (IsToldOn AreCopies l i)

-- the place of the call of the disk that failed
abbrev pub device_told : Fault → Option ℕ
device_told (Ends.Device s) = Some s
device_told fault = None

abbrev pub device_by : {T : Type 0} → Result T Fault → Option ℕ
device_by (Ok x) = None
device_by (Err fault) = device_told fault

-- ---- what a stop leaves

-- each layout that a root says is this one, or the volume's
abbrev pub SaysEither : (own : Layout) → Known → Image → Type 0
SaysEither own k i = EachSaid i (λ l. (l ≡ own) ⊎ (l ≡ k.mounted.volume.layout))

-- The disk is sound as it was. Each layout that a root says is this one, or the volume's.
pub record StaysSaying (own : Layout) (k : Known) (old left : Moment) : Type 0 where
  pub sound : IsSound k.mounted.volume.layout k.windows k.changes (forced_of k) left.image
  pub says : SaysEither own k left.image
  pub windows : left.windows ≡ old.windows
  pub said : left.said ≡ old.said

-- so it is of the volume's own
abbrev pub StaysSoundFor : Known → (old left : Moment) → Type 0
StaysSoundFor k old left = StaysSaying k.mounted.volume.layout k old left

-- by a command that gives the volume the layout that comes of its own so
abbrev pub StaysBy : (turn : Layout → Layout) → {S : Type 0} → (state : S → State) → (has : S → Mounted → List Placed → Type 0) → S → Moment → Moment → Type 0
StaysBy turn state has s old left = (k : Known) → Stands state has s k old → StaysSaying (turn k.mounted.volume.layout) k old left

-- and by one that keeps it
abbrev pub Stays : {S : Type 0} → (state : S → State) → (has : S → Mounted → List Placed → Type 0) → S → Moment → Moment → Type 0
Stays state has s old left = (k : Known) → Stands state has s k old → StaysSoundFor k old left

-- ---- how a command ends

-- It is answered as the definitions do, over the images from its entry to its exit,
-- what is open stays, and it isn't one that a worn-out mount refuses.
pub record IsAnswered (command : Command) (s : State) (k after : Known) (i j : Image) (reply : Reply) : Type 0 where
  pub met : Met
  pub is : answer met (volume_of k) command ≡ (reply, volume_of after)
  pub opened : after.opened ≡ k.opened
  pub windows : after.windows ≡ k.windows
  pub changes : after.changes ≡ k.changes ++ changes_of command reply
  pub find : MayFind i j (volume_of k) command met
  pub unworn : IsTrue (may_wear_out command) → IsFalse (is_worn s)

-- The mount is worn out, and would have to change something.
pub record IsRefusedWorn (command : Command) (s : State) : Type 0 where
  pub may : IsTrue (may_wear_out command)
  pub worn : IsTrue (is_worn s)

module _ {S : Type 0} (state : S → State) (has : S → Mounted → List Placed → Type 0) where
  -- a scrub has healed as many sectors as it says, and the leaders stand
  abbrev pub Heals : Command → S → Known → (before now : Moment) → Reply → Type 0
  Heals Word.Scrub new k before now (Said.Scrubbed found healed) = IsScrubbed state has k new before now found healed
  -- by default there is nothing to heal
  Heals command new k before now reply = ⊤

  abbrev pub Does : Command → (old new : S) → Known → (before now : Moment) → Result Reply Fault → Type 0
  Does command old new k before now (Ok a) = (after : Known) × IsAnswered command (state old) k after before.image now.image a × Stands state has new after now × Heals command new k before now a
  Does command old new k before now (Err (Ends.Device s)) = ⊤
  Does command old new k before now (Err Ends.Memory) = ⊤
  Does command old new k before now (Err Ends.WornOut) = IsRefusedWorn command (state old) × Stands state has new k now
  Does command old new k before now (Err fault) = ⊥
