-- What a stop at any moment of a run leaves, and how the run ends.
use Rattle.std.specs.Prelude.{◌≡◌, ◌⊎◌, ◌<◌, ◌≤◌, ⊤, ℕ, suc, ◌+◌, List, [], ◌∷◌, ◌++◌, length, take, Option, Some, None, IsSome, IsTrue, slice_get}
use Rattle.std.specs.List.{last_or}
use Rattle.volume_layout.specs.declared.layout.Layout.{Layout}
use Rattle.volume_layout.specs.Layout.{IsFormOf}
use Rattle.sector_disk.specs.declared.machine.Machine.{Ghosts}
use Rattle.sector_disk.specs.declared.sector.WeakRun.{WeakRun}
use Rattle.sector_disk.specs.Calls.{IsHeld, StopsOnly, stops}
use Rattle.sector_disk.specs.Image.{IsWorn}
use Rattle.sector_disk.specs.Machine.{DeviceFault, Moment, Report, Rose}
use Rattle.fsd_files.specs.Disk.{Image, Sectors}
use Rattle.fsd_files.specs.Files.{Change}
use Rattle.fsd_files.specs.Volume.{Volume}
use Rattle.fsd_formats.specs.declared.anchor.Anchor.{Anchor}
use Rattle.fsd_sound.specs.Anchors.{anchor_of}
use Rattle.fsd_sound.specs.Laid.{HasOwnRoots}
use Rattle.fsd_sound.specs.Mounted.{telling_of}
use Rattle.fsd_sound.specs.Mounting.{last_epoch}
use Rattle.fsd_sound.specs.Shown.{told}
use Rattle.fsd_sound.specs.Sound.{EachSaid, IsPrefixOf, IsSaid, IsSound, Says, weak_of}
use Rattle.fsd_sound.specs.Windows.{IsNamedSince}
use Rattle.fsd_texts.specs.declared.fault.Fault.{Fault}
use Rattle.fsd_texts.specs.declared.fault.Fault.TheVariants as Ends
use Rattle.fsd_texts.specs.Script.{script_of}
use Rattle.fsd_texts.specs.Text.{fault_text}
use Rattle.fsd_runs.specs.declared.request.Request.{Request}
use Rattle.fsd_runs.specs.declared.request.Request.TheVariants.{One, Put, Restore}
use Rattle.fsd_runs.specs.Errands.{ByFault, Cut, Turn, blank, fault_status}
use Rattle.fsd_runs.specs.Runs.{IsThrough, Course, Starts, StoodAt, changes_in, forced_in, run_end, run_status, run_turns, said_in}

-- ---- what is said

-- some first bytes of this text, not all of them
abbrev pub BeginsOnly : List ℕ → List ℕ → Type 0
BeginsOnly whole part = (heard : ℕ) × (heard < length whole) × (part ≡ take heard whole)

-- what may end a run over a sound image at once, or end its mount
abbrev pub MayEnd : Fault → Type 0
MayEnd (Ends.Device s) = ⊤
MayEnd Ends.Memory = ⊤
MayEnd Ends.Input = ⊤
MayEnd Ends.WornOut = ⊤
MayEnd other = ⊥

-- some first bytes of such a fault's line, or none
abbrev pub SaysFault : List ℕ → Type 0
SaysFault part = (why : Fault) × (heard : ℕ) × MayEnd why × (part ≡ take heard (fault_text why))

-- what may follow some whole turns: the beginning of the next one's text, or of a fault that ends the run there;
-- nothing behind the last turn. Where a turn tells what is forced, this is so before the first byte of its text.
abbrev pub SaysNext : (Forced : Type 0) → Option Turn → List ℕ → Type 0
SaysNext Forced None part = part ≡ []
SaysNext Forced (Some turn) part = (BeginsOnly turn.said part × (0 < length part → IsTrue turn.forces → Forced)) ⊎ SaysFault part

-- ---- what a stop leaves

-- Before the mount settles: the present window is as it was, the image is sound as it was,
-- and nothing but a fault is said.
pub record LeftBefore (l : Layout) (windows : List WeakRun) (h : List Change) (f : ℕ) (old left : Moment) : Type 0 where
  pub present : left.windows.present ≡ old.windows.present
  pub part : List ℕ
  pub said : left.said ≡ old.said ++ part
  pub fault : SaysFault part
  pub sound : IsSound l windows h f left.image

-- Since then: run is the present window, and no next one is named. Some turns are said
-- whole, and a part of what comes next. The image is sound for the n changes that were found, all of them forced, and
-- those of the turns said and of the one under way, of which those are forced at least that are forced by what is said
-- whole.
pub record LeftByTurns (l : Layout) (windows : List WeakRun) (run : WeakRun) (h : List Change) (n : ℕ) (turns : List Turn) (old left : Moment) : Type 0 where
  pub settled : left.windows ≡ record { present = Some run; next = None }
  pub whole : ℕ
  pub part : List ℕ
  pub said : left.said ≡ old.said ++ (said_in (take whole turns) ++ part)
  pub forced : ℕ
  pub next : SaysNext (forced_in (take (suc whole) turns) ≤ forced) (slice_get turns whole) part
  pub enough : forced_in (take whole turns) ≤ forced
  pub sound : IsSound l (windows ++ run ∷ []) (take n h ++ changes_in (take (suc whole) turns)) (n + forced) left.image

-- nothing is said but some first bytes of a fault's line, or none; or both roots are those of this layout
abbrev pub IsRooted : Layout → Sectors → (old left : Moment) → Type 0
IsRooted own weak old left = ((part : List ℕ) × SaysFault part × (left.said ≡ old.said ++ part)) ⊎ HasOwnRoots own weak left.image

-- a root says it at one of these moments
abbrev pub WasSaid : (Had : Moment → Type 0) → Layout → Type 0
WasSaid Had l = (c : Moment) × Had c × Says l c.image

-- Of one command by itself: each layout that a root says is this one, or was said as the run began; and no byte of its reply
-- is said before both roots are those of this one.
pub record LeavesRoots (own : Layout) (weak : Sectors) (Had : Moment → Type 0) (old left : Moment) : Type 0 where
  pub says : EachSaid left.image (λ l. (l ≡ own) ⊎ WasSaid Had l)
  pub replied : IsRooted own weak old left

-- where the words ask for one command by itself, which takes no input
abbrev pub IfOne : Request → Type 0 → Type 0
IfOne (One command) P = P
IfOne request P = ⊤

abbrev pub Left : Layout → List WeakRun → (run : WeakRun) → List Change → (f n : ℕ) → List Turn → (old left : Moment) → Type 0
Left l windows run h f n turns old left = LeftBefore l windows h f old left ⊎ LeftByTurns l windows run h n turns old left

-- ---- how a run ends

-- The whole text is said, its status is given, and all changes are forced: the disk's own table is that of the volume
-- behind them, in the places and with the serials that it gave, and both roots are those of its layout, another one
-- behind an upgrade or a growth. Whichever of the moments since the last sync is on the disk has all of the changes too, and
-- these roots. The present window is run still.
pub record IsReplied (l : Layout) (windows : List WeakRun) (run : WeakRun) (h : List Change) (n : ℕ) (turns : List Turn) (status : ℕ) (behind : Volume) (Held : (Moment → Type 0) → Type 0) (old new : Moment) (result : ℕ) : Type 0 where
  pub ends : result ≡ status
  pub said : new.said ≡ old.said ++ said_in turns
  pub settled : new.windows ≡ record { present = Some run; next = None }
  pub sound : IsSound l (windows ++ run ∷ []) (take n h ++ changes_in turns) (n + length (changes_in turns)) new.image
  pub held : Held (λ c. IsSound l (windows ++ run ∷ []) (take n h ++ changes_in turns) (n + length (changes_in turns)) c.image)
  pub tells : told l new.image ≡ Some (telling_of behind)
  pub roots : HasOwnRoots behind.layout (weak_of (windows ++ run ∷ [])) new.image
  pub rooted : Held (λ c. HasOwnRoots behind.layout (weak_of (windows ++ run ∷ [])) c.image)

-- some turns are said whole, not all of them, and then this
pub record SaysThen (turns : List Turn) (bytes : List ℕ) (old new : Moment) : Type 0 where
  pub whole : ℕ
  pub more : IsSome (slice_get turns whole)
  pub said : new.said ≡ old.said ++ (said_in (take whole turns) ++ bytes)

-- a fault that comes from outside: it is counted, and the disk's place told; or memory was refused.
-- Of a put and a restore it may be the input's.
abbrev pub IsOutside : Request → (before after : Report) → Fault → Type 0
IsOutside request before after (Ends.Device s) = DeviceFault before after s
IsOutside request before after Ends.Memory = ⊤
IsOutside (Put name keep) before after Ends.Input = Rose before.input_faults after.input_faults
IsOutside Restore before after Ends.Input = Rose before.input_faults after.input_faults
IsOutside request before after other = ⊥

-- The turns that are said whole are all that was done: the image is sound for the changes that were found and theirs
-- alone, not for those of the one under way, with those forced that are forced by what is said.
pub record IsUndone (l : Layout) (windows : List WeakRun) (h : List Change) (n : ℕ) (turns : List Turn) (whole : ℕ) (i : Image) : Type 0 where
  pub forced : ℕ
  pub enough : forced_in (take whole turns) ≤ forced
  pub sound : IsSound l windows (h ++ changes_in (take whole turns)) (n + forced) i

-- Whichever of the moments since the last sync is on the disk, it is sound for the changes that were found, those of the
-- turns that are said whole and those of the one under way, with those forced that are forced by what is said.
pub record IsUnderWay (l : Layout) (windows : List WeakRun) (h : List Change) (n : ℕ) (turns : List Turn) (Held : (Moment → Type 0) → Type 0) (whole : ℕ) : Type 0 where
  pub forced : ℕ
  pub enough : forced_in (take whole turns) ≤ forced
  pub sound : Held (λ c. IsSound l windows (h ++ changes_in (take (suc whole) turns)) (n + forced) c.image)

-- A fault from outside has ended the run at once: its line is said behind some whole turns, and its status given.
-- What is held back is of these turns and of the one under way. Where memory was refused, that one has changed nothing;
-- where the input failed, nothing was done at all.
pub record IsBrokenOff (request : Request) (Undone : (whole : ℕ) → Image → Type 0) (UnderWay : (whole : ℕ) → Type 0) (before after : Report) (turns : List Turn) (old new : Moment) (result : ℕ) : Type 0 where
  pub why : Fault
  pub outside : IsOutside request before after why
  pub ends : result ≡ fault_status why
  pub says : SaysThen turns (fault_text why) old new
  pub held : UnderWay says.whole
  pub undone : why ≡ Ends.Memory → Undone says.whole new.image
  pub unread : why ≡ Ends.Input → (says.whole ≡ 0) × Undone says.whole new.image

-- so it is in front of the settling, where nothing was done
abbrev pub Unbegun : (whole : ℕ) → Image → Type 0
Unbegun whole i = whole ≡ 0

-- whatever is held back
abbrev pub Whatever : (whole : ℕ) → Type 0
Whatever whole = ⊤

-- the output failed, and nothing more is said
pub record IsUnsaid (before after : Report) (result : ℕ) : Type 0 where
  pub ends : result ≡ 6
  pub rose : Rose before.output_faults after.output_faults

-- A script that is cut off by its input behind so many commands has a fault of the input counted, and these are all
-- that stand whole in what was taken; rest is what was left to take.
pub record IsCutShort (k : ℕ) (input rest : List ℕ) (before after : Report) : Type 0 where
  pub rose : Rose before.input_faults after.input_faults
  pub taken : List ℕ
  pub all : input ≡ taken ++ rest
  pub commands : length (script_of taken).0 ≡ k

abbrev pub CutCause : Cut → (input rest : List ℕ) → (before after : Report) → Type 0
CutCause (Some (ByFault k Ends.Input)) input rest before after = IsCutShort k input rest before after
CutCause cut input rest before after = ⊤

-- no fault was counted
pub record NoneRose (old new : Report) : Type 0 where
  pub disk : Rose old.disk_faults new.disk_faults → ⊥
  pub input : Rose old.input_faults new.input_faults → ⊥
  pub output : Rose old.output_faults new.output_faults → ⊥

-- ---- what goes on from one run to the next

-- The first f changes are forced still, and are those that were.
pub record KeepsForced (h : List Change) (f : ℕ) (g : List Change) (n : ℕ) : Type 0 where
  pub forced : f ≤ n
  pub same : take f g ≡ take f h

-- the image is sound in the windows that the machine has then, with every change forced that was; by the layout, or
-- one beside it
pub record StaysSound (l : Layout) (h : List Change) (f : ℕ) (left : Moment) : Type 0 where
  pub layout : Layout
  pub form : IsFormOf l layout
  pub windows : List WeakRun
  pub changes : List Change
  pub count : ℕ
  pub keeps : KeepsForced h f changes count
  pub present : last_or None windows ≡ left.windows.present
  pub sound : IsSound layout windows changes count left.image

-- ---- the whole

-- No mount follows the one of the image's epoch, and so it is said.
pub record IsSpent (old new : Moment) (result : ℕ) : Type 0 where
  pub anchor : Anchor
  pub taken : anchor_of old.image ≡ Some anchor
  pub last : anchor.epoch ≡ last_epoch
  pub ends : result ≡ fault_status Ends.WornOut
  pub said : new.said ≡ old.said ++ fault_text Ends.WornOut

-- The mount did not settle: nothing is changed, and a fault is said, but where the output failed. It is one from
-- outside, or the image's epochs are used up. Whichever of the moments since the last sync is on the disk, it is sound as
-- it was. At each stop a root says no layout that none said as the run began.
pub record LeavesUnmounted (request : Request) (l : Layout) (windows : List WeakRun) (h : List Change) (f : ℕ) (Had : Moment → Type 0) (Only Held : (Moment → Type 0) → Type 0) (before after : Report) (old new : Moment) (result : ℕ) : Type 0 where
  pub moments : Only (LeftBefore l windows h f old)
  pub exit : LeftBefore l windows h f old new
  pub held : Held (λ c. IsSound l windows h f c.image)
  pub says : Only (λ left. EachSaid left.image (WasSaid Had))
  pub ends : IsSpent old new result ⊎ (IsUnsaid before after result ⊎ IsBrokenOff request Unbegun Whatever before after (blank ∷ []) old new result)

-- The mount's epoch is the next one behind that of the image, as its weak run may have worn.
abbrev pub AreNext : Option Anchor → Option Anchor → Type 0
AreNext (Some a) (Some b) = b.epoch ≡ suc a.epoch
AreNext a b = ⊥

pub record RaisesEpoch (windows : List WeakRun) (old from : Image) : Type 0 where
  pub left : Image
  pub worn : IsWorn (weak_of windows) old left
  pub next : AreNext (anchor_of left) (anchor_of from)

-- The mount settled at some time: it found the first n changes, every forced one among them, and the run went on from
-- the image as it settled, in which both roots were its layout's. The window that it settled is next: it was named since
-- the run began, and is the present one at each moment from then on and at the end. What a stop leaves is what is said
-- above; from that time on it is of the second kind. Of one command by itself no root says another layout than the one behind
-- it, or those that were said as it began; and where it has begun to say its reply, both roots are those of the one behind
-- it, another one behind an upgrade or a growth. The images of the run are of its moments, as reads show them.
-- Either all commands were begun, all is said and all changes are forced; or a fault from outside has ended the run at once;
-- or the output failed. Held is what each moment since the last sync has.
pub record LeavesMounted (request : Request) (input rest : List ℕ) (l : Layout) (windows : List WeakRun) (h : List Change) (f : ℕ) (Past Stops : ℕ → Moment → Type 0) (began : ℕ) (Had : Moment → Type 0) (Only Held : (Moment → Type 0) → Type 0) (before after : Report) (old new : Moment) (result : ℕ) : Type 0 where
  pub count : ℕ
  pub prefix : IsPrefixOf h f count
  pub next : WeakRun
  pub named : IsNamedSince Past began (Some next)
  pub at : ℕ
  pub from : Image
  pub stood : StoodAt (Past at) old.said from
  pub settled : stood.moment.windows ≡ record { present = Some next; next = None }
  pub raised : RaisesEpoch windows old.image from
  pub volume : Volume
  pub starts : Starts l (windows ++ next ∷ []) (take count h) volume from
  pub own : HasOwnRoots l (weak_of (windows ++ next ∷ [])) from
  pub run : Course request input (windows ++ next ∷ []) (Past at) old.said volume from
  pub cause : CutCause run.cut input rest before after
  pub moments : Only (Left l windows next h f count (run_turns run) old)
  pub later : (left : Moment) → Stops at left → LeftByTurns l windows next h count (run_turns run) old left
  pub rooted : IfOne request (Only (LeavesRoots (run_end run).layout (weak_of (windows ++ next ∷ [])) Had old))
  pub exit : LeftByTurns l windows next h count (run_turns run) old new
  pub ends : (IsThrough run × IsReplied l windows next h count (run_turns run) (run_status run) (run_end run) Held old new result) ⊎ (IsUnsaid before after result ⊎ IsBrokenOff request (IsUndone l (windows ++ next ∷ []) (take count h) count (run_turns run)) (IsUnderWay l (windows ++ next ∷ []) (take count h) count (run_turns run) Held) before after (run_turns run) old new result)

-- sound by each layout that a root of the image says as it is read
abbrev pub IsSoundAsSaid : Layout → List WeakRun → List Change → ℕ → (read : Image) → Image → Type 0
IsSoundAsSaid l windows h f read i = (layout : Layout) → IsSaid l read layout → IsSound layout windows h f i

-- A run over an image that is sound by this layout. The input is as it was, and rest what is left of it.
-- Past is what there was from a time on, Stops what a stop from a time on may have left, began the time at which the run
-- began, and Had the moments since the last sync then; Held is what each moment since the last sync has at the end.
abbrev pub LeavesBy : Request → (input rest : List ℕ) → Layout → List WeakRun → List Change → ℕ → (Past Stops : ℕ → Moment → Type 0) → (began : ℕ) → (Had : Moment → Type 0) → (Only Held : (Moment → Type 0) → Type 0) → (before after : Report) → (old new : Moment) → (result : ℕ) → Type 0
LeavesBy request input rest l windows h f Past Stops began Had Only Held before after old new result =
    LeavesUnmounted request l windows h f Had Only Held before after old new result ⊎ LeavesMounted request input rest l windows h f Past Stops began Had Only Held before after old new result

-- so it is by the layout that the mount has read: this one, or one beside it, where a root says so
abbrev pub LeavesSaid : Request → (input rest : List ℕ) → Layout → List WeakRun → List Change → ℕ → (Past Stops : ℕ → Moment → Type 0) → (began : ℕ) → (Had : Moment → Type 0) → (Only Held : (Moment → Type 0) → Type 0) → (before after : Report) → (old new : Moment) → (result : ℕ) → Type 0
LeavesSaid request input rest l windows h f Past Stops began Had Only Held before after old new result =
    (layout : Layout) × IsSaid l old.image layout × LeavesBy request input rest layout windows h f Past Stops began Had Only Held before after old new result

-- What was there as a run began: an image that is sound by this layout, in these windows, for these changes, so many of
-- them forced.
pub record Was : Type 0 where
  pub layout : Layout
  pub windows : List WeakRun
  pub changes : List Change
  pub forced : ℕ

-- What a run over such an image leaves at any stop, and how it ends; a is the machine as the run began, b at its end.
abbrev pub LeavesRun : {D : Type 0} → Ghosts D → Request → (input rest : List ℕ) → Was → (a b : D) → (result : ℕ) → Type 0
LeavesRun M request input rest was a b result =
    LeavesSaid request input rest was.layout was.windows was.changes was.forced (M.left_since b) (stops M b) (M.moment a) (M.left_since a (M.now a).synced) (StopsOnly M a b) (IsHeld M b) (M.report a) (M.report b) (M.now a) (M.now b) result
