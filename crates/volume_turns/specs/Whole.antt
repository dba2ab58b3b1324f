-- Runs over a mounted volume to their end: the last line is said, or that of the fault that ended them.
use Rattle.std.specs.Prelude.{◌≡◌, ◌⊎◌, ⊤, ℕ, suc, ◌+◌, ◌≤◌, List, [], ◌++◌, length, take, None, IsSome, IsTrue, slice_get}
use Rattle.volume_layout.specs.declared.layout.Layout.{Layout}
use Rattle.std.specs.List.{list_any}
use Rattle.sector_disk.specs.declared.machine.Machine.{Ghosts}
use Rattle.sector_disk.specs.Calls.{IsHeld, StopsOnly}
use Rattle.sector_disk.specs.Machine.{LeavesOnly, Moment, Report}
use Rattle.fsd_files.specs.Disk.{Image, in_runs}
use Rattle.fsd_files.specs.Desk.{Session}
use Rattle.fsd_files.specs.Volume.{Volume}
use Rattle.fsd_sound.specs.Sound.{IsSound, weak_of}
use Rattle.fsd_texts.specs.declared.fault.Fault.{Fault}
use Rattle.fsd_texts.specs.declared.fault.Fault.TheVariants as Ends
use Rattle.fsd_runs.specs.declared.request.Request.{Request}
use Rattle.fsd_runs.specs.Errands.{Cut, Errand, MayCut, Turn, errand_of}
use Rattle.fsd_runs.specs.Leaves.{CutCause, IfOne, IsBrokenOff, IsRooted, IsUnsaid, SaysFault}
use Rattle.fsd_runs.specs.Runs.{Goes, GoesSo, IsCutAt, IsCutBefore, answered, session_behind, changes_in, errand_in, forced_in, said_in, turns_of}
use Rattle.fsd_runs.specs.Sessions.{Meeting, session_over}
use Rattle.volume_contract.specs.State.{Known, volume_of, forced_of}
use Rattle.volume_turns.specs.Once.{IsDone}
use Rattle.volume_turns.specs.Steps.{SaysEither}
use Rattle.volume_turns.specs.Turns.{InRun, Undone}

-- ---- between two turns

-- Some of the turns are said whole, and more are to come, but for a fault. Whichever of the moments since the last sync is
-- on the disk, it is sound for their changes and those of the next one; what is there now for theirs alone, where memory
-- was refused, and where the input failed, behind no turn.
pub record Halted {D : Type 0} (M : Ghosts D) (k : Known) (why : Fault) (turns : List Turn) (a b : D) : Type 0 where
  pub windows : (M.now b).windows ≡ (M.now a).windows
  pub whole : ℕ
  pub more : IsSome (slice_get turns whole)
  pub said : (M.now b).said ≡ (M.now a).said ++ said_in (take whole turns)
  pub forced : ℕ
  pub least : forced_of k ≤ forced
  pub enough : IsTrue (list_any (λ t. t.forces) (take whole turns)) → length k.changes + forced_in (take whole turns) ≤ forced
  pub sound : IsHeld M b (λ c. IsSound k.mounted.volume.layout k.windows (k.changes ++ changes_in (take (suc whole) turns)) forced c.image)
  pub undone : why ≡ Ends.Memory → Undone k (forced_of k) turns whole (M.now b).image
  pub unread : why ≡ Ends.Input → (whole ≡ 0) × Undone k (forced_of k) turns whole (M.now b).image

-- Whichever of the moments since the last sync is on the disk, it is sound for the changes of so many turns and of the one
-- behind them.
pub record UnderWay {D : Type 0} (M : Ghosts D) (k : Known) (turns : List Turn) (b : D) (whole : ℕ) : Type 0 where
  pub forced : ℕ
  pub least : forced_of k ≤ forced
  pub enough : IsTrue (list_any (λ t. t.forces) (take whole turns)) → length k.changes + forced_in (take whole turns) ≤ forced
  pub sound : IsHeld M b (λ c. IsSound k.mounted.volume.layout k.windows (k.changes ++ changes_in (take (suc whole) turns)) forced c.image)

-- ---- to the end

-- whatever it is
abbrev pub Always : Session → Type 0
Always s = ⊤

-- All commands were begun, all is said and forced, and the status is given.
pub record SaysOut {D : Type 0} (M : Ghosts D) (e : Errand) (k : Known) (mets : List Meeting) (a b : D) (status : ℕ) : Type 0 where
  pub through : length mets ≡ length e.commands
  pub gives : status ≡ (e.ends (answered mets (session_over (volume_of k)) e.commands)).status
  pub done : IsDone M k (turns_of e mets (session_over (volume_of k))) (session_behind mets (session_over (volume_of k)) e.commands).volume a b

-- The commands of an errand, from the mounted volume to the end, and what is so behind them: all is said, or the output failed, or a fault has
-- ended it, which was counted since before.
pub record Finishes {D : Type 0} (M : Ghosts D) (request : Request) (e : Errand) (Ahead : Session → Type 0) (Last : Volume → Image → Type 0) (before : Report) (k : Known) (a b : D) (status : ℕ) : Type 0 where
  pub mets : List Meeting
  pub ahead : Ahead (session_behind mets (session_over (volume_of k)) e.commands)
  pub goes : (t : ℕ) → t ≤ M.moment a → Goes (in_runs k.windows) (M.left_since b t) Last e (M.now a).said (M.now a).image (session_over (volume_of k)) mets e.commands
  pub moments : StopsOnly M a b (InRun k (forced_of k) (turns_of e mets (session_over (volume_of k))) (M.now a))
  pub ends : SaysOut M e k mets a b status ⊎ (IsUnsaid before (M.report b) status ⊎ IsBrokenOff request (Undone k (forced_of k) (turns_of e mets (session_over (volume_of k)))) (UnderWay M k (turns_of e mets (session_over (volume_of k))) b) before (M.report b) (turns_of e mets (session_over (volume_of k))) (M.now a) (M.now b) status)

-- Where nothing but a fault is said at the moments of a run, it goes so with no command begun, whatever the volume.
abbrev pub GoesUnsaid : Request → Type 1
GoesUnsaid request = (Passed : Moment → Type 0) (base : List ℕ) (v : Volume) (i : Image) → ((c : Moment) → Passed c → (part : List ℕ) × SaysFault part × (c.said ≡ base ++ part)) → GoesSo request None Passed base v i []

-- the layout of the volume behind the commands of an errand that were begun
abbrev pub layout_behind : Errand → Known → List Meeting → Layout
layout_behind e k mets = (session_behind mets (session_over (volume_of k)) e.commands).volume.layout

-- A request over its mounted volume. At each moment of one command by itself a root says the layout behind it, or the one
-- that the volume had. Where it has begun to say its reply, both roots are those of the layout behind it.
pub record RunsOut {D : Type 0} (M : Ghosts D) (request : Request) (input rest : List ℕ) (before : Report) (k : Known) (a b : D) (status : ℕ) : Type 0 where
  pub cut : Cut
  pub may : MayCut request cut
  pub cause : CutCause cut input rest before (M.report b)
  pub finishes : Finishes M request (errand_in request input cut (volume_of k)) (λ s. IsCutBefore cut s (errand_of request input (volume_of k)).commands) (IsCutAt cut) before k a b status
  pub says : IfOne request (LeavesOnly M.moment M.left_since a b (λ c. SaysEither (layout_behind (errand_in request input cut (volume_of k)) k finishes.mets) k c.image))
  pub rooted : IfOne request (StopsOnly M a b (IsRooted (layout_behind (errand_in request input cut (volume_of k)) k finishes.mets) (weak_of k.windows) (M.now a)))
  pub so : GoesSo request cut (M.left_since b (M.moment a)) (M.now a).said (volume_of k) (M.now a).image (answered finishes.mets (session_over (volume_of k)) (errand_in request input cut (volume_of k)).commands)
