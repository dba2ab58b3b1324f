-- One command by itself: it is done, all is forced, and then its reply is said.
use Rattle.std.specs.Prelude.{◌≡◌, ◌⊎◌, ⊤, ℕ, ◌<◌, ◌≤◌, List, [], ◌∷◌, ◌++◌, length, take, Some, Result, Ok, Err, OnOk, IfErr, IsTrue}
use Rattle.volume_layout.specs.declared.layout.Layout.{Layout}
use Rattle.fsd_bytes.specs.declared.refusal.Refusal.{Refusal}
use Rattle.fsd_bytes.specs.declared.refusal.Refusal.TheVariants as Why
use Rattle.sector_disk.specs.declared.machine.Machine.{Ghosts}
use Rattle.sector_disk.specs.Image.{AllWorn}
use Rattle.sector_disk.specs.Calls.{IsHeld, StopsOnly}
use Rattle.sector_disk.specs.Machine.{LeavesOnly, Moment}
use Rattle.fsd_files.specs.Desk.{Session}
use Rattle.fsd_files.specs.Disk.{Image, in_runs}
use Rattle.fsd_files.specs.Volume.{Volume}
use Rattle.fsd_sound.specs.Laid.{HasOwnRoots}
use Rattle.fsd_log.specs.Scan.{Placed}
use Rattle.fsd_sound.specs.Mounted.{Mounted, telling_of}
use Rattle.fsd_sound.specs.Shown.{told}
use Rattle.fsd_sound.specs.Sound.{IsSound, weak_of}
use Rattle.fsd_texts.specs.declared.command.Command.{Command}
use Rattle.fsd_texts.specs.declared.fault.Fault.{Fault}
use Rattle.fsd_texts.specs.declared.fault.Fault.TheVariants as Ends
use Rattle.fsd_texts.specs.declared.script_command.ScriptCommand.TheVariants.{Plain}
use Rattle.fsd_runs.specs.Errands.{Turn, errand_alone, alone_ending, forced_turn}
use Rattle.fsd_runs.specs.Runs.{Goes, answered, session_behind, changes_in, said_in, turns_of}
use Rattle.fsd_runs.specs.Sessions.{Meeting, session_over}
use Rattle.fsd_sound.specs.declared.fault.MountFault.{MountFault}
use Rattle.fsd_sound.specs.declared.fault.MountFault.TheVariants as Refused
use Rattle.volume_turns.specs.declared.turns.Halt.{Halt}
use Rattle.volume_turns.specs.declared.turns.Halt.TheVariants.{Fault as Stopped, Output}
use Rattle.scrub.specs.Telling.{AreOfPage}
use Rattle.volume_contract.specs.Closing.{HasSaved, saves}
use Rattle.volume_contract.specs.State.{Known, Stands, State, volume_of, forced_of}
use Rattle.volume_turns.specs.Steps.{SaysEither}
use Rattle.volume_turns.specs.Turns.{InRun, EndsAtOnce, IsEndOn, KeepsSaid}

-- what a mount's fault is as the end of a run
abbrev pub end_by_mount : MountFault → Fault
end_by_mount Refused.NotVolume = Ends.NotVolume
end_by_mount Refused.NoAnchor = Ends.NoAnchor
end_by_mount (Refused.Lost a b) = Ends.Lost a b
end_by_mount (Refused.Unsound s) = Ends.Unsound s
end_by_mount (Refused.Device s) = Ends.Device s
end_by_mount Refused.Memory = Ends.Memory
end_by_mount Refused.WornOut = Ends.WornOut

-- why a close has failed
abbrev pub close_fault : Refusal → Fault
close_fault (Why.Device s) = Ends.Device s
close_fault (Why.Lost a b) = Ends.Lost a b
close_fault why = Ends.Memory

-- ---- the end of a volume, and a text behind it

-- The map stands that was saved, if one was. Where the volume stood, the disk's own table is its own.
pub record HasClosed {S : Type 0} (state : S → State) (has : S → Mounted → List Placed → Type 0) (v : S) (old new : Moment) : Type 0 where
  pub saved : IsTrue (saves (state v)) → HasSaved (state v) new
  pub tells : (k : Known) → Stands state has v k old → told k.mounted.volume.layout new.image ≡ Some (telling_of (volume_of k))

-- Nothing is said before all is forced, and on the disk, and both roots are those of this layout there.
pub record InClose (own : Layout) (k : Known) (f : ℕ) (text : List ℕ) (old left : Moment) : Type 0 where
  pub windows : left.windows ≡ old.windows
  pub forced : ℕ
  pub least : f ≤ forced
  pub sound : IsSound k.mounted.volume.layout k.windows k.changes forced left.image
  pub heard : ℕ
  pub said : left.said ≡ old.said ++ take heard text
  pub all : 0 < heard → forced ≡ length k.changes
  pub roots : 0 < heard → HasOwnRoots own (weak_of k.windows) left.image

-- All is said. The disk's own table is the volume's, however it wears, and both roots are those of this layout, whichever
-- of the moments since the last sync is on the disk.
pub record SaysClosedBy {D : Type 0} (own : Layout) (M : Ghosts D) (k : Known) (text : List ℕ) (a b : D) : Type 0 where
  pub windows : (M.now b).windows ≡ (M.now a).windows
  pub said : (M.now b).said ≡ (M.now a).said ++ text
  pub sound : IsSound k.mounted.volume.layout k.windows k.changes (length k.changes) (M.now b).image
  pub held : IsHeld M b (λ c. IsSound k.mounted.volume.layout k.windows k.changes (length k.changes) c.image)
  pub tells : told k.mounted.volume.layout (M.now b).image ≡ Some (telling_of (volume_of k))
  pub lasts : AllWorn (weak_of k.windows) (λ j. told k.mounted.volume.layout j ≡ Some (telling_of (volume_of k))) (M.now b).image
  pub roots : HasOwnRoots own (weak_of k.windows) (M.now b).image
  pub rooted : IsHeld M b (λ c. HasOwnRoots own (weak_of k.windows) c.image)

-- It failed before anything was said.
pub record Unclosed {D : Type 0} (M : Ghosts D) (k : Known) (f : ℕ) (a b : D) : Type 0 where
  pub windows : (M.now b).windows ≡ (M.now a).windows
  pub said : (M.now b).said ≡ (M.now a).said
  pub held : IsHeld M b (λ c. IsSound k.mounted.volume.layout k.windows k.changes f c.image)

abbrev pub EndsClosedBy : {D : Type 0} → Layout → (M : Ghosts D) → Known → (f : ℕ) → List ℕ → (a b : D) → Result (Unit {0}) Halt → Type 0
EndsClosedBy own M k f text a b (Ok x) = SaysClosedBy own M k text a b
EndsClosedBy own M k f text a b (Err (Stopped fault)) = EndsAtOnce fault × Unclosed M k f a b
EndsClosedBy own M k f text a b (Err Output) = ⊤

pub record ClosesAndSaysBy {D : Type 0} (own : Layout) (M : Ghosts D) (k : Known) (f : ℕ) (text : List ℕ) (a b : D) (result : Result (Unit {0}) Halt) : Type 0 where
  pub moments : StopsOnly M a b (InClose own k f text (M.now a))
  pub says : LeavesOnly M.moment M.left_since a b (λ c. SaysEither own k c.image)
  pub ends : EndsClosedBy own M k f text a b result

-- and these are of the volume's own
abbrev pub SaysClosed : {D : Type 0} → (M : Ghosts D) → Known → List ℕ → (a b : D) → Type 0
SaysClosed M k text a b = SaysClosedBy k.mounted.volume.layout M k text a b

abbrev pub EndsClosed : {D : Type 0} → (M : Ghosts D) → Known → (f : ℕ) → List ℕ → (a b : D) → Result (Unit {0}) Halt → Type 0
EndsClosed M k f text a b result = EndsClosedBy k.mounted.volume.layout M k f text a b result

abbrev pub ClosesAndSays : {D : Type 0} → (M : Ghosts D) → Known → (f : ℕ) → List ℕ → (a b : D) → Result (Unit {0}) Halt → Type 0
ClosesAndSays M k f text a b result = ClosesAndSaysBy k.mounted.volume.layout M k f text a b result

-- Over any image, of a volume of this layout: that all is forced is said where it is done, and nothing in front of a
-- fault. What that fault tells of the image is so by this layout, and it is no worn-out mount.
pub record SaysForcedOver {D T : Type 0} (M : Ghosts D) (l : Layout) (a b : D) (result : Result T Halt) : Type 0 where
  pub image : IfErr result (λ end. M.honest b → IsEndOn AreOfPage l (M.now b).image end)
  pub unworn : result ≡ Err (Stopped Ends.WornOut) → ⊥
  pub says : OnOk result (M.honest b → (M.now b).said ≡ (M.now a).said ++ forced_turn.said)
  pub quiet : M.honest b → KeepsSaid (M.now a) (M.now b) result

-- ---- one command

-- whether it has ended well
abbrev pub unit_of : {T : Type 0} → Result T Halt → Result (Unit {0}) Halt
unit_of (Ok x) = Ok tt
unit_of (Err end) = Err end

-- All is said, and all is forced: the disk's own table is that of the volume behind it, however it wears, and both roots
-- are those of its layout. Whichever of the moments since the last sync is on the disk has all that too, and these roots.
pub record IsDone {D : Type 0} (M : Ghosts D) (k : Known) (turns : List Turn) (after : Volume) (a b : D) : Type 0 where
  pub windows : (M.now b).windows ≡ (M.now a).windows
  pub said : (M.now b).said ≡ (M.now a).said ++ said_in turns
  pub sound : IsSound k.mounted.volume.layout k.windows (k.changes ++ changes_in turns) (length (k.changes ++ changes_in turns)) (M.now b).image
  pub held : IsHeld M b (λ c. IsSound k.mounted.volume.layout k.windows (k.changes ++ changes_in turns) (length (k.changes ++ changes_in turns)) c.image)
  pub tells : told k.mounted.volume.layout (M.now b).image ≡ Some (telling_of after)
  pub lasts : AllWorn (weak_of k.windows) (λ j. told k.mounted.volume.layout j ≡ Some (telling_of after)) (M.now b).image
  pub roots : HasOwnRoots after.layout (weak_of k.windows) (M.now b).image
  pub rooted : IsHeld M b (λ c. HasOwnRoots after.layout (weak_of k.windows) c.image)

-- the status of its reply
abbrev pub status_alone : Command → List Meeting → Session → ℕ
status_alone c mets s = (alone_ending (answered mets s (Plain c ∷ []))).status

-- where memory was refused, the disk is sound as it was
abbrev pub Spares : Known → Fault → Image → Type 0
Spares k why i = why ≡ Ends.Memory → IsSound k.mounted.volume.layout k.windows k.changes (forced_of k) i

-- It ended before its reply was said.
pub record Unanswered {D : Type 0} (M : Ghosts D) (c : Command) (k : Known) (mets : List Meeting) (fault : Fault) (a b : D) : Type 0 where
  pub once : EndsAtOnce fault
  pub said : (M.now b).said ≡ (M.now a).said
  pub spared : Spares k fault (M.now b).image
  pub held : IsHeld M b (λ i. IsSound k.mounted.volume.layout k.windows (k.changes ++ changes_in (take 1 (turns_of (errand_alone c) mets (session_over (volume_of k))))) (forced_of k) i.image)

abbrev pub EndsAlone : {D : Type 0} → (M : Ghosts D) → Command → Known → List Meeting → (a b : D) → Result ℕ Halt → Type 0
EndsAlone M c k mets a b (Ok status) = (length mets ≡ 1) × (status ≡ status_alone c mets (session_over (volume_of k))) × IsDone M k (turns_of (errand_alone c) mets (session_over (volume_of k))) (session_behind mets (session_over (volume_of k)) (Plain c ∷ [])).volume a b
EndsAlone M c k mets a b (Err (Stopped fault)) = Unanswered M c k mets fault a b
EndsAlone M c k mets a b (Err Output) = ⊤

abbrev pub Anything : Volume → Image → Type 0
Anything v i = ⊤

-- Nothing was said yet, or both roots are those of this layout.
abbrev pub SaysRooted : Layout → Known → (old left : Moment) → Type 0
SaysRooted own k old left = (left.said ≡ old.said) ⊎ HasOwnRoots own (weak_of k.windows) left.image

-- the layout of the volume behind the command, where it meets this
abbrev pub layout_alone : Command → List Meeting → Session → Layout
layout_alone c mets s = (session_behind mets s (Plain c ∷ [])).volume.layout

pub record IsAlone {D : Type 0} (M : Ghosts D) (c : Command) (k : Known) (a b : D) (result : Result ℕ Halt) : Type 0 where
  pub mets : List Meeting
  pub goes : (t : ℕ) → t ≤ M.moment a → Goes (in_runs k.windows) (M.left_since b t) Anything (errand_alone c) (M.now a).said (M.now a).image (session_over (volume_of k)) mets (Plain c ∷ [])
  pub moments : StopsOnly M a b (InRun k (forced_of k) (turns_of (errand_alone c) mets (session_over (volume_of k))) (M.now a))
  pub says : LeavesOnly M.moment M.left_since a b (λ x. SaysEither (layout_alone c mets (session_over (volume_of k))) k x.image)
  pub rooted : StopsOnly M a b (SaysRooted (layout_alone c mets (session_over (volume_of k))) k (M.now a))
  pub ends : EndsAlone M c k mets a b result
