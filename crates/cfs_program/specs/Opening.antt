-- A command over the image that it names.
use Rattle.std.specs.Prelude.{◌≡◌, ◌⊎◌, ℕ, ◌^◌, ◌-◌, min, Bool, ◌==◌, List, [], ◌∷◌, ◌++◌, length, Ok}
use Rattle.std.specs.List.{list_any}
use Rattle.volume_layout.specs.declared.layout.Layout.{Layout}
use Rattle.volume_layout.specs.Layout.{IsPlanned}
use Rattle.sector_disk.specs.declared.machine.Attach.TheVariants.{Old}
use Rattle.sector_disk.specs.declared.machine.Machine.{Ghosts}
use Rattle.sector_disk.specs.declared.sector.WeakRun.{WeakRun}
use Rattle.sector_disk.specs.Machine.{Asked, Before, DiskCause, Elapses, Finds, IsSynced, Moment, Trusts, asked_for}
use Rattle.fsd_files.specs.Files.{Change}
use Rattle.fsd_sound.specs.Sound.{EndIn, IsSound}
use Rattle.fsd_texts.specs.declared.command.Command.{Command}
use Rattle.fsd_runs.specs.Leaves.{Was}
use Rattle.volume_contract.specs.State.{Ages}
use Rattle.volume_turns.specs.Answering.{WritesOne}
use Rattle.volume_turns.specs.Healing.{HealsMounted, WritesMounting}

-- the attach that a command asks for: an image that is there
abbrev pub mount_asks : List ℕ → List Asked
mount_asks path = record { path = path; how = Old } ∷ []

-- all of them, or none
abbrev pub AsksOrNot : List Asked → (old new : List Asked) → Type 0
AsksOrNot asks old new = (new ≡ old ++ asks) ⊎ (new ≡ old)

-- the statuses of a call of the outside that failed, and of refused memory
abbrev pub is_from_outside : ℕ → Bool
is_from_outside status = list_any (λ s. s == status) (4 ∷ 6 ∷ 7 ∷ [])

-- The image is sound in the windows that the machine has.
pub record IsSoundDisk (l : Layout) (windows : List WeakRun) (h : List Change) (f : ℕ) (now : Moment) : Type 0 where
  pub planned : IsPlanned l
  pub ends : EndIn now.windows windows
  pub sound : IsSound l windows h f now.image

-- 3 is no answer over a sound disk: nothing of it is refused as lost, as unsound or as no volume
abbrev pub AcceptsSound : (old : Moment) → (result : ℕ) → Type 0
AcceptsSound old result = (l : Layout) (windows : List WeakRun) (h : List Change) (f : ℕ) → IsSoundDisk l windows h f old → result ≡ 3 → ⊥

-- So it is of the image, and of the number of its sectors, as the attach found it.
pub record AsFound (P : ℕ → Moment → Type 0) (old : Moment) : Type 0 where
  pub at : Moment
  pub found : Finds old at
  pub sectors : ℕ
  pub size : sectors ≡ min (length at.image) (2 ^ 32 - 1)
  pub holds : P sectors at

-- nothing is written, or no more than a mount and the command write
abbrev pub WritesFound : Command → (old new : Moment) → Type 0
WritesFound command old new = Ages old new ⊎ AsFound (λ sectors at. WritesOne command sectors at new) old

-- the image was sound
abbrev pub WasSound : (old : Moment) → Type 0
WasSound old = (was : Was) × IsSoundDisk was.layout was.windows was.changes was.forced old

-- what a scrub has healed of the image that the attach found
abbrev pub HealsFound : {D : Type 0} → Ghosts D → (a b : D) → Type 0
HealsFound M a b = AsFound (λ sectors at. HealsMounted (M.left_since b (M.moment a)) (WasSound (M.now a)) (λ l healed. M.tells b → WritesMounting l (M.ledger a) (M.ledger b) healed) sectors (M.now a).said at (M.now b)) (M.now a)

-- An attach has found the image of a path, which has so many sectors, as far as they are counted.
pub record FindsImage {D : Type 0} (M : Ghosts D) (path : List ℕ) (sectors : ℕ) (a b : D) : Type 0 where
  pub cause : DiskCause {T = ℕ} (M.report a) (M.report b) 0 (Ok sectors)
  pub trust : Trusts (M.tells a) (M.tells b) (M.honest a) (M.honest b)
  pub asked : M.tells b → M.ledger b ≡ asked_for (M.ledger a) path Old
  pub found : M.honest b → Finds (M.now a) (M.now b)
  pub synced : M.honest b → IsSynced (M.now b)
  pub size : M.honest b → sectors ≡ min (length (M.now b).image) (2 ^ 32 - 1)
  pub time : M.honest b → Elapses (M.moment a) (M.moment b) (M.left_since a) (M.left_since b) (Before (M.now a) (M.now b))
