-- What a scrub by itself has healed as its run ends.
use Rattle.std.specs.Prelude.{◌≡◌, ◌≤◌, ◌==◌, ⊤, ℕ, ◌+◌, ◌*◌, Bool, List, [], ◌∷◌, ◌++◌, Some, IsTrue}
use Rattle.std.specs.List.{AllByRecursion, list_any}
use Rattle.volume_layout.specs.declared.layout.Layout.{Layout}
use Rattle.volume_layout.specs.Layout.{map_sectors}
use Rattle.fsd_bytes.specs.declared.key.Key.{Key}
use Rattle.fsd_log.specs.Scan.{Placed}
use Rattle.fsd_table.specs.Table.{Telling}
use Rattle.sector_disk.specs.declared.machine.Machine.{Ghosts}
use Rattle.sector_disk.specs.Image.{open_damage}
use Rattle.sector_disk.specs.Machine.{Ledger, Moment}
use Rattle.fsd_files.specs.Answers.{HasLeader}
use Rattle.fsd_files.specs.Scrub.{CountsHealed}
use Rattle.fsd_files.specs.declared.reply.Reply.TheVariants as Said
use Rattle.fsd_sound.specs.Mounted.{Mounted}
use Rattle.fsd_sound.specs.Shown.{told}
use Rattle.fsd_texts.specs.declared.command.Command.{Command}
use Rattle.fsd_texts.specs.declared.command.Command.TheVariants as Word
use Rattle.fsd_runs.specs.Commands.{reply_alone}
use Rattle.fsd_runs.specs.Leaves.{Was}
use Rattle.volume_contract.specs.Healing.{TwinsStand}
use Rattle.volume_contract.specs.Mount.{IsSoundAt}
use Rattle.volume_contract.specs.State.{Known, Stands, State}
use Rattle.scrub.specs.Scrub.{WritesHealed}
use Rattle.volume_turns.specs.Answering.{EndsOne}
use Rattle.volume_turns.specs.Causes.{HasVolume}

abbrev pub IfScrub : Command → Type 0 → Type 0
IfScrub Word.Scrub P = P
-- by default there is nothing to say
IfScrub command P = ⊤

-- the statuses of a scrub that is answered
abbrev pub is_of_answer : ℕ → Bool
is_of_answer status = list_any (λ s. s == status) (0 ∷ 8 ∷ [])

-- Each version that the image tells of has its leader, but for damage in the open window; and of the roots, the anchors,
-- the homes and these leaders so many were to be healed, as they stood at the old moment.
pub record HealsLeaders (l : Layout) (healed : ℕ) (old new : Moment) : Type 0 where
  pub telling : Telling
  pub tells : told l new.image ≡ Some telling
  pub led : AllByRecursion (HasLeader (open_damage new.windows) new.image) telling.entries
  pub counts : CountsHealed l telling.entries old healed

-- What a scrub has found is said, and how many sectors it has healed, which it has written. Each root, anchor and home of
-- a page is whole, but for what the open window has worn. Over a sound disk so it is of leaders, and the number is theirs.
pub record HealsAll (Sound : Type 0) (Written : ℕ → Type 0) (l : Layout) (before : List ℕ) (old new : Moment) : Type 0 where
  pub found : List (Key × ℕ)
  pub healed : ℕ
  pub said : new.said ≡ before ++ reply_alone (Said.Scrubbed found healed)
  pub written : Written healed
  pub twins : TwinsStand l new
  pub leaders : Sound → HealsLeaders l healed old new

-- Beside at most so many sectors, those healed are counted as written, but no more are told than a number can tell.
pub record WritesBeside (most : ℕ) (old new : Ledger) (healed : ℕ) : Type 0 where
  pub others : ℕ
  pub few : others ≤ most
  pub written : WritesHealed others old new healed

-- ---- over a volume that was just mounted

module _ {D S : Type 0} (M : Ghosts D) (state : S → State) (has : S → Mounted → List Placed → Type 0) where
  -- the disk is sound where the volume stands on it
  abbrev pub HealsAlone : (v : S) → (a b : D) → Type 0
  HealsAlone v a b = HealsAll ((k : Known) × Stands state has v k (M.now a)) (λ healed. M.tells b → WritesBeside (map_sectors (state v).layout + 2) (M.ledger a) (M.ledger b) healed) (state v).layout (M.now a).said (M.now a) (M.now b)

  -- One command, to its last line; and what it has healed, where it is a scrub that is answered.
  pub record EndsHealed (command : Command) (v : S) (a b : D) (status : ℕ) : Type 0 where
    pub one : EndsOne command (state v) (M.now a) (M.now b) status
    pub heals : IsTrue (is_of_answer status) → IfScrub command (HealsAlone v a b)

-- ---- from the mount on

-- beside what a mount writes at most, and the map
abbrev pub WritesMounting : Layout → (old new : Ledger) → (healed : ℕ) → Type 0
WritesMounting l = WritesBeside (2 * l.pages + 101 + (map_sectors l + 2))

-- By the root that was seen, and as it stood at a moment of the run at which the window was open that is open at its end.
pub record HealsMounted (Past : Moment → Type 0) (Sound : Type 0) (Written : Layout → ℕ → Type 0) (sectors : ℕ) (before : List ℕ) (old new : Moment) : Type 0 where
  pub volume : HasVolume sectors old
  pub mounted : Moment
  pub passed : Past mounted
  pub windows : mounted.windows ≡ new.windows
  pub heals : HealsAll Sound (Written volume.layout) volume.layout before mounted new

-- the image was sound
abbrev pub WasSoundAt : (sectors : ℕ) → Moment → Type 0
WasSoundAt sectors old = (was : Was) × IsSoundAt sectors was.layout was.windows was.changes was.forced old

abbrev pub HealsOver : {D : Type 0} → (M : Ghosts D) → (sectors : ℕ) → (a b : D) → Type 0
HealsOver M sectors a b = HealsMounted (M.left_since b (M.moment a)) (WasSoundAt sectors (M.now a)) (λ l healed. M.tells b → WritesMounting l (M.ledger a) (M.ledger b) healed) sectors (M.now a).said (M.now a) (M.now b)
