-- What a scrub answers and leaves.
use Rattle.std.specs.Prelude.{◌≡◌, ◌⊎◌, ℕ, ◌+◌, ◌-◌, ◌^◌, min, ◌||◌, nat_lt, List, [], ◌∷◌, length, None, Some, Result, Ok, Err, IfErr, IfOk, IsTrue, MatchResult, OnOk}
use Rattle.volume_layout.specs.declared.layout.Layout.{Layout}
use Rattle.volume_layout.specs.Layout.{is_data}
use Rattle.fsd_bytes.specs.declared.key.Key.{Key}
use Rattle.fsd_bytes.specs.declared.refusal.Refusal.{Refusal}
use Rattle.fsd_bytes.specs.declared.refusal.Refusal.TheVariants as Why
use Rattle.sector_disk.specs.declared.machine.Machine.{Ghosts}
use Rattle.sector_disk.specs.Machine.{Ledger, Moment}
use Rattle.fsd_log.specs.Scan.{Placed}
use Rattle.std.specs.List.{AllByRecursion}
use Rattle.sector_disk.specs.Image.{open_damage}
use Rattle.fsd_files.specs.Answers.{HasLeader}
use Rattle.fsd_files.specs.Disk.{Sectors, Touches}
use Rattle.fsd_files.specs.Scrub.{CountsHealed, Picks, PicksSome, all_data}
use Rattle.fsd_files.specs.Volume.{forced}
use Rattle.fsd_files.specs.Waiting.{is_leader}
use Rattle.fsd_sound.specs.Mounted.{Mounted}
use Rattle.fsd_sound.specs.Writes.{force_writes, mount_writes}
use Rattle.volume_contract.specs.Healing.{TwinsStand}
use Rattle.volume_contract.specs.Order.{CallStep, Force, Heal, KeepsRefused, LookUp, Single, down, is_idle}
use Rattle.volume_contract.specs.State.{IsForced, Known, LeavesSound, Stands, State, force_len, volume_of}
use Rattle.scrub.specs.declared.whole.Healed.{Healed}
use Rattle.scrub.specs.Looking.{AreDamaged}
use Rattle.scrub.specs.Telling.{TellsOn}

-- a force, what stands twice, look-ups, and sectors one by one
abbrev pub scrub_steps : State → List CallStep
scrub_steps s = down s ∷ Force (nat_lt 0 (length s.dirty)) ∷ Heal ∷ LookUp ∷ Single ∷ []

-- where it may write, whatever the image: where a mount does, and leaders, which lie in the data area
abbrev pub scrub_writes : Layout → Sectors
scrub_writes l s = mount_writes l s || is_data l s

-- where it writes over a volume that stands: of the data area leaders alone
abbrev pub heal_writes : Known → Sectors
heal_writes k s = mount_writes k.mounted.volume.layout s || is_leader (volume_of k).entries s

-- Beside so many sectors those are counted as written that were healed; of these no more are told than a number can tell.
pub record WritesHealed (others : ℕ) (old new : Ledger) (told : ℕ) : Type 0 where
  pub healed : ℕ
  pub tells : told ≡ min healed (2 ^ 32 - 1)
  pub written : new.written ≡ old.written + (others + healed)

-- What clients have open stays: the sectors of unfinished creations, and the versions that are held.
pub record KeepsOpen (old new : State) : Type 0 where
  pub unfinished : new.unfinished ≡ old.unfinished
  pub readers : new.readers ≡ old.readers

-- Where it writes behind its force, and how many sectors where it answers.
pub record WritesHealing {D : Type 0} (M : Ghosts D) (l : Layout) (old new : D) (result : Result Healed Refusal) : Type 0 where
  pub rest : M.honest new → Touches (scrub_writes l) (M.now old) (M.now new)
  pub counted : IfOk result (λ healed. M.tells new → WritesHealed 0 (M.ledger old) (M.ledger new) healed.sectors)

-- Where it writes, and how many sectors where it answers; a volume that is down leaves the machine as it was.
pub record WritesScrub {D : Type 0} (M : Ghosts D) (s : State) (old new : D) (result : Result Healed Refusal) : Type 0 where
  pub rest : M.honest new → Touches (scrub_writes s.layout) (M.now old) (M.now new)
  pub counted : IfOk result (λ healed. M.tells new → WritesHealed (force_len s) (M.ledger old) (M.ledger new) healed.sectors)
  pub idle : IsTrue (is_idle (scrub_steps s)) → new ≡ old

-- What it makes of a volume's state: a force alone changes it. Where it answers, the volume is up.
pub record KeepsScrub (old new : State) (result : Result Healed Refusal) : Type 0 where
  pub layout : new.layout ≡ old.layout
  pub opened : KeepsOpen old new
  pub kept : MatchResult result (λ x. IsForced old new) (λ why. KeepsRefused (scrub_steps old) why old new)
  pub up : OnOk result (new.down ≡ None)

-- What healing tells of any image: why it is refused, and that twins stand where it answers.
pub record TellsHealing (l : Layout) (now : Moment) (result : Result Healed Refusal) : Type 0 where
  pub told : IfErr result (TellsOn l now.image)
  pub mended : OnOk result (TwinsStand l now)

-- What it tells of any image: why it is refused, that twins stand where it answers, and which data sectors are damaged.
pub record TellsScrub (l : Layout) (now : Moment) (found : List (Key × ℕ)) (result : Result Healed Refusal) : Type 0 where
  pub told : IfErr result (TellsOn l now.image)
  pub mended : OnOk result (TwinsStand l now)
  pub damaged : AreDamaged l now.image found

-- all changes are forced, and what is open stays
pub record IsForcedFrom (k after : Known) : Type 0 where
  pub volume : volume_of after ≡ forced (volume_of k)
  pub opened : after.opened ≡ k.opened
  pub windows : after.windows ≡ k.windows
  pub changes : after.changes ≡ k.changes

module _ {S : Type 0} (state : S → State) (has : S → Mounted → List Placed → Type 0) where
  -- what a stop leaves
  abbrev pub LeavesScrubbed : S → Moment → Moment → Type 0
  LeavesScrubbed s old left = (k : Known) → Stands state has s k old → LeavesSound k (heal_writes k) old left

  -- So many of the sectors that aren't data are healed, as they stood before.
  pub record IsHealed (k : Known) (new : S) (old now : Moment) (healed : ℕ) : Type 0 where
    pub counts : CountsHealed k.mounted.volume.layout (volume_of k).entries old healed
    pub stands : Stands state has new k now
    pub touches : Touches (heal_writes k) old now
    pub led : AllByRecursion (HasLeader (open_damage old.windows) now.image) (volume_of k).entries

  abbrev pub EndsHealed : Known → S → (old now : Moment) → Result Healed Refusal → Type 0
  EndsHealed k new old now (Ok healed) = IsHealed k new old now healed.sectors
  EndsHealed k new old now (Err (Why.Device s)) = Stands state has new k now
  EndsHealed k new old now (Err Why.Memory) = Stands state has new k now
  EndsHealed k new old now (Err other) = ⊥

  -- and of the data sectors of all versions those that read damaged are found, and no others
  pub record IsLooked (k : Known) (new : S) (old now : Moment) (found : List (Key × ℕ)) (healed : ℕ) : Type 0 where
    pub healed_so : IsHealed k new old now healed
    pub finds : Picks old.image now.image (all_data (volume_of k).entries) found

  -- some first sectors were looked at
  pub record IsLooking (k : Known) (new : S) (old now : Moment) (found : List (Key × ℕ)) : Type 0 where
    pub stands : Stands state has new k now
    pub finds : PicksSome old.image now.image (all_data (volume_of k).entries) found

  abbrev pub EndsLooked : Known → S → (old now : Moment) → List (Key × ℕ) → Result Healed Refusal → Type 0
  EndsLooked k new old now found (Ok healed) = IsLooked k new old now found healed.sectors
  EndsLooked k new old now found (Err (Why.Device s)) = IsLooking k new old now found
  EndsLooked k new old now found (Err Why.Memory) = IsLooking k new old now found
  EndsLooked k new old now found (Err other) = ⊥

  -- The changes are forced. Of the data sectors of all versions those that read damaged are found, and no others; and so
  -- many of the other sectors are healed, as they stood when the force had ended: as it began, where no page waited.
  pub record IsScrubbed (k : Known) (new : S) (old now : Moment) (found : List (Key × ℕ)) (healed : ℕ) : Type 0 where
    pub after : Known
    pub forces : IsForcedFrom k after
    pub stands : Stands state has new after now
    pub touches : Touches (heal_writes k) old now
    pub led : AllByRecursion (HasLeader (open_damage old.windows) now.image) (volume_of k).entries
    pub finds : Picks old.image now.image (all_data (volume_of k).entries) found
    pub behind : Moment
    pub force : Touches (force_writes k.mounted.volume.layout) old behind
    pub windows : behind.windows ≡ old.windows
    pub idle : k.mounted.dirty ≡ [] → behind ≡ old
    pub by : S
    pub stood : Stands state has by after behind
    pub heals : CountsHealed k.mounted.volume.layout (volume_of k).entries behind healed

  -- it stands with all changes forced, and some first sectors were looked at
  pub record IsScrubbing (k : Known) (new : S) (old now : Moment) (found : List (Key × ℕ)) : Type 0 where
    pub after : Known
    pub forces : IsForcedFrom k after
    pub stands : Stands state has new after now
    pub finds : PicksSome old.image now.image (all_data (volume_of k).entries) found

  abbrev pub EndsScrub : Known → S → (old now : Moment) → List (Key × ℕ) → Result Healed Refusal → Type 0
  EndsScrub k new old now found (Ok healed) = IsScrubbed k new old now found healed.sectors
  EndsScrub k new old now found (Err (Why.Device s)) = (((state new).down ≡ Some s) × (found ≡ [])) ⊎ IsScrubbing k new old now found
  EndsScrub k new old now found (Err Why.Memory) = IsScrubbing k new old now found
  EndsScrub k new old now found (Err other) = ⊥
