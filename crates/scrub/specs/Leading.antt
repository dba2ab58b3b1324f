-- What is healed of the leaders of a volume's versions.
use Rattle.std.specs.Prelude.{◌≡◌, ℕ, List, IsTrue, Option, Result, Ok, Err}
use Rattle.std.specs.List.{AllByRecursion}
use Rattle.volume_layout.specs.Layout.{is_data}
use Rattle.fsd_bytes.specs.declared.key.Key.{Key}
use Rattle.fsd_bytes.specs.declared.refusal.Refusal.{Refusal}
use Rattle.fsd_bytes.specs.declared.refusal.Refusal.TheVariants as Why
use Rattle.fsd_formats.specs.declared.entry.Entry.{Entry}
use Rattle.sector_disk.specs.Machine.{Moment}
use Rattle.fsd_log.specs.Scan.{Placed}
use Rattle.sector_disk.specs.Image.{open_damage}
use Rattle.fsd_files.specs.Answers.{HasLeader}
use Rattle.fsd_files.specs.Disk.{Touches}
use Rattle.fsd_files.specs.Scrub.{CountsLeaders, leader_place}
use Rattle.fsd_files.specs.Waiting.{is_leader}
use Rattle.fsd_sound.specs.Mounted.{Mounted}
use Rattle.volume_contract.specs.State.{Known, LeavesSound, Stands, State, volume_of}
use Rattle.scrub.specs.Walk.{IsWalked}

module _ {S : Type 0} (state : S → State) (has : S → Mounted → List Placed → Type 0) where
  -- what a stop leaves: leaders alone may be written
  abbrev pub LeavesLed : S → Moment → Moment → Type 0
  LeavesLed s old left = (k : Known) → Stands state has s k old → LeavesSound k (is_leader (volume_of k).entries) old left

  -- The leaders of some first entries are healed.
  pub record HasLed (k : Known) (s : S) (count : ℕ) (last : Option Key) (written : ℕ) (old now : Moment) : Type 0 where
    pub front : List Entry
    pub walked : IsWalked (volume_of k).entries front count last
    pub counts : CountsLeaders front old written
    pub places : AllByRecursion (λ e. IsTrue (is_data k.mounted.volume.layout (leader_place e))) front
    pub stands : Stands state has s k now
    pub touches : Touches (is_leader front) old now
    pub led : AllByRecursion (HasLeader (open_damage old.windows) now.image) front
    pub windows : now.windows ≡ old.windows

  -- Those of all are: so many were written, as they stood before.
  pub record IsLed (k : Known) (s : S) (count : ℕ) (old now : Moment) : Type 0 where
    pub counts : CountsLeaders (volume_of k).entries old count
    pub places : AllByRecursion (λ e. IsTrue (is_data k.mounted.volume.layout (leader_place e))) (volume_of k).entries
    pub stands : Stands state has s k now
    pub touches : Touches (is_leader (volume_of k).entries) old now
    pub led : AllByRecursion (HasLeader (open_damage old.windows) now.image) (volume_of k).entries

  -- so they are, or a fault from outside has ended it
  abbrev pub EndsLed : Known → S → (old now : Moment) → Result ℕ Refusal → Type 0
  EndsLed k s old now (Ok count) = IsLed k s count old now
  EndsLed k s old now (Err (Why.Device place)) = Stands state has s k now
  EndsLed k s old now (Err Why.Memory) = Stands state has s k now
  EndsLed k s old now (Err other) = ⊥
