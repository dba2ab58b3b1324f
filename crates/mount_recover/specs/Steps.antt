-- What each step of a mount does.
use Rattle.std.specs.Prelude.{◌≡◌, ℕ, ◌+◌, ◌<◌, ◌≤◌, List, IfErr, IfSome, IsSome, MatchResult, OnErr, OnOk, Result, Ok, Err}
use Rattle.volume_layout.specs.declared.layout.Layout.{Layout}
use Rattle.sector_disk.specs.declared.machine.Machine.{Ghosts}
use Rattle.sector_disk.specs.declared.sector.WeakRun.{WeakRun}
use Rattle.sector_disk.specs.Calls.{HealsDisk, device_in}
use Rattle.sector_disk.specs.Image.{settled}
use Rattle.sector_disk.specs.Machine.{IsSynced, LeavesOnly, Moment}
use Rattle.fsd_log.specs.Scan.{Placed}
use Rattle.fsd_files.specs.Disk.{Image}
use Rattle.fsd_sound.specs.Homes.{home_of}
use Rattle.fsd_sound.specs.Lost.{LostIn}
use Rattle.fsd_sound.specs.Mounting.{device_of_mount}
use Rattle.fsd_sound.specs.declared.fault.MountFault.{MountFault}
use Rattle.log_thirds.specs.Append.{IsCalmNow}
use Rattle.log_thirds.specs.LogValue.{LogValue}
use Rattle.mount_recover.specs.Finding.{IsExcuse}
use Rattle.mount_recover.specs.Mending.{StaysOrSettles, Completed, IsCompleted, IsLoadFault, IsMending, IsSeen, StaysShown, StaysBut}
use Rattle.mount_recover.specs.Recover.{HasAnchorTwice}
use Rattle.mount_recover.specs.Replay.{IsReplayed, IsUnturned, Replays, TurnsLast}
use Rattle.mount_recover.specs.Showing.{GivesPages, HasNoRoot, IsShowing, LosesNone, shows_of}

-- ---- over any image

module _ {D : Type 0} (M : Ghosts D) where
  -- It writes so many sectors at most; where it ends well the count of them is no less than before.
  pub record WritesUpTo {T E : Type 0} (n : ℕ) (old new : D) (result : Result T E) : Type 0 where
    pub most : M.tells new → (M.ledger new).written ≤ (M.ledger old).written + n
    pub grows : OnOk result (M.tells new → (M.ledger old).written ≤ (M.ledger new).written)

  -- The next window's run is named, of so many sectors at most, and the present window stays as it is.
  pub record NamesRun {T E : Type 0} (longest : ℕ) (old new : D) (result : Result T E) : Type 0 where
    pub present : (M.now new).windows.present ≡ (M.now old).windows.present
    pub unturned : LeavesOnly M.moment M.left_since old new (IsUnturned (M.now old))
    pub named : OnOk result (IsSome (M.now new).windows.next)
    pub short : OnOk result (IfSome (M.now new).windows.next (λ run. run.count ≤ longest))

  -- Nothing fails it but the disk and the loss of two such copies, both of which read damaged. Where it ends well the count
  -- of what is written is no less than before.
  pub record MendsCopies {T : Type 0} (AreCopies : ℕ → ℕ → Type 0) (old new : D) (result : Result T MountFault) : Type 0 where
    pub disk : HealsDisk M (device_in device_of_mount result) old new
    pub load : IfErr result IsLoadFault
    pub lost : IfErr result (λ fault. M.honest new → LostIn AreCopies (M.now new).image fault)
    pub grows : OnOk result (M.tells new → (M.ledger old).written ≤ (M.ledger new).written)

  -- Nothing fails it but the disk, and nothing is lost.
  pub record GoesHome {T : Type 0} (old new : D) (result : Result T MountFault) : Type 0 where
    pub disk : HealsDisk M (device_in device_of_mount result) old new
    pub load : IfErr result IsLoadFault
    pub never_lost : IfErr result IsExcuse

  -- Where it ends well the run that was named is the present one, and all is on the disk; else the windows stay. At each
  -- moment before the end they do. Nothing is written but the anchors.
  pub record TurnsEpoch {T E : Type 0} (log : LogValue) (old new : D) (result : Result T E) : Type 0 where
    pub windows : OnOk result ((M.now new).windows ≡ settled (M.now old).windows.present (M.now old).windows.next)
    pub windows_err : OnErr result ((M.now new).windows ≡ (M.now old).windows)
    pub synced : OnOk result (IsSynced (M.now new))
    pub turns : LeavesOnly M.moment M.left_since old new (TurnsLast (M.now old) (M.now new))
    pub rest : StaysBut 8 12 (M.now old) (M.now new)
    -- the anchors are the log's own, whatever the image was
    pub anchors : OnOk result (12 < (M.report old).sectors → IsSome (M.now old).windows.next → HasAnchorTwice log.anchor (M.now new))

-- each page stands at home as the image showed it, or none is lost that it shows and that has a root
abbrev pub ShowOrAreLost : {T : Type 0} → Layout → List Placed → (i j : Image) → Result T MountFault → Type 0
ShowOrAreLost l records i j (Ok x) = (page : ℕ) → page < l.pages → home_of l j page ≡ shows_of l records i page
ShowOrAreLost l records i j (Err fault) = (HasNoRoot i → ⊥) → LosesNone l records i fault

-- ---- over an image that shows one of these page lists

module _ {D : Type 0} (M : Ghosts D) (l : Layout) (windows : List WeakRun) (choices : List (List (List ℕ))) where
  -- Up to `healing` an image that was seen shows them at each moment. At the end each record of the log is whole.
  pub record CompletesLog {T E : Type 0} (log : LogValue) (old new : D) (seen : IsSeen l windows choices log (M.now old)) (result : Result T E) : Type 0 where
    pub any_moment : LeavesOnly M.moment M.left_since old new (Replays l windows choices (M.now old))
    pub done : OnOk result (Completed l windows choices log (M.now old) seen (M.now new))

  -- From there on it shows them at each moment. It comes to this, or fails with nothing lost.
  pub record MendsOn {T : Type 0} (first : Moment) (Done : Type 0) (old new : D) (result : Result T MountFault) : Type 0 where
    pub any_moment : LeavesOnly M.moment M.left_since old new (StaysShown l windows choices first)
    pub done : OnOk result Done
    pub never_lost : IfErr result IsExcuse

  -- At the end the epoch is this one, its log is empty, and the pages stand at home.
  pub record BeginsEpoch {T E : Type 0} (first : Moment) (epoch : ℕ) (old new : D) (result : Result T E) : Type 0 where
    pub any_moment : LeavesOnly M.moment M.left_since old new (StaysOrSettles l windows choices first)
    pub done : OnOk result (IsReplayed l windows choices epoch (M.now new))

-- ---- a stage of the mending: homes before a sector, and of the pages that the log has not, so many first ones

module _ {D : Type 0} (M : Ghosts D) (l : Layout) (log : LogValue) where
  -- over an image that shows some pages, from one stage to another
  abbrev pub MendsFrom : {T : Type 0} → (end n later more : ℕ) → (old new : D) → Result T MountFault → Type 0
  MendsFrom end n later more old new result = (windows : List WeakRun) (choices : List (List (List ℕ))) (first : Moment) (c : IsCompleted l windows choices log first) → M.honest new →
      IsMending l windows choices log first c end n (M.now old) → MendsOn M l windows choices first (IsMending l windows choices log first c later more (M.now new)) old new result

  -- over any image on which nothing wears: what was shown is shown, or none is lost that was
  abbrev pub ShowsFrom : {T : Type 0} → (end later : ℕ) → (old new : D) → Result T MountFault → Type 0
  ShowsFrom end later old new result = (records : List Placed) (first : Image) → M.honest new → IsCalmNow (M.now old) → GivesPages log records first → IsShowing l records first end (M.now old).image →
      MatchResult result (λ _. IsShowing l records first later (M.now new).image) (LosesNone l records first)
