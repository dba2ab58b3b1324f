-- What a mount tells up to its name table: where it has settled, where it has failed, and of an image that shows a volume.
use Rattle.std.specs.Prelude.{◌≡◌, ◌+◌, ◌-◌, ◌<◌, ◌≤◌, ◌^◌, ℕ, List, Some, None, IfOk, IfSome, Result, MatchResult}
use Rattle.volume_layout.specs.declared.layout.Layout.{Layout}
use Rattle.volume_layout.specs.Layout.{IsPlanned}
use Rattle.fsd_formats.specs.declared.anchor.Anchor.{Anchor}
use Rattle.sector_disk.specs.declared.machine.Machine.{Ghosts}
use Rattle.sector_disk.specs.declared.sector.WeakRun.{WeakRun}
use Rattle.sector_disk.specs.Image.{IsCalm}
use Rattle.sector_disk.specs.Machine.{IsSynced, LeavesOnly}
use Rattle.fsd_sound.specs.Anchors.{anchor_of}
use Rattle.fsd_sound.specs.Homes.{HasBothHomes}
use Rattle.fsd_sound.specs.Lost.{AreCopiesOn, LosesShown, LostIn}
use Rattle.fsd_sound.specs.Mounting.{HasRoot}
use Rattle.fsd_sound.specs.Windows.{IsNamedSince}
use Rattle.fsd_sound.specs.Writes.{KeepsElsewhere, MountKeeps}
use Rattle.fsd_sound.specs.declared.fault.MountFault.{MountFault}
use Rattle.mount_recover.specs.declared.mounting.SettledVolume.{SettledVolume}
use Rattle.saved_map.specs.Reading.{Believes}
use Rattle.fsd_sound.specs.Saved.{SeesNone}
use Rattle.mount_recover.specs.Finding.{IsExcuse}
use Rattle.mount_recover.specs.Lost.{StandAsShown, WritesMost}
use Rattle.mount_recover.specs.Recover.{HasAnchorTwice, IsFreshLog, IsNotUnsound, IsRefusedFor, IsSettledIn, LeavesAll, writes_most}
use Rattle.mount_recover.specs.Replay.{IsReplayed, IsUnturned, ReplaysSaid, TurnsLast}

module _ {D : Type 0} (M : Ghosts D) (sectors : ℕ) (old new : D) where
  -- It has settled, whatever the image was. What is said of the image is so over an honest machine.
  pub record SettlesVolume (s : SettledVolume) : Type 0 where
    pub room : s.layout.sectors ≤ sectors
    pub planned : IsPlanned s.layout
    pub fresh : IsFreshLog s.layout s.log
    pub epoch : s.log.anchor.epoch < 2 ^ 32
    pub counted : M.tells new → (M.ledger new).written ≤ (M.ledger old).written + writes_most s.layout.pages
    pub grows : M.tells new → (M.ledger old).written ≤ (M.ledger new).written
    -- the layout is that of a root of the image, also where sectors wear; the image is told of as it was seen
    pub root : M.honest new → HasRoot sectors (M.now old).image s.layout
    pub found : M.honest new → IsSettledIn sectors s.layout s.log (M.now old) (M.now new)
    -- the window that is present then was named: since the call began it was the next one
    pub named : M.honest new → IsNamedSince (M.left_since new) (M.moment old) (M.now new).windows.present
    -- all that it has written is on the disk then
    pub synced : M.honest new → IsSynced (M.now new)
    -- anchors and homes stand, but for what the open window may wear, and what a mount does not write stays
    pub anchors : M.honest new → HasAnchorTwice s.log.anchor (M.now new)
    pub homes : M.honest new → (page : ℕ) → page < s.layout.pages → HasBothHomes s.layout (M.now new) page
    pub rest : M.honest new → KeepsElsewhere s.layout (M.now old) (M.now new)
    -- where nothing wears each page stands at home as the image showed it
    pub shown : (a : Anchor) → M.honest new → IsCalm (M.now old).windows → IsCalm (M.now new).windows → anchor_of (M.now old).image ≡ Some a →
        StandAsShown s.layout a (M.now old).image (M.now new).image
    -- the saved map is one that the image had, of the epoch that its anchor named
    pub believes : IfSome s.saved (Believes M s.layout (s.log.anchor.epoch - 1) old new)
    -- where there is none, the image as it was seen has none that is believed
    pub none : s.saved ≡ None → M.honest new → SeesNone s.layout (s.log.anchor.epoch - 1) (M.now old)

  -- It has failed, and has not settled. It never says that the name table is unsound.
  pub record FailsMount (fault : MountFault) : Type 0 where
    pub sound : IsNotUnsound fault
    pub unturned : M.honest new → IsUnturned (M.now old) (M.now new)
    pub counted : M.tells new → M.honest new → WritesMost sectors (M.now old) (M.ledger old) (M.ledger new)
    -- all but a fault of the disk and want of memory says what the image was, as it was seen
    pub refused : M.honest new → IsRefusedFor sectors fault (M.now old)
    pub unchanged : M.honest new → LeavesAll fault (M.now old) (M.now new)
    pub rest : M.honest new → MountKeeps sectors (M.now old) (M.now new)
    -- what is lost stood twice, and both read damaged: a page in the log or at home, or the root
    pub lost : M.honest new → LostIn (AreCopiesOn sectors (M.now old)) (M.now new).image fault
    -- where nothing wears no page is lost that the image shows
    pub all_shown : M.honest new → IsCalm (M.now old).windows → IsCalm (M.now new).windows → LosesShown sectors (M.now old).image fault

  -- An image that shows the pages of a volume shows them at each moment, also at the exit, with one layout that a root of
  -- it says, and the last record has its copies before anything is written behind the log. The windows turn last. Once it
  -- has settled by this layout, the log is empty and the pages stand at home; else it is refused for nothing but the disk,
  -- memory and the last epoch.
  pub record Recovers (l : Layout) (windows : List WeakRun) (choices : List (List (List ℕ))) (result : Result SettledVolume MountFault) : Type 0 where
    pub moments : ReplaysSaid l windows choices (λ layout. IfOk result (λ s. s.layout ≡ layout)) (LeavesOnly M.moment M.left_since old new) (M.now old) (M.now new)
    pub turns : LeavesOnly M.moment M.left_since old new (TurnsLast (M.now old) (M.now new))
    pub ends : MatchResult result (λ s. IsReplayed s.layout windows choices s.log.anchor.epoch (M.now new)) IsExcuse
