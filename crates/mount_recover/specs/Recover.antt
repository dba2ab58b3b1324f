-- What a mount settles, and what it leaves.
use Rattle.std.specs.Prelude.{◌≡◌, ⊤, ℕ, ◌+◌, ◌*◌, ◌≤◌, List, [], IfSome}
use Rattle.volume_layout.specs.declared.layout.Layout.{Layout}
use Rattle.volume_layout.specs.Layout.{IsPlanned}
use Rattle.fsd_formats.specs.declared.anchor.Anchor.{Anchor}
use Rattle.fsd_formats.specs.Anchors.{anchor_bytes}
use Rattle.sector_disk.specs.declared.sector.WeakRun.{WeakRun}
use Rattle.sector_disk.specs.Image.{IsWorn, open_damage}
use Rattle.sector_disk.specs.Machine.{Moment, Wears}
use Rattle.fsd_log.specs.Scan.{start}
use Rattle.fsd_files.specs.Disk.{Image, Has}
use Rattle.fsd_sound.specs.Anchors.{fresh_anchor}
use Rattle.fsd_sound.specs.Mounting.{EachBears, IsVolume, RefusedFor}
use Rattle.fsd_sound.specs.Sound.{AllLieIn, IsSaid, EndIn, ShowsPages}
use Rattle.log_thirds.specs.LogValue.{LogValue}
use Rattle.log_thirds.specs.Append.{IsIndexed}
use Rattle.fsd_sound.specs.declared.fault.MountFault.{MountFault}
use Rattle.fsd_sound.specs.declared.fault.MountFault.TheVariants.{Device, Lost, Unsound}

-- What is settled is the image's root, and the epoch behind its anchor's.
pub record IsSettled (sectors : ℕ) (i : Image) (l : Layout) (log : LogValue) : Type 0 where
  pub anchor : Anchor
  pub found : IsVolume sectors i l anchor
  pub epoch : log.anchor.epoch ≡ anchor.epoch + 1

-- The log of an epoch in which nothing is logged yet.
pub record IsFreshLog (l : Layout) (log : LogValue) : Type 0 where
  pub layout : log.layout ≡ l
  pub anchor : log.anchor ≡ fresh_anchor log.anchor.epoch
  pub head : log.head ≡ start l 1
  pub indexed : IsIndexed log []

-- An image was seen, which the old one may be worn to: what is settled is its root, and the epoch behind its anchor's.
-- Each root of it that counts bears the run of the window that is settled.
pub record IsSettledIn (sectors : ℕ) (l : Layout) (log : LogValue) (old new : Moment) : Type 0 where
  pub seen : Image
  pub from : IsWorn (open_damage old.windows) old.image seen
  pub settled : IsSettled sectors seen l log
  pub bears : IfSome new.windows.present (EachBears sectors seen)

-- An image was seen, which the old one may be worn to, and of which the refusal tells.
pub record IsRefusedFor (sectors : ℕ) (fault : MountFault) (old : Moment) : Type 0 where
  pub seen : Image
  pub from : IsWorn (open_damage old.windows) old.image seen
  pub why : RefusedFor sectors seen fault

-- the anchor stands at both of its places, or is damaged where it may be
abbrev pub HasAnchorTwice : Anchor → Moment → Type 0
HasAnchorTwice a now = Has (open_damage now.windows) now.image (anchor_bytes a) 8 × Has (open_damage now.windows) now.image (anchor_bytes a) 12

-- The sectors that a mount of so many pages writes at most: the copies of 96 images and of their end, two homes of each
-- page, the roots and the anchors.
abbrev pub writes_most : ℕ → ℕ
writes_most pages = 97 + 2 * pages + 2 + 2

-- what is refused before anything is written stays as it was
abbrev pub LeavesAll : MountFault → Moment → Moment → Type 0
LeavesAll (Device s) old new = ⊤
LeavesAll (Lost a b) old new = ⊤
LeavesAll fault old new = Wears old new

-- it is not said that the name table is unsound
abbrev pub IsNotUnsound : MountFault → Type 0
IsNotUnsound (Unsound s) = ⊥
IsNotUnsound fault = ⊤

-- The moment's image shows pages of a volume with this layout, however the present run wears. Each layout that a root says
-- has room, and what the pages tell lies in the data area.
pub record ShowsVolume (sectors : ℕ) (l : Layout) (windows : List WeakRun) (choices : List (List (List ℕ))) (now : Moment) : Type 0 where
  pub planned : IsPlanned l
  pub fits : (k : Layout) → IsSaid l now.image k → k.sectors ≤ sectors
  pub ends : EndIn now.windows windows
  pub lie : AllLieIn l choices
  pub shows : ShowsPages l windows choices now.image
