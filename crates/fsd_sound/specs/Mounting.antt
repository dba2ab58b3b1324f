-- What a mount finds of an image, and why it is refused.
use Rattle.std.specs.Prelude.{◌≡◌, ◌⊎◌, ⊤, ℕ, ◌-◌, ◌^◌, ◌<◌, ◌≤◌, Option, Some, None, IsSome}
use Rattle.volume_layout.specs.declared.layout.Layout.{Layout}
use Rattle.volume_layout.specs.Kinds.{longest_of}
use Rattle.sector_disk.specs.declared.machine.LoadFault.{LoadFault}
use Rattle.sector_disk.specs.declared.machine.LoadFault.TheVariants as load
use Rattle.sector_disk.specs.declared.sector.WeakRun.{WeakRun}
use Rattle.fsd_formats.specs.declared.anchor.Anchor.{Anchor}
use Rattle.fsd_files.specs.Disk.{Image}
use Rattle.fsd_sound.specs.Anchors.{anchor_of}
use Rattle.fsd_sound.specs.Roots.{root_at, root_of}
use Rattle.fsd_sound.specs.declared.fault.MountFault.{MountFault}
use Rattle.fsd_sound.specs.declared.fault.MountFault.TheVariants.{NotVolume, Device, Memory, Lost, NoAnchor, Unsound, WornOut}

-- no epoch follows this one
abbrev pub last_epoch : ℕ
last_epoch = 2 ^ 32 - 1

-- this is a root of the image that counts, the first or the second
abbrev pub HasRoot : ℕ → Image → Layout → Type 0
HasRoot sectors i l = (root_at sectors i 0 ≡ Some l) ⊎ (root_at sectors i 4 ≡ Some l)

-- each root of the image that counts bears the run
abbrev pub EachBears : ℕ → Image → WeakRun → Type 0
EachBears sectors i run = (l : Layout) → HasRoot sectors i l → run.count ≤ longest_of l.kind

-- The image has this root and this anchor.
pub record IsVolume (sectors : ℕ) (i : Image) (l : Layout) (a : Anchor) : Type 0 where
  pub root : root_of sectors i ≡ Some l
  pub anchor : anchor_of i ≡ Some a

-- An anchor of the last epoch is chosen.
pub record HasLastEpoch (sectors : ℕ) (i : Image) : Type 0 where
  pub layout : Layout
  pub anchor : Anchor
  pub found : IsVolume sectors i layout anchor
  pub epoch : anchor.epoch ≡ last_epoch

-- A root and an anchor are chosen, and there is an epoch behind the anchor's.
pub record HasNextEpoch (sectors : ℕ) (i : Image) : Type 0 where
  pub layout : Layout
  pub anchor : Anchor
  pub found : IsVolume sectors i layout anchor
  pub epoch : anchor.epoch < last_epoch

-- Neither root counts; or one does, and there is no anchor; or its epoch is the last; or a page of its log could not be
-- read. A fault of the disk and want of memory say nothing of the image.
abbrev pub RefusedFor : ℕ → Image → MountFault → Type 0
RefusedFor sectors i NotVolume = root_of sectors i ≡ None
RefusedFor sectors i NoAnchor = IsSome (root_of sectors i) × (anchor_of i ≡ None)
RefusedFor sectors i WornOut = HasLastEpoch sectors i
RefusedFor sectors i (Lost a b) = HasNextEpoch sectors i
RefusedFor sectors i (Device s) = ⊤
RefusedFor sectors i Memory = ⊤
RefusedFor sectors i (Unsound s) = ⊥

-- the fault of a load, as a mount tells it
abbrev pub load_fault_of : LoadFault → MountFault
load_fault_of (load.Device s) = Device s
load_fault_of (load.Lost a b) = Lost a b

-- the place of the call of the disk that failed, if one did
abbrev pub device_of_mount : MountFault → Option ℕ
device_of_mount (Device s) = Some s
device_of_mount other = None
