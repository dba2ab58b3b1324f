-- What a mount finds before it writes.
use Rattle.std.specs.Prelude.{◌≡◌, ◌-◌, ◌<◌, ◌≤◌, ◌^◌, ⊤, ℕ, Option, Some, None, IsSome}
use Rattle.volume_layout.specs.declared.layout.Layout.{Layout}
use Rattle.volume_layout.specs.Kinds.{longest_of}
use Rattle.volume_layout.specs.Layout.{IsPlanned}
use Rattle.sector_disk.specs.Image.{IsWorn, open_damage, sector_at}
use Rattle.sector_disk.specs.Machine.{Moment}
use Rattle.fsd_files.specs.Disk.{Image}
use Rattle.fsd_sound.specs.Roots.{root_at, root_of}
use Rattle.fsd_sound.specs.Anchors.{anchor_of}
use Rattle.log_thirds.specs.declared.fault.LogFault.{LogFault}
use Rattle.log_thirds.specs.declared.fault.LogFault.TheVariants as log
use Rattle.log_thirds.specs.declared.reading.ReadFault.TheVariants as read
use Rattle.fsd_sound.specs.declared.fault.MountFault.{MountFault}
use Rattle.fsd_sound.specs.declared.fault.MountFault.TheVariants.{NotVolume, Device, Memory, Lost, NoAnchor, Unsound, WornOut}
use Rattle.log_thirds.specs.LogValue.{LogValue}
use Rattle.saved_map.specs.declared.believing.MapFault.{MapFault}
use Rattle.saved_map.specs.declared.believing.MapFault.TheVariants as map
use Rattle.mount_recover.specs.Mending.{KnowsLog}
use Rattle.fsd_sound.specs.Mounting.{HasRoot, HasLastEpoch}

abbrev pub mount_fault_of : LogFault → MountFault
mount_fault_of (log.Read (read.Device s)) = Device s
mount_fault_of (log.Read read.Memory) = Memory
mount_fault_of log.NoAnchor = NoAnchor
mount_fault_of log.WornOut = WornOut

abbrev pub map_fault_of : MapFault → MountFault
map_fault_of (map.Device s) = Device s
map_fault_of map.Memory = Memory

-- what a refusal says of the image; a fault of the disk and want of memory say nothing
abbrev pub NotFoundFor : ℕ → Image → MountFault → Type 0
NotFoundFor sectors i NotVolume = root_of sectors i ≡ None
NotFoundFor sectors i NoAnchor = IsSome (root_of sectors i) × (anchor_of i ≡ None)
NotFoundFor sectors i WornOut = HasLastEpoch sectors i
NotFoundFor sectors i (Device s) = ⊤
NotFoundFor sectors i Memory = ⊤
NotFoundFor sectors i (Lost a b) = ⊥
NotFoundFor sectors i (Unsound s) = ⊥

-- What is found can be mounted: the layout is a planned one that lies on so many sectors, the log is its, in an epoch that
-- is not the last, and a run of two sectors or more may be named, of no more than the layout bears.
pub record IsMountable (sectors : ℕ) (l : Layout) (log : LogValue) (longest : ℕ) : Type 0 where
  pub room : l.sectors ≤ sectors
  pub layout : log.layout ≡ l
  pub planned : IsPlanned l
  pub epoch : log.anchor.epoch < 2 ^ 32 - 1
  pub short : longest ≤ longest_of l.kind
  pub least : 2 ≤ longest

-- An image was seen, which the old one may be worn to and that may be worn to the new one:
-- it has this root, and this log.
pub record HasSeenLog (sectors : ℕ) (l : Layout) (log : LogValue) (old new : Moment) : Type 0 where
  pub seen : Image
  pub from : IsWorn (open_damage old.windows) old.image seen
  pub to : IsWorn (open_damage old.windows) seen new.image
  pub root : root_of sectors seen ≡ Some l
  pub knows : KnowsLog l log seen

-- So it is, and each root of that image that counts bears a run of so many sectors.
pub record IsBorneFound (sectors : ℕ) (l : Layout) (log : LogValue) (longest : ℕ) (old new : Moment) : Type 0 where
  pub is : HasSeenLog sectors l log old new
  pub bears : (root : Layout) → HasRoot sectors is.seen root → longest ≤ longest_of root.kind

-- Both roots are those of an image that was seen: the old one may be worn to it, and it to the new one, which differs
-- from it in the first sector at most.
pub record SeesRoots (sectors : ℕ) (first second : Option Layout) (old new : Moment) : Type 0 where
  pub seen : Image
  pub from : IsWorn (open_damage old.windows) old.image seen
  pub to : IsWorn (open_damage old.windows) seen new.image
  pub behind : (s : ℕ) → 1 ≤ s → sector_at seen s ≡ sector_at new.image s
  pub at_first : root_at sectors seen 0 ≡ first
  pub at_second : root_at sectors seen 4 ≡ second

-- An image was seen, which the old one may be worn to, and of which the refusal tells.
pub record IsNotFound (sectors : ℕ) (fault : MountFault) (old : Moment) : Type 0 where
  pub seen : Image
  pub from : IsWorn (open_damage old.windows) old.image seen
  pub why : NotFoundFor sectors seen fault

-- the only refusals of an image that can be mounted
abbrev pub IsExcuse : MountFault → Type 0
IsExcuse (Device s) = ⊤
IsExcuse Memory = ⊤
IsExcuse WornOut = ⊤
IsExcuse NotVolume = ⊥
IsExcuse NoAnchor = ⊥
IsExcuse (Lost a b) = ⊥
IsExcuse (Unsound s) = ⊥
