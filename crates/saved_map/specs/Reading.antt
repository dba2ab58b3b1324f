-- A saved map as it is read.
use Rattle.std.specs.Prelude.{◌≡◌, ◌⊎◌, ℕ, ◌+◌, ◌*◌, ◌<◌, ◌≤◌, ◌&&◌, Bool, false, List, [], length, get_or, Option, Some, None, nat_lt, slice_index_or}
use Rattle.volume_layout.specs.declared.layout.Layout.{Layout}
use Rattle.volume_layout.specs.Layout.{data_start, home_a, map_bits, map_sectors, map_start, most_of}
use Rattle.fsd_formats.specs.declared.anchor.Anchor.{Anchor}
use Rattle.fsd_formats.specs.declared.map_head.MapHead.{MapHead}
use Rattle.fsd_formats.specs.Anchors.{read_closed}
use Rattle.fsd_formats.specs.MapSector.{read_map_head}
use Rattle.fsd_formats.specs.SavedMap.{IsMapOf, MapCounts, head_of, is_set_in}
use Rattle.fsd_files.specs.Disk.{Image, bytes_at}
use Rattle.sector_disk.specs.declared.machine.Machine.{Ghosts}
use Rattle.sector_disk.specs.declared.sector.Sector.TheVariants.{Whole}
use Rattle.sector_disk.specs.Image.{sector_at}
use Rattle.sector_set.specs.Area.{Area, area}
use Rattle.fsd_sound.specs.Saved.{IsClosedAt, map_of}
use Rattle.saved_map.specs.declared.believing.FirstPart.{FirstPart}
use Rattle.saved_map.specs.declared.believing.MapFault.{MapFault}
use Rattle.saved_map.specs.declared.believing.MapFault.TheVariants.{Device, Memory}
use Rattle.saved_map.specs.declared.believing.SavedMap.{SavedMap}
use Rattle.saved_map.specs.Taking.{AreAdded, AreMarked, IsPart, is_set_at}

-- ---- a map that is read

-- the sectors of the data area that are marked in a map's sectors; the interval has room for the most that the volume may
-- grow to
abbrev pub marked_area : Layout → (sectors : List (List ℕ)) → Area
marked_area l sectors = area (data_start l) (most_of l) (λ s. nat_lt s l.sectors && is_set_in sectors s)

-- Free are the marked sectors of the data area, and each page whose first home is marked.
pub record IsOfMap (l : Layout) (counts : MapCounts) (sectors : List (List ℕ)) (saved : SavedMap) : Type 0 where
  pub map : saved.map ≡ marked_area l sectors
  pub pages : length saved.free_pages.items ≡ l.pages
  pub flags : (page : ℕ) → page < l.pages → slice_index_or saved.free_pages.items page false ≡ is_set_in sectors (home_a l page)
  pub versions : saved.versions ≡ counts.versions

-- It marks what some sectors do.
pub record IsSavedMap (l : Layout) (saved : SavedMap) : Type 0 where
  pub counts : MapCounts
  pub sectors : List (List ℕ)
  pub is : IsOfMap l counts sectors saved

-- It is of a map of this epoch, which has no more sectors than the table had pages in use. The image had this map as the
-- reading began, and a copy of its anchor said that the volume was closed in the epoch.
pub record Believes {D : Type 0} (M : Ghosts D) (l : Layout) (epoch : ℕ) (old new : D) (saved : SavedMap) : Type 0 where
  pub counts : MapCounts
  pub sectors : List (List ℕ)
  pub of : IsMapOf l epoch counts sectors
  pub worth : map_sectors l ≤ counts.pages
  pub is : IsOfMap l counts sectors saved
  pub whole : M.honest new → map_of l (M.now old).image ≡ Some sectors
  pub closed : M.honest new → IsClosedAt epoch (M.now old).image 8 ⊎ IsClosedAt epoch (M.now old).image 12

-- ---- parts of the reading

-- the place of the call of the disk that failed
abbrev pub device_of_map : MapFault → Option ℕ
device_of_map (Device place) = Some place
device_of_map Memory = None

-- these bytes are an anchor that says that its volume was closed in this epoch
abbrev pub SaysClosed : (epoch : ℕ) → (bytes : List ℕ) → Type 0
SaysClosed epoch bytes = (a : Anchor) × (read_closed bytes ≡ Some a) × (a.epoch ≡ epoch)

-- a copy of the anchor is one
abbrev pub IsClosedIn : (epoch : ℕ) → Image → Type 0
IsClosedIn epoch i = IsClosedAt epoch i 8 ⊎ IsClosedAt epoch i 12

-- The head is that of the first sector of a map of the epoch, with no more sectors than the table had pages in use.
pub record IsWorth (l : Layout) (epoch : ℕ) (head : MapHead) : Type 0 where
  pub epoch_is : head.epoch ≡ epoch
  pub index_is : head.index ≡ 0
  pub worth : map_sectors l ≤ head.pages

-- The bytes have such a head.
pub record IsFirstPart (l : Layout) (epoch : ℕ) (bytes : List ℕ) (head : MapHead) : Type 0 where
  pub read : read_map_head bytes ≡ Some head
  pub worth : IsWorth l epoch head

-- A map begins so, of a volume that was closed in the epoch.
pub record BeginsMap {D : Type 0} (M : Ghosts D) (l : Layout) (epoch : ℕ) (old new : D) (first : FirstPart) : Type 0 where
  pub is : IsFirstPart l epoch first.bytes first.head
  pub whole : M.honest new → sector_at (M.now new).image (map_start l) ≡ Whole first.bytes
  pub closed : M.honest new → IsClosedIn epoch (M.now old).image

-- what the first head of a map says, but for the epoch
abbrev pub counts_in : MapHead → MapCounts
counts_in head = record { pages = head.pages; versions = head.versions }

-- the head of the map's sector of this number, by the first
abbrev pub numbered : MapHead → ℕ → MapHead
numbered first k = head_of first.epoch k (counts_in first)

-- The map's sector with this head is taken in.
pub record TakesPart {D : Type 0} (M : Ghosts D) (l : Layout) (head : MapHead) (now : D) (map : Area) (pages : List Bool) (new_map : Area) (new_pages : List Bool) : Type 0 where
  pub bytes : List ℕ
  pub part : IsPart l head bytes
  pub added : AreAdded l (is_set_at bytes (map_bits * head.index)) map pages new_map new_pages
  pub whole : M.honest now → sector_at (M.now now).image (map_start l + head.index) ≡ Whole bytes

-- no such sector is in the image
abbrev pub IsNoPart : Layout → MapHead → Image → Type 0
IsNoPart l head i = (bytes : List ℕ) → bytes_at i (map_start l + head.index) ≡ Some bytes → IsPart l head bytes → ⊥

-- one of the map's sectors isn't
abbrev pub LacksPart : Layout → (first : MapHead) → Image → Type 0
LacksPart l first i = (k : ℕ) × (k < map_sectors l) × IsNoPart l (numbered first k) i

-- So many first sectors of a map are taken in, which the image had.
pub record TakesRest {D : Type 0} (M : Ghosts D) (l : Layout) (first : FirstPart) (old new : D) (k : ℕ) (map : Area) (pages : List Bool) : Type 0 where
  pub sectors : List (List ℕ)
  pub count : length sectors ≡ k
  pub parts : (j : ℕ) → j < k → IsPart l (numbered first.head j) (get_or sectors j [])
  pub marked : AreMarked l (is_set_in sectors) map pages
  pub whole : M.honest new → (j : ℕ) → j < k → sector_at (M.now old).image (map_start l + j) ≡ Whole (get_or sectors j [])

-- All are.
pub record TakesMap {D : Type 0} (M : Ghosts D) (l : Layout) (first : MapHead) (old new : D) (saved : SavedMap) : Type 0 where
  pub sectors : List (List ℕ)
  pub of : IsMapOf l first.epoch (counts_in first) sectors
  pub is : IsOfMap l (counts_in first) sectors saved
  pub whole : M.honest new → map_of l (M.now old).image ≡ Some sectors
