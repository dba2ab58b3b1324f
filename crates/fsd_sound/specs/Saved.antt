-- The saved map of a disk, and what it says of the pages that are shown.
use Rattle.std.specs.Prelude.{◌≡◌, ◌⊎◌, ℕ, ◌+◌, ◌<◌, ◌≤◌, Bool, not, ◌==◌, List, length, Option, Some, None, IfSome, IsTrue, option_and_then}
use Rattle.std.specs.List.{list_any, range_with_len}
use Rattle.volume_layout.specs.declared.layout.Layout.{Layout}
use Rattle.volume_layout.specs.Layout.{home_a, is_data, map_sectors, map_start}
use Rattle.fsd_formats.specs.declared.anchor.Anchor.{Anchor}
use Rattle.fsd_formats.specs.Anchors.{read_closed}
use Rattle.fsd_formats.specs.SavedMap.{IsMapOf, MapCounts, is_set_in}
use Rattle.sector_disk.specs.Image.{IsWorn, open_damage}
use Rattle.sector_disk.specs.Machine.{Moment}
use Rattle.fsd_table.specs.Table.{Telling, told_in, visits}
use Rattle.fsd_files.specs.Disk.{Image, bytes_at}
use Rattle.fsd_files.specs.Volume.{is_in, plans_of}
use Rattle.fsd_sound.specs.Shown.{each_of}

-- ---- anchors that say that their volume was closed

abbrev pub closed_at : Image → ℕ → Option Anchor
closed_at i s = option_and_then read_closed (bytes_at i s)

-- P of each copy that says so
abbrev pub EachClosed : Image → (Anchor → Type 0) → Type 0
EachClosed i P = IfSome (closed_at i 8) P × IfSome (closed_at i 12) P

-- no copy says so
abbrev pub IsOpen : Image → Type 0
IsOpen i = (closed_at i 8 ≡ None) × (closed_at i 12 ≡ None)

-- each copy of the second image that says so said so in the first
abbrev pub ClosesNone : Image → Image → Type 0
ClosesNone i j = IfSome (closed_at j 8) (λ a. closed_at i 8 ≡ Some a) × IfSome (closed_at j 12) (λ a. closed_at i 12 ≡ Some a)

-- ---- the map

-- its sectors, where all are whole
abbrev pub map_of : Layout → Image → Option (List (List ℕ))
map_of l i = each_of (λ k. bytes_at i (map_start l + k)) (range_with_len 0 (map_sectors l))

-- ---- what it says

-- a path from page 0 reaches the page
abbrev pub is_reached : List (List ℕ) → ℕ → Bool
is_reached pages page = list_any (λ visit. visit.page == page) (visits pages)

-- The pages tell what the map and its counts say: marked are the data sectors that are in no version, and the first homes
-- of the pages that no path reaches.
pub record AreSaved (l : Layout) (counts : MapCounts) (sectors pages : List (List ℕ)) : Type 0 where
  pub telling : Telling
  pub told : told_in pages ≡ Some telling
  pub reached : telling.reached ≡ counts.pages
  pub versions : length telling.entries ≡ counts.versions
  pub free : (s : ℕ) → IsTrue (is_data l s) → is_set_in sectors s ≡ not (is_in (plans_of telling.entries) s)
  pub spare : (page : ℕ) → page < l.pages → is_set_in sectors (home_a l page) ≡ not (is_reached pages page)

-- where a copy of the anchor says that its volume was closed, and the map is one of its epoch, the pages tell what that says
abbrev pub SavesPages : Layout → Image → List (List ℕ) → Type 0
SavesPages l i pages =
    EachClosed i (λ a. (sectors : List (List ℕ)) (counts : MapCounts) → map_of l i ≡ Some sectors → IsMapOf l a.epoch counts sectors → AreSaved l counts sectors pages)

-- ---- what a mount believes

-- that copy of the anchor says that the volume was closed in this epoch
abbrev pub IsClosedAt : (epoch : ℕ) → Image → ℕ → Type 0
IsClosedAt epoch i place = (a : Anchor) × (closed_at i place ≡ Some a) × (a.epoch ≡ epoch)

-- The volume was closed in this epoch. Its map is whole and of that epoch, and has no more sectors than the table had pages
-- in use: else a walk of the table reads less.
pub record IsBelieved (l : Layout) (epoch : ℕ) (i : Image) : Type 0 where
  pub closed : IsClosedAt epoch i 8 ⊎ IsClosedAt epoch i 12
  pub sectors : List (List ℕ)
  pub whole : map_of l i ≡ Some sectors
  pub counts : MapCounts
  pub is : IsMapOf l epoch counts sectors
  pub worth : map_sectors l ≤ counts.pages

-- An image was seen, which the old one may be worn to, and which has no saved map of the epoch that is believed.
pub record SeesNone (l : Layout) (epoch : ℕ) (old : Moment) : Type 0 where
  pub seen : Image
  pub from : IsWorn (open_damage old.windows) old.image seen
  pub none : IsBelieved l epoch seen → ⊥
