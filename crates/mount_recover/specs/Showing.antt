-- What a mount makes of any image on which nothing wears: each page stands at home as the image showed it.
use Rattle.std.specs.Prelude.{◌≡◌, ◌≢◌, ◌⊎◌, ⊤, ℕ, ◌+◌, ◌*◌, ◌<◌, ◌≤◌, List, Option, Some, None, IfSome}
use Rattle.std.specs.Option.{option_or}
use Rattle.volume_layout.specs.declared.layout.Layout.{Layout}
use Rattle.volume_layout.specs.Layout.{home_a, home_b}
use Rattle.sector_disk.specs.declared.sector.Sector.TheVariants.{Whole, Damaged}
use Rattle.sector_disk.specs.Image.{sector_at}
use Rattle.fsd_log.specs.Scan.{Placed}
use Rattle.fsd_log.specs.Images.{last_image}
use Rattle.fsd_files.specs.Disk.{Image}
use Rattle.fsd_sound.specs.Homes.{home_of}
use Rattle.fsd_sound.specs.Shown.{records_by}
use Rattle.log_thirds.specs.Append.{IsIndexed}
use Rattle.log_thirds.specs.Images.{GivesLast}
use Rattle.log_thirds.specs.LogValue.{LogValue}
use Rattle.fsd_log.specs.Slots.{last_slot}
use Rattle.fsd_sound.specs.declared.fault.MountFault.{MountFault}
use Rattle.fsd_sound.specs.declared.fault.MountFault.TheVariants.{Lost}

-- The log knows where each page's last image of these records lies, which is in the log's thirds,
-- and the image gives it there.
pub record GivesPages (log : LogValue) (records : List Placed) (i : Image) : Type 0 where
  pub indexed : IsIndexed log records
  pub inside : (page : ℕ) → IfSome (last_slot log.layout log.anchor.third page records) (λ slot. (slot.place < 16 + 3 * log.layout.third) × (slot.copy < 16 + 3 * log.layout.third))
  pub gives : (page : ℕ) → GivesLast log records page i

-- what an image shows of a page by these records: its last image, or what stands at home
abbrev pub shows_of : Layout → List Placed → Image → ℕ → Option (List ℕ)
shows_of l records i page = option_or (last_image page records) (home_of l i page)

-- Of the images only homes of one page differ, and in the later one that is at home of it.
pub record ChangesHome (l : Layout) (page : ℕ) (i j : Image) (shown : Option (List ℕ)) : Type 0 where
  pub others : (s : ℕ) → s ≢ home_a l page → s ≢ home_b l page → sector_at j s ≡ sector_at i s
  pub is : home_of l j page ≡ shown

-- Of the pages that the records have the first homes before this sector have the last images; the other pages stand at home
-- as they did, and all before the homes is as it was.
pub record IsShowing (l : Layout) (records : List Placed) (first : Image) (end : ℕ) (i : Image) : Type 0 where
  pub front : (s : ℕ) → s < 16 + 3 * l.third → sector_at i s ≡ sector_at first s
  pub written : (page : ℕ) (bytes : List ℕ) → page < l.pages → last_image page records ≡ Some bytes → home_a l page < end → sector_at i (home_a l page) ≡ Whole bytes
  pub others : (page : ℕ) → page < l.pages → last_image page records ≡ None → home_of l i page ≡ home_of l first page

-- The sectors are the homes of a page that the image does not show.
pub record IsNotShown (l : Layout) (records : List Placed) (i : Image) (a b : ℕ) : Type 0 where
  pub page : ℕ
  pub within : page < l.pages
  pub first : a ≡ home_a l page
  pub second : b ≡ home_b l page
  pub none : shows_of l records i page ≡ None

-- nothing is lost that the image shows
abbrev pub LosesNone : Layout → List Placed → Image → MountFault → Type 0
LosesNone l records i (Lost a b) = IsNotShown l records i a b
LosesNone l records i fault = ⊤

-- a page is lost where both its homes are damaged
abbrev pub LosesHome : Layout → (page : ℕ) → Image → MountFault → Type 0
LosesHome l page i (Lost a b) = ((a ≡ home_a l page) × (b ≡ home_b l page)) × (home_of l i page ≡ None)
LosesHome l page i fault = ⊤

-- no root is whole
abbrev pub HasNoRoot : Image → Type 0
HasNoRoot i = (sector_at i 0 ≡ Damaged) × (sector_at i 4 ≡ Damaged)

-- The copies of the log's last record were laid again: the log gives its pages still, and the rest is as it was.
pub record IsLaidAgain (l : Layout) (log : LogValue) (i j : Image) : Type 0 where
  pub gives : GivesPages log (records_by l i log.anchor) j
  pub rest : (s : ℕ) → (s < 16) ⊎ (16 + 3 * l.third ≤ s) → sector_at j s ≡ sector_at i s
