-- Which image of a page is the newest, and where its two copies lie.
use Rattle.std.specs.Prelude.{◌≡◌, ◌⊎◌, ℕ, nat_lt, if◌then◌else◌, List, Option, None, slice_index_or}
use Rattle.volume_layout.specs.declared.layout.Layout.{Layout}
use Rattle.volume_layout.specs.Layout.{home_a, home_b}
use Rattle.volume_layout.specs.Kinds.{gap_of}
use Rattle.sector_disk.specs.declared.sector.Sector.TheVariants.{Whole}
use Rattle.sector_disk.specs.declared.sector.WeakRun.{WeakRun}
use Rattle.sector_disk.specs.Image.{sector_at}
use Rattle.sector_disk.specs.Machine.{Moment}
use Rattle.fsd_log.specs.Scan.{Placed}
use Rattle.fsd_files.specs.Disk.{Image}
use Rattle.fsd_sound.specs.Homes.{AreHomesOf}
use Rattle.fsd_sound.specs.Shown.{newest, records_by}
use Rattle.fsd_sound.specs.Sound.{EndIn, weak_of}
use Rattle.fsd_sound.specs.Windows.{IsApart}
use Rattle.log_thirds.specs.Append.{IsIndexed}
use Rattle.log_thirds.specs.Images.{AreLogged, StandsInSlot, IsUnlogged}
use Rattle.log_thirds.specs.LogValue.{LogValue, FitsLayout}
use Rattle.group_commit.specs.Entering.{OwnsLog}

-- of a page of the layout its last image in the log that the log's anchor begins on this disk, else that at home
abbrev pub newest_by : LogValue → Image → (page : ℕ) → Option (List ℕ)
newest_by log i page = if nat_lt page log.layout.pages then newest log.layout i (records_by log.layout i log.anchor) page else None

-- the log knows where each page's last image lies there
abbrev pub KnowsImages : LogValue → Image → Type 0
KnowsImages log i = IsIndexed log (records_by log.layout i log.anchor)

-- The disk shows these pages in the window of this moment, of which no two sectors but neighbours are weak; the log is
-- its own, and knows where each page's last image lies.
pub record KnowsPages (log : LogValue) (at : Moment) : Type 0 where
  pub windows : List WeakRun
  pub ends : EndIn at.windows windows
  pub apart : IsApart (gap_of log.layout) (weak_of windows)
  pub shape : FitsLayout log
  pub records : List Placed
  pub disk : List (List ℕ)
  pub over : OwnsLog log records disk windows at.image

-- ---- the two copies of a page

-- the sectors are the page's own and its copy in the log; or its two homes, where it is not logged
abbrev pub AreCopiesIn : LogValue → (page a b : ℕ) → Type 0
AreCopiesIn log page a b = AreLogged log page a b ⊎ (IsUnlogged log page × AreHomesOf log.layout page a b)

-- ---- what stands in one of them

abbrev pub StandsAtHome : Layout → (page : ℕ) → Image → List ℕ → Type 0
StandsAtHome l page i bytes = (sector_at i (home_a l page) ≡ Whole bytes) ⊎ (sector_at i (home_b l page) ≡ Whole bytes)

-- the bytes stand whole in one of the two copies
abbrev pub StandsByLog : LogValue → (page : ℕ) → Image → List ℕ → Type 0
StandsByLog log page i bytes = StandsInSlot (slice_index_or log.slots page None) i bytes ⊎ (IsUnlogged log page × StandsAtHome log.layout page i bytes)
