-- What a mount reads from home, and what it knows of what stands there.
use Rattle.std.specs.Prelude.{◌≡◌, ◌<◌, ℕ, nat_lt, if◌then◌else◌, List, Option, Some, None}
use Rattle.volume_layout.specs.declared.layout.Layout.{Layout}
use Rattle.sector_disk.specs.Image.{IsWorn, open_damage}
use Rattle.sector_disk.specs.Machine.{Moment}
use Rattle.fsd_files.specs.Disk.{Image}
use Rattle.fsd_sound.specs.Homes.{home_of}

-- of a page of the layout what stands at home
abbrev pub home_by : Layout → Image → (page : ℕ) → Option (List ℕ)
home_by l i page = if nat_lt page l.pages then home_of l i page else None

-- The page stands at home, and the same bytes do however the windows of this moment wear it.
pub record StaysAtHome (l : Layout) (at : Moment) (page : ℕ) : Type 0 where
  pub bytes : List ℕ
  pub stays : (i : Image) → IsWorn (open_damage at.windows) at.image i → home_of l i page ≡ Some bytes

-- each page does
abbrev pub KnowsHomes : Layout → Moment → Type 0
KnowsHomes l at = (page : ℕ) → page < l.pages → StaysAtHome l at page
