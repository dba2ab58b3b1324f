-- What a read of a page at home answers, and what a write of one leaves.
use Rattle.std.specs.Prelude.{◌≡◌, ◌≤◌, ℕ, List, Option, Some, None}
use Rattle.volume_layout.specs.declared.layout.Layout.{Layout}
use Rattle.volume_layout.specs.Layout.{home_a, home_b}
use Rattle.sector_disk.specs.declared.sector.Sector.{Sector}
use Rattle.sector_disk.specs.declared.machine.Seen.{Seen}
use Rattle.sector_disk.specs.declared.machine.Seen.TheVariants.{Whole, Damaged}
use Rattle.sector_disk.specs.Image.{stand}
use Rattle.sector_disk.specs.Machine.{Moment, Holds}

-- the bytes of the home that serves, or that neither does
abbrev pub ShowsHome : Seen → Option (List ℕ) → List ℕ → Type 0
ShowsHome Whole home buf = home ≡ Some buf
ShowsHome Damaged home buf = home ≡ None

-- A sector was written or not.
pub record WritesPart (place : ℕ) (bytes : List ℕ) (old left : Moment) : Type 0 where
  pub stood : ℕ
  pub within : stood ≤ 1
  pub holds : Holds old (stand old.image place bytes stood) left

-- the image with a page's bytes at its first home, if so many (0 or 1) stand there, and at its second
abbrev pub with_homes : Layout → (page : ℕ) → List ℕ → List Sector → (first second : ℕ) → List Sector
with_homes l page bytes image first second = stand (stand image (home_a l page) bytes first) (home_b l page) bytes second

-- The page stands at neither home, at the first, or at both, and nothing else was written.
pub record HomesIn (l : Layout) (page : ℕ) (bytes : List ℕ) (old left : Moment) : Type 0 where
  pub first : ℕ
  pub second : ℕ
  pub in_order : second ≤ first
  pub once : first ≤ 1
  pub holds : Holds old (with_homes l page bytes old.image first second) left
