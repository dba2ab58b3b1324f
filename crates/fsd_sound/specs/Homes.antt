-- What stands at home of a page.
use Rattle.std.specs.Prelude.{◌≡◌, ◌⊎◌, ◌<◌, ℕ, List, [], Option, get_or}
use Rattle.volume_layout.specs.declared.layout.Layout.{Layout}
use Rattle.volume_layout.specs.Layout.{home_a, home_b}
use Rattle.sector_disk.specs.declared.sector.Sector.TheVariants.{Whole}
use Rattle.sector_disk.specs.Image.{sector_at, open_damage}
use Rattle.sector_disk.specs.Machine.{Moment}
use Rattle.fsd_files.specs.Disk.{Image, bytes_at, first_whole, Has}

-- The sectors are the two homes of a page.
pub record AreHomesOf (l : Layout) (page a b : ℕ) : Type 0 where
  pub first : a ≡ home_a l page
  pub second : b ≡ home_b l page

-- the sectors are the two homes of a page, in either order
abbrev pub AreTwins : Layout → (page s t : ℕ) → Type 0
AreTwins l page s t = ((s ≡ home_a l page) × (t ≡ home_b l page)) ⊎ ((s ≡ home_b l page) × (t ≡ home_a l page))

-- the first of a page's two homes that is Whole
abbrev pub home_of : Layout → Image → ℕ → Option (List ℕ)
home_of l i page = first_whole (bytes_at i (home_a l page)) (bytes_at i (home_b l page))

-- both homes of the page are whole, with these bytes
abbrev pub IsAtHome : Layout → Image → (page : ℕ) → List ℕ → Type 0
IsAtHome l i page bytes = (sector_at i (home_a l page) ≡ Whole bytes) × (sector_at i (home_b l page) ≡ Whole bytes)

-- each page of the list stands at both homes
abbrev pub StandAtHome : Layout → List (List ℕ) → Image → Type 0
StandAtHome l pages i = (page : ℕ) → page < l.pages → IsAtHome l i page (get_or pages page [])

-- the sector has some bytes, or is damaged where the open window may wear it
abbrev pub HasSome : Moment → ℕ → Type 0
HasSome now s = (bytes : List ℕ) × Has (open_damage now.windows) now.image bytes s

-- so has each home of the page
abbrev pub HasBothHomes : Layout → Moment → (page : ℕ) → Type 0
HasBothHomes l now page = HasSome now (home_a l page) × HasSome now (home_b l page)
