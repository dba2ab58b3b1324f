-- Growth of a volume, in its parts.
use Rattle.std.specs.Prelude.{◌⊎◌, ℕ, List, [], ◌∷◌}
use Rattle.sector_disk.specs.Image.{extended, stand}
use Rattle.sector_disk.specs.Machine.{Holds, Moment, Wears}
use Rattle.fsd_files.specs.Answers.{grow_fault}
use Rattle.twin_home.specs.Heal.{RootsIn}
use Rattle.volume_contract.specs.Order.{CallStep, Test, down}
use Rattle.volume_contract.specs.State.{State}

-- what is tested of a growth to so many sectors
abbrev pub grow_tests : State → ℕ → List CallStep
grow_tests s n = down s ∷ Test (grow_fault s.layout n) ∷ []

-- the moment, of an image that has so many sectors at least
abbrev pub longer : ℕ → Moment → Moment
longer n old = record old { image = extended n old.image }

-- The image is worn. Or it has so many sectors at least and the roots of these bytes stand at neither place, at the first,
-- or at both; nothing else was written.
abbrev pub GrowsRoots : ℕ → List ℕ → Moment → Moment → Type 0
GrowsRoots n bytes old left = Wears old left ⊎ RootsIn bytes (longer n old) left

-- it has them, and both roots stand
abbrev pub HasGrownRoots : ℕ → List ℕ → Moment → Moment → Type 0
HasGrownRoots n bytes old new = Holds (longer n old) (stand (stand (longer n old).image 0 bytes 1) 4 bytes 1) new
