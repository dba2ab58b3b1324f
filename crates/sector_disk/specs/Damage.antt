-- What stands twice and is lost.
use Rattle.std.specs.Prelude.{◌≡◌, ⊤, ℕ, List}
use Rattle.sector_disk.specs.declared.sector.Sector.{Sector}
use Rattle.sector_disk.specs.declared.sector.Sector.TheVariants.{Damaged}
use Rattle.sector_disk.specs.declared.machine.LoadFault.{LoadFault}
use Rattle.sector_disk.specs.declared.machine.LoadFault.TheVariants.{Device, Lost}
use Rattle.sector_disk.specs.Image.{sector_at}

-- The sectors are the two copies of one thing, by this relation, and the image gives neither: both are damaged.
pub record AreLost (AreCopies : ℕ → ℕ → Type 0) (image : List Sector) (a b : ℕ) : Type 0 where
  pub copies : AreCopies a b
  pub first : sector_at image a ≡ Damaged
  pub second : sector_at image b ≡ Damaged

-- nothing is lost
abbrev pub IsDevice : LoadFault → Type 0
IsDevice (Device place) = ⊤
IsDevice (Lost a b) = ⊥

-- so they are where the fault tells that they are
abbrev pub LostCause : (ℕ → ℕ → Type 0) → List Sector → LoadFault → Type 0
LostCause AreCopies image (Device place) = ⊤
LostCause AreCopies image (Lost a b) = AreLost AreCopies image a b
