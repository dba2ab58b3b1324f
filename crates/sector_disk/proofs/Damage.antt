-- Laws of what is lost.
use Rattle.std.proofs.Common.{ℕ, List}
use Rattle.sector_disk.specs.declared.sector.Sector.{Sector}
use Rattle.sector_disk.specs.declared.machine.LoadFault.{LoadFault}
use Rattle.sector_disk.specs.declared.machine.LoadFault.TheVariants.{Device, Lost}
use Rattle.sector_disk.specs.Damage.{AreLost, LostCause}

module _ (P : ℕ → ℕ → Type 0) (a b : ℕ) where
  -- what is said of the two copies may be said in other words
  pub lost_as : (Q : ℕ → ℕ → Type 0) (i : List Sector) → (P a b → Q a b) → AreLost P i a b → AreLost Q i a b
  lost_as Q i say lost = record { copies = say lost.copies; first = lost.first; second = lost.second }

pub cause_as : (P Q : ℕ → ℕ → Type 0) (i : List Sector) (fault : LoadFault) → ((a b : ℕ) → P a b → Q a b) → LostCause P i fault → LostCause Q i fault
cause_as P Q i (Device s) say lost = tt
cause_as P Q i (Lost a b) say lost = lost_as P a b Q i (say a b) lost
