-- Why a page was not fetched.
use Rattle.std.specs.Prelude.{⊤, ℕ, List, Option, None}
use Rattle.sector_disk.specs.declared.sector.Sector.{Sector}
use Rattle.sector_disk.specs.Calls.{load_failed_at}
use Rattle.sector_disk.specs.Damage.{IsDevice, LostCause}
use Rattle.page_cache.specs.declared.fault.CacheFault.{CacheFault}
use Rattle.page_cache.specs.declared.fault.CacheFault.TheVariants.{Load, Memory}

-- the place of the call of the disk that failed, if one did
abbrev pub fetch_failed_at : CacheFault → Option ℕ
fetch_failed_at (Load fault) = load_failed_at fault
fetch_failed_at Memory = None

-- both copies are damaged, where they are said to be
abbrev pub LostAsTold : (ℕ → ℕ → Type 0) → List Sector → CacheFault → Type 0
LostAsTold AreCopies image (Load fault) = LostCause AreCopies image fault
LostAsTold AreCopies image Memory = ⊤

-- nothing is lost
abbrev pub IsNotLost : CacheFault → Type 0
IsNotLost (Load fault) = IsDevice fault
IsNotLost Memory = ⊤
