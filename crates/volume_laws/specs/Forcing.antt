-- What is said of a force that fails.
use Rattle.std.specs.Prelude.{ℕ}
use Rattle.fsd_bytes.specs.declared.refusal.Refusal.{Refusal}
use Rattle.fsd_bytes.specs.declared.refusal.Refusal.TheVariants as Why
use Rattle.sector_disk.specs.declared.machine.LoadFault.{LoadFault}
use Rattle.sector_disk.specs.declared.machine.LoadFault.TheVariants.{Device, Lost}

-- the refusal that the fault is
abbrev pub force_refusal : LoadFault → Refusal
force_refusal (Device place) = Why.Device place
force_refusal (Lost a b) = Why.Lost a b

-- the place where the volume is down then
abbrev pub down_place : LoadFault → ℕ
down_place (Device place) = place
down_place (Lost a b) = a
