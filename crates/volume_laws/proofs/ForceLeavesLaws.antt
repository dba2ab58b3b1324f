-- Which fault of the disk a volume's force tells.
use Rattle.std.proofs.Common.{◌≡◌, ℕ, Option, Some, None, Err, refl, subst}
use Rattle.fsd_bytes.specs.declared.refusal.Refusal.{Refusal}
use Rattle.fsd_bytes.specs.declared.refusal.Refusal.TheVariants as Why
use Rattle.sector_disk.specs.declared.machine.LoadFault.{LoadFault}
use Rattle.sector_disk.specs.declared.machine.LoadFault.TheVariants as fault
use Rattle.sector_disk.specs.Calls.{load_failed_at}
use Rattle.volume_contract.specs.Ends.{device_of}
use Rattle.volume_laws.specs.Forcing.{force_refusal}
use Rattle.volume_laws.specs.Taken.{down_fault}

-- a volume that is down tells no fault of the disk
pub down_tells_none : (d : Option ℕ) (r : Refusal) → down_fault d ≡ Err r → device_of r ≡ None
down_tells_none None r e = absurd (cc e)
down_tells_none (Some place) r e = let same : Why.Down place ≡ r = cc e in subst (λ (q : Refusal). device_of q ≡ None) same refl

-- and a force that fails tells the place where it did
pub tells_place : (f : LoadFault) → device_of (force_refusal f) ≡ load_failed_at f
tells_place (fault.Device place) = refl
tells_place (fault.Lost a b) = refl
