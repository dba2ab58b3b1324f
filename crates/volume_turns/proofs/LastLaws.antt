-- The fault that is said last.
use Rattle.std.proofs.Common.{◌≡◌, inl, inr, ℕ, zero, suc, ◌≤◌, Option, refl, sym, ◌∙◌, subst, arith}
use Rattle.std.specs.Prelude.{IfSome, IsFalse, IsTrue}
use Rattle.sector_disk.specs.Calls.{DiskFaults}
use Rattle.sector_disk.specs.Machine.{Moment, Report}
use Rattle.fsd_sound.specs.Mounting.{device_of_mount}
use Rattle.fsd_sound.specs.declared.fault.MountFault.{MountFault}
use Rattle.fsd_texts.specs.declared.command.Command.{Command}
use Rattle.fsd_texts.specs.declared.fault.Fault.{Fault}
use Rattle.fsd_texts.specs.declared.fault.Fault.TheVariants as Ends
use Rattle.fsd_texts.specs.declared.line.Line.{Line}
use Rattle.fsd_runs.proofs.StatusLaws.{of_reply}
use Rattle.volume_turns.specs.Causes.{SaysFaultAt, is_of_fault}
use Rattle.volume_turns.specs.Line.{EndsLast, EndsWith}
use Rattle.volume_turns.specs.Once.{end_by_mount}
use Rattle.volume_turns.specs.Commands.{IsStatusFrom}
use Rattle.volume_turns.specs.Steps.{device_told}
use Rattle.volume_turns.proofs.StatusLaws.{same_device}

pub fault_not : (n status : ℕ) → IsFalse (is_of_fault n) → IsTrue (is_of_fault status) → status ≡ n → ⊥
fault_not n status other of at = let same : IsTrue (is_of_fault n) = subst (λ (x : ℕ). IsTrue (is_of_fault x)) at of in cc (same, other)

-- ---- a reply has no fault's status

low_not : (status : ℕ) → status ≤ 1 → IsTrue (is_of_fault status) → ⊥
low_not zero low of = cc of
low_not (suc zero) low of = cc of
low_not (suc (suc n)) low of = omega (arith, low)

pub reply_not : (command : Command) (status : ℕ) → IsStatusFrom command status → IsTrue (is_of_fault status) → ⊥
reply_not command status from of = elim (of_reply command status from) [ inl low ↦ low_not status low of | inr eight ↦ fault_not 8 status refl of eight ]

-- ---- the place of a fault of the disk

pub told_place : (why : Fault) (a m b : Report) → DiskFaults (device_told why) a m → b.fault_place ≡ m.fault_place → IfSome (device_told why) (λ s. s ≡ b.fault_place)
told_place (Ends.Device s) a m b disk same = disk.told ∙ sym same
told_place why a m b disk same = tt

-- ---- the line of a fault

module _ (place : ℕ) (old new : Moment) (status : ℕ) where
  abbrev IsPlaced : Fault → Type 0
  IsPlaced why = IfSome (device_told why) (λ s. s ≡ place)

  pub ends_fault : (why : Fault) → IsPlaced why → EndsWith why old new status → IsTrue (is_of_fault status) → SaysFaultAt place new status
  ends_fault why at (inl six) of = absurd (fault_not 6 status refl of six)
  ends_fault why at (inr (gives, all)) of = record { why = why; gives = gives; at = at; front = old.said; said = all.said }

  -- a line that is none of a fault
  pub line_other : (line : Line) (gives : ℕ) → IsFalse (is_of_fault gives) → EndsLast line gives old new status → IsTrue (is_of_fault status) → SaysFaultAt place new status
  line_other line gives other (inl six) of = absurd (fault_not 6 status refl of six)
  line_other line gives other (inr (is, all)) of = absurd (fault_not gives status other of is)

-- a fault of a mount
pub mount_fault : (fault : MountFault) (why : Fault) (a m b : Report) (old new : Moment) (status : ℕ) → why ≡ end_by_mount fault → DiskFaults (device_of_mount fault) a m → b.fault_place ≡ m.fault_place → EndsWith why old new status
    → IsTrue (is_of_fault status) → SaysFaultAt b.fault_place new status
mount_fault fault why a m b old new status is faults same ends of =
    ends_fault b.fault_place old new status (end_by_mount fault) (told_place (end_by_mount fault) a m b (subst (λ (o : Option ℕ). DiskFaults o a m) (same_device fault) faults) same)
    (subst (λ (w : Fault). EndsWith w old new status) is ends) of
