-- When a mount is told as worn out.
use Rattle.std.proofs.Common.{◌≡◌, inl, inr, ℕ, List, refl, sym, ◌∙◌, subst, arith}
use Rattle.std.specs.Prelude.{IfErr, IsTrue, Result, Err}
use Rattle.fsd_bytes.specs.declared.key.Key.{Key}
use Rattle.fsd_bytes.specs.declared.refusal.Refusal.{Refusal}
use Rattle.fsd_bytes.specs.declared.refusal.Refusal.TheVariants as Why
use Rattle.sector_disk.specs.Machine.{Moment}
use Rattle.fsd_texts.specs.declared.fault.Fault.{Fault}
use Rattle.fsd_texts.specs.declared.fault.Fault.TheVariants as Ends
use Rattle.fsd_runs.specs.Errands.{fault_status}
use Rattle.volume_contract.specs.Order.{Comes, IsLookUp, CallStep}
use Rattle.volume_contract.specs.State.{State, is_worn}
use Rattle.fsd_files.specs.declared.reply.Reply.{Reply}
use Rattle.volume_turns.specs.declared.turns.Halt.{Halt}
use Rattle.volume_turns.specs.declared.turns.Halt.TheVariants.{Fault as Stopped}
use Rattle.volume_turns.specs.Line.{IsStatusFor}
use Rattle.volume_turns.specs.Once.{close_fault}
use Rattle.volume_turns.specs.Steps.{ended_by, read_ended_by}
use Rattle.volume_turns.specs.Turns.{Unsaid}

-- ---- a call

ended_worn : (why : Refusal) → ended_by why ≡ Err Ends.WornOut → why ≡ Why.WornOut
ended_worn Why.WornOut is = refl
ended_worn why is = absurd (cc is)

read_ended_worn : (key : Key) (why : Refusal) → read_ended_by key why ≡ Err Ends.WornOut → why ≡ Why.WornOut
read_ended_worn key (Why.Damaged s) is = absurd (cc is)
read_ended_worn key why is = ended_worn why is

-- what its steps refuse so is told so
pub told_worn : (s : State) (steps : List CallStep) (why : Refusal) (r : Result Reply Fault) → r ≡ ended_by why → Comes steps why → (Comes steps Why.WornOut → IsTrue (is_worn s)) → r ≡ Err Ends.WornOut → IsTrue (is_worn s)
told_worn s steps why r by comes worn is = worn (subst (λ (w : Refusal). Comes steps w) (ended_worn why (sym by ∙ is)) comes)

pub read_told_worn : (s : State) (steps : List CallStep) (key : Key) (why : Refusal) (r : Result Reply Fault) → r ≡ read_ended_by key why → Comes steps why → (Comes steps Why.WornOut → ⊥) → r ≡ Err Ends.WornOut → IsTrue (is_worn s)
read_told_worn s steps key why r by comes never is = absurd (never (subst (λ (w : Refusal). Comes steps w) (read_ended_worn key why (sym by ∙ is)) comes))

pub look_up_worn : (s : State) (why : Refusal) (r : Result Reply Fault) → r ≡ ended_by why → IsLookUp why → r ≡ Err Ends.WornOut → IsTrue (is_worn s)
look_up_worn s why r by refuses is = absurd (subst IsLookUp (ended_worn why (sym by ∙ is)) refuses)

-- ---- the end of a volume

pub close_unworn : (why : Refusal) → close_fault why ≡ Ends.WornOut → ⊥
close_unworn (Why.Device s) is = cc is
close_unworn why is = cc is

pub unsaid_unworn : (old new : Moment) {T : Type 0} (r : Result T Halt) → IfErr r (λ end. Unsaid old new end) → r ≡ Err (Stopped Ends.WornOut) → ⊥
unsaid_unworn old new {T = T} r unsaid is = subst (λ (x : Result T Halt). IfErr x (λ end. Unsaid old new end)) is unsaid

-- ---- its status

pub fault_nine : (why : Fault) → fault_status why ≡ 9 → why ≡ Ends.WornOut
fault_nine Ends.WornOut is = refl
fault_nine why is = absurd (omega (arith, is))

pub status_worn : (why : Fault) (status : ℕ) → IsStatusFor why status → status ≡ 9 → why ≡ Ends.WornOut
status_worn why status (inl is) nine = fault_nine why (sym is ∙ nine)
status_worn why status (inr six) nine = absurd (omega (arith, six, nine))
