-- The statuses of each kind of run are among those of its request.
use Rattle.std.proofs.Common.{◌≡◌, ◌⊎◌, inl, inr, ℕ, zero, suc, ◌≤◌, List, [], ◌∷◌, ◌++◌, refl, sym, ◌∙◌, subst, arith}
use Rattle.std.specs.Prelude.{IsTrue}
use Rattle.fsd_texts.specs.declared.command.Command.{Command}
use Rattle.fsd_texts.specs.declared.fault.Fault.{Fault}
use Rattle.fsd_texts.specs.declared.fault.Fault.TheVariants as Ends
use Rattle.fsd_runs.specs.Errands.{fault_status}
use Rattle.fsd_runs.proofs.StatusLaws.{one_behind, one_in_front}
use Rattle.volume_turns.specs.Status.{IsDumpStatus, IsMadeStatus, IsOneStatus, IsPutStatus, IsScriptStatus, IsStatusBroken}
use Rattle.volume_turns.specs.Commands.{IsStatusFrom}
use Rattle.volume_turns.specs.Steps.{IsOfVolume}
use Rattle.fsd_runs.specs.declared.request.Request.TheVariants.{One}
use Rattle.cfs_program.specs.Program.{complete_statuses, fault_statuses}
use Rattle.fsd_runs.specs.Commands.{is_status_of, reply_statuses}

pub one_at : (statuses : List ℕ) (n result : ℕ) → result ≡ n → IsTrue (is_status_of statuses n) → IsTrue (is_status_of statuses result)
one_at statuses n result is has = subst (λ (x : ℕ). IsTrue (is_status_of statuses x)) (sym is) has

-- ---- a fault of the volume, or an output that failed

module _ (statuses : List ℕ) (three : IsTrue (is_status_of statuses 3)) (seven : IsTrue (is_status_of statuses 7)) (nine : IsTrue (is_status_of statuses 9)) (result : ℕ) where
  fault_among : (why : Fault) → IsOfVolume why → (fault_status why ≡ 4 → IsTrue (is_status_of statuses (fault_status why))) → IsTrue (is_status_of statuses (fault_status why))
  fault_among (Ends.Device s) of four = four refl
  fault_among Ends.Input of four = absurd of
  fault_among Ends.InputTooLong of four = absurd of
  fault_among Ends.Memory of four = seven
  fault_among Ends.WornOut of four = nine
  fault_among other of four = three

  broken_all : IsTrue (is_status_of statuses 4) → IsTrue (is_status_of statuses 6) → IsStatusBroken result → IsTrue (is_status_of statuses result)
  broken_all four six (inl (why, of, is)) = one_at statuses (fault_status why) result is (fault_among why of (λ at. one_at statuses 4 (fault_status why) at four))
  broken_all four six (inr at) = one_at statuses 6 result at six

  broken_complete : (result ≡ 4 → ⊥) → (result ≡ 6 → ⊥) → IsStatusBroken result → IsTrue (is_status_of statuses result)
  broken_complete disk said (inl (why, of, is)) = one_at statuses (fault_status why) result is (fault_among why of (λ at. absurd (disk (is ∙ at))))
  broken_complete disk said (inr six) = absurd (said six)

pub low_is : (n : ℕ) → n ≤ 1 → (n ≡ 0) ⊎ (n ≡ 1)
low_is zero low = inl refl
low_is (suc zero) low = inr refl
low_is (suc (suc n)) low = absurd (omega (arith, low))

low_among : (statuses : List ℕ) → IsTrue (is_status_of statuses 0) → IsTrue (is_status_of statuses 1) → (result : ℕ) → result ≤ 1 → IsTrue (is_status_of statuses result)
low_among statuses none one result low = by (low_is result low)
  where
    by : (result ≡ 0) ⊎ (result ≡ 1) → IsTrue (is_status_of statuses result)
    by (inl is) = one_at statuses 0 result is none
    by (inr is) = one_at statuses 1 result is one

-- ---- one command

abbrev complete_of : Command → List ℕ
complete_of c = complete_statuses (One c)

abbrev all_of : Command → List ℕ
all_of c = complete_statuses (One c) ++ fault_statuses (One c)

from_all : (c : Command) (status : ℕ) → IsStatusFrom c status → IsTrue (is_status_of (all_of c) status)
from_all c status from = one_in_front (complete_of c) (fault_statuses (One c)) status (one_in_front (reply_statuses c) (3 ∷ 7 ∷ 9 ∷ []) status from)

from_complete : (c : Command) (status : ℕ) → IsStatusFrom c status → IsTrue (is_status_of (complete_of c) status)
from_complete c status from = one_in_front (reply_statuses c) (3 ∷ 7 ∷ 9 ∷ []) status from

-- those that any command may end with
any_complete : (c : Command) (status : ℕ) → IsTrue (is_status_of (3 ∷ 7 ∷ 9 ∷ []) status) → IsTrue (is_status_of (complete_of c) status)
any_complete c status is = one_behind (reply_statuses c) (3 ∷ 7 ∷ 9 ∷ []) status is

any_all : (c : Command) (status : ℕ) → IsTrue (is_status_of (3 ∷ 7 ∷ 9 ∷ []) status) → IsTrue (is_status_of (all_of c) status)
any_all c status is = one_in_front (complete_of c) (fault_statuses (One c)) status (any_complete c status is)

broken_one : (c : Command) (result : ℕ) → IsStatusBroken result → IsTrue (is_status_of (all_of c) result)
broken_one c result broken =
    broken_all (all_of c) (any_all c 3 refl) (any_all c 7 refl) (any_all c 9 refl) result (one_behind (complete_of c) (4 ∷ 6 ∷ []) 4 refl) (one_behind (complete_of c) (4 ∷ 6 ∷ []) 6 refl) broken

quiet_one : (c : Command) (result : ℕ) → (result ≡ 4 → ⊥) → (result ≡ 6 → ⊥) → IsStatusBroken result → IsTrue (is_status_of (complete_of c) result)
quiet_one c result disk said broken = broken_complete (complete_of c) (any_complete c 3 refl) (any_complete c 7 refl) (any_complete c 9 refl) result disk said broken

pub command_status : (c : Command) (result : ℕ) → IsOneStatus c result → IsTrue (is_status_of (all_of c) result)
command_status c result (inl from) = from_all c result from
command_status c result (inr broken) = broken_one c result broken

pub command_complete : (c : Command) (result : ℕ) → IsOneStatus c result → (result ≡ 4 → ⊥) → (result ≡ 6 → ⊥) → IsTrue (is_status_of (complete_of c) result)
command_complete c result (inl from) disk said = from_complete c result from
command_complete c result (inr broken) disk said = quiet_one c result disk said broken

-- ---- a put of the input

abbrev put_complete : List ℕ
put_complete = 0 ∷ 1 ∷ 3 ∷ 5 ∷ 7 ∷ 9 ∷ []

abbrev put_all : List ℕ
put_all = 0 ∷ 1 ∷ 3 ∷ 5 ∷ 7 ∷ 9 ∷ 4 ∷ 5 ∷ 6 ∷ []

pub put_status : (result : ℕ) → IsPutStatus result → IsTrue (is_status_of put_all result)
put_status result (inl low) = low_among put_all refl refl result low
put_status result (inr (inl five)) = one_at put_all 5 result five refl
put_status result (inr (inr broken)) = broken_all put_all refl refl refl result refl refl broken

pub put_complete_is : (result : ℕ) → IsPutStatus result → (result ≡ 4 → ⊥) → (result ≡ 6 → ⊥) → IsTrue (is_status_of put_complete result)
put_complete_is result (inl low) disk said = low_among put_complete refl refl result low
put_complete_is result (inr (inl five)) disk said = one_at put_complete 5 result five refl
put_complete_is result (inr (inr broken)) disk said = broken_complete put_complete refl refl refl result disk said broken

-- ---- a script

abbrev script_complete : List ℕ
script_complete = 0 ∷ 2 ∷ 3 ∷ 5 ∷ 7 ∷ 9 ∷ []

abbrev script_all : List ℕ
script_all = 0 ∷ 2 ∷ 3 ∷ 5 ∷ 7 ∷ 9 ∷ 4 ∷ 5 ∷ 6 ∷ []

pub script_status : (result : ℕ) → IsScriptStatus result → IsTrue (is_status_of script_all result)
script_status result (inl none) = one_at script_all 0 result none refl
script_status result (inr (inl two)) = one_at script_all 2 result two refl
script_status result (inr (inr (inl five))) = one_at script_all 5 result five refl
script_status result (inr (inr (inr broken))) = broken_all script_all refl refl refl result refl refl broken

pub script_complete_is : (result : ℕ) → IsScriptStatus result → (result ≡ 4 → ⊥) → (result ≡ 6 → ⊥) → IsTrue (is_status_of script_complete result)
script_complete_is result (inl none) disk said = one_at script_complete 0 result none refl
script_complete_is result (inr (inl two)) disk said = one_at script_complete 2 result two refl
script_complete_is result (inr (inr (inl five))) disk said = one_at script_complete 5 result five refl
script_complete_is result (inr (inr (inr broken))) disk said = broken_complete script_complete refl refl refl result disk said broken

-- none is refused with 1
pub script_low : (result : ℕ) → IsScriptStatus result → result ≤ 1 → result ≡ 0
script_low zero status low = refl
script_low (suc zero) status low = let at : IsTrue (is_status_of script_all 1) = script_status 1 status in absurd (cc at)
script_low (suc (suc n)) status low = absurd (omega (arith, low))

-- ---- commands that are made up

abbrev made_complete : List ℕ
made_complete = 0 ∷ 3 ∷ 7 ∷ 9 ∷ []

abbrev made_all : List ℕ
made_all = 0 ∷ 3 ∷ 7 ∷ 9 ∷ 4 ∷ 6 ∷ []

pub made_status : (result : ℕ) → IsMadeStatus result → IsTrue (is_status_of made_all result)
made_status result (inl none) = one_at made_all 0 result none refl
made_status result (inr broken) = broken_all made_all refl refl refl result refl refl broken

pub made_complete_is : (result : ℕ) → IsMadeStatus result → (result ≡ 4 → ⊥) → (result ≡ 6 → ⊥) → IsTrue (is_status_of made_complete result)
made_complete_is result (inl none) disk said = one_at made_complete 0 result none refl
made_complete_is result (inr broken) disk said = broken_complete made_complete refl refl refl result disk said broken

pub made_not_five : (result : ℕ) → IsMadeStatus result → result ≡ 5 → ⊥
made_not_five result status five = let at : IsTrue (is_status_of made_all 5) = subst (λ (n : ℕ). IsTrue (is_status_of made_all n)) five (made_status result status) in cc at

-- ---- a dump

abbrev dump_complete : List ℕ
dump_complete = 0 ∷ 1 ∷ 3 ∷ 7 ∷ 8 ∷ 9 ∷ []

abbrev dump_all : List ℕ
dump_all = 0 ∷ 1 ∷ 3 ∷ 7 ∷ 8 ∷ 9 ∷ 4 ∷ 6 ∷ []

pub dump_status : (result : ℕ) → IsDumpStatus result → IsTrue (is_status_of dump_all result)
dump_status result (inl low) = low_among dump_all refl refl result low
dump_status result (inr (inl eight)) = one_at dump_all 8 result eight refl
dump_status result (inr (inr broken)) = broken_all dump_all refl refl refl result refl refl broken

pub dump_complete_is : (result : ℕ) → IsDumpStatus result → (result ≡ 4 → ⊥) → (result ≡ 6 → ⊥) → IsTrue (is_status_of dump_complete result)
dump_complete_is result (inl low) disk said = low_among dump_complete refl refl result low
dump_complete_is result (inr (inl eight)) disk said = one_at dump_complete 8 result eight refl
dump_complete_is result (inr (inr broken)) disk said = broken_complete dump_complete refl refl refl result disk said broken

pub dump_not_five : (result : ℕ) → IsDumpStatus result → result ≡ 5 → ⊥
dump_not_five result status five = let at : IsTrue (is_status_of dump_all 5) = subst (λ (n : ℕ). IsTrue (is_status_of dump_all n)) five (dump_status result status) in cc at
