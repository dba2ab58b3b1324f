-- The statuses of runs in which no call of the outside failed.
use Rattle.std.proofs.Common.{◌≡◌, inl, inr, ℕ, Bool, true, false, refl, subst}
use Rattle.std.specs.Prelude.{◌==◌, IsFalse, IsTrue}
use Rattle.std.proofs.lemmas.Bool.{eqb-true}
use Rattle.fsd_texts.specs.declared.fault.Fault.{Fault}
use Rattle.fsd_texts.specs.declared.fault.Fault.TheVariants as Ends
use Rattle.fsd_runs.specs.Errands.{fault_status}
use Rattle.volume_turns.specs.Line.{IsStatusAs, IsStatusFor, is_unsaid}
use Rattle.volume_turns.specs.Status.{is_unfailed, is_quiet}
use Rattle.volume_turns.specs.Turns.{IsWant}

unfailed_if : (status : ℕ) → (status ≡ 4 → ⊥) → (status ≡ 6 → ⊥) → IsTrue (is_unfailed status)
unfailed_if status disk output = by (status == 4) (status == 6) refl refl
  where
    by : (a b : Bool) → (status == 4) ≡ a → (status == 6) ≡ b → IsTrue (is_unfailed status)
    by true b is at = absurd (disk (eqb-true status 4 is))
    by false true is at = absurd (output (eqb-true status 6 at))
    by false false is at = rw (is, at) refl

-- a status that isn't one of these
pub unfailed_not : (n status : ℕ) → IsFalse (is_unfailed n) → IsTrue (is_unfailed status) → status ≡ n → ⊥
unfailed_not n status other unfailed at = let same : IsTrue (is_unfailed n) = subst (λ (x : ℕ). IsTrue (is_unfailed x)) at unfailed in cc (same, other)

pub quiet_not : (n status : ℕ) → IsFalse (is_quiet n) → IsTrue (is_quiet status) → status ≡ n → ⊥
quiet_not n status other quiet at = let same : IsTrue (is_quiet n) = subst (λ (x : ℕ). IsTrue (is_quiet x)) at quiet in cc (same, other)

pub quiet_unfailed : (status : ℕ) → IsTrue (is_quiet status) → IsTrue (is_unfailed status)
quiet_unfailed status quiet = unfailed_if status (quiet_not 4 status refl quiet) (quiet_not 6 status refl quiet)

-- the output didn't fail
pub unfailed_said : (status : ℕ) → IsTrue (is_unfailed status) → is_unsaid status ≡ false
unfailed_said status unfailed = by (is_unsaid status) refl
  where
    by : (b : Bool) → is_unsaid status ≡ b → b ≡ false
    by false is = refl
    by true is = absurd (unfailed_not 6 status refl unfailed (eqb-true status 6 is))

-- the status of a line is the one that goes with it
pub quiet_line : (gives status : ℕ) → IsStatusAs gives status → IsTrue (is_quiet status) → IsTrue (is_quiet gives)
quiet_line gives status (inl is) quiet = subst (λ (n : ℕ). IsTrue (is_quiet n)) is quiet
quiet_line gives status (inr six) quiet = absurd (quiet_not 6 status refl quiet six)

-- each fault has another one but a want
quiet_fault : (why : Fault) → IsTrue (is_quiet (fault_status why)) → IsWant why
quiet_fault Ends.Memory is = tt
quiet_fault Ends.WornOut is = tt
quiet_fault other is = cc is

pub quiet_wants : (why : Fault) (status : ℕ) → IsStatusFor why status → IsTrue (is_quiet status) → IsWant why
quiet_wants why status for quiet = quiet_fault why (quiet_line (fault_status why) status for quiet)
