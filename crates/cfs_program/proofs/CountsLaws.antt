-- What is counted behind an attach, and of a line that is said.
use Rattle.std.proofs.Common.{◌≡◌, inl, inr, refl, ℕ, Bool, false, Some, None, sym, ◌∙◌, subst, arith}
use Rattle.std.specs.Prelude.{IsFalse, IsTrue}
use Rattle.std.proofs.lemmas.Bool.{eq-eqb}
use Rattle.sector_disk.specs.Calls.{Counts, SparesDisk}
use Rattle.sector_disk.specs.Machine.{Report, Rose}
use Rattle.volume_turns.specs.Status.{CountsInput, CountsNone, CountsRunBy, CountsTaking, is_quiet, is_unfailed}
use Rattle.volume_turns.proofs.QuietLaws.{unfailed_not, unfailed_said, quiet_unfailed}
use Rattle.volume_turns.specs.Line.{IsStatusAs, is_unsaid}
use Rattle.volume_turns.proofs.StatusLaws.{not_as}
use Rattle.cfs_program.specs.Formatting.{CountsFaults, UsesAttach}

-- A run that takes the input: where its status tells a fault of the disk or of the output, this is counted, and where
-- it tells no call of the outside none is; a fault that was found in the volume may end one whose input has failed.
pub record CountsReading (old new : Report) (status : ℕ) : Type 0 where
  pub disk : status ≡ 4 → Rose old.disk_faults new.disk_faults
  pub output : status ≡ 6 → Rose old.output_faults new.output_faults
  pub quiet : IsTrue (is_quiet status) → CountsNone old new
  pub unfailed : IsTrue (is_unfailed status) → CountsInput old new

-- ---- behind an attach

pub counts_opened : {longer : Bool} (a b c : Report) (status : ℕ) → CountsNone a b → CountsRunBy longer b c status → CountsFaults a c status
counts_opened a b c status same counts = record {
  disk = λ four. subst (λ (n : ℕ). Rose n c.disk_faults) same.disk (counts.disk four);
  input = counts.input ∙ same.input;
  output = λ six. subst (λ (n : ℕ). Rose n c.output_faults) same.output (counts.output six);
  quiet = λ unfailed. let none = counts.quiet unfailed in record { disk = none.disk ∙ same.disk; input = none.input ∙ same.input; output = none.output ∙ same.output };
}

pub reading_opened : (a b c : Report) (status : ℕ) → CountsNone a b → CountsTaking b c status → CountsReading a c status
reading_opened a b c status same counts = record {
  disk = λ four. subst (λ (n : ℕ). Rose n c.disk_faults) same.disk (counts.disk four);
  output = λ six. subst (λ (n : ℕ). Rose n c.output_faults) same.output (counts.output six);
  quiet = λ quiet. let none = counts.quiet quiet in record { disk = none.disk ∙ same.disk; input = none.input ∙ same.input; output = none.output ∙ same.output };
  unfailed = λ unfailed. let none = counts.unfailed unfailed in record { disk = none.disk ∙ same.disk; output = none.output ∙ same.output };
}

pub input_alone : (a b : Report) → CountsNone a b → CountsInput a b
input_alone a b none = record { disk = none.disk; output = none.output }

pub reading_of : (a b : Report) (status : ℕ) → CountsFaults a b status → CountsReading a b status
reading_of a b status counts = record {
  disk = counts.disk;
  output = counts.output;
  quiet = λ quiet. counts.quiet (quiet_unfailed status quiet);
  unfailed = λ unfailed. input_alone a b (counts.quiet unfailed);
}

-- ---- a line that is said

-- the status of such a fault
pub line_loud : (gives status : ℕ) → IsStatusAs gives status → IsFalse (is_unfailed gives) → IsTrue (is_unfailed status) → ⊥
line_loud gives status (inl is) other unfailed = unfailed_not gives status other unfailed is
line_loud gives status (inr six) other unfailed = unfailed_not 6 status refl unfailed six

-- a line alone
pub spares_none : (a b : Report) (status : ℕ) → SparesDisk false (is_unsaid status) a b → IsTrue (is_unfailed status) → CountsNone a b
spares_none a b status spares unfailed = record { disk = spares.disk; input = spares.input; output = subst (λ (x : Bool). Counts x a.output_faults b.output_faults) (unfailed_said status unfailed) spares.output }

module _ (a b c : Report) (status : ℕ) (input : b.input_faults ≡ a.input_faults) (output : b.output_faults ≡ a.output_faults) (spares : SparesDisk false (is_unsaid status) b c) where
  output_rose : status ≡ 6 → Rose a.output_faults c.output_faults
  output_rose six = subst (λ (n : ℕ). Rose n c.output_faults) output (subst (λ (x : Bool). Counts x b.output_faults c.output_faults) (eq-eqb status 6 six) spares.output)

  -- of a fault of the disk, which is counted
  pub counts_failed : Rose a.disk_faults b.disk_faults → IsStatusAs 4 status → CountsFaults a c status
  counts_failed rose is = record {
    disk = λ four. subst (λ (n : ℕ). Rose a.disk_faults n) (sym spares.disk) rose;
    input = spares.input ∙ input;
    output = output_rose;
    quiet = λ unfailed. absurd (line_loud 4 status is refl unfailed);
  }

  -- of anything else
  pub counts_line : (gives : ℕ) → (gives ≡ 4 → ⊥) → b.disk_faults ≡ a.disk_faults → IsStatusAs gives status → CountsFaults a c status
  counts_line gives other disk is = record {
    disk = λ four. absurd (not_as 4 gives status other (λ e. omega (arith, e)) is four);
    input = spares.input ∙ input;
    output = output_rose;
    quiet = λ unfailed. record {
      disk = spares.disk ∙ disk;
      input = spares.input ∙ input;
      output = subst (λ (x : Bool). Counts x b.output_faults c.output_faults) (unfailed_said status unfailed) spares.output ∙ output;
    };
  }

pub made_failed : (a b c : Report) (place status : ℕ) → UsesAttach (Some place) a b → SparesDisk false (is_unsaid status) b c → IsStatusAs 4 status → CountsFaults a c status
made_failed a b c place status uses spares is = counts_failed a b c status uses.input uses.output spares uses.faults.rose is

pub made_counts : (a b c : Report) (status : ℕ) → UsesAttach None a b → SparesDisk false (is_unsaid status) b c → IsStatusAs 0 status → CountsFaults a c status
made_counts a b c status uses spares is = counts_line a b c status uses.input uses.output spares 0 (λ e. omega (arith, e)) uses.faults.0 is
