-- Results that are one, or are apart.
use Rattle.std.proofs.Common.{◌≡◌, Option, Some, None}
use Rattle.std.specs.Prelude.{Result, Ok, Err}
use Rattle.fsd_texts.specs.declared.bad_line.BadLine.{BadLine}
use Rattle.fsd_texts.specs.declared.end.End.TheVariants.{Bad, Done, TooLong}
use Rattle.fsd_texts.specs.declared.fault.Fault.{Fault}
use Rattle.fsd_texts.specs.declared.fault.Fault.TheVariants as Ends
use Rattle.volume_turns.specs.declared.script.Stop.{Stop}
use Rattle.volume_turns.specs.declared.script.Stop.TheVariants.{Ended, Input}
use Rattle.volume_turns.specs.declared.turns.Halt.{Halt}
use Rattle.volume_turns.specs.declared.turns.Halt.TheVariants.{Fault as Stopped}

module _ {A E : Type 0} (r : Result A E) where
  pub ok_is : (x y : A) → r ≡ Ok x → r ≡ Ok y → x ≡ y
  ok_is x y p q = cc

  pub err_is : (x y : E) → r ≡ Err x → r ≡ Err y → x ≡ y
  err_is x y p q = cc

  pub ok_apart : (x : A) (y : E) → r ≡ Ok x → r ≡ Err y → ⊥
  ok_apart x y p q = cc

pub fault_is : {A : Type 0} (r : Result A Halt) (x y : Fault) → r ≡ Err (Stopped x) → r ≡ Err (Stopped y) → x ≡ y
fault_is r x y p q = cc

-- what has not read a script to its end
module _ (r : Result (Option Stop) Halt) (done : r ≡ Ok (Some (Ended Done))) where
  pub nothing_done : r ≡ Ok None → ⊥
  nothing_done is = cc

  pub bad_done : (bad : BadLine) → r ≡ Ok (Some (Ended (Bad bad))) → ⊥
  bad_done bad is = cc

  pub long_done : r ≡ Ok (Some (Ended TooLong)) → ⊥
  long_done is = cc

  pub input_done : r ≡ Ok (Some Input) → ⊥
  input_done is = cc

pub memory_worn : {A : Type 0} (r : Result A Halt) → r ≡ Err (Stopped Ends.Memory) → r ≡ Err (Stopped Ends.WornOut) → ⊥
memory_worn r p q = cc
