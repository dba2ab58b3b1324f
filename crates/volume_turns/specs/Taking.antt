-- What taking the whole input tells.
use Rattle.std.specs.Prelude.{Bool, true, false, Result, Ok, Err}
use Rattle.volume_turns.specs.declared.taking.InputFault.{InputFault}
use Rattle.volume_turns.specs.declared.taking.InputFault.TheVariants.{Failed}

-- whether the input failed
abbrev pub taking_failed : {T : Type 0} → Result T InputFault → Bool
taking_failed (Ok x) = false
taking_failed (Err Failed) = true
taking_failed (Err other) = false
