-- What a maker of commands has made, and what is still to come.
use Rattle.std.specs.Prelude.{◌≡◌, ℕ, List, [], ◌∷◌, Option, Some, None, Result, Ok, Err}
use Rattle.std.specs.declared.alloc.AllocError.{AllocError}
use Rattle.fsd_texts.specs.declared.command.Command.{Command}
use Rattle.fsd_texts.specs.Generator.{made_from}

-- how many commands are to come, the ordinal of the next one, and the state that it is drawn from
pub record Making : Type 0 where
  pub left : ℕ
  pub ordinal : ℕ
  pub state : ℕ

-- nothing is made up yet
abbrev pub making_begun : (seed count : ℕ) → Making
making_begun seed count = record { left = count; ordinal = 1; state = seed }

-- the commands that are still to come
abbrev pub made_left : Making → List Command
made_left m = made_from m.left m.ordinal m.state

-- an answer, of what was to come and of what is to come now
abbrev pub MakesNext : Result (Option Command) AllocError → Making → Making → Type 0
MakesNext (Ok (Some command)) old new = made_left old ≡ command ∷ made_left new
MakesNext (Ok None) old new = (made_left old ≡ []) × (new ≡ old)
MakesNext (Err refused) old new = new ≡ old
