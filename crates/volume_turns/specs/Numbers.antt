-- How far commands bring the numbers of a mount: a version that is made draws a serial,
-- and a record that is logged has a number.
use Rattle.std.specs.Prelude.{◌≡◌, ◌⊎◌, ℕ, ◌+◌, ◌<◌, ◌≤◌, Result, Err}
use Rattle.sector_disk.specs.declared.machine.Machine.{Ghosts}
use Rattle.fsd_texts.specs.declared.fault.Fault.TheVariants as Ends
use Rattle.fsd_runs.specs.Runs.{last_count}
use Rattle.volume_contract.specs.State.{State}
use Rattle.volume_turns.specs.declared.turns.Halt.{Halt}
use Rattle.volume_turns.specs.declared.turns.Halt.TheVariants.{Fault as Stopped}

-- At most so many serials are drawn, and so many records are numbered.
pub record GoesUp (most : ℕ) (old new : State) : Type 0 where
  pub serials : new.serial.count ≤ old.serial.count + most
  pub records : new.head.number ≤ old.head.number + most

-- so many commands may use them up, one among them that is refused for it
abbrev pub MayWear : (many : ℕ) → State → Type 0
MayWear many s = (last_count < s.serial.count + many) ⊎ (last_count < s.head.number + many)

-- So far commands bring them; and where the mount is worn out, so many may use them up.
pub record UsesNumbers {D T : Type 0} (M : Ghosts D) (many : ℕ) (old new : State) (b : D) (result : Result T Halt) : Type 0 where
  pub grows : M.honest b → GoesUp many old new
  pub used : result ≡ Err (Stopped Ends.WornOut) → M.honest b → MayWear many old
