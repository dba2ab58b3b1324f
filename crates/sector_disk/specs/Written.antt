-- How many sectors calls have written.
use Rattle.std.specs.Prelude.{◌≤◌, ℕ, ◌+◌}
use Rattle.sector_disk.specs.Machine.{Ledger}

-- So many sectors are counted as written at most.
pub record WroteMost (most : ℕ) (old new : Ledger) : Type 0 where
  pub no_fewer : old.written ≤ new.written
  pub no_more : new.written ≤ old.written + most
