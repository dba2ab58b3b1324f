-- How many sectors calls count, one after another.
use Rattle.std.proofs.Common.{◌≡◌, ℕ, ◌+◌, Result, Ok, Err, arith}
use Rattle.sector_disk.specs.Machine.{Ledger}
use Rattle.volume_contract.specs.State.{Counted}

-- two calls, of which the first has answered
pub counted_then : {T E : Type 0} (r : Result T E) (n m : ℕ) (a b c : Ledger) → b.written ≡ a.written + n → Counted r m b c → Counted r (n + m) a c
counted_then (Ok x) n m a b c first second = omega (arith, first, second)
counted_then (Err why) n m a b c first second = (omega (arith, first, second.0), omega (arith, first, second.1))
