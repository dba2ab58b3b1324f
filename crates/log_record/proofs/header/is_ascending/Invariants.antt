use Rattle.std.proofs.Common.{◌≡◌, ◌-◌, drop}
use Rattle.fsd_formats.specs.Record.{ascending}
use Rattle.log_record.proofs.header.is_ascending.Given as goal

abbrev pub invariant-loop-k : goal.invariant-loop-k
invariant-loop-k l = ascending (drop (l.k - 1) l.pages) ≡ ascending l.pages
