use Rattle.std.proofs.Common.{◌≡◌, drop}
use Rattle.run_table.specs.RunTable.{sectors_of}
use Rattle.shadow_frees.proofs.readers.are_in.Given as goal

abbrev pub invariant-loop-run : goal.invariant-loop-run
invariant-loop-run l = sectors_of (drop l.run-index l.runs) ≡ sectors_of l.runs
