use Rattle.std.proofs.Common.{◌≡◌, drop}
use Rattle.run_table.specs.RunTable.{sectors_of}
use Rattle.sector_set.specs.Meet.{meets}
use Rattle.sector_set.proofs.meet.overlap.Given as goal

abbrev pub invariant-loop-run : goal.invariant-loop-run
invariant-loop-run l = meets (sectors_of l.others) (drop l.run-index l.runs) ≡ meets (sectors_of l.others) l.runs
