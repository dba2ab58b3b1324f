use Rattle.std.proofs.Common.{◌≡◌, drop}
use Rattle.std.specs.List.{list_any, range_with_len}
use Rattle.run_table.specs.RunTable.{sectors_of}
use Rattle.run_table.specs.Space.{contains}
use Rattle.sector_set.proofs.meet.run_overlaps.Given as goal

abbrev pub invariant-loop-other : goal.invariant-loop-other
invariant-loop-other l = list_any (contains (sectors_of (drop l.other-index l.others))) (range_with_len l.run.start l.run.length) ≡ list_any (contains (sectors_of l.others)) (range_with_len l.run.start l.run.length)
