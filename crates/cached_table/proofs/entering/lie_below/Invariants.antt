use Rattle.std.specs.Prelude.{◌<◌}
use Rattle.sector_set.proofs.EachLaws.{AreOwn, Passed}
use Rattle.cached_table.proofs.entering.lie_below.Given as goal

abbrev pub invariant-loop-run : goal.invariant-loop-run
invariant-loop-run l = record {
  passed : Passed (λ s. s < l.end) l.runs l.run-index;
  own : AreOwn l.runs l.run-index;
}
