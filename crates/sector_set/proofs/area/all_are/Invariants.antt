use Rattle.sector_set.specs.Area.{IsThere}
use Rattle.sector_set.proofs.EachLaws.{Passed, AreOwn}
use Rattle.sector_set.proofs.area.all_are.Given as goal

abbrev pub invariant-loop-run : goal.invariant-loop-run
invariant-loop-run l = record {
  passed : Passed (IsThere l.from l.set l.wanted) l.runs l.run-index;
  own : AreOwn l.runs l.run-index;
}
