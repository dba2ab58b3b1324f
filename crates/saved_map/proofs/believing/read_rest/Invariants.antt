use Rattle.std.proofs.Common.{None}
use Rattle.sector_disk.specs.Calls.{OnlyReads}
use Rattle.saved_map.specs.Reading.{TakesRest}
use Rattle.saved_map.proofs.believing.read_rest.Given as goal

abbrev pub invariant-loop-k : goal.invariant-loop-k
invariant-loop-k g l = let M = g.M.Machine in record {
  reads : OnlyReads M None l.initial.m l.m;
  took : TakesRest M l.l l.first l.initial.m l.m l.k l.map l.free_pages;
}
