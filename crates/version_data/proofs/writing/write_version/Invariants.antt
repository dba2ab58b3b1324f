use Rattle.std.proofs.Common.{◌≡◌, None}
use Rattle.run_table.specs.RunTable.{sectors_of}
use Rattle.run_table.specs.Space.{contains}
use Rattle.sector_disk.specs.Calls.{WritesDisk}
use Rattle.sector_disk.specs.Machine.{Holds, wrote}
use Rattle.version_data.specs.Writing.{WritesIn, with_parts}
use Rattle.version_data.proofs.PlaceLaws.{LeftFrom}
use Rattle.version_data.proofs.writing.write_version.Given as goal

abbrev pub invariant-loop-run : goal.invariant-loop-run
invariant-loop-run g l = let M = g.M.Machine in let old = l.fn.m in record {
  left : LeftFrom l.entry.runs l.run-index l.before;
  calls : WritesDisk M None (WritesIn (contains (sectors_of l.entry.runs))) old l.m;
  counted : M.tells l.m → M.ledger l.m ≡ wrote (M.ledger old) l.before;
  holds : M.honest l.m → Holds (M.now old) (with_parts (M.now old).image l.entry l.bytes l.before) (M.now l.m);
}
