use Rattle.std.proofs.Common.{◌≡◌, None}
use Rattle.sector_disk.specs.Calls.{WritesDisk}
use Rattle.sector_disk.specs.Machine.{Holds, wrote}
use Rattle.version_data.specs.Writing.{WritesIn}
use Rattle.volume_format.specs.Formatting.{head_to, row}
use Rattle.volume_format.proofs.formatting.write_head.Given as goal

abbrev pub invariant-loop-place : goal.invariant-loop-place
invariant-loop-place g l = let M = g.M.Machine in let old = l.fn.m in record {
  calls : WritesDisk M None (WritesIn (row 0 16)) old l.m;
  counted : M.tells l.m → M.ledger l.m ≡ wrote (M.ledger old) l.place-index;
  holds : M.honest l.m → Holds (M.now old) (head_to l.l (M.now old).image l.place-index) (M.now l.m);
}
