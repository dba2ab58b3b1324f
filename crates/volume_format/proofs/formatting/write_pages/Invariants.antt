use Rattle.std.proofs.Common.{◌≡◌, None}
use Rattle.sector_disk.specs.Calls.{WritesDisk}
use Rattle.sector_disk.specs.Machine.{Holds, wrote}
use Rattle.version_data.specs.Writing.{WritesIn}
use Rattle.volume_format.specs.Formatting.{row, with_pages}
use Rattle.volume_format.proofs.formatting.write_pages.Given as goal

abbrev pub invariant-loop-page : goal.invariant-loop-page
invariant-loop-page g l = let M = g.M.Machine in let old = l.fn.m in record {
  calls : WritesDisk M None (WritesIn (row l.first l.pages)) old l.m;
  counted : M.tells l.m → M.ledger l.m ≡ wrote (M.ledger old) l.page;
  holds : M.honest l.m → Holds (M.now old) (with_pages (M.now old).image l.first l.page) (M.now l.m);
}
