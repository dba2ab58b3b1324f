use Rattle.std.proofs.Common.{◌≡◌, None}
use Rattle.sector_disk.specs.Calls.{WritesDisk}
use Rattle.sector_disk.specs.Machine.{Holds, wrote}
use Rattle.saved_map.specs.Saving.{SavesIn, saved, with_map}
use Rattle.saved_map.proofs.writing.save_map.Given as goal

abbrev pub invariant-loop-k : goal.invariant-loop-k
invariant-loop-k g l = let M = g.M.Machine in let old = l.fn.m in record {
  writes : WritesDisk M None (SavesIn l.l (saved l.l l.map l.free_pages l.epoch l.versions)) old l.m;
  counted : M.tells l.m → M.ledger l.m ≡ wrote (M.ledger old) l.k;
  holds : M.honest l.m → Holds (M.now old) (with_map l.l (saved l.l l.map l.free_pages l.epoch l.versions) (M.now old).image l.k) (M.now l.m);
}
