use Rattle.std.proofs.Common.{◌≡◌, ◌-◌, ◌≤◌, None, length}
use Rattle.run_table.specs.Space.{contains}
use Rattle.sector_disk.specs.Calls.{WritesDisk}
use Rattle.sector_disk.specs.Machine.{Holds, wrote}
use Rattle.version_data.specs.Writing.{WritesIn, slices_at, slices_laid}
use Rattle.version_data.proofs.slices.write_slices.Given as goal

abbrev pub decreases-loop-done : goal.decreases-loop-done
decreases-loop-done g l = l.count - l.done

abbrev pub invariant-loop-done : goal.invariant-loop-done
invariant-loop-done g l = let M = g.M.Machine in let old = l.fn.m in record {
  within : l.done ≤ l.count;
  calls : WritesDisk M None (WritesIn (contains (slices_at l.runs l.first (length l.bytes)))) old l.m;
  counted : M.tells l.m → M.ledger l.m ≡ wrote (M.ledger old) l.done;
  holds : M.honest l.m → Holds (M.now old) (slices_laid (M.now old).image l.runs l.first l.bytes l.done) (M.now l.m);
}
