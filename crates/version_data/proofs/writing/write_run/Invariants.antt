use Rattle.std.proofs.Common.{◌≡◌, ◌+◌, ◌-◌, ◌≤◌, None, length}
use Rattle.sector_disk.specs.Calls.{WritesDisk}
use Rattle.sector_disk.specs.Image.{in_weak_run, lay}
use Rattle.sector_disk.specs.Machine.{Holds, wrote}
use Rattle.sector_disk.specs.declared.sector.Sector.TheVariants.{Whole}
use Rattle.version_data.specs.Writing.{WritesIn, part_of}
use Rattle.version_data.proofs.writing.write_run.Given as goal

abbrev pub decreases-loop-done : goal.decreases-loop-done
decreases-loop-done g l = l.run.length - l.done

abbrev pub invariant-loop-done : goal.invariant-loop-done
invariant-loop-done g l = let M = g.M.Machine in let old = l.fn.m in record {
  within : l.done ≤ l.run.length;
  size : length l.row ≡ 32768;
  calls : WritesDisk M None (WritesIn (in_weak_run (record { first = l.run.start; count = l.run.length }))) old l.m;
  counted : M.tells l.m → M.ledger l.m ≡ wrote (M.ledger old) l.done;
  holds : M.honest l.m → Holds (M.now old) (lay (M.now old).image l.run.start (λ j. Whole (part_of l.leader l.bytes (l.before + j))) l.done) (M.now l.m);
}
