use Rattle.std.proofs.Common.{◌≡◌, ◌+◌, ◌-◌, ◌≤◌, ℕ, List, None, drop, length}
use Rattle.sector_disk.specs.Calls.{OnlyReads}
use Rattle.fsd_files.specs.Disk.{Sectors}
use Rattle.fsd_files.specs.Kept.{KeptIn}
use Rattle.version_data.proofs.RangeLaws.{WholeTo, FrontStands}
use Rattle.version_data.proofs.reading.read_range.Given as goal

abbrev pub decreases-loop-done : goal.decreases-loop-done
decreases-loop-done g l = l.n - l.done

abbrev pub invariant-loop-done : goal.invariant-loop-done
invariant-loop-done g l = let M = g.M.Machine in let old = l.fn.m in record {
  within : l.done ≤ l.n;
  calls : OnlyReads M None old l.m;
  whole : M.honest l.m → WholeTo (M.now old).image l.runs l.from (l.from + l.done);
  front : M.honest l.m → (bytes : List ℕ) (hurt : Sectors) → KeptIn (M.now old).image hurt bytes l.runs → l.from + l.n ≤ length bytes → FrontStands bytes l.from l.done l.buf;
  behind : drop l.done l.buf ≡ drop l.done l.fn.buf;
}
