use Rattle.std.proofs.Common.{ℕ, ◌+◌, ◌≤◌, List, None}
use Rattle.sector_disk.specs.declared.sector.WeakRun.{WeakRun}
use Rattle.sector_disk.specs.Calls.{HealsDisk}
use Rattle.sector_disk.specs.Machine.{LeavesOnly, Moment}
use Rattle.fsd_log.specs.Scan.{Placed}
use Rattle.fsd_files.specs.Disk.{Image}
use Rattle.log_thirds.specs.Append.{IsCalmNow}
use Rattle.mount_recover.specs.Showing.{GivesPages, IsShowing}
use Rattle.mount_recover.specs.Mending.{AreHomed, IsCompleted, IsMending, StaysShown, KeepsUnwritten, logged_count}
use Rattle.mount_recover.proofs.mending.write_homes.Given as goal

abbrev pub invariant-loop-page : goal.invariant-loop-page
invariant-loop-page g l = let M = g.M.Machine in let old = l.fn.m in record {
  disk : HealsDisk M None old l.m;
  most : M.tells l.m → (M.ledger l.m).written ≤ (M.ledger old).written + logged_count l.log l.page;
  grows : M.tells l.m → (M.ledger old).written ≤ (M.ledger l.m).written;
  keeps : M.honest l.m → KeepsUnwritten l.l (M.now old) (M.now l.m);
  homes : M.honest l.m → AreHomed l.l l.log l.start 0 (M.now old) → AreHomed l.l l.log (l.start + l.page) 0 (M.now l.m);
  mending : (windows : List WeakRun) (choices : List (List (List ℕ))) (first : Moment) (c : IsCompleted l.l windows choices l.log first) → M.honest l.m → IsMending l.l windows choices l.log first c l.start 0 (M.now old) → IsMending l.l windows choices l.log first c (l.start + l.page) 0 (M.now l.m);
  showing : (records : List Placed) (first : Image) → M.honest l.m → IsCalmNow (M.now old) → GivesPages l.log records first → IsShowing l.l records first l.start (M.now old).image → IsShowing l.l records first (l.start + l.page) (M.now l.m).image;
  moments : (windows : List WeakRun) (choices : List (List (List ℕ))) (first : Moment) (c : IsCompleted l.l windows choices l.log first) → M.honest l.m → IsMending l.l windows choices l.log first c l.start 0 (M.now old) → LeavesOnly M.moment M.left_since old l.m (StaysShown l.l windows choices first);
}
