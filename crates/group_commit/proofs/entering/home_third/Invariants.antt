use Rattle.std.proofs.Common.{◌≡◌, ◌*◌, ◌-◌, ◌≤◌, ℕ, List, None, take}
use Rattle.std.specs.Prelude.{count_by}
use Rattle.volume_layout.specs.Layout.{third_start}
use Rattle.sector_disk.specs.declared.sector.WeakRun.{WeakRun}
use Rattle.sector_disk.specs.Calls.{WritesDisk}
use Rattle.sector_disk.specs.Machine.{wrote}
use Rattle.fsd_log.specs.Scan.{Placed}
use Rattle.fsd_log.specs.Slots.{lies_in}
use Rattle.group_commit.specs.Entering.{ShowsStill, OwnsLog, IsHoming, MayHome}
use Rattle.group_commit.specs.Force.{KeepsOutside}
use Rattle.group_commit.proofs.entering.home_third.Given as goal

abbrev pub invariant-loop-page : goal.invariant-loop-page
invariant-loop-page g l = let M = g.M.Machine in let old = l.fn.m in record {
  inside : l.from ≤ l.log.layout.pages;
  disk : WritesDisk g.M.Machine None (ShowsStill l.log) old l.m;
  counted : M.tells l.m → M.ledger l.m ≡ wrote (M.ledger old) (2 * count_by (lies_in (third_start l.log.layout l.log.anchor.third) l.log.layout.third) (take l.from l.log.slots));
  rest : M.honest l.m → KeepsOutside l.log.layout (M.now old) (M.now l.m);
  homing : (records : List Placed) (disk : List (List ℕ)) (windows : List WeakRun) → M.honest l.m → MayHome l.log windows (M.now old) → OwnsLog l.log records disk windows (M.now old).image → IsHoming l.log records disk windows (M.now old) l.from (M.now l.m);
}

abbrev pub decreases-loop-page : goal.decreases-loop-page
decreases-loop-page g l = l.log.layout.pages - l.from
