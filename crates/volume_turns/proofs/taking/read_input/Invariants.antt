use Rattle.std.proofs.Common.{◌≤◌, false, length}
use Rattle.sector_disk.specs.Calls.{LeavesDisk}
use Rattle.sector_disk.specs.Machine.{Wears}
use Rattle.fsd_texts.specs.Script.{max_input}
use Rattle.volume_turns.specs.Syncs.{OnlyTakes}
use Rattle.volume_turns.proofs.TakingLaws.{SoFar}
use Rattle.volume_turns.proofs.taking.read_input.Given as goal

-- these bytes were taken, each turn some
abbrev pub invariant-loop : goal.invariant-loop
invariant-loop g l =
    let M = g.M.Machine in
    record {
      calls : LeavesDisk M false false Wears l.fn.m l.m;
      taken : M.tells l.m → SoFar (M.ledger l.fn.m) (M.ledger l.m) l.bytes;
      takes : M.tells l.m → OnlyTakes (M.ledger l.fn.m) (M.ledger l.m);
      turns : l.counter ≤ length l.bytes;
      most : length l.bytes ≤ max_input;
    }
