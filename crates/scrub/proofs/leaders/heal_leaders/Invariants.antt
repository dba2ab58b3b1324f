use Rattle.std.proofs.Common.{◌≡◌, ◌≤◌, None}
use Rattle.sector_disk.specs.Calls.{WritesDisk}
use Rattle.sector_disk.specs.Machine.{wrote}
use Rattle.volume_layout.specs.Layout.{is_data}
use Rattle.fsd_files.specs.Disk.{Touches}
use Rattle.volume_contract.specs.State.{Known, Stands}
use Rattle.scrub.specs.Leading.{HasLed, LeavesLed}
use Rattle.scrub.proofs.leaders.heal_leaders.Given as goal

-- The leaders of the entries that were met are healed.
abbrev pub invariant-loop : goal.invariant-loop
invariant-loop g l = record {
  state : g.V.Files.state l.v ≡ g.V.Files.state l.fn.v;
  disk : WritesDisk g.M.Machine None (LeavesLed g.V.Files.state g.V.Files.holds l.fn.v) l.fn.m l.m;
  rest : g.M.Machine.honest l.m → Touches (is_data (g.V.Files.state l.fn.v).layout) (g.M.Machine.now l.fn.m) (g.M.Machine.now l.m);
  counted : g.M.Machine.tells l.m → g.M.Machine.ledger l.m ≡ wrote (g.M.Machine.ledger l.fn.m) l.count;
  few : l.count ≤ l.counter;
  led : g.M.Machine.honest l.m → (k : Known) → Stands g.V.Files.state g.V.Files.holds l.fn.v k (g.M.Machine.now l.fn.m) → HasLed g.V.Files.state g.V.Files.holds k l.v l.counter l.last l.count (g.M.Machine.now l.fn.m) (g.M.Machine.now l.m);
}
