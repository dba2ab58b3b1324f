use Rattle.std.proofs.Common.{◌≡◌, ◌≤◌, None}
use Rattle.sector_disk.specs.Calls.{WritesDisk}
use Rattle.sector_disk.specs.Machine.{wrote}
use Rattle.twin_home.specs.Twins.{CountsHomes, HealsPages, HomesStand}
use Rattle.twin_home.proofs.twins.heal_pages.Given as goal

abbrev pub invariant-loop-page : goal.invariant-loop-page
invariant-loop-page g l = let M = g.M.Machine in let old = l.fn.m in record {
  disk : WritesDisk M None (HealsPages l.l l.page) old l.m;
  few : l.count ≤ l.page;
  counted : M.tells l.m → M.ledger l.m ≡ wrote (M.ledger old) l.count;
  healed : M.honest l.m → CountsHomes l.l l.page (M.now old) l.count;
  mended : M.honest l.m → HomesStand l.l l.page (M.now l.m);
}
