use Rattle.std.proofs.Common.{◌≡◌, List, None}
use Rattle.fsd_formats.specs.declared.entry.Entry.{Entry}
use Rattle.sector_disk.specs.Calls.{OnlyReads}
use Rattle.volume_contract.specs.State.{Known, Stands, volume_of}
use Rattle.scrub.specs.Walk.{IsWalked}
use Rattle.volume_example.proofs.walking.count.Given as goal

-- The entries that were met are the first ones, and nothing is changed.
abbrev pub invariant-loop-count : goal.invariant-loop-count
invariant-loop-count g l = record {
  state : g.V.Files.state l.v ≡ g.V.Files.state l.fn.v;
  disk : OnlyReads g.M.Machine None l.fn.m l.m;
  stands : g.M.Machine.honest l.m → (k : Known) → Stands g.V.Files.state g.V.Files.holds l.fn.v k (g.M.Machine.now l.fn.m) → Stands g.V.Files.state g.V.Files.holds l.v k (g.M.Machine.now l.m);
  walked : g.M.Machine.honest l.m → (k : Known) → Stands g.V.Files.state g.V.Files.holds l.fn.v k (g.M.Machine.now l.fn.m) → (front : List Entry) × IsWalked (volume_of k).entries front l.count l.last;
}
