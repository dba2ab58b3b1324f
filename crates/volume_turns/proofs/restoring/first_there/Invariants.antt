use Rattle.std.proofs.Common.{◌≡◌, ℕ, List, None, drop, map}
use Rattle.sector_disk.specs.Calls.{OnlyReads}
use Rattle.dump_text.specs.Items.{dumped}
use Rattle.fsd_runs.specs.Dumps.{first_there}
use Rattle.volume_contract.specs.State.{Known, Stands, volume_of}
use Rattle.volume_turns.proofs.restoring.first_there.Given as goal

-- What is left to look up tells which is there.
abbrev pub invariant-loop-place : goal.invariant-loop-place
invariant-loop-place g l = record {
  still : g.V.Files.state l.v ≡ g.V.Files.state l.fn.v;
  disk : OnlyReads g.M.Machine None l.fn.m l.m;
  stands : g.M.Machine.honest l.m → (k : Known) → Stands g.V.Files.state g.V.Files.holds l.fn.v k (g.M.Machine.now l.fn.m) → Stands g.V.Files.state g.V.Files.holds l.v k (g.M.Machine.now l.m);
  left : g.M.Machine.honest l.m → (bytes : List ℕ) (k : Known) → Stands g.V.Files.state g.V.Files.holds l.fn.v k (g.M.Machine.now l.fn.m) →
      first_there (map (dumped bytes) l.items) (volume_of k).entries ≡ first_there (map (dumped bytes) (drop l.place l.items)) (volume_of k).entries;
}
