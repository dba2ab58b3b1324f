use Rattle.std.proofs.Common.{None, ◌<◌, ◌≤◌, ◌^◌, All, length}
use Rattle.volume_contract.specs.State.{Known, Stands, volume_of}
use Rattle.scrub.specs.Reading.{ReadsVolume}
use Rattle.volume_dump.specs.Weighing.{HasWeighed}
use Rattle.volume_dump.proofs.span.weigh_all.Given as goal

-- The entries that were met are weighed.
abbrev pub invariant-loop : goal.invariant-loop
invariant-loop g l = record {
  reads : ReadsVolume g.M.Machine g.V.Files.state g.V.Files.holds None l.fn.v l.v l.fn.m l.m;
  few : length l.weights.items ≤ l.counter;
  small : All (λ w. w.bytes < 2 ^ 22) l.weights.items;
  weighed : g.M.Machine.honest l.m → (k : Known) → Stands g.V.Files.state g.V.Files.holds l.fn.v k (g.M.Machine.now l.fn.m) → HasWeighed l.fn.since (volume_of k).entries l.counter l.last l.weights.items;
}
