use Rattle.std.proofs.Common.{None}
use Rattle.volume_contract.specs.State.{Known, Stands, volume_of}
use Rattle.scrub.specs.Reading.{ReadsVolume}
use Rattle.volume_turns.specs.Listing.{AreListed}
use Rattle.volume_turns.specs.Reasons.{ComeBehind}
use Rattle.volume_turns.proofs.ReasonLaws.{HasMet}
use Rattle.volume_turns.proofs.listing.collect.Given as goal

-- The entries that were met are listed, and nothing is changed.
abbrev pub invariant-loop : goal.invariant-loop
invariant-loop g l = record {
  reads : ReadsVolume g.M.Machine g.V.Files.state g.V.Files.holds None l.fn.v l.v l.fn.m l.m;
  met : HasMet (λ met. g.M.Machine.honest l.m → ComeBehind g.V.Files.state g.V.Files.resident (g.V.Files.state l.fn.v) (g.V.Files.state l.fn.v) (g.M.Machine.now l.fn.m) (g.M.Machine.now l.m) None met) l.fn.pattern l.counter l.last l.entries.items;
  listed : g.M.Machine.honest l.m → (k : Known) → Stands g.V.Files.state g.V.Files.holds l.fn.v k (g.M.Machine.now l.fn.m) → AreListed l.fn.pattern (volume_of k).entries l.counter l.last l.entries.items;
}
