use Rattle.std.proofs.Common.{None, ◌≤◌}
use Rattle.volume_contract.specs.State.{Known, Stands, volume_of}
use Rattle.scrub.specs.Looking.{AreDamaged}
use Rattle.scrub.specs.Reading.{ReadsVolume}
use Rattle.volume_dump.specs.Surveying.{HasSurveyed}
use Rattle.volume_dump.proofs.survey.survey_all.Given as goal

-- The entries that were met are surveyed.
abbrev pub invariant-loop : goal.invariant-loop
invariant-loop g l = record {
  reads : ReadsVolume g.M.Machine g.V.Files.state g.V.Files.holds None l.fn.v l.v l.fn.m l.m;
  damaged : g.M.Machine.honest l.m → AreDamaged (g.V.Files.state l.fn.v).layout (g.M.Machine.now l.m).image l.found.items;
  few : l.so_far.chosen ≤ l.counter;
  surveyed : g.M.Machine.honest l.m → (k : Known) → Stands g.V.Files.state g.V.Files.holds l.fn.v k (g.M.Machine.now l.fn.m) → HasSurveyed l.fn.span (volume_of k).entries l.counter l.last (g.M.Machine.now l.fn.m).image (g.M.Machine.now l.m).image l.so_far l.found.items;
}
