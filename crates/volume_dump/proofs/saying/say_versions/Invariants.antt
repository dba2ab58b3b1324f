use Rattle.std.proofs.Common.{None, false}
use Rattle.std.specs.Prelude.{⊤}
use Rattle.volume_contract.specs.State.{Known, Stands, volume_of}
use Rattle.volume_dump.specs.Saying.{HasSaid, LeavesSaying, SaysVolume}
use Rattle.volume_dump.proofs.RowLaws.{all_said}
use Rattle.volume_dump.proofs.saying.say_versions.Given as goal

-- The entries that were met are said, as far as they are chosen.
abbrev pub invariant-loop : goal.invariant-loop
invariant-loop g l = record {
  says : SaysVolume g.M.Machine g.V.Files.state g.V.Files.holds None false (LeavesSaying g.V.Files.state g.V.Files.holds l.fn.v (λ k. ⊤) (all_said l.fn.span)) l.fn.v l.v l.fn.m l.m;
  said : g.M.Machine.honest l.m → (k : Known) → Stands g.V.Files.state g.V.Files.holds l.fn.v k (g.M.Machine.now l.fn.m) → HasSaid l.fn.span (volume_of k) l.counter l.last (g.M.Machine.now l.fn.m) (g.M.Machine.now l.m);
}
