use Rattle.std.proofs.Common.{None, Ok}
use Rattle.std.specs.Prelude.{Result}
use Rattle.fsd_bytes.specs.declared.refusal.Refusal.{Refusal}
use Rattle.scrub.specs.Looking.{Adds}
use Rattle.scrub.specs.Reading.{ReadsVolume}
use Rattle.scrub.proofs.LookLaws.{first_data}
use Rattle.scrub.proofs.data.look_through.Given as goal

-- The first slices were looked at.
abbrev pub invariant-loop-slice : goal.invariant-loop-slice
invariant-loop-slice g l = record {
  reads : ReadsVolume g.M.Machine g.V.Files.state g.V.Files.holds None l.fn.v l.v l.fn.m l.m;
  adds : g.M.Machine.honest l.m → (let done : Result (Unit {0}) Refusal = Ok tt in Adds (g.M.Machine.now l.fn.m).image (g.M.Machine.now l.m).image (first_data l.fn.e l.slice) l.fn.found.items l.found.items done);
}
