use Rattle.std.proofs.Common.{◌≡◌, take}
use Rattle.std.specs.List.{flat_map}
use Rattle.fsd_runs.specs.Commands.{version_text}
use Rattle.cfs_program.proofs.replies.versions_text.Given as goal

abbrev pub invariant-loop-e : goal.invariant-loop-e
invariant-loop-e l = l.said ≡ flat_map (λ e. version_text e.key e.length e.keep) (take l.e-index l.entries)
