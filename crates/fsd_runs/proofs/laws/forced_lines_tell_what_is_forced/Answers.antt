use Rattle.std.proofs.Common.{refl}
use Rattle.fsd_runs.specs.Errands.{scripted}
use Rattle.fsd_runs.proofs.RunLaws.{told_is_forced}
use Rattle.fsd_runs.proofs.laws.forced_lines_tell_what_is_forced.Goals as goal

pub returns : goal.returns
returns c = λ script xs s commands. told_is_forced (scripted script) (λ r. refl) xs s commands
