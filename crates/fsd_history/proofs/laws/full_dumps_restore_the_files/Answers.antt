use Rattle.fsd_history.specs.History.{HasShown}
use Rattle.fsd_history.proofs.DumpLaws.{full_restored}
use Rattle.fsd_history.proofs.laws.full_dumps_restore_the_files.Goals as goal

pub returns : goal.returns
returns g c m other = full_restored (HasShown g.M.Machine m) (HasShown g.M.Machine other)
