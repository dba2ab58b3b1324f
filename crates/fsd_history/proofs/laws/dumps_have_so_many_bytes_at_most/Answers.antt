use Rattle.fsd_history.specs.History.{HasShown}
use Rattle.fsd_history.proofs.DumpLaws.{dump_fits}
use Rattle.fsd_history.proofs.laws.dumps_have_so_many_bytes_at_most.Goals as goal

pub returns : goal.returns
returns g c m = dump_fits (HasShown g.M.Machine m)
