use Rattle.fsd_runs.proofs.LeaveLaws.{replied_held}
use Rattle.fsd_runs.proofs.laws.replied_runs_go_on.Goals as goal

pub returns : goal.returns
returns c = replied_held
