use Rattle.fsd_runs.proofs.RunLaws.{run_follows}
use Rattle.fsd_runs.proofs.SessionLaws.{command_follows}
use Rattle.fsd_runs.proofs.laws.replies_tell_the_changes.Goals as goal

pub returns-clause-command : goal.returns-clause-command
returns-clause-command c = command_follows

pub returns-clause-run : goal.returns-clause-run
returns-clause-run c = run_follows
