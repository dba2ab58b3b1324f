use Rattle.fsd_runs.proofs.SessionLaws.{some_answer}
use Rattle.fsd_runs.proofs.laws.each_command_has_an_answer.Goals as goal

pub returns : goal.returns
returns c = some_answer
