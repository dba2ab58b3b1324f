use Rattle.run_table.proofs.RunLaws.{read_runs_are_spelled, spelled_runs_are_read}
use Rattle.run_table.proofs.laws.runs_are_spelled.Goals as goal

pub returns-clause-found : goal.returns-clause-found
returns-clause-found c = read_runs_are_spelled

pub returns-clause-only : goal.returns-clause-only
returns-clause-only c = spelled_runs_are_read
