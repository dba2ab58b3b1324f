use Rattle.fsd_runs.proofs.RunLaws.{answered_alone, clients_stay}
use Rattle.fsd_runs.proofs.laws.a_volume_answers_alone.Goals as goal

pub returns-clause-answered : goal.returns-clause-answered
returns-clause-answered c = answered_alone

pub returns-clause-behind : goal.returns-clause-behind
returns-clause-behind c = clients_stay
