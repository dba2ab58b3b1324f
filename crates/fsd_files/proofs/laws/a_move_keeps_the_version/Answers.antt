use Rattle.fsd_files.proofs.MoveLaws.{few_go, moved_count, new_there, old_gone}
use Rattle.fsd_files.proofs.laws.a_move_keeps_the_version.Goals as goal

pub returns-clause-there : goal.returns-clause-there
returns-clause-there c = new_there

pub returns-clause-away : goal.returns-clause-away
returns-clause-away c = old_gone

pub returns-clause-few : goal.returns-clause-few
returns-clause-few c = few_go

pub returns-clause-count : goal.returns-clause-count
returns-clause-count c = moved_count
