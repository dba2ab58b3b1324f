use Rattle.version_table.proofs.MoveLaws.{gone_move, keeps_move}
use Rattle.version_table.proofs.laws.moves_are_those_of_files.Goals as goal

pub returns-clause-keep : goal.returns-clause-keep
returns-clause-keep c = keeps_move

pub returns-clause-gone : goal.returns-clause-gone
returns-clause-gone c = gone_move
