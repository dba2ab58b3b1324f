use Rattle.fsd_files.proofs.ListingLaws.{deletes_listed, keeps_listed, moves_listed, puts_listed, loads_listed}
use Rattle.fsd_files.proofs.laws.entries_list_the_files.Goals as goal

pub returns-clause-puts : goal.returns-clause-puts
returns-clause-puts c = puts_listed

pub returns-clause-deletes : goal.returns-clause-deletes
returns-clause-deletes c = deletes_listed

pub returns-clause-keeps : goal.returns-clause-keeps
returns-clause-keeps c = keeps_listed

pub returns-clause-moves : goal.returns-clause-moves
returns-clause-moves c = moves_listed

pub returns-clause-loads : goal.returns-clause-loads
returns-clause-loads c = loads_listed
