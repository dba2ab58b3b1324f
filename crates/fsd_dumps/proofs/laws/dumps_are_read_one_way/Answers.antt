use Rattle.fsd_dumps.proofs.Ends.{one_reading, no_other_begun}
use Rattle.fsd_dumps.proofs.laws.dumps_are_read_one_way.Goals as goal

pub returns-clause-versions : goal.returns-clause-versions
returns-clause-versions c = one_reading

pub returns-clause-ends : goal.returns-clause-ends
returns-clause-ends c = no_other_begun
