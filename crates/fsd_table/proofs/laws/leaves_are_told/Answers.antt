use Rattle.fsd_table.proofs.OneLeafLaws.{leaf_told, one_is_leaf}
use Rattle.fsd_table.proofs.laws.leaves_are_told.Goals as goal

pub returns-clause-leaf : goal.returns-clause-leaf
returns-clause-leaf c pages entries at = leaf_told pages entries at

pub returns-clause-one : goal.returns-clause-one
returns-clause-one c pages t told one = one_is_leaf pages t told one
