use Rattle.fsd_table.proofs.TreeLaws.{told_tree}
use Rattle.fsd_table.proofs.laws.what_is_told_is_a_tree.Goals as goal

pub returns : goal.returns
returns c = told_tree
