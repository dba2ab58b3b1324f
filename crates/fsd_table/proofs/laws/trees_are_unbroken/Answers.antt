use Rattle.fsd_table.proofs.BreakLaws.{tree_unbroken}
use Rattle.fsd_table.proofs.laws.trees_are_unbroken.Goals as goal

pub returns : goal.returns
returns c = tree_unbroken
