use Rattle.fsd_forest.proofs.LowLaws.{trees_are_low}
use Rattle.fsd_forest.proofs.ShrinkLaws.{trees_shrink}
use Rattle.fsd_forest.proofs.TreeLaws.{trees_become, trees_grow}
use Rattle.fsd_forest.proofs.laws.trees_follow.Goals as goal

pub returns : goal.returns
returns c = record { trees_become = trees_become; trees_grow = trees_grow; trees_shrink = trees_shrink; trees_are_low = trees_are_low }
