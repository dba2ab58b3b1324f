use Rattle.std.proofs.Common.{◌-◌}
use Rattle.fsd_table.specs.Table.{top}
use Rattle.fsd_table.proofs.BoundLaws.{entries_ascend}
use Rattle.fsd_table.proofs.VisitLaws.{tree_told}
use Rattle.fsd_table.proofs.laws.trees_are_told.Goals as goal

pub returns-clause-ascending : goal.returns-clause-ascending
returns-clause-ascending c = λ pages height t. entries_ascend (height - 1) pages top t.subtree

pub returns-clause-told : goal.returns-clause-told
returns-clause-told c = tree_told
