use Rattle.volume_layout.proofs.RootLaws.{root_is_spelled, planned_root_is_read}
use Rattle.volume_layout.proofs.laws.roots_are_spelled.Goals as goal

pub returns-clause-found : goal.returns-clause-found
returns-clause-found c = root_is_spelled

pub returns-clause-only : goal.returns-clause-only
returns-clause-only c = planned_root_is_read
