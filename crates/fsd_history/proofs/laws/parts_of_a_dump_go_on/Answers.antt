use Rattle.fsd_history.proofs.PartLaws.{part_has_each, part_has_once, part_has_one}
use Rattle.fsd_history.proofs.laws.parts_of_a_dump_go_on.Goals as goal

pub returns-clause-each : goal.returns-clause-each
returns-clause-each c since most entries = part_has_each since most entries

pub returns-clause-once : goal.returns-clause-once
returns-clause-once c since most entries = part_has_once since most entries

pub returns-clause-last : goal.returns-clause-last
returns-clause-last c since most entries = part_has_one since most entries
