use Rattle.fsd_history.proofs.PartLaws.{parts_have_once}
use Rattle.fsd_history.proofs.laws.parts_of_a_dump_have_each_version_once.Goals as goal

pub returns : goal.returns
returns c since most entries = parts_have_once since most entries
