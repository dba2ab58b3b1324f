use Rattle.log_thirds.proofs.AnchorLaws.{third_read, first_read, epoch_read}
use Rattle.log_thirds.proofs.anchors.read_copy.Goals as goal

pub returns-in-Some-clause-third : goal.returns-in-Some-clause-third
returns-in-Some-clause-third g c = third_read c.in-Some.sector c.read_anchor.result c.read_anchor.ensures.read

pub returns-in-Some-clause-first : goal.returns-in-Some-clause-first
returns-in-Some-clause-first g c = first_read c.in-Some.sector c.read_anchor.result c.read_anchor.ensures.read

pub returns-in-Some-clause-epoch : goal.returns-in-Some-clause-epoch
returns-in-Some-clause-epoch g c = epoch_read c.in-Some.sector c.read_anchor.result c.read_anchor.ensures.read
