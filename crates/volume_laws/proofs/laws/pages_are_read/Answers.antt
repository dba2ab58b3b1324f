use Rattle.volume_laws.proofs.PageLaws.{never_lost, page_read}
use Rattle.volume_laws.proofs.TableLaws.{pages_read}
use Rattle.volume_laws.proofs.laws.pages_are_read.Goals as goal

pub returns-clause-newest : goal.returns-clause-newest
returns-clause-newest c = λ v k now page whole cache stands within. page_read v k now whole stands page within cache

pub returns-clause-never_lost : goal.returns-clause-never_lost
returns-clause-never_lost c = λ v k now page a b whole stands within copies first second. never_lost v k now whole stands page within a b first second copies

pub returns-clause-all : goal.returns-clause-all
returns-clause-all c = λ v k now whole cache stands. pages_read v k now whole stands cache
