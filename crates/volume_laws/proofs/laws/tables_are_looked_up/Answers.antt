use Rattle.volume_laws.proofs.TableLaws.{found_behind, found_with, not_spare, unbroken}
use Rattle.volume_laws.proofs.laws.tables_are_looked_up.Goals as goal

pub returns-clause-entry : goal.returns-clause-entry
returns-clause-entry c = λ v k now key whole stands. found_with v k now whole stands key

pub returns-clause-next : goal.returns-clause-next
returns-clause-next c = λ v k now after whole stands. found_behind v k now whole stands after

pub returns-clause-unbroken : goal.returns-clause-unbroken
returns-clause-unbroken c = λ v k now page whole stands broken. unbroken v k now whole stands page broken

pub returns-clause-used : goal.returns-clause-used
returns-clause-used c = λ v k now visit whole stands reached. not_spare v k now whole stands visit reached
