use Rattle.volume_laws.proofs.CacheLaws.{filled, knows_pages}
use Rattle.volume_laws.proofs.laws.pages_are_known.Goals as goal

pub returns-clause-knows : goal.returns-clause-knows
returns-clause-knows c = λ v k now whole short stands. knows_pages v k now whole stands short

pub returns-clause-filled : goal.returns-clause-filled
returns-clause-filled c = λ v k now cache whole stands dirty same clean. filled v k now whole stands cache dirty same clean
