use Rattle.volume_laws.specs.WearLaws.{stands_worn}
use Rattle.volume_laws.proofs.laws.volumes_wear.Goals as goal

pub returns : goal.returns
returns c = λ v k old new short ages stands. stands_worn v k old new short ages stands
