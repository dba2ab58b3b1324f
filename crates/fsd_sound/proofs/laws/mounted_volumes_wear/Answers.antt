use Rattle.fsd_sound.proofs.MountedWearLaws.{mounted_still}
use Rattle.fsd_sound.proofs.laws.mounted_volumes_wear.Goals as goal

pub returns : goal.returns
returns c = λ m windows h f i j small apart w is. mounted_still m windows h f i j small apart w is
