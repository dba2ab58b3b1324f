use Rattle.fsd_sound.proofs.MountedLaws.{mounted_sound}
use Rattle.fsd_sound.proofs.laws.mounted_volumes_are_sound.Goals as goal

pub returns : goal.returns
returns c = mounted_sound
