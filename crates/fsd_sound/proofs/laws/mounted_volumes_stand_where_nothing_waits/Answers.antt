use Rattle.fsd_sound.proofs.MountedLaws.{mounted_tells}
use Rattle.fsd_sound.proofs.laws.mounted_volumes_stand_where_nothing_waits.Goals as goal

pub returns : goal.returns
returns c = mounted_tells
