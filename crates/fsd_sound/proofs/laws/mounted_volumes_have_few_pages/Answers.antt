use Rattle.fsd_sound.proofs.MountedLaws.{mounted_reach}
use Rattle.fsd_sound.proofs.laws.mounted_volumes_have_few_pages.Goals as goal

pub returns : goal.returns
returns c = mounted_reach
