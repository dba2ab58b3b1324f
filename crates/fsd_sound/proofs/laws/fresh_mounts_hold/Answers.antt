use Rattle.fsd_sound.proofs.MountedLaws.{fresh_mounted}
use Rattle.fsd_sound.proofs.laws.fresh_mounts_hold.Goals as goal

pub returns : goal.returns
returns c = fresh_mounted
