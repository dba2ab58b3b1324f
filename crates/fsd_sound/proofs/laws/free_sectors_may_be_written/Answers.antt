use Rattle.fsd_sound.proofs.MountedLaws.{still_mounted}
use Rattle.fsd_sound.proofs.laws.free_sectors_may_be_written.Goals as goal

pub returns : goal.returns
returns c = still_mounted
