use Rattle.fsd_sound.proofs.MountedLaws.{change_mounted}
use Rattle.fsd_sound.proofs.laws.changes_wait_for_a_force.Goals as goal

pub returns : goal.returns
returns c = change_mounted
