use Rattle.fsd_sound.proofs.MountedLaws.{drawn_mounted}
use Rattle.fsd_sound.proofs.laws.serials_may_be_drawn.Goals as goal

pub returns : goal.returns
returns c = drawn_mounted
