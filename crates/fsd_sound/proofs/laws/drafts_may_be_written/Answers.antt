use Rattle.fsd_sound.proofs.MountedLaws.{may_be_written}
use Rattle.fsd_sound.proofs.laws.drafts_may_be_written.Goals as goal

pub returns : goal.returns
returns c = may_be_written
