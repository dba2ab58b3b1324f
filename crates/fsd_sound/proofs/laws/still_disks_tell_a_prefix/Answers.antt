use Rattle.fsd_sound.proofs.StillLaws.{tells_prefix, prefix_sound}
use Rattle.fsd_sound.proofs.laws.still_disks_tell_a_prefix.Goals as goal

pub returns-clause-sound : goal.returns-clause-sound
returns-clause-sound c = tells_prefix

pub returns-clause-prefix : goal.returns-clause-prefix
returns-clause-prefix c = prefix_sound
