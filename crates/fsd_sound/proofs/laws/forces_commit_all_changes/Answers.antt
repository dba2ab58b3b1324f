use Rattle.fsd_sound.proofs.MountedLaws.{force_mounted, force_sound}
use Rattle.fsd_sound.proofs.laws.forces_commit_all_changes.Goals as goal

pub returns-clause-during : goal.returns-clause-during
returns-clause-during c = force_sound

pub returns-clause-done : goal.returns-clause-done
returns-clause-done c = force_mounted
