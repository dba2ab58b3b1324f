use Rattle.fsd_sound.proofs.MountedLaws.{two_wait}
use Rattle.fsd_sound.proofs.laws.two_changes_wait_where_many_pages_do.Goals as goal

pub returns : goal.returns
returns c = two_wait
