use Rattle.fsd_runs.proofs.LeaveLaws.{left_stays}
use Rattle.fsd_runs.proofs.laws.stops_leave_sound_disks.Goals as goal

pub returns : goal.returns
returns c = left_stays
