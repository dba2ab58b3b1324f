use Rattle.fsd_sound.proofs.BegunLaws.{begun_shows, begun_own}
use Rattle.fsd_sound.proofs.mount_laws.begun_disks_show.Goals as goal

pub returns-clause-shows : goal.returns-clause-shows
returns-clause-shows c = λ l windows epoch pages i narrow is. begun_shows l epoch pages i is windows narrow

pub returns-clause-own : goal.returns-clause-own
returns-clause-own c = λ l windows epoch pages i is. begun_own l epoch pages i is windows
