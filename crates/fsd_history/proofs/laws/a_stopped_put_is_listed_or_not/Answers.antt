use Rattle.fsd_history.proofs.WordLaws.{put_listed}
use Rattle.fsd_history.proofs.laws.a_stopped_put_is_listed_or_not.Goals as goal

pub returns : goal.returns
returns g c name keep = put_listed g.M.Machine name keep
