use Rattle.fsd_forest.proofs.ForestLaws.{leaves_become, widens, follows, remains}
use Rattle.fsd_forest.proofs.RiseLaws.{rises}
use Rattle.fsd_forest.proofs.laws.forests_follow.Goals as goal

pub returns : goal.returns
returns c = record { leaves_become = leaves_become; widens = widens; rises = rises; follows = follows; remains = remains }
