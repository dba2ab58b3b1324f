use Rattle.fsd_history.specs.History.{HasShown}
use Rattle.fsd_history.proofs.WordLaws.{get_says}
use Rattle.fsd_history.proofs.laws.gets_say_the_version.Goals as goal

pub returns : goal.returns
returns g c m = get_says (HasShown g.M.Machine m)
