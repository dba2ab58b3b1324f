use Rattle.fsd_history.specs.History.{HasShown}
use Rattle.fsd_history.proofs.WordLaws.{list_says}
use Rattle.fsd_history.proofs.laws.lists_say_the_files.Goals as goal

pub returns : goal.returns
returns g c m = list_says (HasShown g.M.Machine m)
