use Rattle.fsd_sound.proofs.LaidLaws.{own_worn}
use Rattle.fsd_sound.proofs.log_laws.own_logs_wear.Goals as goal

pub returns : goal.returns
returns c = λ l a weak rs h i j small fits low apart w own. own_worn l small a fits low weak apart i j w rs h own
