use Rattle.fsd_history.proofs.WordLaws.{all_plainly}
use Rattle.fsd_history.proofs.laws.puts_gets_and_lists_tell_files.Goals as goal

pub returns : goal.returns
returns g c s lives = all_plainly g.M.Machine lives s
