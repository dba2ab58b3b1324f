use Rattle.fsd_history.proofs.HistoryLaws.{formatted_tell}
use Rattle.fsd_history.proofs.laws.runs_tell_files.Goals as goal

pub returns : goal.returns
returns g c n t p q kind path a b left lives honest ran held are = formatted_tell g.M.Machine n t p q kind path a b left lives honest ran held are
