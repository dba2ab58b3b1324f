use Rattle.fsd_history.specs.History.{HasShown}
use Rattle.fsd_history.proofs.WordLaws.{put_found, put_stops}
use Rattle.fsd_history.proofs.laws.puts_are_found_whole_or_not.Goals as goal

pub returns-clause-ended : goal.returns-clause-ended
returns-clause-ended g c m name keep input = put_found name keep input (HasShown g.M.Machine m)

pub returns-clause-stopped : goal.returns-clause-stopped
returns-clause-stopped g c m name keep input = put_stops name keep input (HasShown g.M.Machine m)
