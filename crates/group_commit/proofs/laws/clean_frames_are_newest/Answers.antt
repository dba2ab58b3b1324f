use Rattle.group_commit.proofs.CleanLaws.{agrees_then, newest_frames, stands_ascending}
use Rattle.group_commit.proofs.laws.clean_frames_are_newest.Goals as goal

pub returns-clause-order : goal.returns-clause-order
returns-clause-order c = λ log records disk pages dirty windows i. stands_ascending log records disk pages dirty windows i

pub returns-clause-agrees : goal.returns-clause-agrees
returns-clause-agrees c = λ log cache pages agrees valid waiting. agrees_then log cache pages agrees valid waiting

pub returns-clause-newest : goal.returns-clause-newest
returns-clause-newest c = λ log cache pages windows i agrees done inside. newest_frames log cache pages agrees windows i done inside
