use Rattle.fsd_files.proofs.ChangeKept.{delete_kept, keep_kept, move_kept, version_kept, load_kept}
use Rattle.fsd_files.proofs.laws.changes_keep_what_stays.Goals as goal

pub returns-clause-puts : goal.returns-clause-puts
returns-clause-puts c = version_kept

pub returns-clause-deletes : goal.returns-clause-deletes
returns-clause-deletes c = delete_kept

pub returns-clause-keeps : goal.returns-clause-keeps
returns-clause-keeps c = keep_kept

pub returns-clause-moves : goal.returns-clause-moves
returns-clause-moves c = move_kept

pub returns-clause-loads : goal.returns-clause-loads
returns-clause-loads c = load_kept
