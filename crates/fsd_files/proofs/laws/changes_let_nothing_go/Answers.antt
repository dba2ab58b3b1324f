use Rattle.fsd_files.proofs.ChangeLaws.{delete_changes, keep_changes, move_changes, put_changes, load_changes}
use Rattle.fsd_files.proofs.WaitLaws.{forced_is_spaced}
use Rattle.fsd_files.proofs.laws.changes_let_nothing_go.Goals as goal

pub returns-clause-puts : goal.returns-clause-puts
returns-clause-puts c = put_changes

pub returns-clause-deletes : goal.returns-clause-deletes
returns-clause-deletes c = delete_changes

pub returns-clause-keeps : goal.returns-clause-keeps
returns-clause-keeps c = keep_changes

pub returns-clause-forces : goal.returns-clause-forces
returns-clause-forces c = forced_is_spaced

pub returns-clause-moves : goal.returns-clause-moves
returns-clause-moves c = move_changes

pub returns-clause-loads : goal.returns-clause-loads
returns-clause-loads c = load_changes
