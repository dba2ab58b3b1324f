use Rattle.version_table.proofs.EditLaws.{entered_is, with_is, without_some}
use Rattle.version_table.proofs.VersionLaws.{highest_is}
use Rattle.version_table.proofs.laws.tables_are_files_entries.Goals as goal

pub returns-clause-found : goal.returns-clause-found
returns-clause-found c = with_is

pub returns-clause-highest : goal.returns-clause-highest
returns-clause-highest c = highest_is

pub returns-clause-without : goal.returns-clause-without
returns-clause-without c = without_some

pub returns-clause-entered : goal.returns-clause-entered
returns-clause-entered c = entered_is
