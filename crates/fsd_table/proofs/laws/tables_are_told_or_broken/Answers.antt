use Rattle.fsd_table.proofs.ToldLaws.{broken_tells_nothing, nothing_told_breaks}
use Rattle.fsd_table.proofs.laws.tables_are_told_or_broken.Goals as goal

pub returns-clause-broken : goal.returns-clause-broken
returns-clause-broken c = broken_tells_nothing

pub returns-clause-untold : goal.returns-clause-untold
returns-clause-untold c = nothing_told_breaks
