use Rattle.version_table.proofs.PlanLaws.{keeps_agree, keys_agree}
use Rattle.version_table.proofs.laws.next_versions_are_those_of_puts.Goals as goal

pub returns-clause-key : goal.returns-clause-key
returns-clause-key c = keys_agree

pub returns-clause-keep : goal.returns-clause-keep
returns-clause-keep c = keeps_agree
