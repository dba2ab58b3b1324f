use Rattle.script_text.proofs.MoreLaws.{command_stays}
use Rattle.script_text.proofs.WholeLaws.{all_is_read, given_more, short_waits}
use Rattle.script_text.proofs.laws.scripts_are_read_whole.Goals as goal

pub returns-clause-next : goal.returns-clause-next
returns-clause-next c = given_more

pub returns-clause-end : goal.returns-clause-end
returns-clause-end c = all_is_read

pub returns-clause-cut : goal.returns-clause-cut
returns-clause-cut c = short_waits

pub returns-clause-stays : goal.returns-clause-stays
returns-clause-stays c = command_stays
