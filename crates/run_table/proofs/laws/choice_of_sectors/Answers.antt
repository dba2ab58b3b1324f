use Rattle.run_table.proofs.ChoiceLaws.{total_of_pick, pick_among, pick_none}
use Rattle.run_table.proofs.laws.choice_of_sectors.Goals as goal

pub returns-clause-count : goal.returns-clause-count
returns-clause-count c = total_of_pick

pub returns-clause-free : goal.returns-clause-free
returns-clause-free c = pick_among

pub returns-clause-none : goal.returns-clause-none
returns-clause-none c = pick_none
