use Rattle.command_words.proofs.CommandSet.{next_row}
use Rattle.command_words.proofs.command_set.program_of.Goals as goal

pub loop-row-preserved : goal.loop-row-preserved
loop-row-preserved c = next_row _ _ _ c.args.rows.now c.loop-row.row-index _ c.loop-row-test.true c.loop-row.invariant c.in_ok-program.ensures
