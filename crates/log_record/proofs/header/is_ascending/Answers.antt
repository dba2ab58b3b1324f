use Rattle.std.proofs.Common.{sym, ◌∙◌}
use Rattle.log_record.proofs.header.is_ascending.Goals as goal
use Rattle.log_record.proofs.Loops.{ascend_end}

pub returns : goal.returns
returns c = sym (ascend_end c.args.pages.now c.loop-k.k c.loop-k-test.false) ∙ c.loop-k.invariant
