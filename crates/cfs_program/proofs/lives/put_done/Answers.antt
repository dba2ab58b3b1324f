use Rattle.cfs_program.proofs.lives.put_done.Goals as goal

pub returns-then-status-eq0 : goal.returns-then-status-eq0
returns-then-status-eq0 g c = c.in_ok-m.ensures.done c.if-status-eq0.true
