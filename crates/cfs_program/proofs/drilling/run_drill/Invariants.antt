use Rattle.cfs_program.specs.Drill.{SaysLives}
use Rattle.cfs_program.proofs.drilling.run_drill.Given as goal

-- the lives before are said
abbrev pub invariant-loop-life : goal.invariant-loop-life
invariant-loop-life g l = SaysLives g.M.Machine l.life l.fn.m l.m
