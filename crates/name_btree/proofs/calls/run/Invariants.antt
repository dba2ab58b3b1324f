use Rattle.name_btree.proofs.steps.CallLaws.{IsSoFar}
use Rattle.name_btree.proofs.calls.run.Given as goal

-- the calls before were made
abbrev pub invariant-loop-i : goal.invariant-loop-i
invariant-loop-i g l = IsSoFar g.T.Pages l.fn.t l.t l.calls l.answers l.i
