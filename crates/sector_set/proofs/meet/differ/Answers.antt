use Rattle.std.proofs.Common.{sym, ◌∙◌, arith}
use Rattle.sector_set.proofs.EachLaws.{differ_found, differ_passed, differ_end}
use Rattle.sector_set.proofs.meet.differ.Goals as goal

pub returns-then-run_overlaps : goal.returns-then-run_overlaps
returns-then-run_overlaps c =
    differ_found c.args.runs.now c.loop-i.i _ _ c.run_overlaps.result c.loop-i-test.true c.loop-i.invariant c.run_overlaps.ensures c.if-run_overlaps.true

pub loop-i-preserved : goal.loop-i-preserved
loop-i-preserved c =
    differ_passed c.args.runs.now c.loop-i.i _ _ c.run_overlaps.result c.loop-i-test.true c.loop-i.invariant c.run_overlaps.ensures c.if-run_overlaps.false

pub returns : goal.returns
returns c = sym (differ_end c.args.runs.now c.loop-i.i (omega arith)) ∙ c.loop-i.invariant
