use Rattle.std.proofs.Common.{◌∙◌, sym, arith}
use Rattle.std.specs.List.{range_with_len}
use Rattle.sector_set.proofs.MeetLaws.{meet_found, meet_passed, meet_end}
use Rattle.sector_set.proofs.meet.run_overlaps.Goals as goal

pub returns-then-run_overlaps_run : goal.returns-then-run_overlaps_run
returns-then-run_overlaps_run c =
    meet_found c.args.others.now c.loop-other.other-index _ (range_with_len c.args.run.start c.args.run.length) _ c.run_overlaps_run.result c.loop-other-test.true c.loop-other.invariant c.run_overlaps_run.ensures c.if-run_overlaps_run.true

pub loop-other-preserved : goal.loop-other-preserved
loop-other-preserved c =
    meet_passed c.args.others.now c.loop-other.other-index _ (range_with_len c.args.run.start c.args.run.length) _ c.run_overlaps_run.result c.loop-other-test.true c.loop-other.invariant c.run_overlaps_run.ensures c.if-run_overlaps_run.false

pub returns : goal.returns
returns c = sym (sym c.loop-other.invariant ∙ meet_end c.args.others.now c.loop-other.other-index (range_with_len c.args.run.start c.args.run.length) (omega arith))
