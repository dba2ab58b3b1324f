use Rattle.std.proofs.Common.{false, refl, inr, arith}
use Rattle.std.proofs.lemmas.Bool.{both_ways}
use Rattle.sector_set.proofs.EachLaws.{passed_more, passed_all, own_more, own_here}
use Rattle.sector_set.proofs.area.all_are.Goals as goal

pub loop-run-init : goal.loop-run-init
loop-run-init c = record { passed = λ s here. inr here; own = λ s here. here }

pub returns-then-not-is_all : goal.returns-then-not-is_all
returns-then-not-is_all c = (
  λ t. absurd (both_ways false refl t),
  λ all. absurd (both_ways c.is_all.result c.if-not-is_all.true (c.is_all.ensures.1 (λ s low high. all s (own_here c.args.runs.now c.loop-run.run-index _ c.loop-run-test.true c.loop-run.invariant.own s low high)))),
)

pub loop-run-preserved : goal.loop-run-preserved
loop-run-preserved c = record {
  passed = passed_more _ c.args.runs.now c.loop-run.run-index _ c.loop-run-test.true (c.is_all.ensures.0 c.if-not-is_all.false) c.loop-run.invariant.passed;
  own = own_more c.args.runs.now c.loop-run.run-index (record { start = 0; length = 0 }) c.loop-run-test.true c.loop-run.invariant.own;
}

pub returns : goal.returns
returns c = (λ t. passed_all _ c.args.runs.now c.loop-run.run-index (omega arith) c.loop-run.invariant.passed, λ all. refl)
