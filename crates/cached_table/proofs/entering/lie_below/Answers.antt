use Rattle.std.proofs.Common.{◌+◌, ◌-◌, false, get_or, refl, arith}
use Rattle.std.proofs.lemmas.Bool.{both_ways}
use Rattle.run_table.specs.declared.run.Run.{Run}
use Rattle.sector_set.proofs.EachLaws.{own_here, own_more, passed_more}
use Rattle.cached_table.proofs.entering.lie_below.Goals.{else-run-ne0-via-else-run-ne0, else-run-ne0-via-then-run-ne0+else-run-end}
use Rattle.cached_table.proofs.entering.lie_below.Goals as goal

pub returns-then-run-end : goal.returns-then-run-end
returns-then-run-end c = (
  λ t. absurd (both_ways false refl t),
  λ all.
      let r : Run = get_or c.args.runs.now c.loop-run.run-index (record { start = 0; length = 0 }) in
      let last = all (r.start + r.length - 1) (own_here c.args.runs.now c.loop-run.run-index (record { start = 0; length = 0 }) c.loop-run-test.true c.loop-run.invariant.own (r.start + r.length - 1) (omega (arith, c.if-run-ne0.true)) (omega (arith, c.if-run-ne0.true))) in
      absurd (omega (arith, last, c.if-run-end.true, c.if-run-ne0.true)),
)

pub loop-run-preserved : goal.loop-run-preserved
loop-run-preserved c = record {
  passed = passed_more _ c.args.runs.now c.loop-run.run-index (record { start = 0; length = 0 }) c.loop-run-test.true (λ s low high. elim c.else-run-ne0.branch [
    | else-run-ne0-via-then-run-ne0+else-run-end w ↦ omega (arith, high, w.if-run-end.false)
    | else-run-ne0-via-else-run-ne0 w ↦ omega (arith, low, high, w.if-run-ne0.false)
  ]) c.loop-run.invariant.passed;
  own = own_more c.args.runs.now c.loop-run.run-index (record { start = 0; length = 0 }) c.loop-run-test.true c.loop-run.invariant.own;
}
