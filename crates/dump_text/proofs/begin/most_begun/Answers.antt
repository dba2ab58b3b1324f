use Rattle.std.proofs.Common.{sym, ◌∙◌, arith}
use Rattle.dump_text.proofs.Fields.{begun_less}
use Rattle.dump_text.proofs.begin.most_begun.Goals as goal

pub loop-most-preserved : goal.loop-most-preserved
loop-most-preserved c = (
  omega (arith, c.loop-most.invariant.0),
  begun_less c.args.last.now c.args.behind c.args.bytes.now c.loop-most.most c.loop-most-test.true (sym c.may_begin.ensures ∙ c.if-may_begin.false) ∙ c.loop-most.invariant.1,
)
