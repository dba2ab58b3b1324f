use Rattle.std.proofs.Common.{arith}
use Rattle.sector_set.proofs.BitLaws.{insert_step}
use Rattle.sector_set.proofs.bits.insert.Goals as goal

pub loop-w-preserved : goal.loop-w-preserved
loop-w-preserved c s = insert_step c.loop-w.words c.args.words.now c.args.start c.args.stop c.loop-w.w c.part.result s (omega arith) c.part.ensures (c.loop-w.invariant s)
