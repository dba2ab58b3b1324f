use Rattle.std.proofs.Common.{arith}
use Rattle.log_record.proofs.header.numbers.Goals as goal
use Rattle.log_record.proofs.Loops.{numbers_step}

pub loop-k-preserved : goal.loop-k-preserved
loop-k-preserved c = record {
  read = numbers_step c.loop-k.pages.items c.push.new.self.items c.args.b.now c.loop-k.k c.u32_at.result c.loop-k.invariant.read c.u32_at.ensures c.push.ensures.items;
  count = omega (arith, c.push.ensures.len);
}
