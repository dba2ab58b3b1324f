use Rattle.std.proofs.Common.{length, get_or, arith, refl}
use Rattle.log_record.proofs.header.header_bytes.Goals as goal
use Rattle.log_record.proofs.Loops.{header_step}

pub loop-page-preserved : goal.loop-page-preserved
loop-page-preserved c = record {
  at = omega arith;
  so_far = header_step (record { epoch = c.args.epoch; number = c.args.number }) (length c.args.pages.now) c.args.pages.now c.loop-page.page-index c.loop-page.place (get_or c.args.pages.now c.loop-page.page-index 0) c.loop-page.b c.put_u32-in-loop-page.new.b
      (omega arith) (omega (arith, c.requires)) (omega arith) refl c.loop-page.invariant.so_far c.put_u32-in-loop-page.ensures;
}
