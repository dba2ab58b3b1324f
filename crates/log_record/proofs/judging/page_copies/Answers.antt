use Rattle.std.proofs.Common.{◌+◌, ◌*◌, length, get_or, arith}
use Rattle.log_record.proofs.judging.page_copies.Goals as goal
use Rattle.fsd_formats.specs.Record.{bears}
use Rattle.log_record.specs.Found.{read_of}
use Rattle.log_record.proofs.Loops.{copies_more, which_serves}

pub loop-k-preserved : goal.loop-k-preserved
loop-k-preserved c =
    let at = read_of c.args.whole.now c.args.bytes.now in
    let n = length c.args.pages.now in
    let k = c.loop-k.k in
    let gap = c.args.gap in
    record {
      count = omega (arith, c.push.ensures.len);
      rest = copies_more (record { epoch = c.args.epoch; number = c.args.number }) at c.args.pages.now c.loop-k.copies.items k (3 + gap + k) (4 + 2 * gap + n + k) c.in_ok-serving.serving _ c.push.new.self.items (3 + gap + (k + 1)) (4 + 2 * gap + n + (k + 1))
          (omega arith)
          (which_serves (bears (get_or c.args.pages.now k 0) (record { epoch = c.args.epoch; number = c.args.number })) (at (3 + gap + k)) (at (4 + 2 * gap + n + k)) c.sector_of-first.result c.sector_of-copy.result c.bears.result c.bears-in-loop-k.result c.which.result _
          c.sector_of-first.ensures c.sector_of-copy.ensures c.bears.ensures c.bears-in-loop-k.ensures c.which.ensures c.in_ok-serving.was)
          c.loop-k.invariant.rest c.push.ensures.items (omega arith) (omega arith);
    }
