use Rattle.std.proofs.Common.{◌+◌, ◌-◌, ◌*◌, take, drop, arith}
use Rattle.image_file.proofs.Waiting.{adds_more, slice_is, spells_more}
use Rattle.image_file.proofs.pending.extend.Goals as goal

pub loop-i-preserved : goal.loop-i-preserved
loop-i-preserved c =
    let i = c.loop-i.i in
    let bytes = c.args.bytes.now in
    let part = take (i * 512 + 512 - i * 512) (drop (i * 512) bytes) in
    let put = c.in_ok-put.ensures in (
      (λ some. omega (arith, put.behind some)),
      adds_more c.args.pending.now c.loop-i.pending c.put.new.pending c.args.first i (i + 1) (omega arith) c.loop-i.invariant.1 put.only,
      spells_more c.loop-i.pending c.put.new.pending c.args.first i bytes part c.loop-i.invariant.2 put.only (slice_is bytes i) put.there,
    )
