use Rattle.std.proofs.Common.{◌++◌, ◌∙◌, ap, length, arith}
use Rattle.fsd_bytes.specs.Bytes.{with_bytes}
use Rattle.image_file.proofs.Slots.{laid}
use Rattle.image_file.proofs.slot.slot_of.Goals as goal

pub returns : goal.returns
returns c =
    c.put-2.ensures
    ∙ ap (with_bytes 512 c.end_of.result) c.put.ensures
    ∙ laid c.args.b.now c.end_of.result (omega arith) (ap length c.end_of.ensures)
    ∙ ap (λ e. c.args.b.now ++ e) c.end_of.ensures
