use Rattle.std.proofs.Common.{◌++◌, ◌∙◌, ap, sym, drop, take, Some, arith}
use Rattle.std.specs.Cmp.Lexicographic.{bytes_decides}
use Rattle.fsd_bytes.specs.Bytes.{u32}
use Rattle.fsd_formats.specs.Slot.{check_of}
use Rattle.image_file.proofs.Slots.{end_is, front_is, slot_by}
use Rattle.image_file.proofs.slot.read_slot.Goals as goal

pub returns-then-eq-clause-found : goal.returns-then-eq-clause-found
returns-then-eq-clause-found c =
    let x = c.args.x.now in
    let same = (bytes_decides (take 8 (drop 512 x)) c.end_of-end.result).0 (cc (c.eq.ensures, c.if-eq.true)) in
    slot_by c.args.s x c.copy_from_slice.new.self (omega arith) c.copy_from_slice.ensures.after (same ∙ c.end_of-end.ensures)

pub returns-then-eq-clause-only : goal.returns-then-eq-clause-only
returns-then-eq-clause-only c b long e = ap Some (c.copy_from_slice.ensures.after ∙ front_is c.args.s b c.args.x.now long e)

pub returns-else-eq-clause-only : goal.returns-else-eq-clause-only
returns-else-eq-clause-only c b long e =
    let x = c.args.x.now in
    let front = c.copy_from_slice.ensures.after ∙ front_is c.args.s b x long e in
    let equal = end_is c.args.s b x long e ∙ ap (λ f. u32 c.args.s ++ u32 (check_of f)) (sym front) ∙ sym c.end_of-end.ensures in
    let same = (bytes_decides (take 8 (drop 512 x)) c.end_of-end.result).1 equal in
    cc (same, c.eq.ensures, c.if-eq.false)
