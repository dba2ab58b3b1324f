use Rattle.std.proofs.Common.{◌≡◌, ◌∙◌, ℕ, ◌+◌, ◌-◌, ◌*◌, ◌≤◌, List, ◌++◌, length, take, drop, ap, arith, length-take}
use borrow.Rule.Slice.PartMut.{put_mid}
use Rattle.std.proofs.lemmas.List.{length-drop}
use Rattle.std.proofs.lemmas.Slice.{take-put_mid, take-put_mid_below}
use Rattle.version_data.specs.Writing.{part_of}
use Rattle.version_data.proofs.LayLaws.{laid_more}
use Rattle.version_data.proofs.writing.lay_row.Goals as goal

pub loop-j-preserved : goal.loop-j-preserved
loop-j-preserved c i lt =
    let at : ℕ = 512 * c.loop-j.j in
    let k : ℕ = 512 * c.loop-j.j + 512 - 512 * c.loop-j.j in
    let row : List ℕ = c.loop-j.row in
    let room : 512 * c.loop-j.j + 512 ≤ length row = omega (arith, c.loop-j.auto.row, c.requires.room, c.loop-j-test.true) in
    let size : length c.copy_from_slice.new.self ≡ 512 = omega (arith, c.copy_from_slice.ensures.len, length-take k (drop at row), length-drop at row, room) in
    laid_more row (put_mid at k row c.copy_from_slice.new.self) c.part_at.result c.loop-j.j (λ n. part_of c.args.leader.now c.args.bytes.now (c.args.first + n))
    (λ n le. take-put_mid_below at k row c.copy_from_slice.new.self n le (omega (arith, room)))
    (take-put_mid at k row c.copy_from_slice.new.self (512 * c.loop-j.j + 512) (omega (arith, size)) (omega (arith, room)) ∙ ap (λ (x : List ℕ). take at row ++ x) c.copy_from_slice.ensures.after)
    (omega (arith, room)) c.part_at.ensures c.loop-j.invariant i lt
