use Rattle.std.proofs.Common.{◌≡◌, ◌+◌, ◌-◌, ◌*◌, ◌++◌, ℕ, length, take, drop, ap, subst, sym, ◌∙◌, arith}
use Rattle.std.proofs.lemmas.List.{length-take-le, length-drop}
use Rattle.log_record.specs.Found.{serving_in}
use Rattle.fsd_log.specs.Judged.{sector_in}
use Rattle.log_thirds.specs.Copies.{AreServed}
use Rattle.log_thirds.proofs.CopyLaws.{served_more}
use Rattle.log_thirds.proofs.copies.copies_as.Goals as goal

pub loop-j-preserved : goal.loop-j-preserved
loop-j-preserved c =
    let k = c.served_at-k.result in
    let bytes = c.args.bytes.now in
    let n : ℕ = length c.args.found.now.pages.items in
    let count : 512 * c.served_at-k.result + 512 - 512 * c.served_at-k.result ≡ 512 = omega arith in
    let items : c.extend_from_slice.new.self.items ≡ c.loop-j.copies.items ++ sector_in c.args.bytes.now c.served_at-k.result =
    c.in_ok-extend_from_slice.ensures.items ∙ ap (λ (m : ℕ). c.loop-j.copies.items ++ take m (drop (512 * c.served_at-k.result) c.args.bytes.now)) count in
    let long : length (sector_in c.args.bytes.now c.served_at-k.result) ≡ 512 =
    length-take-le 512 (drop (512 * c.served_at-k.result) c.args.bytes.now) (omega (arith, length-drop (512 * c.served_at-k.result) c.args.bytes.now, c.served_at-k.ensures.inside, c.requires.room)) in
    subst (AreServed c.args.gap (serving_in c.args.found.now) c.args.bytes.now (c.loop-j.j + 1)) (sym items)
    (served_more c.args.gap (serving_in c.args.found.now) c.args.bytes.now c.loop-j.j c.loop-j.copies.items (sector_in c.args.bytes.now c.served_at-k.result) c.loop-j.invariant long (ap (sector_in c.args.bytes.now) c.served_at-k.ensures.is))
