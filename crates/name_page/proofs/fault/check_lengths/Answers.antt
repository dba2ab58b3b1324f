use Rattle.std.proofs.Common.{◌≡◌, ℕ, suc, ◌+◌, ◌-◌, ◌*◌, sym, ap, ◌∙◌, arith}
use Rattle.name_page.specs.Fault.{lengths_fault}
use Rattle.name_page.proofs.FaultLaws.{lengths_more}
use Rattle.name_page.proofs.fault.check_lengths.Goals as goal

pub loop-i-preserved : goal.loop-i-preserved
loop-i-preserved c =
    let left : ℕ = c.args.count - 1 - c.loop-i.i in
    let n : ℕ = c.from-length.result in
    let e : c.args.count - c.loop-i.i ≡ suc left = omega arith in
    let same : c.args.count - (c.loop-i.i + 1) ≡ left = omega arith in
    let next : c.args.place + 6 * (c.loop-i.i + 1) ≡ (c.args.place + 6 * c.loop-i.i) + 6 = omega arith in
    let good = rw c.is_length.ensures at c.in_ok-check.ensures in (
      omega (arith, c.loop-i.invariant.0),
      ap (λ (k : ℕ). lengths_fault k (c.args.place + 6 * (c.loop-i.i + 1)) (c.loop-i.sum + n) c.args.need c.args.b.now) same
          ∙ ap (λ (k : ℕ). lengths_fault left k (c.loop-i.sum + n) c.args.need c.args.b.now) next
          ∙ sym (lengths_more _ left _ c.loop-i.sum c.args.need n c.args.b.now e (c.from-length.ensures ∙ c.u16_at.ensures) good)
          ∙ c.loop-i.invariant.1,
    )
