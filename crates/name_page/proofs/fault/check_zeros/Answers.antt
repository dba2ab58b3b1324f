use Rattle.std.proofs.Common.{◌≡◌, ℕ, suc, ◌+◌, ◌-◌, sym, ◌∙◌, arith}
use Rattle.name_page.proofs.FaultLaws.{zeros_more}
use Rattle.name_page.proofs.fault.check_zeros.Goals as goal

pub loop-i-preserved : goal.loop-i-preserved
loop-i-preserved c =
    let left : ℕ = c.args.place + c.args.n - (c.loop-i.i + 1) in
    let e : c.args.place + c.args.n - c.loop-i.i ≡ suc left = omega arith in
    sym (zeros_more _ left c.loop-i.i c.u8_at.result c.args.b.now e c.u8_at.ensures c.in_ok-check.ensures) ∙ c.loop-i.invariant
