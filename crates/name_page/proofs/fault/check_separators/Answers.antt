use Rattle.std.proofs.Common.{◌≡◌, ℕ, suc, ◌+◌, ◌-◌, ◌*◌, sym, ◌∙◌, arith}
use Rattle.std.proofs.lemmas.Result.{err_from_is_err_and}
use Rattle.name_page.proofs.FaultLaws.{separators_more, separators_bad}
use Rattle.name_page.proofs.fault.check_separators.Goals as goal

pub loop-i-preserved : goal.loop-i-preserved
loop-i-preserved c =
    let left : ℕ = c.args.count - (c.loop-i.i + 1) in
    let e : c.args.count - c.loop-i.i ≡ suc left = omega arith in
    let next : 28 + 49 * (c.loop-i.i + 1) ≡ 28 + 49 * c.loop-i.i + 49 = omega arith in
    sym (separators_more _ left _ c.args.p (28 + 49 * (c.loop-i.i + 1)) c.loop-i.before c.in_ok-key.key c.args.b.now e c.in_ok-key.ensures.0 c.in_ok-key.ensures.1 next)
    ∙ c.loop-i.invariant

pub returns-in_err-key : goal.returns-in_err-key
returns-in_err-key c =
    let left : ℕ = c.args.count - (c.loop-i.i + 1) in
    let e : c.args.count - c.loop-i.i ≡ suc left = omega arith in
    let p = err_from_is_err_and c.from_residual.result c.from_residual.ensures.1 in
    rw (p.1, p.2) (sym c.loop-i.invariant ∙ separators_bad _ left _ c.args.p _ c.loop-i.before c.args.b.now e c.in_err-key.ensures)
