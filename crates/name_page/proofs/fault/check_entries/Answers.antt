use Rattle.std.proofs.Common.{◌≡◌, ℕ, suc, ◌+◌, ◌-◌, sym, ◌∙◌, arith}
use Rattle.std.proofs.lemmas.Result.{err_from_is_err_and}
use Rattle.name_page.proofs.FaultLaws.{entries_more, entries_bad, last_of}
use Rattle.name_page.proofs.fault.check_entries.Goals as goal

pub loop-i-preserved : goal.loop-i-preserved
loop-i-preserved c =
    let left : ℕ = c.args.count - (c.loop-i.i + 1) in
    let e : c.args.count - c.loop-i.i ≡ suc left = omega arith in
    let last = last_of c.loop-i.i c.args.count c.loop-i-test.true in
    let good = rw last at c.in_ok-key.ensures.0 in (
      c.in_ok-key.ensures.3,
      sym (entries_more _ left c.loop-i.place c.args.limit c.in_ok-key.end c.loop-i.before c.in_ok-key.key c.args.b.now e good c.in_ok-key.ensures.1 c.in_ok-key.ensures.2)
          ∙ c.loop-i.invariant.1,
    )

pub returns-in_err-key : goal.returns-in_err-key
returns-in_err-key c =
    let left : ℕ = c.args.count - (c.loop-i.i + 1) in
    let e : c.args.count - c.loop-i.i ≡ suc left = omega arith in
    let last = last_of c.loop-i.i c.args.count c.loop-i-test.true in
    let bad = rw last at c.in_err-key.ensures in
    let p = err_from_is_err_and c.from_residual.result c.from_residual.ensures.1 in
    rw (p.1, p.2) (sym c.loop-i.invariant.1 ∙ entries_bad _ left c.loop-i.place c.args.limit _ c.loop-i.before c.args.b.now e bad)
