use Rattle.std.proofs.Common.{arith}
use Rattle.table_pages.proofs.SpareLaws.{free_at_most}
use Rattle.table_pages.proofs.sparing.spare_beside.Goals as goal

pub returns-clause-none : goal.returns-clause-none
returns-clause-none c =
    let all = c.loop-page-test.false in let pages = c.pages-page-end.ensures in
    free_at_most c.args.free.now c.args.taken.now (λ page lt free. c.loop-page.invariant page (omega (arith, lt, all, pages)) free)
