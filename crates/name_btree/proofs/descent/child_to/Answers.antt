use Rattle.name_page.specs.Cut.{is_before}
use Rattle.name_btree.proofs.ways.AlongLaws.{child_is}
use Rattle.name_btree.proofs.descent.child_to.Goals as goal

pub returns : goal.returns
returns c = λ above previous next.
    let ways = c.args.ways.now in
    let e = c.ways_before.ensures in
    child_is (is_before c.args.cut.now) above previous next ways.0 c.args.child.now.low c.args.child.now.high ways.1 c.ways_before.result c.child_at.result e.within e.before e.behind c.child_at.ensures
