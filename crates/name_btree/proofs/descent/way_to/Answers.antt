use Rattle.std.proofs.Common.{length}
use Rattle.fsd_table.specs.declared.child.Child.{Child}
use Rattle.fsd_table.specs.Pages.{children}
use Rattle.name_page.specs.Cut.{is_before}
use Rattle.name_btree.specs.Descent.{way_to}
use Rattle.name_btree.proofs.ways.WayLaws.{way_at, way_is}
use Rattle.name_btree.proofs.descent.way_to.Goals as goal

pub returns : goal.returns
returns c =
    let before = is_before c.args.cut.now in
    let first = c.args.ways.now.0 in
    let xs = c.args.ways.now.1 in
    let d : Child = c.args.way.child in
    let i = c.ways_before-i.result in
    let e = c.ways_before-i.ensures in
    let p = c.previous_of.ensures in
    let n = c.next_of.ensures in
    way_is c.args.above c.args.way.previous c.args.way.next (children first d.low d.high xs) (length xs) i (way_to before c.args.above c.args.way.previous c.args.way.next first d.low d.high xs)
    c.child_at.result c.previous_of.result c.next_of.result e.within (way_at before c.args.above c.args.way.previous c.args.way.next first d.low d.high xs i e.within e.before e.behind)
    c.child_at.ensures p.first p.before n.last n.behind
