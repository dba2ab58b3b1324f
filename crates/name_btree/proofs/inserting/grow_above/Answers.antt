use Rattle.std.proofs.Common.{ℕ, length, take, drop, refl, sym, subst}
use Rattle.name_page.proofs.LookLaws.{reaches_still, reaches_takes}
use Rattle.name_btree.proofs.drafts.ReachedLaws.{takes_only}
use Rattle.fsd_forest.specs.Ways.{child_between}
use Rattle.name_btree.specs.Grown.{FitsTwoInteriors, IsParted, IsDivided}
use Rattle.name_btree.proofs.growth.WaysGrowthLaws.{one_way_more}
use Rattle.name_btree.proofs.drafts.SheetLaws.{sheets_still}
use Rattle.name_btree.proofs.inserting.grow_above.Goals as goal

pub grow_ways-requires-clause-separators : goal.grow_ways-requires-clause-separators
grow_ways-requires-clause-separators g c =
    let step = g.T.Pages.step c.args.t.now in
    let p : ℕ = length step.images in
    let above = c.args.above.now in
    let ways = c.args.ways.now in
    let s = c.in-Parted.separator in
    let sound = subst (IsParted step) c.in-Parted.is c.requires.sound in
    let divided = subst (IsDivided (child_between ways.0 above.low above.high (take c.args.i ways.1) (drop c.args.i ways.1))) c.in-Parted.is c.requires.divided in
    subst (λ (n : ℕ). FitsTwoInteriors p above.page n c.ways_with-separators.result.items) (sym c.first.ensures)
    (one_way_more p above.page ways.0 c.args.i above.low above.high ways.1 c.ways_with-separators.result.items s c.requires.ways c.ways_with-separators.ensures.separators sound.behind.0 sound.key divided.0 divided.1)

pub returns-in-Parted-clause-calls : goal.returns-in-Parted-clause-calls
returns-in-Parted-clause-calls g c =
    let G = g.T.Pages in
    let old = c.args.t.now in
    let new = c.grow_ways.new.t in
    let e = c.grow_ways.ensures in
    takes_only G old new (G.step old).images _ refl (e.grown (G.step old).images refl).takes e.outside (g.met.T.Pages.trust old new _ e.outside) e.stays.images e.stays.home

pub returns-in-Whole-clause-calls : goal.returns-in-Whole-clause-calls
returns-in-Whole-clause-calls g c = reaches_takes g.T.Pages c.args.t.now c.args.t.now (reaches_still g.T.Pages c.args.t.now (g.met.T.Pages.still c.args.t.now))

pub returns-in-Whole-clause-drawn : goal.returns-in-Whole-clause-drawn
returns-in-Whole-clause-drawn g c = sheets_still (g.T.Pages.step c.args.t.now) c.args.draft.now.sheets.items
