use Rattle.std.proofs.Common.{◌≡◌, ◌∙◌, sym, true, false}
use Rattle.name_page.specs.Cut.{is_before}
use Rattle.name_page.proofs.CutLaws.{cuts_monotone}
use Rattle.name_page.proofs.WaysLaws.{stand_behind, stand_before}
use Rattle.name_page.proofs.ways.ways_before.Goals as goal

pub returns-then-not-is_before-clause-behind : goal.returns-then-not-is_before-clause-behind
returns-then-not-is_before-clause-behind c =
    let s = c.is_before.ensures.0 in
    let no : is_before c.args.cut.now s.key ≡ false = sym c.is_before.ensures.2 ∙ c.if-not-is_before.true in
    stand_behind (is_before c.args.cut.now) (cuts_monotone c.args.cut.now) c.args.ways.now.1 c.loop-i.i s c.is_before.ensures.1 no c.len-i-end.ensures.order

pub loop-i-preserved : goal.loop-i-preserved
loop-i-preserved c =
    let s = c.is_before.ensures.0 in
    let yes : is_before c.args.cut.now s.key ≡ true = sym c.is_before.ensures.2 ∙ c.if-not-is_before.false in
    stand_before (is_before c.args.cut.now) c.args.ways.now.1 c.loop-i.i s c.is_before.ensures.1 yes c.loop-i.invariant
