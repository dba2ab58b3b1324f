use Rattle.std.proofs.Common.{◌≡◌, ◌∙◌, ◌+◌, ◌-◌, ◌<◌, ◌^◌, ap, sym, subst, ℕ, length, Some, arith}
use Rattle.fsd_table.specs.Pages.{page_at}
use Rattle.name_page.specs.Cut.{is_before}
use Rattle.name_page.specs.declared.node.Node.{Node}
use Rattle.name_page.specs.Node.{content_of}
use Rattle.name_page.proofs.NodeLaws.{seen, seen_some}
use Rattle.name_btree.specs.declared.descent.Way.{Way}
use Rattle.name_btree.specs.Descent.{GoesDown}
use Rattle.name_btree.proofs.ways.AlongLaws.{goes_here, goes_some, GoesBy}
use Rattle.name_btree.proofs.descent.way_again.Goals as goal

pub look-requires : goal.look-requires
look-requires g c =
    let s = g.T.Pages.step c.args.t.now in
    let r = c.requires in
    (goes_here s (is_before c.args.cut.now) c.args.levels c.loop-above.above c.loop-above.way r.0 c.loop-above-test.true (c.loop-above.invariant.goes r.0 r.1)).0

pub node_in-requires : goal.node_in-requires
node_in-requires g c =
    let s = g.T.Pages.step c.args.t.now in
    let before = is_before c.args.cut.now in
    let w = c.loop-above.way in
    let above : ℕ = c.loop-above.above in
    let levels : ℕ = c.args.levels in
    let r = c.requires in
    let here = goes_here s before levels above w r.0 c.loop-above-test.true (c.loop-above.invariant.goes r.0 r.1) in
    let few : length s.images < 2 ^ 32 = omega (arith, g.met.T.Pages.small c.args.t.now) in
    let small : w.child.page < 2 ^ 32 = omega (arith, here.0.0, few) in
    let some = goes_some s before (levels - (above + 1)) above w r.0 (page_at s.images w.child.page) here.1 in
    seen_some s.images w.child.page c.look.result.now small few c.look.ensures some

-- the way goes on over interior pages alone
pub returns-in-Free : goal.returns-in-Free
returns-in-Free g c = λ end h.
    let s = g.T.Pages.step c.args.t.now in
    let before = is_before c.args.cut.now in
    let w = c.loop-above.way in
    let above : ℕ = c.loop-above.above in
    let levels : ℕ = c.args.levels in
    let r = c.requires in
    let here = goes_here s before levels above w r.0 c.loop-above-test.true (c.loop-above.invariant.goes r.0 r.1) in
    let few : length s.images < 2 ^ 32 = omega (arith, g.met.T.Pages.small c.args.t.now) in
    let small : w.child.page < 2 ^ 32 = omega (arith, here.0.0, few) in
    let some = goes_some s before (levels - (above + 1)) above w r.0 (page_at s.images w.child.page) here.1 in
    let node : page_at s.images w.child.page ≡ Some (content_of c.node_in.result) = seen s.images w.child.page c.look.result.now small few c.look.ensures some ∙ c.node_in.ensures in
    absurd (subst (GoesBy s before (levels - (above + 1)) above w end) (node ∙ ap (λ (n : Node). Some (content_of n)) c.in-Free.is)
    (goes_here s before levels above w end c.loop-above-test.true (c.loop-above.invariant.goes end h)).1)

-- the way goes on over interior pages alone
pub returns-in-Leaf : goal.returns-in-Leaf
returns-in-Leaf g c = λ end h.
    let s = g.T.Pages.step c.args.t.now in
    let before = is_before c.args.cut.now in
    let w = c.loop-above.way in
    let above : ℕ = c.loop-above.above in
    let levels : ℕ = c.args.levels in
    let r = c.requires in
    let here = goes_here s before levels above w r.0 c.loop-above-test.true (c.loop-above.invariant.goes r.0 r.1) in
    let few : length s.images < 2 ^ 32 = omega (arith, g.met.T.Pages.small c.args.t.now) in
    let small : w.child.page < 2 ^ 32 = omega (arith, here.0.0, few) in
    let some = goes_some s before (levels - (above + 1)) above w r.0 (page_at s.images w.child.page) here.1 in
    let node : page_at s.images w.child.page ≡ Some (content_of c.node_in.result) = seen s.images w.child.page c.look.result.now small few c.look.ensures some ∙ c.node_in.ensures in
    absurd (subst (GoesBy s before (levels - (above + 1)) above w end) (node ∙ ap (λ (n : Node). Some (content_of n)) c.in-Leaf.is)
    (goes_here s before levels above w end c.loop-above-test.true (c.loop-above.invariant.goes end h)).1)

pub loop-above-preserved : goal.loop-above-preserved
loop-above-preserved g c =
    let s = g.T.Pages.step c.args.t.now in
    let before = is_before c.args.cut.now in
    let w = c.loop-above.way in
    let above : ℕ = c.loop-above.above in
    let levels : ℕ = c.args.levels in
    let r = c.requires in
    let here = goes_here s before levels above w r.0 c.loop-above-test.true (c.loop-above.invariant.goes r.0 r.1) in
    let few : length s.images < 2 ^ 32 = omega (arith, g.met.T.Pages.small c.args.t.now) in
    let small : w.child.page < 2 ^ 32 = omega (arith, here.0.0, few) in
    let some = goes_some s before (levels - (above + 1)) above w r.0 (page_at s.images w.child.page) here.1 in
    let node : page_at s.images w.child.page ≡ Some (content_of c.node_in.result) = seen s.images w.child.page c.look.result.now small few c.look.ensures some ∙ c.node_in.ensures in
    record {
      goes = λ end h. subst (λ (x : Way). GoesDown s before (levels - (above + 1)) (above + 1) x end) (sym c.way_to-way.ensures)
          (subst (GoesBy s before (levels - (above + 1)) above w end) (node ∙ ap (λ (n : Node). Some (content_of n)) c.in-Interior.is)
          (goes_here s before levels above w end c.loop-above-test.true (c.loop-above.invariant.goes end h)).1);
    }
