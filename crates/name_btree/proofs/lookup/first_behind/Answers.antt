use Rattle.std.proofs.Common.{◌≡◌, ◌∙◌, sym, ap, true, false, not}
use Rattle.name_page.specs.Cut.{is_before}
use Rattle.name_page.proofs.ListLaws.{find_more}
use Rattle.name_btree.proofs.lookup.first_behind.Goals as goal

pub returns-then-not-stands_before-clause-first : goal.returns-then-not-stands_before-clause-first
returns-then-not-stands_before-clause-first c =
    let e = c.stands_before.ensures.0 in
    let at = c.stands_before.ensures.1 in
    let stops : is_before c.args.cut.now e.key ≡ false = sym c.stands_before.ensures.2 ∙ c.if-not-stands_before.true in
    let more = find_more (λ e. not (is_before c.args.cut.now e.key)) c.args.entries.now c.loop-i.i e true at (sym (ap not stops)) in
    sym c.get.ensures.there ∙ at ∙ sym (sym c.loop-i.invariant ∙ more)

pub loop-i-preserved : goal.loop-i-preserved
loop-i-preserved c =
    let e = c.stands_before.ensures.0 in
    let goes : is_before c.args.cut.now e.key ≡ true = sym c.stands_before.ensures.2 ∙ c.if-not-stands_before.false in
    sym (find_more (λ e. not (is_before c.args.cut.now e.key)) c.args.entries.now c.loop-i.i e false c.stands_before.ensures.1 (sym (ap not goes))) ∙ c.loop-i.invariant
