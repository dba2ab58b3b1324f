use Rattle.std.proofs.Common.{◌≡◌, ◌<◌, ◌∙◌, sym, true, false, arith}
use Rattle.name_page.specs.Cut.{is_before}
use Rattle.name_btree.proofs.finding.LastLaws.{last_more}
use Rattle.name_btree.proofs.lookup.last_before.Goals as goal

pub returns-then-is_before-clause-last : goal.returns-then-is_before-clause-last
returns-then-is_before-clause-last c =
    let some : 0 < c.loop-i.i = omega arith in
    let e = c.get-entry.result in
    let stops : is_before c.args.cut.now e.key ≡ true = cc in
    sym (sym c.loop-i.invariant ∙ last_more (λ e. is_before c.args.cut.now e.key) c.args.entries.now c.loop-i.i e true some c.get-entry.ensures.there (sym stops))

pub loop-i-preserved : goal.loop-i-preserved
loop-i-preserved c =
    let some : 0 < c.loop-i.i = omega arith in
    let e = c.get-entry.result in
    let goes : is_before c.args.cut.now e.key ≡ false = cc in
    sym (last_more (λ e. is_before c.args.cut.now e.key) c.args.entries.now c.loop-i.i e false some c.get-entry.ensures.there (sym goes)) ∙ c.loop-i.invariant
