use Rattle.std.proofs.Common.{◌≡◌, ◌∙◌, sym, ap, true, false}
use Rattle.std.specs.Ordering.{is_eq}
use Rattle.fsd_bytes.specs.Keys.{same_key}
use Rattle.name_page.proofs.ListLaws.{find_more}
use Rattle.name_btree.proofs.lookup.entry_in.Goals as goal

pub returns-then-is_eq-clause-with : goal.returns-then-is_eq-clause-with
returns-then-is_eq-clause-with c =
    let key = c.args.key.now in
    let entries = c.args.entries.now in
    let e = c.compare.ensures.0 in
    let same : true ≡ same_key e.key key = sym c.if-is_eq.true ∙ c.is_eq.ensures ∙ ap is_eq c.compare.ensures.2 in
    let more = find_more (λ e. same_key e.key key) entries c.loop-i.i e true c.compare.ensures.1 same in
    sym c.get.ensures.there ∙ c.compare.ensures.1 ∙ sym (sym c.loop-i.invariant ∙ more)

pub loop-i-preserved : goal.loop-i-preserved
loop-i-preserved c =
    let key = c.args.key.now in
    let entries = c.args.entries.now in
    let e = c.compare.ensures.0 in
    let other : false ≡ same_key e.key key = sym c.if-is_eq.false ∙ c.is_eq.ensures ∙ ap is_eq c.compare.ensures.2 in
    let more = find_more (λ e. same_key e.key key) entries c.loop-i.i e false c.compare.ensures.1 other in
    sym more ∙ c.loop-i.invariant
