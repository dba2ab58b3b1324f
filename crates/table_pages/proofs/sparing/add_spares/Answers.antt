use Rattle.table_pages.proofs.LastLaws.{Lasts}
use Rattle.table_pages.proofs.SpareLaws.{spares_then}
use Rattle.std.proofs.Common.{◌∙◌, Option, None, sym, ap, subst, ℕ, ◌+◌, arith}
use Rattle.std.proofs.lemmas.Result.{err_from_is_err_and}
use Rattle.fsd_bytes.specs.declared.refusal.Refusal.{Refusal}
use Rattle.name_page.specs.Pages.{outer_in, outer_refusal}
use Rattle.table_pages.specs.Sparing.{SparesOnly}
use Rattle.table_pages.proofs.sparing.add_spares.Given as given
use Rattle.table_pages.proofs.sparing.add_spares.Goals as goal

-- what the source knows lasts
lasts : (g : given.Over) → Lasts g.S.PageSource
lasts g = record { knows = g.met.S.PageSource.wears; newest = g.met.S.PageSource.stays }

pub returns-in_err-add_spare-clause-only : goal.returns-in_err-add_spare-clause-only
returns-in_err-add_spare-clause-only g c =
    let told = err_from_is_err_and c.from_residual.result c.from_residual.ensures.1 in
    let M = g.M.Machine in
    let S = g.S.PageSource in
    subst (λ (refusal : Option Refusal). SparesOnly M S c.args.source.now c.args.free.now refusal c.args.m.now c.add_spare.new.m c.args.cache.now c.add_spare.new.cache c.args.spares.now.items c.add_spare.new.spares.items)
    (sym (ap outer_in told.1 ∙ ap outer_refusal told.2))
    (spares_then M S c.args.source.now c.args.free.now _ (lasts g) c.args.m.now c.loop.m c.add_spare.new.m c.args.cache.now c.loop.cache c.add_spare.new.cache
    c.args.spares.now.items c.loop.spares.items c.add_spare.new.spares.items c.loop.invariant.only c.in_err-add_spare.ensures.only)

pub loop-preserved : goal.loop-preserved
loop-preserved g c = record {
  only = spares_then g.M.Machine g.S.PageSource c.args.source.now c.args.free.now None (lasts g) c.args.m.now c.loop.m c.add_spare.new.m c.args.cache.now c.loop.cache c.add_spare.new.cache
      c.args.spares.now.items c.loop.spares.items c.add_spare.new.spares.items c.loop.invariant.only c.in_ok-add_spare.ensures.only;
  room = c.add_spare.ensures.room;
  count = c.in_ok-add_spare.ensures.added ∙ ap (λ (n : ℕ). n + 1) c.loop.invariant.count;
  few = c.add_spare.ensures.few;
  first = (let one = c.loop.invariant.first in let two = c.add_spare.ensures.more in omega (arith, one, two));
}
