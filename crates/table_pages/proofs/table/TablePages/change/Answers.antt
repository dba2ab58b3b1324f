use Rattle.std.proofs.Common.{◌≡◌, ◌∙◌, ℕ, List, Some, length, refl, sym, ap, subst}
use Rattle.page_cache.specs.Cache.{CacheValue, newest_bytes, cached_bytes, page_written, with_written}
use Rattle.page_cache.proofs.WrittenLaws.{written_is}
use Rattle.table_pages.specs.Bringing.{given_by}
use Rattle.table_pages.specs.Kept.{IsKeptSince, kept_written}
use Rattle.table_pages.specs.ImageLaws.{image_at}
use Rattle.table_pages.proofs.KeptLaws.{kept_dirty}
use Rattle.table_pages.proofs.StepLaws.{within_free, there, newest_at, same_written}
use Rattle.table_pages.proofs.table.TablePages.change.Given as given
use Rattle.table_pages.proofs.table.TablePages.change.Goals as goal
use Rattle.table_pages.proofs.table.TablePages.change.Goals.{After-dirty}

pub dirty-requires-clause-resident : goal.dirty-requires-clause-resident
dirty-requires-clause-resident g c = there c.args.self.now c.args.page c.requires.reached

pub invariant_of-self : goal.invariant_of-self
invariant_of-self g c =
    let t = c.args.self.now in
    let kept = kept_dirty g.M.Machine g.S.PageSource t.source.now t.made_over.value t.made_with.value t.m.now t.cache.now t.free.now t.reached.items t.spares.items t.promised t.kept c.args.page (there t c.args.page c.requires.reached) in
    record { kept = subst (λ (x : CacheValue). IsKeptSince g.M.Machine g.S.PageSource t.made_over.value t.made_with.value t.m.now x t.source.now t.free.now t.reached.items t.spares.items t.promised) (sym c.dirty.ensures.list) kept }

-- the page that is marked is written
is : (g : given.Over) (c : After-dirty g) (w : List ℕ) → page_written c.args.page w c.dirty.new.self ≡ with_written c.args.page w c.args.self.now.cache.now
is g c w =
    let t = c.args.self.now in
    ap (page_written c.args.page w) c.dirty.ensures.list ∙ sym (written_is c.args.page w t.cache.now (there t c.args.page c.requires.reached))

pub invariant_of-self-lent : goal.invariant_of-self-lent
invariant_of-self-lent g c = λ w.
    let t = c.args.self.now in
    let kept = kept_written g.M.Machine g.S.PageSource t.made_over.value t.made_with.value t.m.now t.cache.now t.source.now t.free.now t.reached.items t.spares.items t.promised t.kept c.args.page w in
    (subst (λ (x : CacheValue). IsKeptSince g.M.Machine g.S.PageSource t.made_over.value t.made_with.value t.m.now x t.source.now t.free.now t.reached.items t.spares.items t.promised) (sym (is g (goal.at.invariant_of-self-lent g c).After-dirty w)) kept, tt)

pub returns : goal.returns
returns g c =
    let t = c.args.self.now in
    let page = c.args.page in
    let source = given_by g.M.Machine g.S.PageSource t.source.now t.m.now in
    let bytes : cached_bytes t.cache.now page ≡ Some c.bytes_mut.result.now = ap (λ (x : CacheValue). cached_bytes x page) (sym c.dirty.ensures.list) ∙ c.bytes_mut.ensures.value in (
      (refl, λ w. same_written t page w (page_written page w c.dirty.new.self) _ (is g (goal.at.returns g c).After-dirty w)),
      record { writes_back = tt; value = image_at (newest_bytes t.cache.now source) (length t.free.now) page c.bytes_mut.result.now (within_free t page c.requires.reached.0) (newest_at t.cache.now source page c.bytes_mut.result.now bytes) },
    )
