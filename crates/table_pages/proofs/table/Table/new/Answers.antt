use Rattle.std.proofs.Common.{ℕ, List, [], sym, subst}
use Rattle.page_cache.specs.Cache.{CacheValue}
use Rattle.page_cache.proofs.WrittenLaws.{dirty_there}
use Rattle.table_pages.specs.Kept.{IsKeptSince}
use Rattle.table_pages.proofs.KeptLaws.{kept_at_first}
use Rattle.table_pages.proofs.table.Table.new.Goals as goal

pub invariant_of-result : goal.invariant_of-result
invariant_of-result g c =
    let M = g.M.Machine in
    let S = g.S.PageSource in
    let r = c.requires in
    let kept = kept_at_first M S c.args.source.now c.args.m.now c.args.cache.now c.args.free.now r.pages r.small r.sectors r.frames r.unpinned (dirty_there c.args.cache.now c.attest.ensures) in
    let over = subst (λ (first : g.row.M.Denot). IsKeptSince M S first c.args.cache.now c.args.m.now c.args.cache.now c.args.source.now c.args.free.now [] [] 0) (sym c.of-made_over.ensures) kept in
    let with_both = subst (λ (had : CacheValue). IsKeptSince M S c.of-made_over.result.value had c.args.m.now c.args.cache.now c.args.source.now c.args.free.now [] [] 0) (sym c.of-made_with.ensures) over in
    let reached = subst (λ (l : List ℕ). IsKeptSince M S c.of-made_over.result.value c.of-made_with.result.value c.args.m.now c.args.cache.now c.args.source.now c.args.free.now l [] 0) (sym c.new.ensures) with_both in
    record { kept = subst (λ (l : List ℕ). IsKeptSince M S c.of-made_over.result.value c.of-made_with.result.value c.args.m.now c.args.cache.now c.args.source.now c.args.free.now c.new.result.items l 0) (sym c.new-2.ensures) reached }
