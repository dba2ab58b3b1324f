use Rattle.std.proofs.Common.{ℕ, List, take, get_or, sym, ap, subst, ◌∙◌}
use Rattle.std.proofs.lemmas.List.{take_more}
use Rattle.fsd_formats.specs.Record.{Stamp}
use Rattle.page_cache.specs.Cache.{CacheValue, IsResident, page_written}
use Rattle.group_commit.specs.Cached.{stamped_frames}
use Rattle.group_commit.proofs.FrameLaws.{not_before, stamped_none, stamped_one, there_then}
use Rattle.group_commit.proofs.frames.stamp_frames.Goals as goal

pub loop-page-init : goal.loop-page-init
loop-page-init c = sym (stamped_none (record { epoch = c.args.epoch; number = c.args.number }) c.args.cache.now)

pub bytes_mut-requires : goal.bytes_mut-requires
bytes_mut-requires c =
    let k = c.loop-page.page-index in
    let stamp : Stamp = record { epoch = c.args.epoch; number = c.args.number } in
    let page : ℕ = get_or c.args.pages.now c.loop-page.page-index 0 in
    subst (λ (v : CacheValue). IsResident v page) (sym c.loop-page.invariant) (there_then stamp (take k c.args.pages.now) c.args.cache.now page (c.requires.inside k c.loop-page-test.true))

pub loop-page-preserved : goal.loop-page-preserved
loop-page-preserved c =
    let k = c.loop-page.page-index in
    let pages = c.args.pages.now in
    let stamp : Stamp = record { epoch = c.args.epoch; number = c.args.number } in
    let page : ℕ = get_or c.args.pages.now c.loop-page.page-index 0 in
    ap (λ (bytes : List ℕ). page_written page bytes c.loop-page.cache) c.stamp_page.ensures
    ∙ stamped_one stamp (take k pages) page c.bytes_mut.result.now c.args.cache.now c.loop-page.cache c.requires.valid (not_before pages k c.requires.ascends c.loop-page-test.true) c.loop-page.invariant c.bytes_mut.ensures.value
    ∙ ap (λ (xs : List ℕ). stamped_frames stamp xs c.args.cache.now) (sym (take_more pages k 0 c.loop-page-test.true))
