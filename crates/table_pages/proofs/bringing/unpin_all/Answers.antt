use Rattle.table_pages.proofs.PinLaws.{set_only, only_then, unpinned_more}
use Rattle.std.proofs.Common.{get_or, ◌-◌, arith}
use Rattle.page_cache.specs.Cache.{pins_of}
use Rattle.table_pages.proofs.bringing.unpin_all.Goals as goal

pub loop-page-preserved : goal.loop-page-preserved
loop-page-preserved c =
    let old = c.args.cache.now in
    let mid = c.loop-page.cache in
    let new = c.unpin.new.self in
    let page = get_or c.args.pages.now c.loop-page.page-index 0 in
    record {
      pins = unpinned_more old mid new c.args.pages.now c.loop-page.page-index (omega arith) c.requires c.loop-page.invariant.pins c.unpin.ensures;
      only = only_then old mid new c.loop-page.invariant.only (set_only mid new page (pins_of mid page - 1) c.unpin.ensures);
    }
