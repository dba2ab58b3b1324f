use Rattle.std.proofs.Common.{◌-◌, ◌<◌, arith}
use Rattle.page_cache.specs.Cache.{IsResident, pins_of}
use Rattle.page_cache.proofs.KeepLaws.{pinned_resident}
use Rattle.table_pages.proofs.PinLaws.{set_only, only_there}
use Rattle.table_pages.proofs.SpareLaws.{first_counts}
use Rattle.table_pages.proofs.sparing.take_spare.Goals as goal
use Rattle.table_pages.proofs.sparing.take_spare.Goals.{After-remove-page}

-- the page is pinned
pinned : (c : After-remove-page) → 0 < pins_of c.args.cache.now c.remove-page.result
pinned c =
    let some = first_counts c.args.spares.now.items c.remove-page.result c.requires.some c.remove-page.ensures.value in
    let pins = c.requires.pinned c.remove-page.result in
    omega (arith, some, pins)

there : (c : After-remove-page) → IsResident c.args.cache.now c.remove-page.result
there c = pinned_resident c.args.cache.now c.remove-page.result (pinned c)

pub unpin-requires-clause-pinned : goal.unpin-requires-clause-pinned
unpin-requires-clause-pinned c = pinned (goal.at.unpin-requires-clause-pinned c).After-remove-page

pub unpin-requires-clause-resident : goal.unpin-requires-clause-resident
unpin-requires-clause-resident c = there (goal.at.unpin-requires-clause-resident c).After-remove-page

pub dirty-requires-clause-resident : goal.dirty-requires-clause-resident
dirty-requires-clause-resident c =
    let old = c.args.cache.now in
    let page = c.remove-page.result in
    let mid = c.unpin.new.self in
    only_there old mid (set_only old mid page (pins_of old page - 1) c.unpin.ensures) page (there (goal.at.dirty-requires-clause-resident c).After-remove-page)
