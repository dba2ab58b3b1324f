use Rattle.std.proofs.Common.{◌≡◌, ◌∙◌, Some, option_map, sym, ap}
use Rattle.std.specs.Prelude.{slice_get}
use Rattle.std.specs.Map.Iter.{deref_pair}
use Rattle.page_cache.proofs.Entries.{first_found}
use Rattle.page_cache.proofs.order.newest_slot.Goals as goal

pub returns-then-first-page : goal.returns-then-first-page
returns-then-first-page c =
    let at : slice_get c.args.order.now.entries 0 ≡ Some (c.in-Some.first.now, c.in-Some.slot.now) = sym c.peek_mru.ensures ∙ ap (option_map deref_pair) c.in-Some.is in
    first_found c.args.order.now.entries c.args.page (c.in-Some.first.now, c.in-Some.slot.now) at c.if-first-page.true
