use Rattle.std.proofs.Common.{◌≡◌, ℕ, ◌+◌, ◌-◌, List, Option, None, false, arith, length, subst, sym, ap, ◌∙◌, length-append, ◌∷◌, []}
use Rattle.std.proofs.lemmas.Result.{err_from_is_err_and}
use Rattle.fsd_bytes.specs.declared.refusal.Refusal.{Refusal}
use Rattle.name_page.specs.Pages.{outer_in, outer_refusal}
use Rattle.page_cache.specs.Cache.{is_among}
use Rattle.table_pages.specs.Bringing.{HasRoomFor}
use Rattle.table_pages.specs.Sparing.{SparesOnly}
use Rattle.table_pages.proofs.SpareLaws.{room_same, room_pins, room_kept, spares_same, spares_more}
use Rattle.table_pages.proofs.sparing.add_spare.Given as given
use Rattle.table_pages.proofs.sparing.add_spare.Goals as goal
use Rattle.table_pages.proofs.sparing.add_spare.Goals.{After-bring}

-- there is as much room as before
room : (g : given.Over) (c : After-bring g) → HasRoomFor (16 - length c.args.spares.now.items) c.bring.new.cache
room g c = room_same (16 - length c.args.spares.now.items) c.args.cache.now c.bring.new.cache c.bring.ensures.fetches.fills.frames c.bring.ensures.pins c.requires.room

pub returns-in_err-bring-clause-only : goal.returns-in_err-bring-clause-only
returns-in_err-bring-clause-only g c =
    let told = err_from_is_err_and c.from_residual.result c.from_residual.ensures.1 in
    let M = g.M.Machine in
    let S = g.S.PageSource in
    let spares = c.args.spares.now.items in
    subst (λ (refusal : Option Refusal). SparesOnly M S c.args.source.now c.args.free.now refusal c.args.m.now c.bring.new.m c.args.cache.now c.bring.new.cache spares spares) (sym (ap outer_in told.1 ∙ ap outer_refusal told.2))
    (spares_same M S c.args.source.now c.args.free.now _ c.args.m.now c.bring.new.m c.args.cache.now c.bring.new.cache spares c.in_err-bring.ensures.fetches c.bring.ensures.pins c.requires.spares)

pub returns-in_err-bring-clause-room : goal.returns-in_err-bring-clause-room
returns-in_err-bring-clause-room g c = room g (goal.at.returns-in_err-bring-clause-room g c).After-bring

pub keep-requires : goal.keep-requires
keep-requires g c =
    let pins = room_pins (16 - length c.args.spares.now.items) c.bring.new.cache (room g (goal.at.keep-requires g c).After-bring) c.unwrap-page.result in
    (omega arith, (c.in_ok-bring.ensures.there, (omega (arith, pins), c.requires.few)))

pub returns-clause-only : goal.returns-clause-only
returns-clause-only g c =
    let page = c.unwrap-page.result in
    let found = rw c.unwrap-page.ensures at c.spare_beside.ensures.found in
    subst (λ (spares : List ℕ). SparesOnly g.M.Machine g.S.PageSource c.args.source.now c.args.free.now None c.args.m.now c.bring.new.m c.args.cache.now c.keep.new.cache c.args.spares.now.items spares) (sym c.keep.ensures.noted)
    (spares_more g.M.Machine g.S.PageSource c.args.source.now c.args.free.now None c.args.m.now c.bring.new.m c.args.cache.now c.bring.new.cache c.keep.new.cache c.args.spares.now.items page
    c.in_ok-bring.ensures.fetches c.bring.ensures.pins c.keep.ensures.pinned c.in_ok-bring.ensures.there c.requires.spares found.0 (subst (λ (spares : List ℕ). is_among spares page ≡ false) c.as_slice.ensures.value found.1))

pub returns-clause-room : goal.returns-clause-room
returns-clause-room g c =
    let n = length c.args.spares.now.items in
    let long : length c.keep.new.list.items ≡ n + 1 = ap length c.keep.ensures.noted ∙ length-append c.args.spares.now.items (c.unwrap-page.result ∷ []) in
    let few = c.requires.few in
    let more : 16 - n ≡ (16 - length c.keep.new.list.items) + 1 = omega (arith, long, few) in
    room_kept (16 - length c.keep.new.list.items) c.bring.new.cache c.keep.new.cache c.unwrap-page.result c.keep.ensures.pinned c.in_ok-bring.ensures.there
    (subst (λ (k : ℕ). HasRoomFor k c.bring.new.cache) more (room g (goal.at.returns-clause-room g c).After-bring))
