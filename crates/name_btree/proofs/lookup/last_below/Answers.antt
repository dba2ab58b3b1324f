use Rattle.std.proofs.Common.{◌≡◌, ◌∙◌, ◌<◌, ◌+◌, ◌-◌, Bool, List, false, length, take, ap, subst, arith}
use Rattle.name_page.specs.Pages.{is_spare}
use Rattle.name_page.proofs.LookLaws.{agrees_at}
use Rattle.name_btree.proofs.finding.LookupLaws.{contains_at, stands_in}
use Rattle.name_btree.proofs.finding.NextLaws.{ends, empty_is, last_is, leaf_has_entries}
use Rattle.name_btree.proofs.ways.ChildLaws.{ends_last, leaf_read}
use Rattle.name_page.specs.Cut.{is_before}
use Rattle.name_btree.specs.Lookup.{IsReadLeaf}
use Rattle.name_page.specs.declared.cut.Cut.TheVariants.{End}
use Rattle.fsd_table.specs.declared.child.Child.{Child}
use Rattle.std.proofs.lemmas.Result.{err_from_is_err_and}
use Rattle.name_btree.specs.Descent.{with_beside, FoundLeaf}
use Rattle.name_btree.proofs.ways.VisitedLaws.{root_above, neighbour_breaks, shown_beside}
use Rattle.name_btree.proofs.lookup.last_below.Goals as goal

pub returns-then-count-eq0-clause-failed : goal.returns-then-count-eq0-clause-failed
returns-then-count-eq0-clause-failed g c =
    let along = c.in_ok-found.ensures.found in
    let found : FoundLeaf = with_beside c.in_ok-found.found along.way in
    let s = g.T.Pages.step c.leaf_below.new.t in
    let e = along.found in
    let used : is_spare s.spares found.page ≡ false = ap (λ (x : List Bool). is_spare x found.page) c.in_ok-found.ensures.calls.looks.spares ∙ e.used in
    let none : length found.entries ≡ 0 = omega arith in
    record {
      cause = λ is. absurd (leaf_has_entries s.images found.page found.entries e.leaf (root_above s.images c.args.previous is) (empty_is found.entries none));
      shown = λ pages agrees is. absurd (leaf_has_entries pages found.page found.entries (agrees_at s pages found.page e.reached used agrees ∙ e.leaf) (root_above pages c.args.previous is) (empty_is found.entries none));
    }

pub returns-in_err-found-clause-failed : goal.returns-in_err-found-clause-failed
returns-in_err-found-clause-failed g c =
    let s = g.T.Pages.step c.leaf_below.new.t in
    let fault = c.in_err-found.field-0.0 in
    let failed = c.in_err-found.ensures.failed in
    let p = err_from_is_err_and c.from_residual.result c.from_residual.ensures.1 in
    rw (p.1, p.2) (record { cause = neighbour_breaks s fault c.args.previous failed.cause; shown = shown_beside s fault c.args.previous failed.shown })

pub returns-in_err-found-clause-calls : goal.returns-in_err-found-clause-calls
returns-in_err-found-clause-calls g c =
    let p = err_from_is_err_and c.from_residual.result c.from_residual.ensures.1 in
    rw (p.1, p.2) c.in_err-found.ensures.calls

-- the leaf ends with it
pub returns-clause-found : goal.returns-clause-found
returns-clause-found g c =
    let old = g.T.Pages.step c.args.t.now in
    let s = g.T.Pages.step c.leaf_below.new.t in
    let n = c.args.previous in
    let along = c.in_ok-found.ensures.found in
    let found : FoundLeaf = with_beside c.in_ok-found.found along.way in
    let spares = c.in_ok-found.ensures.calls.looks.spares in
    let e = along.found in
    let leaf : Child = e.from.0 in
    let led = e.from.1 in
    let count = c.len-count.result in
    let some : 0 < count = omega arith in
    let value = c.len-count.ensures.value in
    let at = c.get.ensures.there in
    record {
      there = stands_in old s found.page found.entries c.get.result e.reached e.used spares e.leaf (contains_at found.entries (count - 1) c.get.result at);
      way = λ pages is there. e.way pages is there.1;
      fits = c.get.ensures.fits;
      last = λ pages is. ends pages n.child found count c.get.result (e.place pages is) value some at;
      beside = record {
        leaf = leaf;
        rest = take (count - 1) found.entries;
        is_read = subst (IsReadLeaf s leaf) (last_is found.entries count c.get.result value some at)
            (leaf_read old s (is_before End) n.above n.child found e.reached e.used spares e.leaf leaf led);
        depth = led.below + 1;
        path = λ pages agrees is. led.path pages agrees is.1;
        high = ends_last found.next n.child.high leaf.high e.next led.high;
      };
    }

-- ---- memory is not wanting

pub returns-in_err-found-clause-memory : goal.returns-in_err-found-clause-memory
returns-in_err-found-clause-memory g c = λ has.
    let p = err_from_is_err_and c.from_residual.result c.from_residual.ensures.1 in
    rw (p.1, p.2) (record { none = c.in_err-found.ensures.memory has; back = tt })

pub returns-then-count-eq0-clause-memory : goal.returns-then-count-eq0-clause-memory
returns-then-count-eq0-clause-memory g c = λ has. record { none = c.in_ok-found.ensures.memory has; back = tt }

pub returns-clause-memory : goal.returns-clause-memory
returns-clause-memory g c = λ has.
    let met = c.in_ok-found.ensures.found.stays has in
    record { none = met.none; back = met.back.here c.get.result (contains_at c.in_ok-found.found.entries (c.len-count.result - 1) c.get.result c.get.ensures.there) }
