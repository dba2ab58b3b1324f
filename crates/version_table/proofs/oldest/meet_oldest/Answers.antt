use Rattle.std.proofs.Common.{◌≡◌, inl, inr, ◌<◌, ◌≤◌, ℕ, [], List, Option, arith, refl, subst}
use Rattle.std.proofs.lemmas.Result.{err_from_is_err_and}
use Rattle.fsd_formats.specs.declared.entry.Entry.{Entry}
use Rattle.fsd_table.specs.Tree.{table_of}
use Rattle.name_page.proofs.LookLaws.{walks_then}
use Rattle.name_btree.specs.declared.lookup.FoundEntry.{FoundEntry}
use Rattle.name_btree.specs.Fault.{IsAmong}
use Rattle.version_table.specs.Met.{IsMetBetween, leaving_of}
use Rattle.version_table.specs.Table.{OfTable}
use Rattle.version_table.specs.Versions.{IsFirstBehind, versions_behind}
use Rattle.version_table.proofs.MeetLaws.{Counts, meets_all, meets_more, meets_none, met_later, of_later}
use Rattle.version_table.proofs.OldestLaws.{of_some}
use Rattle.version_table.proofs.oldest.meet_oldest.Given as given
use Rattle.version_table.proofs.oldest.meet_oldest.Goals as goal
use Rattle.version_table.proofs.oldest.meet_oldest.Goals.{After-loop, In-None}

pub loop-init : goal.loop-init
loop-init g c =
    let name = c.args.name.now in
    meets_none g.T.Pages name c.args.t.now (record { first = c.new.result; count = 0 }) (record { name = c.copied.result; version = 0 }) c.args.most (g.met.T.Pages.still c.args.t.now) c.new.ensures refl (λ i. record { name = c.copied.ensures i; version = 0 })

pub next_version-requires : goal.next_version-requires
next_version-requires g c = omega (arith, c.requires, c.loop.invariant.walks.most_reached)

pub returns-in_err-found-clause-walks : goal.returns-in_err-found-clause-walks
returns-in_err-found-clause-walks g c =
    let p = err_from_is_err_and c.from_residual.result c.from_residual.ensures.1 in
    rw (p.1, p.2) (walks_then g.T.Pages g.met.T.Pages.then c.args.t.now c.loop.t c.next_version.new.t c.loop.invariant.walks c.in_err-found.ensures.walks)

pub returns-in_err-found-clause-failed : goal.returns-in_err-found-clause-failed
returns-in_err-found-clause-failed g c =
    let e = c.in_err-found.ensures in
    let fault = c.in_err-found.field-0.0 in
    let p = err_from_is_err_and c.from_residual.result c.from_residual.ensures.1 in
    rw (p.1, p.2) (record { among = subst (λ (pages : ℕ). 0 < pages → IsAmong pages fault) c.loop.invariant.walks.count e.among; cause = e.fault; shown = e.shown })

-- none is left
none_left : (g : given.Over) (c : In-None g) → OfTable g.T.Pages c.args.t.now c.next_version.new.t (Counts c.args.name.now c.loop.oldest c.args.most)
none_left g c =
    let P = g.T.Pages in
    let e = c.in_ok-found.ensures in
    let none : OfTable P c.loop.t c.next_version.new.t (λ (table : List Entry). versions_behind c.loop.last table ≡ []) =
    λ trusted height tree. subst (λ (o : Option FoundEntry). IsFirstBehind c.loop.last (table_of (P.step c.loop.t).images height) o) c.in-None.is (e.found trusted height tree) in
    meets_all P c.args.name.now c.args.t.now c.loop.t c.next_version.new.t c.loop.oldest c.loop.last c.loop.counter c.args.most c.loop.invariant e.walks.trust
    (λ trusted height tree. inl (of_later P c.args.t.now c.loop.t c.next_version.new.t (λ (table : List Entry). versions_behind c.loop.last table ≡ []) c.loop.invariant.walks e.walks.trust none trusted height tree))

pub returns-in-None-clause-walks : goal.returns-in-None-clause-walks
returns-in-None-clause-walks g c = walks_then g.T.Pages g.met.T.Pages.then c.args.t.now c.loop.t c.next_version.new.t c.loop.invariant.walks c.in_ok-found.ensures.walks

pub returns-in-None-clause-met : goal.returns-in-None-clause-met
returns-in-None-clause-met g c = met_later g.T.Pages g.met.T.Pages.then c.args.name.now c.args.t.now c.loop.t c.next_version.new.t c.loop.oldest.first.items c.in_ok-found.ensures.walks c.loop.invariant.met

pub returns-in-None-clause-counted : goal.returns-in-None-clause-counted
returns-in-None-clause-counted g c = λ trusted height tree. (none_left g c trusted height tree).count

pub returns-in-None-clause-first : goal.returns-in-None-clause-first
returns-in-None-clause-first g c = λ trusted height tree. (none_left g c trusted height tree).first

pub loop-preserved : goal.loop-preserved
loop-preserved g c =
    let P = g.T.Pages in
    let e = c.in_ok-found.ensures in
    let f = c.in-Some.found in
    meets_more P g.met.T.Pages.then c.args.name.now c.args.t.now c.loop.t c.next_version.new.t c.loop.oldest c.add.new.self c.loop.last c.copied-last.result c.loop.counter c.args.most f c.loop.invariant e.walks
    (of_some (λ (x : FoundEntry). IsMetBetween P c.loop.last.name c.loop.t c.next_version.new.t (leaving_of x)) c.in_ok-found.field-0 f c.in-Some.is e.met)
    (λ trusted height tree. subst (λ (o : Option FoundEntry). IsFirstBehind c.loop.last (table_of (P.step c.loop.t).images height) o) c.in-Some.is (e.found trusted height tree))
    c.add.ensures.count c.add.ensures.first c.copied-last.ensures c.loop-test.true

-- as many as were asked for
enough : (g : given.Over) (c : After-loop g) → c.args.most ≤ c.loop.counter → OfTable g.T.Pages c.args.t.now c.loop.t (Counts c.args.name.now c.loop.oldest c.args.most)
enough g c most =
    meets_all g.T.Pages c.args.name.now c.args.t.now c.loop.t c.loop.t c.loop.oldest c.loop.last c.loop.counter c.args.most c.loop.invariant (λ trusted. trusted) (λ trusted height tree. inr most)

pub returns-clause-counted : goal.returns-clause-counted
returns-clause-counted g c = λ trusted height tree. (enough g c (omega (arith, c.loop-test.false)) trusted height tree).count

pub returns-clause-first : goal.returns-clause-first
returns-clause-first g c = λ trusted height tree. (enough g c (omega (arith, c.loop-test.false)) trusted height tree).first
