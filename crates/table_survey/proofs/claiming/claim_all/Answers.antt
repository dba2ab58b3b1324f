use Rattle.std.proofs.Common.{◌≡◌, ◌∙◌, ◌<◌, ◌≤◌, ℕ, List, Option, Some, length, true, sym, ap, subst, arith}
use Rattle.std.specs.Option.{option_copied}
use Rattle.std.proofs.lemmas.Result.{err_from_is_err_and}
use Rattle.fsd_bytes.specs.declared.key.Key.{Key}
use Rattle.fsd_table.specs.Tree.{IsTree, table_of}
use Rattle.fsd_table.proofs.BoundLaws.{entries_ascend}
use Rattle.fsd_table.specs.Table.{top}
use Rattle.name_page.specs.Pages.{Step, reaches, rested}
use Rattle.name_page.specs.Looks.{OnlyWalks}
use Rattle.name_page.specs.Lookups.{is_after}
use Rattle.name_page.specs.declared.pages.TheConstants.{MOST_REACHED}
use Rattle.name_page.proofs.LookLaws.{reaches_still, reaches_walks, rest_reaches, walks_then, shows_now}
use Rattle.name_btree.specs.declared.fault.TreeFault.{TreeFault}
use Rattle.name_btree.specs.Fault.{outer_of, IsAmong, IsOnWay}
use Rattle.name_btree.specs.Lookup.{found_entry, IsInPlace, TellsLater}
use Rattle.name_btree.proofs.ways.ReachLaws.{among_since}
use Rattle.sector_set.specs.Area.{Area, IsOwn}
use Rattle.table_survey.specs.Claims.{FailsClaims, IsLeftOf}
use Rattle.table_survey.proofs.ClaimLaws.{without_own, entry_fewer, left_all, left_less}
use Rattle.table_survey.proofs.PassLaws.{IsPassed, passed_none, passed_more, passed_all}
use Rattle.table_survey.proofs.FaultLaws.{claim_breaks, look_up_fails}
use Rattle.table_survey.proofs.StepLaws.{found_then}
use Rattle.table_survey.proofs.claiming.claim_all.Goals as goal

pub loop-found-init : goal.loop-found-init
loop-found-init g c =
    let G = g.T.Pages in
    let t = c.args.t.now in
    record {
      calls = reaches_walks G t t (reaches_still G t (g.met.T.Pages.still t));
      own = c.requires.own;
      left = left_all c.args.map.now c.requires.own;
      pass = λ trusted height tree. passed_none (table_of (G.step t).images height) c.args.map.now c.requires.own (entries_ascend _ (G.step t).images top tree.subtree);
    }

pub next_after-requires : goal.next_after-requires
next_after-requires g c =
    let more : MOST_REACHED ≤ (g.T.Pages.step c.loop-found.t).most_reached = subst (λ (n : ℕ). MOST_REACHED ≤ n) (sym c.loop-found.invariant.calls.most_reached) c.requires.more in
    let again : MOST_REACHED ≤ reaches (rested (g.T.Pages.step c.loop-found.t)) = omega (arith, more) in
    subst (λ (s : Step). MOST_REACHED ≤ reaches s) (sym c.rest.ensures.step) again

-- ---- the look-up fails

pub returns-in_err-found-clause-calls : goal.returns-in_err-found-clause-calls
returns-in_err-found-clause-calls g c =
    let G = g.T.Pages in
    let law = g.met.T.Pages in
    let new = c.next_after.new.t in
    let so = rest_reaches G law.then law.trust c.loop-found.t c.rest.new.self new c.rest.ensures.outside c.rest.ensures.step c.in_err-found.ensures.calls in
    let p = err_from_is_err_and c.from_residual.result c.from_residual.ensures.1 in
    rw (p.1, p.2) (walks_then G law.then c.args.t.now c.loop-found.t new c.loop-found.invariant.calls so)

pub returns-in_err-found-clause-among : goal.returns-in_err-found-clause-among
returns-in_err-found-clause-among g c = λ some.
    let G = g.T.Pages in
    let m = length (G.step c.rest.new.self).images in
    let n = length (G.step c.args.t.now).images in
    let same : m ≡ n = ap (λ (s : Step). length s.images) c.rest.ensures.step ∙ c.loop-found.invariant.calls.count in
    let p = err_from_is_err_and c.from_residual.result c.from_residual.ensures.1 in
    rw (p.1, p.2) (among_since m n c.in_err-found.field-0.0 same c.in_err-found.ensures.failed.among some)

pub returns-in_err-found-clause-fault : goal.returns-in_err-found-clause-fault
returns-in_err-found-clause-fault g c =
    let p = err_from_is_err_and c.from_residual.result c.from_residual.ensures.1 in
    rw (p.1, p.2) (look_up_fails g.T.Pages c.next_after.new.t c.in_err-found.field-0.0 c.args.map.now c.in_err-found.ensures.failed.cause)

-- ---- nothing is left

pub returns-in_default-clause-calls : goal.returns-in_default-clause-calls
returns-in_default-clause-calls g c =
    let G = g.T.Pages in
    let law = g.met.T.Pages in
    let new = c.next_after.new.t in
    walks_then G law.then c.args.t.now c.loop-found.t new c.loop-found.invariant.calls
    (rest_reaches G law.then law.trust c.loop-found.t c.rest.new.self new c.rest.ensures.outside c.rest.ensures.step c.in_ok-found.ensures.calls)

pub returns-in_default-clause-claimed : goal.returns-in_default-clause-claimed
returns-in_default-clause-claimed g c = λ trusted height tree.
    let G = g.T.Pages in
    let law = g.met.T.Pages in
    let old = c.args.t.now in
    let new = c.next_after.new.t in
    let look = c.in_ok-found.ensures in
    let so = rest_reaches G law.then law.trust c.loop-found.t c.rest.new.self new c.rest.ensures.outside c.rest.ensures.step look.calls in
    let all = walks_then G law.then old c.loop-found.t new c.loop-found.invariant.calls so in
    let is = found_then G old c.rest.new.self new c.loop-found.after _ c.as_ref.ensures.value c.in_ok-found.field-0 all look.calls look.found trusted height tree in
    passed_all (table_of (G.step old).images height) c.args.map.now c.loop-found.after c.loop-found.map (c.loop-found.invariant.pass (so.trust trusted) height tree) (sym is ∙ ap found_entry c.in_default.is)

pub returns-in_default-clause-left : goal.returns-in_default-clause-left
returns-in_default-clause-left g c = c.loop-found.invariant.left

-- ---- the sectors are not all there

pub returns-in_err-claim-clause-calls : goal.returns-in_err-claim-clause-calls
returns-in_err-claim-clause-calls g c =
    let G = g.T.Pages in
    let law = g.met.T.Pages in
    let old = c.args.t.now in
    let new = c.next_after.new.t in
    let so = rest_reaches G law.then law.trust c.loop-found.t c.rest.new.self new c.rest.ensures.outside c.rest.ensures.step c.in_ok-found.ensures.calls in
    let all = walks_then G law.then old c.loop-found.t new c.loop-found.invariant.calls so in
    let p = err_from_is_err_and c.from_residual-in_err-claim.result c.from_residual-in_err-claim.ensures.1 in
    rw (p.1, p.2) (subst (λ (f : TreeFault). OnlyWalks G (outer_of f) old new) (sym c.in_err-claim.ensures.fault.0) all)

pub returns-in_err-claim-clause-among : goal.returns-in_err-claim-clause-among
returns-in_err-claim-clause-among g c = λ some.
    let G = g.T.Pages in
    let law = g.met.T.Pages in
    let old = c.args.t.now in
    let new = c.next_after.new.t in
    let look = c.in_ok-found.ensures in
    let so = rest_reaches G law.then law.trust c.loop-found.t c.rest.new.self new c.rest.ensures.outside c.rest.ensures.step look.calls in
    let all = walks_then G law.then old c.loop-found.t new c.loop-found.invariant.calls so in
    let f = c.in-Some.found in
    let there = (subst (TellsLater (G.step new) (option_copied c.as_ref.result)) c.in-Some.is look.told).there in
    let n = length (G.step old).images in
    let within : f.page < n = subst (λ (k : ℕ). f.page < k) all.count there.reached.0 in
    let p = err_from_is_err_and c.from_residual-in_err-claim.result c.from_residual-in_err-claim.ensures.1 in
    rw (p.1, p.2) (subst (IsAmong n) (sym c.in_err-claim.ensures.fault.0) within)

pub returns-in_err-claim-clause-fault : goal.returns-in_err-claim-clause-fault
returns-in_err-claim-clause-fault g c =
    let G = g.T.Pages in
    let law = g.met.T.Pages in
    let old = c.args.t.now in
    let new = c.next_after.new.t in
    let s = G.step new in
    let look = c.in_ok-found.ensures in
    let so = rest_reaches G law.then law.trust c.loop-found.t c.rest.new.self new c.rest.ensures.outside c.rest.ensures.step look.calls in
    let all = walks_then G law.then old c.loop-found.t new c.loop-found.invariant.calls so in
    let f = c.in-Some.found in
    let after = c.loop-found.after in
    let now = c.loop-found.map in
    let start = c.args.map.now in
    let met = subst (TellsLater s (option_copied c.as_ref.result)) c.in-Some.is look.told in
    let there = met.there in
    let place = shows_now (λ pages. IsInPlace pages f.page) s met.way in
    let way : IsOnWay s.images f.page = (place.0, place.1, place.2) in
    let later : is_after after f.entry.key ≡ true = subst (λ (a : Option Key). is_after a f.entry.key ≡ true) c.as_ref.ensures.value met.suits.later in
    let p = err_from_is_err_and c.from_residual-in_err-claim.result c.from_residual-in_err-claim.ensures.1 in
    rw (p.1, p.2) (subst (FailsClaims G start new) (sym c.in_err-claim.ensures.fault.0) (λ trusted l planned whole height tree.
    let same = all.stays trusted in
    let before = c.loop-found.invariant.pass (so.trust trusted) height (subst (λ (pages : List (List ℕ)). IsTree pages height) same tree) in
    let here = subst (λ (pages : List (List ℕ)). IsPassed (table_of pages height) start after now) (sym same) before in
    let pass = subst (λ (m : Area). IsPassed (table_of s.images height) m after now) whole here in
    claim_breaks l planned s.images height tree after now pass f there.entries way there.leaf there.there later c.in_err-claim.ensures.fault.1))

-- ---- one more

pub loop-found-smaller : goal.loop-found-smaller
loop-found-smaller g c =
    let e = c.in-Some.found.entry in
    let met = subst (TellsLater (g.T.Pages.step c.next_after.new.t) (option_copied c.as_ref.result)) c.in-Some.is c.in_ok-found.ensures.told in
    entry_fewer c.loop-found.map c.claim.new.map e c.loop-found.invariant.own c.in_ok-claim.ensures.free c.in_ok-claim.ensures.taken met.entry

pub loop-found-preserved : goal.loop-found-preserved
loop-found-preserved g c =
    let G = g.T.Pages in
    let law = g.met.T.Pages in
    let old = c.args.t.now in
    let new = c.next_after.new.t in
    let look = c.in_ok-found.ensures in
    let so = rest_reaches G law.then law.trust c.loop-found.t c.rest.new.self new c.rest.ensures.outside c.rest.ensures.step look.calls in
    let all = walks_then G law.then old c.loop-found.t new c.loop-found.invariant.calls so in
    let e = c.in-Some.found.entry in
    let now = c.loop-found.map in
    let taken = c.in_ok-claim.ensures.taken in
    record {
      calls = all;
      own = subst (λ (m : Area). IsOwn m) (sym taken) (without_own now e.runs);
      left = subst (IsLeftOf c.args.map.now) (sym taken) (left_less c.args.map.now now e.runs c.loop-found.invariant.left);
      pass = λ trusted height tree.
          let table = table_of (G.step old).images height in
          let is = found_then G old c.rest.new.self new c.loop-found.after _ c.as_ref.ensures.value c.in_ok-found.field-0 all look.calls look.found trusted height tree in
          let more = passed_more table c.args.map.now c.loop-found.after now e (c.loop-found.invariant.pass (so.trust trusted) height tree) (sym is ∙ ap found_entry c.in-Some.is) c.in_ok-claim.ensures.free in
          subst (λ (m : Area). IsPassed table c.args.map.now (Some e.key) m) (sym taken) more;
    }
