use Rattle.std.proofs.Common.{◌≡◌, ◌∙◌, ◌<◌, ◌+◌, length, sym, ap, subst, true, false, List, ℕ, Some, arith}
use Rattle.std.proofs.lemmas.Result.{err_from_is_err_and}
use Rattle.fsd_formats.specs.NamePage.{Leaf, Interior}
use Rattle.fsd_table.specs.Pages.{page_at, children, content_fits}
use Rattle.fsd_table.specs.Table.{max_height, IsVisited}
use Rattle.fsd_table.proofs.BreakLaws.{too_deep_breaks}
use Rattle.fsd_table.specs.declared.child.Child.{Child}
use Rattle.name_page.specs.Pages.{Step, reaches, rested}
use Rattle.name_page.proofs.LookLaws.{no_more_rested, no_more_still, no_more_then, reaches_still, reaches_walks, rest_reaches, walks_then}
use Rattle.name_page.specs.declared.node.Node.{Node}
use Rattle.name_page.specs.Node.{content_of}
use Rattle.name_btree.specs.Fault.{BarsPage}
use Rattle.name_btree.specs.Still.{HasRefusal}
use Rattle.name_btree.proofs.steps.RestLaws.{refused_rested}
use Rattle.name_btree.proofs.walks.WalkLaws.{all_at}
use Rattle.name_btree.proofs.ways.ReachLaws.{IsWithin, misfit_among, ways_within}
use Rattle.name_btree.proofs.walks.TopLaws.{IsDown, down_begins, down_first, down_ends, down_breaks}
use Rattle.name_btree.proofs.walking.top_level.Goals as goal

pub loop-level-init : goal.loop-level-init
loop-level-init g c = record {
  calls = reaches_walks g.T.Pages c.args.t.now c.args.t.now (reaches_still g.T.Pages c.args.t.now (g.met.T.Pages.still c.args.t.now));
  memory = no_more_still g.T.Pages c.args.t.now;
  within = λ some. subst (λ (d : Child). d.page < length (g.T.Pages.step c.args.t.now).images) (sym c.top-child.ensures) some;
  down = λ t. down_begins (g.T.Pages.step c.args.t.now).images c.top-child.result c.top-child.ensures;
}

pub child_node-requires : goal.child_node-requires
child_node-requires g c =
    let more : 0 < (g.T.Pages.step c.loop-level.t).most_reached = subst (λ (n : ℕ). 0 < n) (sym c.loop-level.invariant.calls.most_reached) c.requires in
    let again : 0 < reaches (rested (g.T.Pages.step c.loop-level.t)) = omega (arith, more) in
    subst (λ (s : Step). 0 < reaches s) (sym c.rest.ensures.step) again

pub returns-in_err-child_node-clause-failed : goal.returns-in_err-child_node-clause-failed
returns-in_err-child_node-clause-failed g c =
    let G = g.T.Pages in
    let law = g.met.T.Pages in
    let old = c.args.t.now in
    let new = c.child_node.new.t in
    let so = rest_reaches G law.then law.trust c.loop-level.t c.rest.new.self new c.rest.ensures.outside c.rest.ensures.step c.in_err-child_node.ensures.calls in
    let all = walks_then G law.then old c.loop-level.t new c.loop-level.invariant.calls so in
    let child = c.loop-level.child in
    let on : G.trusted new → IsDown (G.step new).images c.loop-level.level child = λ t. subst (λ (p : List (List ℕ)). IsDown p c.loop-level.level child) (sym (all.stays t)) (c.loop-level.invariant.down (so.trust t)) in
    let p = err_from_is_err_and c.from_residual.result c.from_residual.ensures.1 in
    rw (p.1, p.2) (record {
      among = λ some. misfit_among (G.step new) (BarsPage (G.step new) child.page) (length (G.step old).images) child c.in_err-child_node.field-0.0 (c.loop-level.invariant.within some) c.in_err-child_node.ensures.failed.cause;
      cause = down_breaks G new c.in_err-child_node.field-0.0 c.loop-level.level child on c.in_err-child_node.ensures.failed.cause;
    })

pub returns-in-Leaf-clause-level : goal.returns-in-Leaf-clause-level
returns-in-Leaf-clause-level g c = λ t.
    let G = g.T.Pages in
    let law = g.met.T.Pages in
    let old = c.args.t.now in
    let new = c.child_node.new.t in
    let so = rest_reaches G law.then law.trust c.loop-level.t c.rest.new.self new c.rest.ensures.outside c.rest.ensures.step c.in_ok-child_node.ensures.calls in
    let all = walks_then G law.then old c.loop-level.t new c.loop-level.invariant.calls so in
    let pages = (G.step old).images in
    let page : ℕ = c.loop-level.child.page in
    let at : page_at pages page ≡ Some (Leaf c.in-Leaf.field-0) =
    ap (λ (p : List (List ℕ)). page_at p page) (sym (all.stays t)) ∙ c.in_ok-child_node.ensures.read.node ∙ ap (λ (n : Node). Some (content_of n)) c.in-Leaf.is in
    down_ends pages c.loop-level.level c.loop-level.child c.in-Leaf.field-0 at c.loop-level-test.true (c.loop-level.invariant.down (so.trust t))

pub loop-level-preserved : goal.loop-level-preserved
loop-level-preserved g c =
    let G = g.T.Pages in
    let law = g.met.T.Pages in
    let old = c.args.t.now in
    let new = c.child_node.new.t in
    let so = rest_reaches G law.then law.trust c.loop-level.t c.rest.new.self new c.rest.ensures.outside c.rest.ensures.step c.in_ok-child_node.ensures.calls in
    let all = walks_then G law.then old c.loop-level.t new c.loop-level.invariant.calls so in
    let pages = (G.step old).images in
    let child = c.loop-level.child in
    let ways = c.in-Interior.ways in
    record {
      calls = all;
      memory = no_more_then G old c.loop-level.t new c.loop-level.invariant.memory (no_more_rested G c.loop-level.t c.rest.new.self new c.rest.ensures.memory c.in_ok-child_node.ensures.calls.memory);
      within = λ some.
          let at = c.in_ok-child_node.ensures.read.node ∙ ap (λ (n : Node). Some (content_of n)) c.in-Interior.is in
          let kids = ways_within (G.step new).images child.page ways.0 ways.1 child.low child.high at in
          let next = c.child_at-child.result in
          subst (λ (n : ℕ). next.page < n) all.count (all_at (IsWithin (length (G.step new).images)) (children ways.0 child.low child.high ways.1) 0 next c.child_at-child.ensures kids);
      down = λ t.
          let at : page_at pages child.page ≡ Some (Interior ways.0 ways.1) =
          ap (λ (p : List (List ℕ)). page_at p child.page) (sym (all.stays t)) ∙ c.in_ok-child_node.ensures.read.node ∙ ap (λ (n : Node). Some (content_of n)) c.in-Interior.is in
          down_first pages c.loop-level.level child c.child_at-child.result ways.0 ways.1 at c.child_at-child.ensures c.loop-level-test.true (c.loop-level.invariant.down (so.trust t));
    }

pub returns-in_err-child_node-clause-calls : goal.returns-in_err-child_node-clause-calls
returns-in_err-child_node-clause-calls g c =
    let G = g.T.Pages in
    let law = g.met.T.Pages in
    let new = c.child_node.new.t in
    let so = rest_reaches G law.then law.trust c.loop-level.t c.rest.new.self new c.rest.ensures.outside c.rest.ensures.step c.in_err-child_node.ensures.calls in
    let p = err_from_is_err_and c.from_residual.result c.from_residual.ensures.1 in
    rw (p.1, p.2) (walks_then G law.then c.args.t.now c.loop-level.t new c.loop-level.invariant.calls so)

-- ---- memory is not wanting

pub returns-in_err-child_node-clause-memory : goal.returns-in_err-child_node-clause-memory
returns-in_err-child_node-clause-memory g c =
    let P = g.T.Pages in
    let new = c.child_node.new.t in
    let p = err_from_is_err_and c.from_residual.result c.from_residual.ensures.1 in
    rw (p.1, p.2) (no_more_then P c.args.t.now c.loop-level.t new c.loop-level.invariant.memory (no_more_rested P c.loop-level.t c.rest.new.self new c.rest.ensures.memory c.in_err-child_node.ensures.calls.memory))

pub returns-in-Free-clause-memory : goal.returns-in-Free-clause-memory
returns-in-Free-clause-memory g c =
    let P = g.T.Pages in
    let new = c.child_node.new.t in
    no_more_then P c.args.t.now c.loop-level.t new c.loop-level.invariant.memory (no_more_rested P c.loop-level.t c.rest.new.self new c.rest.ensures.memory c.in_ok-child_node.ensures.calls.memory)

pub returns-in-Leaf-clause-memory : goal.returns-in-Leaf-clause-memory
returns-in-Leaf-clause-memory g c =
    let P = g.T.Pages in
    let new = c.child_node.new.t in
    no_more_then P c.args.t.now c.loop-level.t new c.loop-level.invariant.memory (no_more_rested P c.loop-level.t c.rest.new.self new c.rest.ensures.memory c.in_ok-child_node.ensures.calls.memory)

pub returns-clause-memory : goal.returns-clause-memory
returns-clause-memory g c = c.loop-level.invariant.memory

-- ---- a page that is refused

pub returns-in_err-child_node-clause-refused : goal.returns-in_err-child_node-clause-refused
returns-in_err-child_node-clause-refused g c =
    let step = g.T.Pages.step in
    let new = step c.child_node.new.t in
    let fault = c.in_err-child_node.field-0.0 in
    let p = err_from_is_err_and c.from_residual.result c.from_residual.ensures.1 in
    rw (p.1, p.2) (refused_rested (step c.loop-level.t) new fault (subst (λ (s : Step). HasRefusal s new fault) c.rest.ensures.step c.in_err-child_node.ensures.failed.refused))

-- ---- the other ways out

pub returns-in-Free-clause-calls : goal.returns-in-Free-clause-calls
returns-in-Free-clause-calls g c =
    let G = g.T.Pages in
    let law = g.met.T.Pages in
    walks_then G law.then c.args.t.now c.loop-level.t c.child_node.new.t c.loop-level.invariant.calls
    (rest_reaches G law.then law.trust c.loop-level.t c.rest.new.self c.child_node.new.t c.rest.ensures.outside c.rest.ensures.step c.in_ok-child_node.ensures.calls)

-- a page that is spare fits nowhere
pub returns-in-Free-clause-failed : goal.returns-in-Free-clause-failed
returns-in-Free-clause-failed g c =
    let child = c.loop-level.child in
    record {
      among = λ some. c.loop-level.invariant.within some;
      cause = λ trusted. absurd (let none : false ≡ true = ap (λ (n : Node). content_fits child.low child.high (Some (content_of n))) (sym c.in-Free.is) ∙ c.in_ok-child_node.ensures.read.fits in cc);
    }

pub returns-in-Leaf-clause-calls : goal.returns-in-Leaf-clause-calls
returns-in-Leaf-clause-calls g c =
    let G = g.T.Pages in
    let law = g.met.T.Pages in
    walks_then G law.then c.args.t.now c.loop-level.t c.child_node.new.t c.loop-level.invariant.calls
    (rest_reaches G law.then law.trust c.loop-level.t c.rest.new.self c.child_node.new.t c.rest.ensures.outside c.rest.ensures.step c.in_ok-child_node.ensures.calls)

pub returns-in-Leaf-clause-low : goal.returns-in-Leaf-clause-low
returns-in-Leaf-clause-low g c = omega (arith, c.loop-level-test.true)

pub returns-clause-calls : goal.returns-clause-calls
returns-clause-calls g c = c.loop-level.invariant.calls

pub returns-clause-failed : goal.returns-clause-failed
returns-clause-failed g c =
    let G = g.T.Pages in
    let child = c.loop-level.child in
    let deep : max_height < c.loop-level.level + 1 = omega (arith, c.loop-level-test.false) in
    let all = c.loop-level.invariant.calls in
    record {
      among = λ some. c.loop-level.invariant.within some;
      cause = λ trusted.
          too_deep_breaks (G.step c.loop-level.t).images (c.loop-level.level + 1) child
          (subst (λ (p : List (List ℕ)). IsVisited p (c.loop-level.level + 1) child) (sym (all.stays trusted)) (c.loop-level.invariant.down trusted).0) deep;
    }
