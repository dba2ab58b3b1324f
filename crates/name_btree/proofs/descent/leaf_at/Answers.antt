use Rattle.std.proofs.Common.{◌≡◌, ◌∙◌, ◌<◌, ◌≤◌, Bool, List, Some, true, false, take, drop, ap, subst, sym, arith}
use Rattle.std.specs.List.{AllByRecursion}
use Rattle.std.proofs.lemmas.Result.{err_from_is_err_and}
use Rattle.fsd_bytes.specs.declared.key.Key.{Key}
use Rattle.fsd_formats.specs.declared.page.Separator.{Separator}
use Rattle.fsd_formats.specs.NamePage.{Leaf, Interior}
use Rattle.fsd_table.specs.Pages.{content_fits, page_at}
use Rattle.name_page.specs.Cut.{is_before}
use Rattle.name_page.specs.declared.cut.Cut.TheVariants.{UpTo}
use Rattle.name_page.specs.declared.node.Node.{Node}
use Rattle.name_page.specs.Looks.{ShowsEach}
use Rattle.name_page.specs.Node.{content_of}
use Rattle.name_page.specs.Pages.{is_spare}
use Rattle.name_page.proofs.LookLaws.{reaches_still, reaches_then, agrees_at, agrees_now}
use Rattle.name_btree.proofs.ways.AloneLaws.{alone_begins, alone_down, alone_holds, alone_leaf, alone_led, alone_fault, alone_shown, alone_deep}
use Rattle.name_btree.proofs.descent.leaf_at.Goals as goal

pub loop-init : goal.loop-init
loop-init g c = record {
  calls = reaches_still g.T.Pages c.args.t.now (g.met.T.Pages.still c.args.t.now);
  most = omega arith;
  reaches = omega arith;
  way = alone_begins c.args.key.now (g.T.Pages.step c.args.t.now) c.top-child.result c.top-child.ensures;
}

pub loop-preserved : goal.loop-preserved
loop-preserved g c =
    let s = g.T.Pages.step c.read_child.new.t in
    let w = c.loop.child in
    let ways = c.in-Interior.ways in
    let i = c.ways_before-i.result in
    let e = c.ways_before-i.ensures in
    let low : c.loop.counter < 6 = omega arith in
    let calls = c.in_ok-read_child.ensures.calls in
    let used : is_spare s.spares w.page ≡ false = ap (λ (x : List Bool). is_spare x w.page) calls.looks.spares ∙ c.in_ok-read_child.ensures.read.used in
    let at : ShowsEach s (λ pages. page_at pages w.page ≡ Some (Interior ways.0 ways.1)) =
    λ pages is. agrees_at s pages w.page c.in_ok-read_child.ensures.read.reached used is ∙ c.in_ok-read_child.ensures.read.node ∙ ap (λ (n : Node). Some (content_of n)) c.in-Interior.is in
    let passed = subst (λ (k : Key). AllByRecursion (λ (x : Separator). is_before (UpTo k) x.key ≡ true) (take i ways.1)) c.copied.ensures e.before in
    let left = subst (λ (k : Key). AllByRecursion (λ (x : Separator). is_before (UpTo k) x.key ≡ false) (drop i ways.1)) c.copied.ensures e.behind in
    record {
      calls = reaches_then g.T.Pages g.met.T.Pages.then c.args.t.now c.loop.t c.read_child.new.t c.loop.invariant.calls calls;
      most = omega arith;
      reaches = omega (arith, c.read_child.ensures.reaches, c.loop.invariant.reaches);
      way = alone_down c.args.key.now (g.T.Pages.step c.loop.t) s c.loop.counter w calls.looks c.loop.invariant.way ways.0 ways.1 at low c.child_at-child.result i e.within passed left c.child_at-child.ensures;
    }

pub returns-in_err-read_child-clause-calls : goal.returns-in_err-read_child-clause-calls
returns-in_err-read_child-clause-calls g c =
    let p = err_from_is_err_and c.from_residual.result c.from_residual.ensures.1 in
    rw (p.1, p.2) (reaches_then g.T.Pages g.met.T.Pages.then c.args.t.now c.loop.t c.read_child.new.t c.loop.invariant.calls c.in_err-read_child.ensures.calls)

pub returns-in_err-read_child-clause-failed : goal.returns-in_err-read_child-clause-failed
returns-in_err-read_child-clause-failed g c =
    let s = g.T.Pages.step c.read_child.new.t in
    let old = g.T.Pages.step c.loop.t in
    let fault = c.in_err-read_child.field-0.0 in
    let looks = c.in_err-read_child.ensures.calls.looks in
    let failed = c.in_err-read_child.ensures.failed in
    let p = err_from_is_err_and c.from_residual.result c.from_residual.ensures.1 in
    rw (p.1, p.2) (record {
      cause = alone_fault c.args.key.now old s c.loop.counter c.loop.child looks c.loop.invariant.way fault failed.cause;
      shown = alone_shown c.args.key.now old s c.loop.counter c.loop.child looks c.loop.invariant.way fault failed.cause failed.shown;
    })

pub returns-in-Leaf-clause-calls : goal.returns-in-Leaf-clause-calls
returns-in-Leaf-clause-calls g c = reaches_then g.T.Pages g.met.T.Pages.then c.args.t.now c.loop.t c.read_child.new.t c.loop.invariant.calls c.in_ok-read_child.ensures.calls

pub returns-in-Leaf-clause-found : goal.returns-in-Leaf-clause-found
returns-in-Leaf-clause-found g c =
    let old = g.T.Pages.step c.loop.t in
    let s = g.T.Pages.step c.read_child.new.t in
    let w = c.loop.child in
    let looks = c.in_ok-read_child.ensures.calls.looks in
    let r = c.in_ok-read_child.ensures.read in
    let way = c.loop.invariant.way in
    let entries = c.in-Leaf.entries in
    let used : is_spare s.spares w.page ≡ false = ap (λ (x : List Bool). is_spare x w.page) looks.spares ∙ r.used in
    let has : page_at s.images w.page ≡ Some (Leaf entries) = r.node ∙ ap (λ (n : Node). Some (content_of n)) c.in-Leaf.is in
    let at : ShowsEach s (λ pages. page_at pages w.page ≡ Some (Leaf entries)) = λ pages is. agrees_at s pages w.page r.reached used is ∙ has in
    record {
      reached = r.reached;
      used = ap (λ (x : List Bool). is_spare x w.page) (sym c.loop.invariant.calls.looks.spares) ∙ r.used;
      leaf = has;
      way = alone_led c.args.key.now old s c.loop.counter w looks way (λ pages is. ap (content_fits w.low w.high) (agrees_at s pages w.page r.reached used is ∙ r.node) ∙ r.fits);
      holds = alone_holds c.args.key.now old s c.loop.counter w looks way entries at;
      at = alone_leaf c.args.key.now old s c.loop.counter w looks way entries r.reached used has (subst (λ (n : Node). content_fits w.low w.high (Some (content_of n)) ≡ true) c.in-Leaf.is r.fits);
    }

pub returns-clause-failed : goal.returns-clause-failed
returns-clause-failed g c =
    let s = g.T.Pages.step c.loop.t in
    let deep : 6 ≤ c.loop.counter = omega arith in
    let shown = alone_deep c.args.key.now s c.loop.counter c.loop.child c.loop.invariant.way deep in
    record { cause = shown s.images (agrees_now s); shown = shown }

pub returns-clause-reaches : goal.returns-clause-reaches
returns-clause-reaches g c = omega (arith, c.loop.invariant.reaches, c.loop.invariant.most)
