use Rattle.std.proofs.Common.{◌≡◌, ◌∙◌, ◌+◌, ◌-◌, refl, sym, ap, subst, Bool, true, false, List, [], ℕ, Some, None, arith}
use Rattle.std.proofs.lemmas.Result.{err_from_is_err_and}
use Rattle.fsd_formats.specs.NamePage.{Leaf}
use Rattle.fsd_table.specs.declared.child.Child.{Child}
use Rattle.fsd_table.specs.Pages.{page_at, content_fits}
use Rattle.fsd_table.specs.Table.{max_height, visit_of}
use Rattle.name_page.specs.declared.node.Node.{Node}
use Rattle.name_page.specs.declared.cut.Cut.{Cut}
use Rattle.name_page.specs.Node.{content_of}
use Rattle.name_page.specs.Cut.{is_before}
use Rattle.name_page.specs.Looks.{Agrees, ShowsEach}
use Rattle.name_page.specs.Pages.{is_spare}
use Rattle.name_page.proofs.LookLaws.{reaches_still, reaches_then, agrees_before, agrees_now, agrees_at, memory_then}
use Rattle.name_btree.specs.declared.descent.Way.{Way}
use Rattle.name_btree.specs.Descent.{way_from, way_to}
use Rattle.name_btree.specs.Path.{HasMet}
use Rattle.name_btree.specs.Still.{IsReadChild}
use Rattle.name_btree.proofs.ways.AlongLaws.{along_begins, along_down, goes_later, IsAlong}
use Rattle.name_btree.proofs.ways.DescentLaws.{way_ends}
use Rattle.name_btree.proofs.ways.PathLaws.{path_ends}
use Rattle.name_btree.proofs.ways.ResidentLaws.{back_ends, lead_ends, lead_high, lead_met, lead_outer, met_here, met_left, IsReadSafe}
use Rattle.name_btree.proofs.ways.VisitedLaws.{IsVisitedWay, misfit_below, shown_below, deep_below, deep_shown}
use Rattle.name_btree.proofs.finding.LookupLaws.{leaf_least}
use Rattle.name_btree.proofs.descent.leaf_below.Goals as goal

pub loop-above-init : goal.loop-above-init
loop-above-init g c = record {
  least = omega arith;
  most = omega arith;
  calls = reaches_still g.T.Pages c.args.t.now (g.met.T.Pages.still c.args.t.now);
  reaches = omega arith;
  along = (None, None, along_begins g.T.Pages c.args.t.now c.args.cut.now c.args.above c.args.start);
}

pub loop-above-preserved : goal.loop-above-preserved
loop-above-preserved g c =
    let P = g.T.Pages in
    let along = c.loop-above.invariant.along in
    let w : Way = record { child = c.loop-above.child; previous = along.0; next = along.1 } in
    let above : ℕ = c.loop-above.above in
    let ways = c.in-Interior.ways in
    let new : Way = way_to (is_before c.args.cut.now) (above + 1) w.previous w.next ways.0 w.child.low w.child.high ways.1 in
    let child : new.child ≡ c.child_to-child.result = sym (c.child_to-child.ensures (above + 1) w.previous w.next) in
    let read = subst (λ (n : Node). IsReadChild (P.step c.loop-above.t) (P.step c.read_child.new.t) w.child (content_of n)) c.in-Interior.is c.in_ok-read_child.ensures.read in
    record {
      least = omega arith;
      most = omega (arith, c.loop-above-test.true);
      calls = reaches_then P g.met.T.Pages.then c.args.t.now c.loop-above.t c.read_child.new.t c.loop-above.invariant.calls c.in_ok-read_child.ensures.calls;
      reaches = omega (arith, c.read_child.ensures.reaches, c.loop-above.invariant.reaches);
      along = (
        new.previous,
        new.next,
        subst (λ (d : Child). IsAlong P c.args.t.now c.read_child.new.t c.args.cut.now c.args.above c.args.start (above + 1) (record { child = d; previous = new.previous; next = new.next })) child
            (along_down P c.args.t.now c.loop-above.t c.read_child.new.t c.args.cut.now c.args.above c.args.start above w ways.0 ways.1 c.loop-above.invariant.least c.loop-above-test.true
            c.in_ok-read_child.ensures.calls.looks read c.in_ok-read_child.ensures.memory along.2),
      );
    }

pub returns-in_err-read_child-clause-failed : goal.returns-in_err-read_child-clause-failed
returns-in_err-read_child-clause-failed g c =
    let s = g.T.Pages.step c.read_child.new.t in
    let fault = c.in_err-read_child.field-0.0 in
    let failed = c.in_err-read_child.ensures.failed in
    let along = c.loop-above.invariant.along in
    let w : Way = record { child = c.loop-above.child; previous = along.0; next = along.1 } in
    let on : ShowsEach s (λ pages. IsVisitedWay pages c.args.above c.args.start c.loop-above.above w) = λ pages agrees. along.2.visited pages (agrees_before (g.T.Pages.step c.loop-above.t) s pages c.in_err-read_child.ensures.calls.looks agrees) in
    let p = err_from_is_err_and c.from_residual.result c.from_residual.ensures.1 in
    rw (p.1, p.2) (record {
      cause = misfit_below s fault c.args.above c.args.start c.loop-above.above w (on s.images (agrees_now s)) failed.cause;
      shown = shown_below s fault c.args.above c.args.start c.loop-above.above w on failed.cause failed.shown;
    })

pub returns-in_err-read_child-clause-calls : goal.returns-in_err-read_child-clause-calls
returns-in_err-read_child-clause-calls g c =
    let p = err_from_is_err_and c.from_residual.result c.from_residual.ensures.1 in
    rw (p.1, p.2) (reaches_then g.T.Pages g.met.T.Pages.then c.args.t.now c.loop-above.t c.read_child.new.t c.loop-above.invariant.calls c.in_err-read_child.ensures.calls)

pub returns-in-Leaf-clause-calls : goal.returns-in-Leaf-clause-calls
returns-in-Leaf-clause-calls g c = reaches_then g.T.Pages g.met.T.Pages.then c.args.t.now c.loop-above.t c.read_child.new.t c.loop-above.invariant.calls c.in_ok-read_child.ensures.calls

-- the leaf at the place, and what stands beside the way
pub returns-in-Leaf-clause-found : goal.returns-in-Leaf-clause-found
returns-in-Leaf-clause-found g c =
    let P = g.T.Pages in
    let s = P.step c.read_child.new.t in
    let before = is_before c.args.cut.now in
    let looks = c.in_ok-read_child.ensures.calls.looks in
    let along = c.loop-above.invariant.along in
    let is = along.2 in
    let w : Way = record { child = c.loop-above.child; previous = along.0; next = along.1 } in
    let d = w.child in
    let r = c.in_ok-read_child.ensures.read in
    let entries = c.in-Leaf.entries in
    let used : is_spare s.spares d.page ≡ false = ap (λ (x : List Bool). is_spare x d.page) looks.spares ∙ r.used in
    let has : page_at s.images d.page ≡ Some (Leaf entries) = r.node ∙ ap (λ (n : Node). Some (content_of n)) c.in-Leaf.is in
    let at : ShowsEach s (λ pages. page_at pages d.page ≡ Some (Leaf entries)) = λ pages agrees. agrees_at s pages d.page r.reached used agrees ∙ has in
    let fits = subst (λ (n : Node). content_fits d.low d.high (Some (content_of n)) ≡ true) c.in-Leaf.is r.fits in
    let old : (pages : List (List ℕ)) → Agrees pages s → Agrees pages (P.step c.loop-above.t) = λ pages agrees. agrees_before (P.step c.loop-above.t) s pages looks agrees in
    record {
      way = w;
      goes = goes_later (P.step c.loop-above.t) s looks before (c.loop-above.above - c.args.above) c.args.above (way_from c.args.start) w is.goes;
      found = record {
        reached = r.reached;
        used = ap (λ (x : List Bool). is_spare x d.page) (sym c.loop-above.invariant.calls.looks.spares) ∙ r.used;
        leaf = has;
        way = λ pages agrees v. (visit_of pages (c.loop-above.above + 1) d, (is.visited pages (old pages agrees) v).0, refl, ap (content_fits d.low d.high) (agrees_at s pages d.page r.reached used agrees ∙ r.node) ∙ r.fits);
        least = leaf_least before w entries c.args.start.low fits is.narrow;
        next = is.narrow.next;
        at = λ pages agrees. path_ends c.args.cut.now pages c.args.start w entries (at pages agrees) (is.path pages (old pages agrees));
        place = λ pages agrees. way_ends before pages c.args.start (c.loop-above.above - c.args.above) w entries (at pages agrees) (is.way pages (old pages agrees));
        beside = λ pages agrees v. (is.visited pages (old pages agrees) v).1;
        from = (
          d,
          record {
            page = refl;
            below = c.loop-above.above;
            way = λ pages agrees. is.down.way pages (old pages agrees);
            path = λ pages agrees v. (is.visited pages (old pages agrees) v).0;
            low = is.down.low;
            high = is.down.high;
            left = is.down.left;
            fits = fits;
          },
        );
      };
      stays = λ has_met.
          let met = is.memory has_met in
          let there = met_here P before c.args.t.now c.loop-above.above w c.loop-above.t c.loop-above-test.true met in
          let takes = c.in_ok-read_child.ensures.memory there in
          let safe : IsReadSafe P c.read_child.new.t d (Leaf entries) = record { there = takes.stays d.page there; used = used; fits = fits; has = has } in
          record {
            none = memory_then P c.args.t.now c.loop-above.t c.read_child.new.t met.none takes;
            left = λ none. met_left P before c.args.t.now c.loop-above.above w c.loop-above.t c.loop-above-test.true met c.read_child.new.t takes entries has none;
            back = back_ends P c.args.above c.args.start c.loop-above.above w c.loop-above.t c.read_child.new.t c.loop-above-test.true takes (is.back has_met) entries safe w.next;
          };
    }

pub returns-clause-failed : goal.returns-clause-failed
returns-clause-failed g c =
    let s = g.T.Pages.step c.loop-above.t in
    let along = c.loop-above.invariant.along in
    let w : Way = record { child = c.loop-above.child; previous = along.0; next = along.1 } in
    record {
      cause = deep_below s.images c.args.above c.args.start c.loop-above.above w (along.2.visited s.images (agrees_now s)) c.loop-above-test.false;
      shown = deep_shown s c.args.above c.args.start c.loop-above.above w along.2.visited c.loop-above-test.false;
    }

pub returns-clause-reaches : goal.returns-clause-reaches
returns-clause-reaches g c = omega (arith, c.loop-above.invariant.reaches, c.loop-above.invariant.most)

-- ---- memory is not wanting

pub returns-in_err-read_child-clause-memory : goal.returns-in_err-read_child-clause-memory
returns-in_err-read_child-clause-memory g c = λ has.
    let P = g.T.Pages in
    let along = c.loop-above.invariant.along in
    let w : Way = record { child = c.loop-above.child; previous = along.0; next = along.1 } in
    let is = along.2.memory has in
    let takes = c.in_err-read_child.ensures.memory (met_here P (is_before c.args.cut.now) c.args.t.now c.loop-above.above w c.loop-above.t c.loop-above-test.true is) in
    let p = err_from_is_err_and c.from_residual.result c.from_residual.ensures.1 in
    rw (p.1, p.2) (memory_then P c.args.t.now c.loop-above.t c.read_child.new.t is.none takes)

pub returns-in_err-read_child-clause-again : goal.returns-in_err-read_child-clause-again
returns-in_err-read_child-clause-again g c = λ e same h.
    let P = g.T.Pages in
    let first = c.args.t.now in
    let along = c.loop-above.invariant.along in
    let w : Way = record { child = c.loop-above.child; previous = along.0; next = along.1 } in
    let has = subst (λ (k : Cut). HasMet P c.args.above (is_before k) c.args.start first) (sym same) (lead_met P (max_height - c.args.above) first e c.args.start [] h) in
    let is = along.2.memory has in
    let takes = c.in_err-read_child.ensures.memory (met_here P (is_before c.args.cut.now) first c.loop-above.above w c.loop-above.t c.loop-above-test.true is) in
    let p = err_from_is_err_and c.from_residual.result c.from_residual.ensures.1 in
    rw (p.1, p.2) (lead_outer P _ first c.read_child.new.t e c.loop-above.above w.child c.in_err-read_child.field-0.0 c.loop-above-test.true
    (memory_then P first c.loop-above.t c.read_child.new.t is.none takes) (along.2.again e same h) c.in_err-read_child.ensures.failed.cause)

pub returns-in-Leaf-clause-memory : goal.returns-in-Leaf-clause-memory
returns-in-Leaf-clause-memory g c = λ has.
    let P = g.T.Pages in
    let along = c.loop-above.invariant.along in
    let w : Way = record { child = c.loop-above.child; previous = along.0; next = along.1 } in
    let is = along.2.memory has in
    memory_then P c.args.t.now c.loop-above.t c.read_child.new.t is.none
    (c.in_ok-read_child.ensures.memory (met_here P (is_before c.args.cut.now) c.args.t.now c.loop-above.above w c.loop-above.t c.loop-above-test.true is))

pub returns-in-Leaf-clause-again : goal.returns-in-Leaf-clause-again
returns-in-Leaf-clause-again g c = λ e same h.
    let P = g.T.Pages in
    let first = c.args.t.now in
    let along = c.loop-above.invariant.along in
    let w : Way = record { child = c.loop-above.child; previous = along.0; next = along.1 } in
    let has = subst (λ (k : Cut). HasMet P c.args.above (is_before k) c.args.start first) (sym same) (lead_met P (max_height - c.args.above) first e c.args.start [] h) in
    let is = along.2.memory has in
    let takes = c.in_ok-read_child.ensures.memory (met_here P (is_before c.args.cut.now) first c.loop-above.above w c.loop-above.t c.loop-above-test.true is) in
    lead_ends P first c.read_child.new.t e c.loop-above.above w.child c.in-Leaf.entries c.loop-above-test.true (memory_then P first c.loop-above.t c.read_child.new.t is.none takes)
    (c.in_ok-read_child.ensures.read.node ∙ ap (λ (n : Node). Some (content_of n)) c.in-Leaf.is) (along.2.again e same h)

pub returns-clause-memory : goal.returns-clause-memory
returns-clause-memory g c = λ has. (c.loop-above.invariant.along.2.memory has).none

pub returns-clause-again : goal.returns-clause-again
returns-clause-again g c = λ e same h.
    absurd (lead_high g.T.Pages c.args.t.now e c.loop-above.above c.loop-above.child (omega (arith, c.loop-above-test.false)) (c.loop-above.invariant.along.2.again e same h))
