use Rattle.std.proofs.Common.{◌≡◌, ◌∙◌, ◌+◌, ◌-◌, ◌<◌, ◌≤◌, Bool, true, false, cond, not, refl, sym, ap, subst, List, [], ◌∷◌, length, take, ℕ, suc, None, Some, arith, rules}
use Rattle.std.specs.Prelude.{slice_set, IfErr}
use Rattle.std.proofs.lemmas.Result.{err_from_is_err_and}
use Rattle.fsd_formats.specs.NamePage.{Interior}
use Rattle.fsd_table.specs.declared.child.Child.{Child}
use Rattle.fsd_table.specs.Pages.{page_at, children, content_fits, keys_fit, separator_keys}
use Rattle.name_page.specs.Looks.{OnlyWalks}
use Rattle.name_page.specs.Pages.{Step, is_spare, reaches, rested}
use Rattle.name_page.proofs.LookLaws.{no_more_rested, no_more_still, no_more_then, reaches_still, reaches_walks, rest_reaches, walks_then}
use Rattle.name_page.specs.declared.node.Node.{Node}
use Rattle.name_page.specs.Node.{content_of}
use Rattle.name_btree.specs.Walk.{is_marked, IsWalkedSubtree, AreWalked, ComesTo, FailsOver}
use Rattle.name_page.proofs.CountLaws.{few_separators, few_entries, take_short, take_whole}
use Rattle.name_btree.proofs.steps.ResultLaws.{ok_more, err_more}
use Rattle.fsd_table.proofs.PageLaws.{length_of_children}
use Rattle.name_btree.specs.Fault.{BarsPage, IsAmong}
use Rattle.name_btree.specs.Still.{HasRefusal}
use Rattle.name_btree.proofs.steps.RestLaws.{refused_rested}
use Rattle.name_btree.proofs.walks.MarkLaws.{one_marked, still_marked}
use Rattle.name_btree.proofs.walks.WalkLaws.{all_at, one_more, above_walked}
use Rattle.name_btree.proofs.ways.ReachLaws.{IsWithin, misfit_among, ways_within}
use Rattle.name_btree.proofs.walks.FaultLaws.{marked_breaks, leaf_breaks, interior_breaks, comes_below, comes_along, walk_map, walk_here}
use Rattle.name_btree.proofs.walking.+walk.Goals as goal
use Rattle.name_btree.proofs.walking.+walk.Goals.{walk_below-in_default-via-in-Leaf+else-level-eq0, walk_below-in_default-via-in-Interior+else-level-gt0, walk_below-in_default-via-in_default}

pub walk_below-returns-then-not-is_new-clause-failed : goal.walk_below-returns-then-not-is_new-clause-failed
walk_below-returns-then-not-is_new-clause-failed g t c = record {
  cause = λ trusted.
      let no : c.is_new.result ≡ false = cc in
      marked_breaks c.args.level (g.T.Pages.step c.args.t.now).images c.args.child.now c.args.reached.now (sym c.is_new.ensures.new ∙ no);
  refused = tt;
}

pub walk_below-returns-then-not-is_new-clause-calls : goal.walk_below-returns-then-not-is_new-clause-calls
walk_below-returns-then-not-is_new-clause-calls g t c = reaches_walks g.T.Pages c.args.t.now c.args.t.now (reaches_still g.T.Pages c.args.t.now (g.met.T.Pages.still c.args.t.now))

-- a page of a kind that doesn't belong to the level
pub walk_below-returns-in_default-clause-failed : goal.walk_below-returns-in_default-clause-failed
walk_below-returns-in_default-clause-failed g t c =
    let child = c.args.child.now in
    let level = c.args.level in
    let marks = c.args.reached.now in
    let pages = (g.T.Pages.step c.child_node.new.t).images in
    let is = c.in_ok-entries.ensures.read.node in
    record {
      cause = λ trusted. elim c.in_default.branch [
        | walk_below-in_default-via-in-Leaf+else-level-eq0 w ↦
            leaf_breaks level pages child marks w.in-Leaf.entries (is ∙ ap (λ (n : Node). Some (content_of n)) w.in-Leaf.is) (omega (arith, w.if-level-eq0.false))
        | walk_below-in_default-via-in-Interior+else-level-gt0 w ↦
            interior_breaks level pages child marks w.in-Interior.ways.0 w.in-Interior.ways.1 (is ∙ ap (λ (n : Node). Some (content_of n)) w.in-Interior.is) (omega (arith, w.if-level-gt0.false))
        | walk_below-in_default-via-in_default w ↦
            absurd (let none : false ≡ true = ap (λ (n : Node). content_fits child.low child.high (Some (content_of n))) (sym w.in_default.is) ∙ c.in_ok-entries.ensures.read.fits in cc)
      ];
      refused = tt;
    }

pub walk_below-returns-in_err-entries-clause-failed : goal.walk_below-returns-in_err-entries-clause-failed
walk_below-returns-in_err-entries-clause-failed g t c =
    let step = g.T.Pages.step in
    let new = step c.child_node.new.t in
    let fault = c.in_err-entries.field-0.0 in
    let found = c.in_err-entries.ensures.failed in
    let p = err_from_is_err_and c.from_residual.result c.from_residual.ensures.1 in
    rw (p.1, p.2) (record {
      cause = walk_here g.T.Pages c.child_node.new.t fault c.args.level c.args.child.now c.args.reached.now found.cause;
      refused = refused_rested (step c.args.t.now) new fault (subst (λ (s : Step). HasRefusal s new fault) c.rest.ensures.step found.refused);
    })

pub walk_below-walk_children-requires : goal.walk_below-walk_children-requires
walk_below-walk_children-requires g t c κs within =
    let child = c.args.child.now in
    let ways = c.in-Interior.ways in
    let G = g.T.Pages in
    let law = g.met.T.Pages in
    let old = c.args.t.now in
    let mid = c.child_node.new.t in
    let so = rest_reaches G law.then law.trust old c.rest.new.self mid c.rest.ensures.outside c.rest.ensures.step c.in_ok-entries.ensures.calls in
    let pages = (G.step mid).images in
    let at : page_at pages child.page ≡ Some (Interior ways.0 ways.1) = c.in_ok-entries.ensures.read.node ∙ ap (λ (n : Node). Some (content_of n)) c.in-Interior.is in
    let few : length ways.1 ≤ 9 = few_separators pages child.page ways.0 ways.1 at in
    let more : 0 < (G.step mid).most_reached = subst (λ (n : ℕ). 0 < n) (sym so.most_reached) c.requires.more in
    let low : c.args.level - 1 ≤ 4 = omega arith in
    search (rules, few, more, low)

pub walk_below-returns-in-Interior-clause-calls : goal.walk_below-returns-in-Interior-clause-calls
walk_below-returns-in-Interior-clause-calls g t c =
    let G = g.T.Pages in
    let law = g.met.T.Pages in
    let old = c.args.t.now in
    let mid = c.child_node.new.t in
    let so = rest_reaches G law.then law.trust old c.rest.new.self mid c.rest.ensures.outside c.rest.ensures.step c.in_ok-entries.ensures.calls in
    walks_then G law.then old mid c.walk_children.new.t so c.walk_children.ensures.calls

pub walk_below-returns-in-Interior-clause-walked : goal.walk_below-returns-in-Interior-clause-walked
walk_below-returns-in-Interior-clause-walked g t c =
    let G = g.T.Pages in
    let law = g.met.T.Pages in
    let old = c.args.t.now in
    let mid = c.child_node.new.t in
    let so = rest_reaches G law.then law.trust old c.rest.new.self mid c.rest.ensures.outside c.rest.ensures.step c.in_ok-entries.ensures.calls in
    let new = c.walk_children.new.t in
    let child = c.args.child.now in
    let ways = c.in-Interior.ways in
    let before = c.args.reached.now in
    let after = c.walk_children.new.reached in
    let level = c.args.level in
    let s = G.step old in
    let cs : List Child = children ways.0 child.low child.high ways.1 in
    let fits : keys_fit child.low child.high (separator_keys ways.1) ≡ true =
    sym (ap (λ (n : Node). content_fits child.low child.high (Some (content_of n))) c.in-Interior.is) ∙ c.in_ok-entries.ensures.read.fits in
    let yes : c.is_new.result ≡ true = cc in
    let unmarked : not (is_marked before child.page) ≡ true = sym c.is_new.ensures.new ∙ yes in
    let marks : c.is_new.new.reached ≡ slice_set before child.page true = c.is_new.ensures.marks ∙ ap (λ (b : Bool). cond b (slice_set before child.page true) before) yes in
    let used : is_spare s.spares child.page ≡ false = ap (λ (x : Step). is_spare x.spares child.page) (sym c.rest.ensures.step) ∙ c.in_ok-entries.ensures.read.used in
    let up : suc (level - 1) ≡ level = omega arith in
    let first = c.walk_children.ensures.calls in
    ok_more c.walk_children.result (λ n. G.trusted new → AreWalked (G.step mid).spares (level - 1) (G.step mid).images cs c.is_new.new.reached after n) (λ n. G.trusted new → IsWalkedSubtree s.spares level s.images child before after n)
    (λ n w trusted.
    let t = first.trust trusted in
    let at : page_at s.images child.page ≡ Some (Interior ways.0 ways.1) =
    ap (λ (p : List (List ℕ)). page_at p child.page) (sym (so.stays t)) ∙ c.in_ok-entries.ensures.read.node ∙ ap (λ (n : Node). Some (content_of n)) c.in-Interior.is in
    let a = subst (λ (x : List (List ℕ)). AreWalked (G.step mid).spares (level - 1) x cs c.is_new.new.reached after n) (so.stays t) (w trusted) in
    let b = subst (λ (x : List Bool). AreWalked x (level - 1) s.images cs c.is_new.new.reached after n) so.spares a in
    above_walked s.spares (level - 1) level s.images child ways.0 ways.1 before after n up at fits unmarked used (subst (λ (m : List Bool). AreWalked s.spares (level - 1) s.images cs m after n) marks b)) c.walk_children.ensures.walked

pub walk_below-returns-in-Interior-clause-failed : goal.walk_below-returns-in-Interior-clause-failed
walk_below-returns-in-Interior-clause-failed g t c =
    let G = g.T.Pages in
    let law = g.met.T.Pages in
    let old = c.args.t.now in
    let mid = c.child_node.new.t in
    let so = rest_reaches G law.then law.trust old c.rest.new.self mid c.rest.ensures.outside c.rest.ensures.step c.in_ok-entries.ensures.calls in
    let new = c.walk_children.new.t in
    let child = c.args.child.now in
    let ways = c.in-Interior.ways in
    let before = c.args.reached.now in
    let level = c.args.level in
    let cs : List Child = children ways.0 child.low child.high ways.1 in
    let pages = (G.step new).images in
    let yes : c.is_new.result ≡ true = cc in
    let marks : c.is_new.new.reached ≡ slice_set before child.page true = c.is_new.ensures.marks ∙ ap (λ (b : Bool). cond b (slice_set before child.page true) before) yes in
    let up : suc (level - 1) ≡ level = omega arith in
    let comes : G.trusted new → ComesTo pages level (child ∷ []) before → ComesTo pages (level - 1) cs c.is_new.new.reached = λ trusted w.
    let at : page_at pages child.page ≡ Some (Interior ways.0 ways.1) =
    ap (λ (p : List (List ℕ)). page_at p child.page) (c.walk_children.ensures.calls.stays trusted) ∙ c.in_ok-entries.ensures.read.node ∙ ap (λ (n : Node). Some (content_of n)) c.in-Interior.is in
    subst (ComesTo pages (level - 1) cs) (sym marks) (comes_below (level - 1) level pages child ways.0 ways.1 before up at w) in
    err_more c.walk_children.result (FailsOver G new (level - 1) cs c.is_new.new.reached) (FailsOver G new level (child ∷ []) before)
    (λ fault h. record { cause = walk_map G new fault level (level - 1) (child ∷ []) cs before c.is_new.new.reached comes h.cause; refused = h.refused }) c.walk_children.ensures.failed

pub walk_children-loop-i-init : goal.walk_children-loop-i-init
walk_children-loop-i-init g t c = record {
  calls = reaches_walks g.T.Pages c.args.t.now c.args.t.now (reaches_still g.T.Pages c.args.t.now (g.met.T.Pages.still c.args.t.now));
  memory = no_more_still g.T.Pages c.args.t.now;
  kept = λ page h. h;
  walked = λ trusted. record { used = tt; subtrees = tt; unmarked = refl; marks = refl; count_is = refl };
}

pub walk_children-returns-in_err-more-clause-calls : goal.walk_children-returns-in_err-more-clause-calls
walk_children-returns-in_err-more-clause-calls g t c =
    let p = err_from_is_err_and c.from_residual.result c.from_residual.ensures.1 in
    rw (p.1, p.2) (walks_then g.T.Pages g.met.T.Pages.then c.args.t.now c.loop-i.t c.walk_below.new.t c.loop-i.invariant.calls c.in_err-more.ensures.calls)

pub walk_children-returns-in_err-more-clause-failed : goal.walk_children-returns-in_err-more-clause-failed
walk_children-returns-in_err-more-clause-failed g t c =
    let G = g.T.Pages in
    let ways = c.args.ways.now in
    let above = c.args.above.now in
    let old = c.args.t.now in
    let new = c.walk_below.new.t in
    let calls = c.in_err-more.ensures.calls in
    let all = walks_then G g.met.T.Pages.then old c.loop-i.t new c.loop-i.invariant.calls calls in
    let s = G.step old in
    let pages = (G.step new).images in
    let cs : List Child = children ways.0 above.low above.high ways.1 in
    let child = c.child_at-child.result in
    let comes : G.trusted new → ComesTo pages c.args.level cs c.args.reached.now → ComesTo pages c.args.level (child ∷ []) c.loop-i.reached = λ trusted w.
    let P : List (List ℕ) → Type 0 = λ (x : List (List ℕ)). AreWalked s.spares c.args.level x (take c.loop-i.i cs) c.args.reached.now c.loop-i.reached c.loop-i.count in
    comes_along s.spares c.args.level pages cs c.loop-i.i child c.args.reached.now c.loop-i.reached c.loop-i.count c.child_at-child.ensures (subst P (sym (all.stays trusted)) (c.loop-i.invariant.walked (calls.trust trusted))) w in
    let p = err_from_is_err_and c.from_residual.result c.from_residual.ensures.1 in
    rw (p.1, p.2) (record { cause = walk_map G new c.in_err-more.field-0.0 c.args.level c.args.level cs (child ∷ []) c.args.reached.now c.loop-i.reached comes c.in_err-more.ensures.failed.cause; refused = c.in_err-more.ensures.failed.refused })

pub walk_children-loop-i-preserved : goal.walk_children-loop-i-preserved
walk_children-loop-i-preserved g t c =
    let G = g.T.Pages in
    let ways = c.args.ways.now in
    let above = c.args.above.now in
    let s = G.step c.args.t.now in
    let cs : List Child = children ways.0 above.low above.high ways.1 in
    let child = c.child_at-child.result in
    let more = c.in_ok-more.more in
    let calls = c.in_ok-more.ensures.calls in
    record {
      calls = walks_then G g.met.T.Pages.then c.args.t.now c.loop-i.t c.walk_below.new.t c.loop-i.invariant.calls calls;
      memory = no_more_then G c.args.t.now c.loop-i.t c.walk_below.new.t c.loop-i.invariant.memory c.in_ok-more.ensures.memory;
      kept = λ page h. c.walk_below.ensures.marks.kept page (c.loop-i.invariant.kept page h);
      walked = λ trusted.
          let t = calls.trust trusted in
          let P : List (List ℕ) → Type 0 = λ (x : List (List ℕ)). IsWalkedSubtree (G.step c.loop-i.t).spares c.args.level x child c.loop-i.reached c.walk_below.new.reached more in
          let Q : List Bool → Type 0 = λ (x : List Bool). IsWalkedSubtree x c.args.level s.images child c.loop-i.reached c.walk_below.new.reached more in
          let w = subst Q c.loop-i.invariant.calls.spares (subst P (c.loop-i.invariant.calls.stays t) (c.in_ok-more.ensures.walked trusted)) in
          let next = one_more s.spares c.args.level s.images cs c.loop-i.i child c.args.reached.now c.loop-i.reached c.walk_below.new.reached c.loop-i.count more c.child_at-child.ensures (c.loop-i.invariant.walked t) w in
          let short : length (take (c.loop-i.i + 1) cs) ≤ 10 = omega (arith, take_short (c.loop-i.i + 1) cs, length_of_children ways.0 above.low above.high ways.1, c.requires.few) in
          let small = few_entries c.args.level s.images (take (c.loop-i.i + 1) cs) c.requires.level short next.subtrees in
          let exact : c.loop-i.count + more ≡ c.saturating_add-count.result = omega (arith, next.count_is, small, c.saturating_add-count.ensures) in
          subst (λ (n : ℕ). AreWalked s.spares c.args.level s.images (take (c.loop-i.i + 1) cs) c.args.reached.now c.walk_below.new.reached n) exact next;
    }

pub walk_children-returns-clause-walked : goal.walk_children-returns-clause-walked
walk_children-returns-clause-walked g t c = λ trusted.
    let ways = c.args.ways.now in
    let above = c.args.above.now in
    let s = g.T.Pages.step c.args.t.now in
    let cs : List Child = children ways.0 above.low above.high ways.1 in
    let all : length cs ≤ c.loop-i.i = omega (arith, length_of_children ways.0 above.low above.high ways.1, c.len-i-end.ensures.value, c.loop-i-test.false) in
    let P : List Child → Type 0 = λ (xs : List Child). AreWalked s.spares c.args.level s.images xs c.args.reached.now c.loop-i.reached c.loop-i.count in
    subst P (take_whole c.loop-i.i cs all) (c.loop-i.invariant.walked trusted)

pub walk_below-returns-in_err-entries-clause-calls : goal.walk_below-returns-in_err-entries-clause-calls
walk_below-returns-in_err-entries-clause-calls g t c =
    let law = g.met.T.Pages in
    let p = err_from_is_err_and c.from_residual.result c.from_residual.ensures.1 in
    rw (p.1, p.2) (rest_reaches g.T.Pages law.then law.trust c.args.t.now c.rest.new.self c.child_node.new.t c.rest.ensures.outside c.rest.ensures.step c.in_err-entries.ensures.calls)

-- ---- a page that is named is one of the table

pub walk_below-returns-then-not-is_new-clause-among : goal.walk_below-returns-then-not-is_new-clause-among
walk_below-returns-then-not-is_new-clause-among g t c = λ here. here

pub walk_below-returns-in_default-clause-among : goal.walk_below-returns-in_default-clause-among
walk_below-returns-in_default-clause-among g t c = λ here. here

pub walk_below-returns-in_err-entries-clause-among : goal.walk_below-returns-in_err-entries-clause-among
walk_below-returns-in_err-entries-clause-among g t c = λ here.
    let new = c.child_node.new.t in
    let s = g.T.Pages.step new in
    let child = c.args.child.now in
    let p = err_from_is_err_and c.from_residual.result c.from_residual.ensures.1 in
    rw (p.1, p.2) (misfit_among s (BarsPage s child.page) (length (g.T.Pages.step c.args.t.now).images) child c.in_err-entries.field-0.0 here c.in_err-entries.ensures.failed.cause)

pub walk_below-returns-in-Interior-clause-among : goal.walk_below-returns-in-Interior-clause-among
walk_below-returns-in-Interior-clause-among g t c = λ here.
    let G = g.T.Pages in
    let law = g.met.T.Pages in
    let old = c.args.t.now in
    let mid = c.child_node.new.t in
    let so : OnlyWalks G None old mid = rest_reaches G law.then law.trust old c.rest.new.self mid c.rest.ensures.outside c.rest.ensures.step c.in_ok-entries.ensures.calls in
    let child = c.args.child.now in
    let ways = c.in-Interior.ways in
    let kids = ways_within (G.step mid).images child.page ways.0 ways.1 child.low child.high (c.in_ok-entries.ensures.read.node ∙ ap (λ (n : Node). Some (content_of n)) c.in-Interior.is) in
    subst (λ (n : ℕ). IfErr c.walk_children.result (IsAmong n)) so.count (c.walk_children.ensures.among kids)

pub walk_children-returns-in_err-more-clause-among : goal.walk_children-returns-in_err-more-clause-among
walk_children-returns-in_err-more-clause-among g t c = λ all.
    let ways = c.args.ways.now in
    let above = c.args.above.now in
    let n = length (g.T.Pages.step c.args.t.now).images in
    let child = c.child_at-child.result in
    let here : child.page < n = all_at (IsWithin n) (children ways.0 above.low above.high ways.1) c.loop-i.i child c.child_at-child.ensures all in
    let same = c.loop-i.invariant.calls.count in
    let p = err_from_is_err_and c.from_residual.result c.from_residual.ensures.1 in
    rw (p.1, p.2) (subst (λ (k : ℕ). IsAmong k c.in_err-more.field-0.0) same (c.in_err-more.ensures.among (subst (λ (k : ℕ). child.page < k) (sym same) here)))

-- ---- the page is marked, and marks stay

pub walk_below-returns-then-not-is_new-clause-marks : goal.walk_below-returns-then-not-is_new-clause-marks
walk_below-returns-then-not-is_new-clause-marks g t c = record {
  marked = one_marked c.args.reached.now c.is_new.new.reached c.args.child.now.page c.is_new.result c.is_new.ensures.new c.is_new.ensures.marks;
  kept = still_marked c.args.reached.now c.is_new.new.reached c.args.child.now.page c.is_new.result c.is_new.ensures.marks;
}

pub walk_below-returns-in_default-clause-marks : goal.walk_below-returns-in_default-clause-marks
walk_below-returns-in_default-clause-marks g t c = record {
  marked = one_marked c.args.reached.now c.is_new.new.reached c.args.child.now.page c.is_new.result c.is_new.ensures.new c.is_new.ensures.marks;
  kept = still_marked c.args.reached.now c.is_new.new.reached c.args.child.now.page c.is_new.result c.is_new.ensures.marks;
}

pub walk_below-returns-in_err-entries-clause-marks : goal.walk_below-returns-in_err-entries-clause-marks
walk_below-returns-in_err-entries-clause-marks g t c = record {
  marked = one_marked c.args.reached.now c.is_new.new.reached c.args.child.now.page c.is_new.result c.is_new.ensures.new c.is_new.ensures.marks;
  kept = still_marked c.args.reached.now c.is_new.new.reached c.args.child.now.page c.is_new.result c.is_new.ensures.marks;
}

pub walk_below-returns-in-Leaf-clause-marks : goal.walk_below-returns-in-Leaf-clause-marks
walk_below-returns-in-Leaf-clause-marks g t c = record {
  marked = one_marked c.args.reached.now c.is_new.new.reached c.args.child.now.page c.is_new.result c.is_new.ensures.new c.is_new.ensures.marks;
  kept = still_marked c.args.reached.now c.is_new.new.reached c.args.child.now.page c.is_new.result c.is_new.ensures.marks;
}

pub walk_below-returns-in-Interior-clause-marks : goal.walk_below-returns-in-Interior-clause-marks
walk_below-returns-in-Interior-clause-marks g t c = record {
  marked = c.walk_children.ensures.kept c.args.child.now.page (one_marked c.args.reached.now c.is_new.new.reached c.args.child.now.page c.is_new.result c.is_new.ensures.new c.is_new.ensures.marks);
  kept = λ page h. c.walk_children.ensures.kept page (still_marked c.args.reached.now c.is_new.new.reached c.args.child.now.page c.is_new.result c.is_new.ensures.marks page h);
}

pub walk_children-returns-in_err-more-clause-kept : goal.walk_children-returns-in_err-more-clause-kept
walk_children-returns-in_err-more-clause-kept g t c = λ page h. c.walk_below.ensures.marks.kept page (c.loop-i.invariant.kept page h)

pub walk_children-returns-clause-kept : goal.walk_children-returns-clause-kept
walk_children-returns-clause-kept g t c = c.loop-i.invariant.kept

-- ---- memory is not wanting

pub walk_below-returns-then-not-is_new-clause-memory : goal.walk_below-returns-then-not-is_new-clause-memory
walk_below-returns-then-not-is_new-clause-memory g t c = no_more_still g.T.Pages c.args.t.now

pub walk_below-returns-in_err-entries-clause-memory : goal.walk_below-returns-in_err-entries-clause-memory
walk_below-returns-in_err-entries-clause-memory g t c =
    let p = err_from_is_err_and c.from_residual.result c.from_residual.ensures.1 in
    rw (p.1, p.2) (no_more_rested g.T.Pages c.args.t.now c.rest.new.self c.child_node.new.t c.rest.ensures.memory c.in_err-entries.ensures.calls.memory)

pub walk_below-returns-in-Leaf-clause-memory : goal.walk_below-returns-in-Leaf-clause-memory
walk_below-returns-in-Leaf-clause-memory g t c = no_more_rested g.T.Pages c.args.t.now c.rest.new.self c.child_node.new.t c.rest.ensures.memory c.in_ok-entries.ensures.calls.memory

pub walk_below-returns-in_default-clause-memory : goal.walk_below-returns-in_default-clause-memory
walk_below-returns-in_default-clause-memory g t c = no_more_rested g.T.Pages c.args.t.now c.rest.new.self c.child_node.new.t c.rest.ensures.memory c.in_ok-entries.ensures.calls.memory

pub walk_below-returns-in-Interior-clause-memory : goal.walk_below-returns-in-Interior-clause-memory
walk_below-returns-in-Interior-clause-memory g t c =
    let P = g.T.Pages in
    let mid = c.child_node.new.t in
    no_more_then P c.args.t.now mid c.walk_children.new.t (no_more_rested P c.args.t.now c.rest.new.self mid c.rest.ensures.memory c.in_ok-entries.ensures.calls.memory) c.walk_children.ensures.memory

pub walk_children-returns-in_err-more-clause-memory : goal.walk_children-returns-in_err-more-clause-memory
walk_children-returns-in_err-more-clause-memory g t c =
    let p = err_from_is_err_and c.from_residual.result c.from_residual.ensures.1 in
    rw (p.1, p.2) (no_more_then g.T.Pages c.args.t.now c.loop-i.t c.walk_below.new.t c.loop-i.invariant.memory c.in_err-more.ensures.memory)

pub walk_children-returns-clause-memory : goal.walk_children-returns-clause-memory
walk_children-returns-clause-memory g t c = c.loop-i.invariant.memory

-- ---- the pages are walked

pub walk_below-child_node-requires : goal.walk_below-child_node-requires
walk_below-child_node-requires g t c =
    let again : 0 < reaches (rested (g.T.Pages.step c.args.t.now)) = omega (arith, c.requires.more) in
    subst (λ (s : Step). 0 < reaches s) (sym c.rest.ensures.step) again

pub walk_below-returns-in-Leaf-clause-calls : goal.walk_below-returns-in-Leaf-clause-calls
walk_below-returns-in-Leaf-clause-calls g t c =
    let law = g.met.T.Pages in
    rest_reaches g.T.Pages law.then law.trust c.args.t.now c.rest.new.self c.child_node.new.t c.rest.ensures.outside c.rest.ensures.step c.in_ok-entries.ensures.calls

pub walk_below-returns-in_default-clause-calls : goal.walk_below-returns-in_default-clause-calls
walk_below-returns-in_default-clause-calls g t c =
    let law = g.met.T.Pages in
    rest_reaches g.T.Pages law.then law.trust c.args.t.now c.rest.new.self c.child_node.new.t c.rest.ensures.outside c.rest.ensures.step c.in_ok-entries.ensures.calls

pub walk_children-returns-clause-calls : goal.walk_children-returns-clause-calls
walk_children-returns-clause-calls g t c = c.loop-i.invariant.calls
