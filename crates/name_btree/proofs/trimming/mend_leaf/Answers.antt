use Rattle.std.proofs.Common.{◌≡◌, ◌∙◌, sym, ap, subst, length, ℕ, Bool, List, Some, rules}
use Rattle.std.proofs.lemmas.Result.{err_from_is_err_and}
use Rattle.std.specs.Prelude.{slice_get}
use Rattle.std.specs.List.{AllByRecursion}
use Rattle.fsd_formats.specs.declared.entry.Entry.{Entry}
use Rattle.fsd_formats.specs.NamePage.{Leaf, FitsEntry}
use Rattle.fsd_table.specs.declared.child.Child.{Child}
use Rattle.fsd_table.specs.Pages.{page_at, children, content_fits}
use Rattle.fsd_table.specs.Tree.{IsLeaf}
use Rattle.fsd_table.proofs.PageLaws.{at_is_page}
use Rattle.fsd_forest.proofs.WayLaws.{child_at}
use Rattle.name_page.specs.declared.node.Node.{Node}
use Rattle.name_page.specs.Node.{content_of}
use Rattle.name_page.specs.Pages.{is_spare}
use Rattle.name_page.proofs.LookLaws.{agrees_now}
use Rattle.name_btree.specs.Fault.{IsMisfit}
use Rattle.name_btree.proofs.steps.CauseLaws.{fails_by_map}
use Rattle.name_btree.proofs.ways.DescentLaws.{misfit_leaf}
use Rattle.name_btree.proofs.drafts.ReachedLaws.{leaves_over}
use Rattle.name_btree.specs.Draft.{drafted}
use Rattle.name_btree.specs.Trim.{HasNoLeaf, MayHave, neighbour_of, child_of, both_entries, AreLeavesMended}
use Rattle.name_btree.proofs.mending.MendLaws.{draft_kept, page_kept, left_page, right_page, leaves_at, AreBothLeaves}
use Rattle.name_btree.proofs.mending.PairLaws.{sides_are}
use Rattle.name_btree.proofs.steps.ReplaceLaws.{few_in_leaf}
use Rattle.name_btree.proofs.mending.TrimLaws.{page_entries}
use Rattle.name_btree.proofs.trimming.mend_leaf.Goals as goal

pub listed-requires : goal.listed-requires
listed-requires g c =
    let pages : List (List ℕ) = drafted c.args.draft.now.sheets.items (g.T.Pages.step c.child_node.new.t).images in
    let page : ℕ = c.child_at-neighbour.result.page in
    let at : page_at pages page ≡ Some (Leaf c.in-Leaf.others) = c.in_ok-others.ensures.read.node (g.T.Pages.step c.child_node.new.t).images (agrees_now (g.T.Pages.step c.child_node.new.t)) ∙ ap (λ (n : Node). Some (content_of n)) c.in-Leaf.is in
    few_in_leaf pages page c.in-Leaf.others at

pub put_leaves-requires : goal.put_leaves-requires
put_leaves-requires g c =
    let old = g.T.Pages.step c.args.t.now in
    let new = g.T.Pages.step c.child_node.new.t in
    let above = c.args.above.now in
    let ways = c.args.ways.now in
    let pair = c.pair_with-pair.result in
    let is = c.pair_with-pair.ensures.pair in
    let child = child_of above ways.0 ways.1 c.args.i in
    let neighbour = c.child_at-neighbour.result in
    let others = c.in-Leaf.others in
    let few = c.args.few.now.items in
    let cs : List Child = children ways.0 above.low above.high ways.1 in
    let pages : List (List ℕ) = drafted c.args.draft.now.sheets.items new.images in
    let at : page_at pages neighbour.page ≡ Some (Leaf others) = c.in_ok-others.ensures.read.node (g.T.Pages.step c.child_node.new.t).images (agrees_now (g.T.Pages.step c.child_node.new.t)) ∙ ap (λ (n : Node). Some (content_of n)) c.in-Leaf.is in
    let sides = sides_are above ways.0 ways.1 pair is c.args.i child neighbour c.pair_with-pair.ensures.place (child_at ways.0 above.low above.high ways.1 c.args.i c.requires.within) (ap (slice_get cs) (sym c.neighbour_of.ensures) ∙ c.child_at-neighbour.ensures) in
    let fits = subst (AllByRecursion FitsEntry) c.listed.ensures.entries c.listed.ensures.fits in
    let has = page_entries neighbour.page (length pages) others (at_is_page pages neighbour.page (Leaf others) at) fits in
    let within = sym (ap (λ (n : Node). content_fits neighbour.low neighbour.high (Some (content_of n))) c.in-Leaf.is) ∙ c.in_ok-others.ensures.read.fits in
    let both = leaves_at (length old.images) ways.0 above ways.1 pair is c.requires.ways c.args.i child neighbour sides few others c.requires.few has c.if-neighbour-ne0.true within in
    let list : List Entry = c.as_slice-in-Leaf-2.result.now in
    let kept = c.child_node.ensures.calls.looks.reached in
    let child_may = page_kept old new child.page kept c.child_node.ensures.calls.looks.spares c.requires.below in
    let other_may : MayHave new neighbour.page = record { reached = c.in_ok-others.ensures.read.reached; used = ap (λ (x : List Bool). is_spare x neighbour.page) c.child_node.ensures.calls.looks.spares ∙ c.in_ok-others.ensures.read.used } in
    let joined : list ≡ both_entries c.args.i few others = c.as_slice-in-Leaf-2.ensures.value ∙ c.leaves_joined-list.ensures
    ∙ ap (λ (xs : List Entry). both_entries c.args.i xs c.as_slice-in-Leaf.result.now) c.as_slice.ensures.value ∙ ap (both_entries c.args.i few) (c.as_slice-in-Leaf.ensures.value ∙ c.listed.ensures.entries) in
    let all = subst (AreBothLeaves above ways.0 ways.1 pair) (sym joined) both in
    record {
      room = search rules;
      freed = search rules;
      draft = draft_kept old new c.args.draft.now kept c.child_node.ensures.calls.looks.spares c.child_node.ensures.calls.looks.count c.requires.draft;
      page = search rules;
      left = left_page (MayHave new) above ways.0 ways.1 pair is c.args.i child neighbour sides child_may other_may;
      right = right_page (MayHave new) above ways.0 ways.1 pair is c.args.i child neighbour sides child_may other_may;
      ways = search rules;
      pair = search rules;
      few = search rules;
      entries = all.are;
      least = all.least;
      most = all.most;
      within = all.within;
    }

pub returns-in-Leaf-clause-mended : goal.returns-in-Leaf-clause-mended
returns-in-Leaf-clause-mended g c = λ images agrees.
    let new = g.T.Pages.step c.child_node.new.t in
    let above = c.args.above.now in
    let ways = c.args.ways.now in
    let pair = c.pair_with-pair.result in
    let others = c.in-Leaf.others in
    let few = c.args.few.now.items in
    let draft = c.args.draft.now in
    let cs : List Child = children ways.0 above.low above.high ways.1 in
    let list : List Entry = c.as_slice-in-Leaf-2.result.now in
    let joined : list ≡ both_entries c.args.i few others = c.as_slice-in-Leaf-2.ensures.value ∙ c.leaves_joined-list.ensures
    ∙ ap (λ (xs : List Entry). both_entries c.args.i xs c.as_slice-in-Leaf.result.now) c.as_slice.ensures.value ∙ ap (both_entries c.args.i few) (c.as_slice-in-Leaf.ensures.value ∙ c.listed.ensures.entries) in
    let put = subst (λ (xs : List Entry). AreLeavesMended new draft c.put_leaves.new.draft above.page ways.0 ways.1 pair xs c.put_leaves.result) joined c.put_leaves.ensures.put in
    record {
      pair = pair;
      place = c.pair_with-pair.ensures.place;
      is = c.pair_with-pair.ensures.pair;
      neighbour = c.child_at-neighbour.result;
      there = ap (slice_get cs) (sym c.neighbour_of.ensures) ∙ c.child_at-neighbour.ensures;
      others = others;
      has = c.in_ok-others.ensures.read.node images agrees ∙ ap (λ (n : Node). Some (content_of n)) c.in-Leaf.is;
      mended = leaves_over new images agrees.count draft c.put_leaves.new.draft above.page ways.0 ways.1 pair c.put_leaves.result _ put;
    }

pub returns-in_err-others-clause-calls : goal.returns-in_err-others-clause-calls
returns-in_err-others-clause-calls g c =
    let p = err_from_is_err_and c.from_residual.result c.from_residual.ensures.1 in
    rw (p.1, p.2) c.in_err-others.ensures.calls

pub returns-in_err-others-clause-fault : goal.returns-in_err-others-clause-fault
returns-in_err-others-clause-fault g c =
    let sheets = c.args.draft.now.sheets.items in
    let above = c.args.above.now in
    let ways = c.args.ways.now in
    let cs : List Child = children ways.0 above.low above.high ways.1 in
    let n = c.child_at-neighbour.result in
    let there : slice_get cs (neighbour_of c.args.i) ≡ Some n = ap (slice_get cs) (sym c.neighbour_of.ensures) ∙ c.child_at-neighbour.ensures in
    let p = err_from_is_err_and c.from_residual.result c.from_residual.ensures.1 in
    rw (p.1, p.2) (fails_by_map (g.T.Pages.step c.child_node.new.t) (λ pages. IsMisfit (drafted sheets pages) n) (λ pages. HasNoLeaf (drafted sheets pages) cs c.args.i)
    (λ images page is h d at leaf root.
    let same : d ≡ n = cc (there, at) in
    misfit_leaf n (page_at (drafted sheets images) n.page) h.1 (subst (λ (x : Child). IsLeaf x (page_at (drafted sheets images) x.page)) same leaf))
    c.in_err-others.field-0.0 c.in_err-others.ensures.fault)
