use Rattle.std.proofs.Common.{◌≡◌, ◌∙◌, ◌≤◌, Bool, true, sym, ap, subst, length, ℕ, List, Some, arith, rules}
use Rattle.std.proofs.lemmas.Option.{same_Some}
use Rattle.std.proofs.lemmas.Bool.{true≢false}
use Rattle.std.proofs.lemmas.Result.{err_from_is_err_and}
use Rattle.std.specs.Prelude.{slice_get}
use Rattle.fsd_formats.specs.declared.page.Separator.{Separator}
use Rattle.fsd_formats.specs.NamePage.{Interior, is_page}
use Rattle.fsd_table.specs.declared.child.Child.{Child}
use Rattle.fsd_table.specs.Pages.{page_at, children, content_fits}
use Rattle.fsd_table.proofs.PageLaws.{at_is_page}
use Rattle.fsd_forest.proofs.WayLaws.{child_at}
use Rattle.name_page.specs.declared.node.Node.{Node}
use Rattle.name_page.specs.Node.{content_of}
use Rattle.name_page.proofs.CountLaws.{few_separators}
use Rattle.name_page.specs.Pages.{is_spare}
use Rattle.name_page.proofs.LookLaws.{agrees_now}
use Rattle.name_btree.specs.Fault.{IsMisfit}
use Rattle.name_btree.proofs.steps.CauseLaws.{fails_by_map}
use Rattle.name_btree.proofs.drafts.ReachedLaws.{interiors_over}
use Rattle.name_btree.specs.Draft.{drafted}
use Rattle.name_btree.specs.Trim.{HasNoWays, MayHave, AreWays, neighbour_of, child_of, AreWaysMended, ways_at, is_behind, right_at}
use Rattle.name_btree.proofs.drafts.DraftLaws.{drafted_length}
use Rattle.name_btree.proofs.mending.MendLaws.{draft_kept, page_kept, left_page, right_page, ways_found, ways_count}
use Rattle.name_btree.proofs.mending.PairLaws.{sides_are}
use Rattle.name_btree.proofs.mending.TrimLaws.{least_of_page}
use Rattle.name_btree.proofs.trimming.mend_ways.Goals as goal

pub ways_joined-requires-clause-others : goal.ways_joined-requires-clause-others
ways_joined-requires-clause-others g c =
    let pages : List (List ℕ) = drafted c.args.draft.now.sheets.items (g.T.Pages.step c.child_node.new.t).images in
    let page : ℕ = c.child_at-neighbour.result.page in
    let others = c.in-Interior.others in
    let at : page_at pages page ≡ Some (Interior others.0 others.1) = c.in_ok-others.ensures.read.node (g.T.Pages.step c.child_node.new.t).images (agrees_now (g.T.Pages.step c.child_node.new.t)) ∙ ap (λ (n : Node). Some (content_of n)) c.in-Interior.is in
    few_separators pages page others.0 others.1 at

pub ways_cut-cut-requires : goal.ways_cut-cut-requires
ways_cut-cut-requires g c =
    let pages : List (List ℕ) = drafted c.args.draft.now.sheets.items (g.T.Pages.step c.child_node.new.t).images in
    let neighbour = c.child_at-neighbour.result in
    let others = c.in-Interior.others in
    let few = c.args.few.now.items in
    let at : page_at pages neighbour.page ≡ Some (Interior others.0 others.1) = c.in_ok-others.ensures.read.node (g.T.Pages.step c.child_node.new.t).images (agrees_now (g.T.Pages.step c.child_node.new.t)) ∙ ap (λ (n : Node). Some (content_of n)) c.in-Interior.is in
    let least : 4 ≤ length others.1 = least_of_page neighbour.page (length pages) others.0 others.1 c.if-neighbour-ne0.true (at_is_page pages neighbour.page (Interior others.0 others.1) at) in
    let is : c.as_slice.result.now ≡ ways_at c.args.i c.get.result.key c.args.first few others.0 others.1 = c.as_slice.ensures.value ∙ c.in-Some.ensures.list in
    omega (arith, ap length is, ways_count c.args.i c.get.result.key c.args.first few others.0 others.1, least)

pub put_interiors-requires : goal.put_interiors-requires
put_interiors-requires g c =
    let old = g.T.Pages.step c.args.t.now in
    let new = g.T.Pages.step c.child_node.new.t in
    let p : ℕ = length old.images in
    let above = c.args.above.now in
    let ways = c.args.ways.now in
    let pair = c.pair_with-pair.result in
    let is = c.pair_with-pair.ensures.pair in
    let child = child_of above ways.0 ways.1 c.args.i in
    let neighbour = c.child_at-neighbour.result in
    let others = c.in-Interior.others in
    let few = c.args.few.now.items in
    let list : List Separator = c.in-Some.joined.list.items in
    let cs : List Child = children ways.0 above.low above.high ways.1 in
    let sheets = c.args.draft.now.sheets.items in
    let pages : List (List ℕ) = drafted sheets new.images in
    let at : page_at pages neighbour.page ≡ Some (Interior others.0 others.1) = c.in_ok-others.ensures.read.node (g.T.Pages.step c.child_node.new.t).images (agrees_now (g.T.Pages.step c.child_node.new.t)) ∙ ap (λ (n : Node). Some (content_of n)) c.in-Interior.is in
    let page = subst (λ (n : ℕ). is_page neighbour.page n (Interior others.0 others.1) ≡ true) (drafted_length sheets new.images ∙ c.child_node.ensures.calls.looks.count) (at_is_page pages neighbour.page (Interior others.0 others.1) at) in
    let sides = sides_are above ways.0 ways.1 pair is c.args.i child neighbour c.pair_with-pair.ensures.place (child_at ways.0 above.low above.high ways.1 c.args.i c.requires.within) (ap (slice_get cs) (sym c.neighbour_of.ensures) ∙ c.child_at-neighbour.ensures) in
    let within = sym (ap (λ (n : Node). content_fits neighbour.low neighbour.high (Some (content_of n))) c.in-Interior.is) ∙ c.in_ok-others.ensures.read.fits in
    let both = ways_found p ways.0 above ways.1 pair is c.requires.ways c.args.i child neighbour sides c.args.first few others.0 others.1 c.requires.few page within
    c.get.result c.get.ensures.there c.in-Some.ensures.behind c.in-Some.joined.first list c.in-Some.ensures.first c.in-Some.ensures.list in
    let count : 5 ≤ length list =
    omega (arith, ap length c.in-Some.ensures.list, ways_count c.args.i c.get.result.key c.args.first few others.0 others.1, least_of_page neighbour.page p others.0 others.1 c.if-neighbour-ne0.true page) in
    let kept = c.child_node.ensures.calls.looks.reached in
    let spares = c.child_node.ensures.calls.looks.spares in
    let child_may = page_kept old new child.page kept spares c.requires.below in
    let other_may : MayHave new neighbour.page = record { reached = c.in_ok-others.ensures.read.reached; used = ap (λ (x : List Bool). is_spare x neighbour.page) spares ∙ c.in_ok-others.ensures.read.used } in
    record {
      room = search rules;
      freed = search rules;
      draft = draft_kept old new c.args.draft.now kept spares c.child_node.ensures.calls.looks.count c.requires.draft;
      page = search rules;
      left = left_page (MayHave new) above ways.0 ways.1 pair is c.args.i child neighbour sides child_may other_may;
      right = right_page (MayHave new) above ways.0 ways.1 pair is c.args.i child neighbour sides child_may other_may;
      ways = search rules;
      pair = search rules;
      list = subst (λ (n : ℕ). AreWays n c.in-Some.joined.first list) (sym c.child_node.ensures.calls.looks.count) both.are;
      fits = search rules;
      least = omega (arith, count);
      front = search rules;
      short = search rules;
      behind = search rules;
      most = search rules;
      within = both.within;
    }

pub returns-in-Some-clause-mended : goal.returns-in-Some-clause-mended
returns-in-Some-clause-mended g c = λ images agrees.
    let new = g.T.Pages.step c.child_node.new.t in
    let above = c.args.above.now in
    let ways = c.args.ways.now in
    let pair = c.pair_with-pair.result in
    let is = c.pair_with-pair.ensures.pair in
    let cs : List Child = children ways.0 above.low above.high ways.1 in
    let others = c.in-Interior.others in
    let few = c.args.few.now.items in
    let draft = c.args.draft.now in
    let at = c.in_ok-others.ensures.read.node images agrees ∙ ap (λ (n : Node). Some (content_of n)) c.in-Interior.is in
    let same = same_Some c.get.result is.between (sym c.get.ensures.there ∙ is.there) in
    let is_list : c.in-Some.joined.list.items ≡ ways_at c.args.i is.between.key c.args.first few others.0 others.1 = c.in-Some.ensures.list ∙ ap (λ (s : Separator). ways_at c.args.i s.key c.args.first few others.0 others.1) same in
    let put = subst (λ (n : ℕ). AreWaysMended new draft c.put_interiors.new.draft above.page ways.0 ways.1 pair n (ways_at c.args.i is.between.key c.args.first few others.0 others.1) c.put_interiors.result)
    c.in-Some.ensures.first
    (subst (λ (xs : List Separator). AreWaysMended new draft c.put_interiors.new.draft above.page ways.0 ways.1 pair c.in-Some.joined.first xs c.put_interiors.result) is_list c.put_interiors.ensures.put) in
    record {
      pair = pair;
      place = c.pair_with-pair.ensures.place;
      is = is;
      neighbour = c.child_at-neighbour.result;
      there = ap (slice_get cs) (sym c.neighbour_of.ensures) ∙ c.child_at-neighbour.ensures;
      second = others.0;
      others = others.1;
      has = at;
      behind = ap (λ (s : Separator). is_behind s.key (right_at c.args.i few others.1)) (sym same) ∙ c.in-Some.ensures.behind;
      mended = interiors_over new images agrees.count draft c.put_interiors.new.draft above.page ways.0 ways.1 pair c.put_interiors.result _ _ put;
    }

pub returns-in_err-others-clause-calls : goal.returns-in_err-others-clause-calls
returns-in_err-others-clause-calls g c =
    let p = err_from_is_err_and c.from_residual.result c.from_residual.ensures.1 in
    rw (p.1, p.2) c.in_err-others.ensures.calls

pub returns-in_err-others-clause-fault : goal.returns-in_err-others-clause-fault
returns-in_err-others-clause-fault g c =
    let sheets = c.args.draft.now.sheets.items in
    let above = c.args.above.now in
    let ways = c.args.ways.now in
    let cs : List Child = children ways.0 above.low above.high ways.1 in
    let n = c.child_at-neighbour.result in
    let there : slice_get cs (neighbour_of c.args.i) ≡ Some n = ap (slice_get cs) (sym c.neighbour_of.ensures) ∙ c.child_at-neighbour.ensures in
    let p = err_from_is_err_and c.from_residual.result c.from_residual.ensures.1 in
    rw (p.1, p.2) (fails_by_map (g.T.Pages.step c.child_node.new.t) (λ pages. IsMisfit (drafted sheets pages) n) (λ pages. HasNoWays (drafted sheets pages) above ways.0 ways.1 c.args.i c.args.few.now.items)
    (λ images page is h d at root second others has fits s between behind.
    let same : d ≡ n = cc (there, at) in
    let yes : content_fits d.low d.high (page_at (drafted sheets images) d.page) ≡ true = ap (content_fits d.low d.high) has ∙ fits in
    true≢false (sym (subst (λ (x : Child). content_fits x.low x.high (page_at (drafted sheets images) x.page) ≡ true) same yes) ∙ h.1))
    c.in_err-others.field-0.0 c.in_err-others.ensures.fault)
