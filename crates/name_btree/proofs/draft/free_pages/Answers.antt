use Rattle.std.proofs.Common.{◌≡◌, ◌∙◌, ℕ, refl, sym, ap, subst, false, get_or, take, arith}
use Rattle.std.proofs.lemmas.List.{take_more}
use Rattle.name_page.specs.Pages.{Step, with_spare, is_spare, IsReached}
use Rattle.name_btree.specs.Draft.{freed, MayGo}
use Rattle.name_btree.proofs.drafts.DraftLaws.{each_or, none_before, freed_push, reached_freed, freed_used}
use Rattle.name_btree.proofs.draft.free_pages.Goals as goal

pub give_back-requires-clause-reached : goal.give_back-requires-clause-reached
give_back-requires-clause-reached g c =
    let step = g.T.Pages.step c.args.t.now in
    let i = c.loop-page.page-index in
    let pages = c.args.pages.now in
    let p : ℕ = get_or pages i 0 in
    let may : MayGo step p = each_or (MayGo step) pages i 0 (omega arith) c.requires.pages in
    subst (λ (x : Step). IsReached x p) (sym c.loop-page.invariant.step) (reached_freed (take i pages) step p may.reached)

pub give_back-requires-clause-used : goal.give_back-requires-clause-used
give_back-requires-clause-used g c =
    let step = g.T.Pages.step c.args.t.now in
    let i = c.loop-page.page-index in
    let pages = c.args.pages.now in
    let p : ℕ = get_or pages i 0 in
    let may : MayGo step p = each_or (MayGo step) pages i 0 (omega arith) c.requires.pages in
    subst (λ (x : Step). is_spare x.spares p ≡ false) (sym c.loop-page.invariant.step) (freed_used (take i pages) step p (none_before pages i (omega arith) c.requires.apart) may.used)

pub give_back-requires-clause-root : goal.give_back-requires-clause-root
give_back-requires-clause-root g c =
    let step = g.T.Pages.step c.args.t.now in
    let i = c.loop-page.page-index in
    let pages = c.args.pages.now in
    let may : MayGo step (get_or pages i 0) = each_or (MayGo step) pages i 0 (omega arith) c.requires.pages in
    may.inner

pub loop-page-preserved : goal.loop-page-preserved
loop-page-preserved g c =
    let step = g.T.Pages.step c.args.t.now in
    let i = c.loop-page.page-index in
    let pages = c.args.pages.now in
    let p : ℕ = get_or pages i 0 in
    let more = ap (λ xs. freed xs step) (take_more pages i 0 (omega arith)) ∙ freed_push (take i pages) p step in
    record {
      outside = g.met.T.Pages.then c.args.t.now c.loop-page.t c.give_back.new.self _ c.loop-page.invariant.outside c.give_back.ensures.outside;
      step = c.give_back.ensures.step ∙ ap (with_spare p) c.loop-page.invariant.step ∙ sym more;
    }

pub loop-page-init : goal.loop-page-init
loop-page-init g c = record { outside = g.met.T.Pages.still c.args.t.now; step = refl }
