use Rattle.std.proofs.Common.{◌∷◌, [], sym, subst}
use Rattle.name_page.specs.Pages.{Step, IsReached}
use Rattle.name_btree.specs.Grown.{TakesSpare}
use Rattle.name_btree.proofs.drafts.TakeLaws.{takes_one}
use Rattle.name_btree.proofs.draft.take_page.Goals as goal

pub returns-clause-takes : goal.returns-clause-takes
returns-clause-takes g c =
    let step = g.T.Pages.step c.args.t.now in
    let page = c.take.result in
    subst (λ (x : Step). TakesSpare step x (page ∷ [])) (sym c.take.ensures.step)
    (takes_one step page c.take.ensures.spare c.requires.promised (subst (λ (x : Step). IsReached x page) c.take.ensures.step c.take.ensures.reached))
