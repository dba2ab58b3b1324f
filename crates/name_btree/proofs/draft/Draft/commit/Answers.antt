use Rattle.std.proofs.Common.{◌≡◌, ◌∙◌, sym, ap, subst, List}
use Rattle.std.specs.List.{AllByRecursion}
use Rattle.name_page.specs.Pages.{Step}
use Rattle.name_btree.specs.Draft.{committed, MayGo}
use Rattle.name_btree.specs.declared.draft.Sheet.{Sheet}
use Rattle.name_btree.proofs.drafts.DraftLaws.{may_go, freed_images, committed_images}
use Rattle.name_btree.proofs.draft.Draft.commit.Goals as goal

pub free_pages-requires-clause-pages : goal.free_pages-requires-clause-pages
free_pages-requires-clause-pages g c =
    let step = g.T.Pages.step c.args.t.now in
    let sheets = c.args.self.now.sheets.items in
    let pages = c.args.self.now.freed.items in
    let is : g.T.Pages.step c.write_sheets.new.t ≡ committed sheets step = c.write_sheets.ensures.step ∙ ap (λ (xs : List Sheet). committed xs step) c.as_slice.ensures in
    let all = may_go sheets step pages c.requires.freed in
    subst (λ (x : Step). AllByRecursion (MayGo x) c.as_slice-2.result.now) (sym is) (subst (AllByRecursion (MayGo (committed sheets step))) (sym c.as_slice-2.ensures.value) all)

pub returns-clause-images : goal.returns-clause-images
returns-clause-images g c =
    let step = g.T.Pages.step c.args.t.now in
    let sheets = c.args.self.now.sheets.items in
    let is : g.T.Pages.step c.write_sheets.new.t ≡ committed sheets step = c.write_sheets.ensures.step ∙ ap (λ (xs : List Sheet). committed xs step) c.as_slice.ensures in
    ap (λ (x : Step). x.images) c.free_pages.ensures.step
    ∙ freed_images c.as_slice-2.result.now (g.T.Pages.step c.write_sheets.new.t)
    ∙ ap (λ (x : Step). x.images) is
    ∙ committed_images sheets step
