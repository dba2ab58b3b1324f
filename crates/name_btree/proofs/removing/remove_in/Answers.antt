use Rattle.std.proofs.Common.{◌≡◌, ap, subst, length, List, ℕ, Some, arith}
use Rattle.std.proofs.lemmas.Result.{err_from_is_err_and}
use Rattle.fsd_table.specs.declared.child.Child.{Child}
use Rattle.fsd_table.specs.Pages.{page_at}
use Rattle.fsd_table.specs.Table.{top}
use Rattle.name_page.specs.Pages.{with_images}
use Rattle.name_page.specs.Looks.{ShowsEach}
use Rattle.name_page.proofs.LookLaws.{reaches_then, agrees_now, agrees_before}
use Rattle.name_btree.specs.Draft.{drafted, IsTreeDraft, RemovesFrom}
use Rattle.name_btree.specs.Fault.{FailsBy, IsNoTree}
use Rattle.name_btree.specs.Remove.{BreaksAround, IsTrimmedBelow, IsRootLeft, TrimsDraft}
use Rattle.name_btree.specs.Trim.{IsFreeOrNone, IsTakenOver, sheets_below}
use Rattle.name_btree.proofs.mending.ParentLaws.{freed_more}
use Rattle.name_btree.proofs.steps.CauseLaws.{fails_by_map}
use Rattle.name_btree.proofs.mending.RootLaws.{whole_tree, shrunk_tree, free_breaks, around_breaks, only_of, on_ok_more}
use Rattle.name_btree.proofs.removing.remove_in.Goals as goal
use Rattle.name_btree.proofs.steps.ResultLaws.{err_more, on_ok_both}

pub returns-in_err-remove_below-clause-fault : goal.returns-in_err-remove_below-clause-fault
returns-in_err-remove_below-clause-fault g c =
    let new = c.remove_below.new.t in
    let key = c.args.key.now in
    let sheets = c.args.draft.now.sheets.items in
    let p = err_from_is_err_and c.from_residual.result c.from_residual.ensures.1 in
    rw (p.1, p.2) (fails_by_map (g.T.Pages.step new) (λ pages. BreaksAround key (drafted sheets pages) 5 c.top.result) (λ pages page. IsNoTree (drafted sheets pages))
    (λ images page is h. around_breaks key (drafted sheets images) c.top.result page c.top.ensures h) c.in_err-remove_below.field-0.0 c.in_err-remove_below.ensures.fault)

pub returns-in-Whole-clause-removed : goal.returns-in-Whole-clause-removed
returns-in-Whole-clause-removed g c = λ images agrees height tree apart.
    let key = c.args.key.now in
    let draft = c.args.draft.now in
    let mid = c.remove_below.new.draft in
    let pages : List (List ℕ) = drafted draft.sheets.items images in
    let after : List (List ℕ) = drafted mid.sheets.items images in
    let t0 = subst (λ (x : Child). IsTrimmedBelow key pages after draft.freed.items mid.freed.items 5 x c.in_ok-remove_below.field-0) c.top.ensures (c.in_ok-remove_below.ensures.trimmed images agrees) in
    let t1 = subst (IsTrimmedBelow key pages after draft.freed.items mid.freed.items 5 top) c.in-Whole.is t0 in
    whole_tree key pages after draft.freed.items mid.freed.items t1 height tree

pub returns-in-Interior-clause-calls : goal.returns-in-Interior-clause-calls
returns-in-Interior-clause-calls g c = reaches_then g.T.Pages g.met.T.Pages.then c.args.t.now c.remove_below.new.t c.take_over.new.t c.in_ok-remove_below.ensures.calls c.take_over.ensures.calls

pub returns-in-Whole-clause-drafted : goal.returns-in-Whole-clause-drafted
returns-in-Whole-clause-drafted g c =
    let d = c.in_ok-remove_below.ensures.drafted in
    record { draft = d.draft; sheets = omega (arith, d.sheets, ap (sheets_below 5) c.in-Whole.is); freed = omega (arith, d.freed) }

pub returns-in-Leaf-clause-drafted : goal.returns-in-Leaf-clause-drafted
returns-in-Leaf-clause-drafted g c =
    let d = c.in_ok-remove_below.ensures.drafted in
    record { draft = d.draft; sheets = omega (arith, d.sheets, ap (sheets_below 5) c.in-Leaf.is); freed = omega (arith, d.freed) }

pub returns-in-Interior-clause-drafted : goal.returns-in-Interior-clause-drafted
returns-in-Interior-clause-drafted g c =
    let s = g.T.Pages.step c.take_over.new.t in
    let mid = c.remove_below.new.draft in
    let new = c.take_over.new.draft in
    let d = c.in_ok-remove_below.ensures.drafted in
    on_ok_both c.take_over.result (IsTreeDraft s new) (ShowsEach s (λ pages. IsTakenOver (with_images pages s) mid new c.in-Interior.only)) (TrimsDraft s c.args.draft.now new 8 6)
    (λ draft h. record {
      draft = draft;
      sheets = omega (arith, (h s.images (agrees_now s)).now.one, d.sheets, ap (sheets_below 5) c.in-Interior.is);
      freed = omega (arith, ap length (h s.images (agrees_now s)).freed, freed_more c.in-Interior.only mid.freed.items, d.freed);
    }) c.take_over.ensures.draft c.take_over.ensures.taken

pub returns-in-Interior-clause-removed : goal.returns-in-Interior-clause-removed
returns-in-Interior-clause-removed g c =
    let between = g.T.Pages.step c.remove_below.new.t in
    let s = g.T.Pages.step c.take_over.new.t in
    let key = c.args.key.now in
    let draft = c.args.draft.now in
    let mid = c.remove_below.new.draft in
    let new = c.take_over.new.draft in
    let only = c.in-Interior.only in
    let left = c.in_ok-remove_below.field-0 in
    let root = subst (λ (x : Child). IsRootLeft x.page left) c.top.ensures c.in_ok-remove_below.ensures.left.root in
    let is : only_of left ≡ Some only = ap only_of c.in-Interior.is in
    on_ok_more c.take_over.result (ShowsEach s (λ pages. IsTakenOver (with_images pages s) mid new only)) (ShowsEach s (λ pages. RemovesFrom pages draft new key))
    (λ taken images agrees height tree apart.
    let pages : List (List ℕ) = drafted draft.sheets.items images in
    let before = agrees_before between s images c.take_over.ensures.calls.looks agrees in
    let t0 = subst (λ (x : Child). IsTrimmedBelow key pages (drafted mid.sheets.items images) draft.freed.items mid.freed.items 5 x left) c.top.ensures (c.in_ok-remove_below.ensures.trimmed images before) in
    shrunk_tree (with_images images s) key pages mid new draft.freed.items only left is root t0 (taken images agrees) height tree) c.take_over.ensures.taken

pub returns-in-Interior-clause-fault : goal.returns-in-Interior-clause-fault
returns-in-Interior-clause-fault g c =
    let G = g.T.Pages in
    let between = G.step c.remove_below.new.t in
    let new = c.take_over.new.t in
    let s = G.step new in
    let key = c.args.key.now in
    let draft = c.args.draft.now in
    let mid = c.remove_below.new.draft in
    let only : ℕ = c.in-Interior.only in
    let left = c.in_ok-remove_below.field-0 in
    let is : only_of left ≡ Some only = ap only_of c.in-Interior.is in
    let A : List (List ℕ) → ℕ → Type 0 = λ (pages : List (List ℕ)) (page : ℕ). IsFreeOrNone (page_at (drafted mid.sheets.items pages) only) in
    let B : List (List ℕ) → ℕ → Type 0 = λ (pages : List (List ℕ)) (page : ℕ). IsNoTree (drafted draft.sheets.items pages) in
    err_more c.take_over.result (FailsBy s A) (FailsBy s B)
    (λ fault h. fails_by_map s A B
    (λ images page agrees free height tree.
    let pages : List (List ℕ) = drafted draft.sheets.items images in
    let before = agrees_before between s images c.take_over.ensures.calls.looks agrees in
    let t0 = subst (λ (x : Child). IsTrimmedBelow key pages (drafted mid.sheets.items images) draft.freed.items mid.freed.items 5 x left) c.top.ensures (c.in_ok-remove_below.ensures.trimmed images before) in
    free_breaks key pages (drafted mid.sheets.items images) draft.freed.items mid.freed.items only left is t0 free height tree) fault h) c.take_over.ensures.fault

pub returns-in_err-remove_below-clause-calls : goal.returns-in_err-remove_below-clause-calls
returns-in_err-remove_below-clause-calls g c =
    let p = err_from_is_err_and c.from_residual.result c.from_residual.ensures.1 in
    rw (p.1, p.2) c.in_err-remove_below.ensures.calls
