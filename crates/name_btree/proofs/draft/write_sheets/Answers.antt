use Rattle.std.proofs.Common.{◌∙◌, ◌<◌, refl, sym, ap, subst, [], get_or, take, arith}
use Rattle.std.proofs.lemmas.List.{take_more}
use Rattle.name_page.specs.Pages.{Step, with_page, changes, IsReached}
use Rattle.name_btree.specs.declared.draft.Sheet.{Sheet}
use Rattle.name_btree.specs.Draft.{committed, IsSheet}
use Rattle.name_btree.proofs.drafts.DraftLaws.{each_or, committed_push, reached_committed, still_more}
use Rattle.name_btree.proofs.draft.write_sheets.Goals as goal

pub write_sheet-requires-clause-reached : goal.write_sheet-requires-clause-reached
write_sheet-requires-clause-reached g c =
    let step = g.T.Pages.step c.args.t.now in
    let i = c.loop-sheet.sheet-index in
    let sheets = c.args.sheets.now in
    let none : Sheet = record { page = 0; image = [] } in
    let s : Sheet = get_or sheets i none in
    let is : IsSheet step s = each_or (IsSheet step) sheets i none (omega arith) c.requires.sheets in
    subst (λ (x : Step). IsReached x s.page) (sym c.loop-sheet.invariant.step) (reached_committed (take i sheets) step s.page is.reached)

pub write_sheet-requires-clause-more : goal.write_sheet-requires-clause-more
write_sheet-requires-clause-more g c = λ other.
    let step = g.T.Pages.step c.args.t.now in
    let i = c.loop-sheet.sheet-index in
    let sheets = c.args.sheets.now in
    subst (λ (x : Step). 0 < changes x) (sym c.loop-sheet.invariant.step) (still_more sheets step i (omega arith) c.requires.more)

pub loop-sheet-preserved : goal.loop-sheet-preserved
loop-sheet-preserved g c =
    let step = g.T.Pages.step c.args.t.now in
    let i = c.loop-sheet.sheet-index in
    let sheets = c.args.sheets.now in
    let none : Sheet = record { page = 0; image = [] } in
    let s : Sheet = get_or sheets i none in
    let more = ap (λ xs. committed xs step) (take_more sheets i none (omega arith)) ∙ committed_push (take i sheets) s step in
    record {
      outside = g.met.T.Pages.then c.args.t.now c.loop-sheet.t c.write_sheet.new.t _ c.loop-sheet.invariant.outside c.write_sheet.ensures.outside;
      step = c.write_sheet.ensures.step ∙ ap (with_page s.page s.image) c.loop-sheet.invariant.step ∙ sym more;
    }

pub loop-sheet-init : goal.loop-sheet-init
loop-sheet-init g c = record { outside = g.met.T.Pages.still c.args.t.now; step = refl }
