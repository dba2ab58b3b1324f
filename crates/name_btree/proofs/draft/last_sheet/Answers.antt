use Rattle.std.proofs.Common.{◌≡◌, ◌∙◌, sym, ap, true, false, cond, Some, Option, Bool, List, [], ℕ, get_or, take, arith, refl}
use Rattle.std.specs.Prelude.{◌==◌}
use Rattle.std.proofs.lemmas.List.{take_more}
use Rattle.std.proofs.lemmas.Bool.{false_from_ne_true, eqb-true, eq-eqb}
use Rattle.name_btree.specs.declared.draft.Sheet.{Sheet}
use Rattle.name_btree.specs.Draft.{last_sheet}
use Rattle.name_btree.proofs.drafts.DraftLaws.{last_push}
use Rattle.name_btree.proofs.draft.last_sheet.Goals as goal
use Rattle.name_btree.proofs.draft.last_sheet.Goals.{then-sheet-page, else-sheet-page}

pub loop-sheet-preserved : goal.loop-sheet-preserved
loop-sheet-preserved c =
    let i = c.loop-sheet.sheet-index in
    let sheets = c.args.sheets.now in
    let page : ℕ = c.args.page in
    let none : Sheet = record { page = 0; image = [] } in
    let s : Sheet = get_or sheets i none in
    let more = ap (last_sheet page) (take_more sheets i none (omega arith)) ∙ last_push page (take i sheets) s in
    let pick : Bool → Option (List ℕ) = λ (b : Bool). cond b (Some s.image) (last_sheet page (take i sheets)) in
    elim c.if-sheet-page.branch [
      | then-sheet-page w ↦ let is : (s.page == page) ≡ true = ap (λ (n : ℕ). n == page) w.if-sheet-page.true ∙ eq-eqb page page refl in w.last-is ∙ sym (more ∙ ap pick is)
      | else-sheet-page w ↦ let is : (s.page == page) ≡ false = false_from_ne_true (s.page == page) (λ e. w.if-sheet-page.false (eqb-true s.page page e)) in w.last-is ∙ c.loop-sheet.invariant ∙ sym (more ∙ ap pick is)
    ]
