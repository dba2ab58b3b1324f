use Rattle.std.proofs.Common.{◌≡◌, ◌∙◌, inr, None, sym, ap, subst, length, ℕ, List, true, rules}
use Rattle.std.proofs.lemmas.Result.{err_from_is_err_and}
use Rattle.fsd_formats.specs.NamePage.{is_page}
use Rattle.fsd_table.proofs.PageLaws.{at_is_page}
use Rattle.name_page.specs.Node.{content_of}
use Rattle.name_page.proofs.LookLaws.{agrees_now}
use Rattle.name_btree.proofs.steps.CauseLaws.{fails_by_map}
use Rattle.name_btree.proofs.drafts.ReachedLaws.{drafted_over}
use Rattle.name_btree.specs.Trim.{IsFreeOrNone}
use Rattle.fsd_table.specs.Pages.{page_at}
use Rattle.name_btree.specs.declared.draft.Sheet.{Sheet}
use Rattle.name_btree.specs.Draft.{drafted, IsDrafted, with_freed}
use Rattle.name_btree.proofs.drafts.DraftLaws.{drafted_length}
use Rattle.name_btree.proofs.mending.MendLaws.{draft_kept, page_kept}
use Rattle.name_btree.proofs.trimming.take_over.Goals as goal

pub put_on_top-requires : goal.put_on_top-requires
put_on_top-requires g c =
    let old = g.T.Pages.step c.args.t.now in
    let new = g.T.Pages.step c.node_at.new.t in
    let sheets = c.args.draft.now.sheets.items in
    let pages : List (List ℕ) = drafted sheets new.images in
    let node = c.in_ok-node.node in
    let at = c.in_ok-node.ensures.read.node new.images (agrees_now new) in
    let length_is : length pages ≡ length new.images = drafted_length sheets new.images in
    let page = subst (λ (n : ℕ). is_page c.args.child n (content_of node) ≡ true) length_is (at_is_page pages c.args.child (content_of node) at) in
    let kept = c.node_at.ensures.calls.looks.reached in
    let spares = c.node_at.ensures.calls.looks.spares in
    record {
      room = search rules;
      draft = draft_kept old new c.args.draft.now kept spares c.node_at.ensures.calls.looks.count c.requires.draft;
      top = page_kept old new 0 kept spares c.requires.top;
      some = search rules;
      page = (c.args.child, page);
      there = (pages, c.args.child, at);
    }

pub returns-clause-taken : goal.returns-clause-taken
returns-clause-taken g c = λ images agrees.
    let new = g.T.Pages.step c.node_at.new.t in
    let before = c.args.draft.now.sheets.items in
    let put = subst (λ (xs : List Sheet). IsDrafted new before xs 0 (content_of c.in_ok-node.node)) (sym c.free.ensures.sheets) c.put_on_top.ensures.put in
    record {
      content = content_of c.in_ok-node.node;
      was = c.in_ok-node.ensures.read.node images agrees;
      now = drafted_over new images agrees.count before c.free.new.self.sheets.items 0 (content_of c.in_ok-node.node) put;
      freed = c.free.ensures.freed ∙ ap (with_freed c.args.child) c.put_on_top.ensures.freed;
    }

pub returns-in_err-node-clause-calls : goal.returns-in_err-node-clause-calls
returns-in_err-node-clause-calls g c =
    let p = err_from_is_err_and c.from_residual.result c.from_residual.ensures.1 in
    rw (p.1, p.2) c.in_err-node.ensures.calls

pub returns-in_err-node-clause-fault : goal.returns-in_err-node-clause-fault
returns-in_err-node-clause-fault g c =
    let sheets = c.args.draft.now.sheets.items in
    let child : ℕ = c.args.child in
    let None_at : List (List ℕ) → ℕ → Type 0 = λ (pages : List (List ℕ)) (other : ℕ). (other ≡ child) × (page_at (drafted sheets pages) child ≡ None) in
    let p = err_from_is_err_and c.from_residual.result c.from_residual.ensures.1 in
    rw (p.1, p.2) (fails_by_map (g.T.Pages.step c.node_at.new.t) None_at (λ pages page. IsFreeOrNone (page_at (drafted sheets pages) child)) (λ images page is h. inr h.1) c.in_err-node.field-0.0 c.in_err-node.ensures.fault)
