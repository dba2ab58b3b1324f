use Rattle.std.proofs.Common.{◌≡◌, ◌≤◌, List, ℕ, length, true, false, Some, None, ap, refl, sym, ◌∙◌, arith}
use Rattle.std.proofs.lemmas.Result.{err_from_is_err_and}
use Rattle.fsd_table.specs.Pages.{page_at, content_fits}
use Rattle.name_page.specs.Node.{content_of}
use Rattle.name_btree.specs.Draft.{drafted}
use Rattle.name_btree.specs.Fault.{IsMisfit}
use Rattle.name_btree.proofs.steps.CauseLaws.{fails_by_map}
use Rattle.name_btree.proofs.drafts.DraftLaws.{drafted_length}
use Rattle.name_page.proofs.NodeLaws.{past_end}
use Rattle.name_btree.proofs.draft.Draft.child_node.Goals as goal

pub returns-then-child-count-clause-fault : goal.returns-then-child-count-clause-fault
returns-then-child-count-clause-fault g c = λ images agrees.
    let sheets = c.args.self.now.sheets.items in
    let pages : List (List ℕ) = drafted sheets images in
    let child = c.args.child.now in
    let past : length pages ≤ child.page = omega (arith, drafted_length sheets images, agrees.count) in
    (refl, ap (content_fits child.low child.high) (past_end pages child.page past))

pub returns-in_err-node : goal.returns-in_err-node
returns-in_err-node g c =
    let new = g.T.Pages.step c.node_at.new.t in
    let sheets = c.args.self.now.sheets.items in
    let child = c.args.child.now in
    let failed = c.in_err-node.ensures in
    let B : List (List ℕ) → ℕ → Type 0 = λ (pages : List (List ℕ)) (other : ℕ). (other ≡ child.page) × (page_at (drafted sheets pages) child.page ≡ None) in
    let p = err_from_is_err_and c.from_residual.result c.from_residual.ensures.1 in
    rw (p.1, p.2) (record {
      calls = failed.calls;
      reaches = failed.reaches;
      sheets = c.node_at.ensures.sheets;
      read = tt;
      fault = fails_by_map new B (λ pages. IsMisfit (drafted sheets pages) child) (λ images page is h. (h.0, ap (content_fits child.low child.high) h.1)) c.in_err-node.field-0.0 failed.fault;
    })

pub returns-then-not-node_fits : goal.returns-then-not-node_fits
returns-then-not-node_fits g c =
    let found = c.in_ok-node.ensures in
    let child = c.args.child.now in
    let no : content_fits child.low child.high (Some (content_of c.in_ok-node.node)) ≡ false = sym c.node_fits.ensures ∙ c.if-not-node_fits.true in
    record {
      calls = found.calls;
      reaches = found.reaches;
      sheets = c.node_at.ensures.sheets;
      read = tt;
      fault = λ images agrees. (refl, ap (content_fits child.low child.high) (found.read.node images agrees) ∙ no);
    }

pub returns : goal.returns
returns g c =
    let found = c.in_ok-node.ensures in
    let child = c.args.child.now in
    let yes : content_fits child.low child.high (Some (content_of c.in_ok-node.node)) ≡ true = sym c.node_fits.ensures ∙ c.if-not-node_fits.false in
    record {
      calls = found.calls;
      reaches = found.reaches;
      sheets = c.node_at.ensures.sheets;
      read = record { reached = found.read.reached; used = found.read.used; node = found.read.node; fits = yes };
      fault = tt;
    }
