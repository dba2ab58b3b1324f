use Rattle.std.proofs.Common.{◌≡◌, ◌≤◌, Bool, false, List, length, ap, refl, sym, ◌∙◌, arith}
use Rattle.std.proofs.lemmas.Result.{err_from_is_err_and}
use Rattle.fsd_table.specs.Pages.{content_fits}
use Rattle.name_page.specs.Pages.{is_spare}
use Rattle.name_page.proofs.LookLaws.{agrees_at, memory_still, reaches_still}
use Rattle.name_page.proofs.NodeLaws.{past_end}
use Rattle.name_btree.specs.Fault.{BarsPage, IsMisfit, Never}
use Rattle.name_btree.proofs.steps.CauseLaws.{cause_map, none_shown}
use Rattle.name_btree.proofs.child.read_child.Goals as goal

pub returns-then-child-count : goal.returns-then-child-count
returns-then-child-count g c =
    let P = g.T.Pages in
    let t = c.args.t.now in
    let child = c.args.child.now in
    let past : length (P.step t).images ≤ child.page = omega arith in
    record {
      calls = reaches_still P t (g.met.T.Pages.still t);
      reaches = omega arith;
      read = tt;
      memory = λ there. memory_still P t;
      failed = record {
        cause = (refl, ap (content_fits child.low child.high) (past_end (P.step t).images child.page past));
        shown = λ pages agrees. (refl, ap (content_fits child.low child.high) (past_end pages child.page (omega (arith, agrees.count, past))));
        refused = tt;
      };
    }

pub returns-in_err-read_at : goal.returns-in_err-read_at
returns-in_err-read_at g c =
    let s = g.T.Pages.step c.read_at.new.t in
    let child = c.args.child.now in
    let fault = c.in_err-read_at.field-0.0 in
    let failed = c.in_err-read_at.ensures in
    let p = err_from_is_err_and c.from_residual.result c.from_residual.ensures.1 in
    rw (p.1, p.2) (record {
      calls = failed.calls;
      reaches = failed.reaches;
      read = tt;
      memory = failed.memory;
      failed = record {
        cause = cause_map s Never (IsMisfit s.images child) (BarsPage s child.page) (BarsPage s child.page) (λ page never. absurd never) (λ page bars. bars) fault failed.failed.cause;
        shown = none_shown s child fault failed.failed.cause;
        refused = failed.failed.refused;
      };
    })

pub returns-then-not-node_fits : goal.returns-then-not-node_fits
returns-then-not-node_fits g c =
    let s = g.T.Pages.step c.read_at.new.t in
    let child = c.args.child.now in
    let found = c.in_ok-read_at.ensures in
    let no = sym c.node_fits.ensures ∙ c.if-not-node_fits.true in
    let used : is_spare s.spares child.page ≡ false = ap (λ (x : List Bool). is_spare x child.page) found.calls.looks.spares ∙ found.read.used in
    record {
      calls = found.calls;
      reaches = found.reaches;
      read = tt;
      memory = found.memory;
      failed = record {
        cause = (refl, ap (content_fits child.low child.high) found.read.node ∙ no);
        shown = λ pages agrees. (refl, ap (content_fits child.low child.high) (agrees_at s pages child.page found.read.reached used agrees ∙ found.read.node) ∙ no);
        refused = tt;
      };
    }

pub returns : goal.returns
returns g c =
    let found = c.in_ok-read_at.ensures in
    record {
      calls = found.calls;
      reaches = found.reaches;
      read = record { reached = found.read.reached; used = found.read.used; node = found.read.node; fits = sym c.node_fits.ensures ∙ c.if-not-node_fits.false };
      memory = found.memory;
      failed = tt;
    }
