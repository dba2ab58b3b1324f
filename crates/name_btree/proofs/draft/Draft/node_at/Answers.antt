use Rattle.std.proofs.Common.{◌≡◌, ◌∙◌, ◌<◌, refl, sym, ap, subst, ℕ, Bool, List, length, Some, None, arith}
use Rattle.fsd_formats.specs.NamePage.{read_page}
use Rattle.name_page.specs.Reading.{content_in}
use Rattle.name_page.specs.Pages.{is_spare}
use Rattle.name_page.proofs.LookLaws.{reaches_still, agrees_at}
use Rattle.name_btree.specs.Fault.{FailsBy}
use Rattle.name_btree.specs.Still.{FailsPage, IsReadPage}
use Rattle.name_btree.proofs.steps.CauseLaws.{fails_at}
use Rattle.fsd_table.specs.Pages.{page_at}
use Rattle.name_btree.specs.Draft.{last_sheet, drafted, IsSeenPage}
use Rattle.name_page.specs.Node.{content_of}
use Rattle.name_btree.proofs.drafts.DraftLaws.{sheet_is, sheet_has, sheets_kept, drafted_at, by_sheet}
use Rattle.name_btree.proofs.draft.Draft.node_at.Goals as goal
use Rattle.name_btree.proofs.steps.ResultLaws.{err_more, ok_more}

pub node_in-requires : goal.node_in-requires
node_in-requires g c =
    let step = g.T.Pages.step c.args.t.now in
    let sheets = c.args.self.now.sheets.items in
    let found : last_sheet c.args.page sheets ≡ Some c.in-Some.image = ap (last_sheet c.args.page) (sym c.as_slice.ensures) ∙ sym c.in-Some.ensures in
    let is = sheet_is step sheets c.args.page c.in-Some.image c.requires.sheets found in
    (sheet_has step (record { page = c.args.page; image = c.in-Some.image }) is (omega (arith, g.met.T.Pages.small c.args.t.now))).1

pub returns-in-Some-clause-calls : goal.returns-in-Some-clause-calls
returns-in-Some-clause-calls g c = reaches_still g.T.Pages c.args.t.now (g.met.T.Pages.still c.args.t.now)

pub returns-in-Some-clause-read : goal.returns-in-Some-clause-read
returns-in-Some-clause-read g c =
    let step = g.T.Pages.step c.args.t.now in
    let sheets = c.args.self.now.sheets.items in
    let page : ℕ = c.args.page in
    let found : last_sheet page sheets ≡ Some c.in-Some.image = ap (last_sheet page) (sym c.as_slice.ensures) ∙ sym c.in-Some.ensures in
    let is = sheet_is step sheets page c.in-Some.image c.requires.sheets found in
    let has : content_in c.in-Some.image ≡ read_page page (length step.images) c.in-Some.image = (sheet_has step (record { page = page; image = c.in-Some.image }) is (omega (arith, g.met.T.Pages.small c.args.t.now))).0 in
    record {
      reached = is.reached;
      used = is.used;
      node = λ pages agrees.
          let within : page < length pages = subst (λ (n : ℕ). page < n) (sym agrees.count) c.requires.within in
          drafted_at sheets pages page within
          ∙ ap (by_sheet page pages) found
          ∙ ap (λ (n : ℕ). read_page page n c.in-Some.image) agrees.count
          ∙ sym has
          ∙ c.node_in.ensures;
    }

pub returns-in-None-clause-sheets : goal.returns-in-None-clause-sheets
returns-in-None-clause-sheets g c =
    let looks = c.node_at.ensures.calls.looks in
    sheets_kept (g.T.Pages.step c.args.t.now) (g.T.Pages.step c.node_at.new.t) c.args.self.now.sheets.items looks.reached looks.spares looks.count c.requires.sheets

pub returns-in-None-clause-read : goal.returns-in-None-clause-read
returns-in-None-clause-read g c =
    let step = g.T.Pages.step c.args.t.now in
    let new = g.T.Pages.step c.node_at.new.t in
    let sheets = c.args.self.now.sheets.items in
    let page : ℕ = c.args.page in
    let none : last_sheet page sheets ≡ None = ap (last_sheet page) (sym c.as_slice.ensures) ∙ sym c.in-None.ensures in
    let count = c.node_at.ensures.calls.looks.count in
    ok_more c.node_at.result (λ node. IsReadPage step new page (content_of node)) (λ node. IsSeenPage step new sheets page (content_of node))
    (λ node read. record {
      reached = read.reached;
      used = read.used;
      node = λ pages agrees. drafted_at sheets pages page (subst (λ (n : ℕ). page < n) (sym (agrees.count ∙ count)) c.requires.within) ∙ ap (by_sheet page pages) none
          ∙ agrees_at new pages page read.reached (ap (λ (x : List Bool). is_spare x page) c.node_at.ensures.calls.looks.spares ∙ read.used) agrees ∙ read.node;
    }) c.node_at.ensures.read

pub returns-in-None-clause-fault : goal.returns-in-None-clause-fault
returns-in-None-clause-fault g c =
    let step = g.T.Pages.step c.args.t.now in
    let new = g.T.Pages.step c.node_at.new.t in
    let sheets = c.args.self.now.sheets.items in
    let page : ℕ = c.args.page in
    let none : last_sheet page sheets ≡ None = ap (last_sheet page) (sym c.as_slice.ensures) ∙ sym c.in-None.ensures in
    let count = c.node_at.ensures.calls.looks.count in
    let B : List (List ℕ) → ℕ → Type 0 = λ (pages : List (List ℕ)) (other : ℕ). (other ≡ page) × (page_at (drafted sheets pages) page ≡ None) in
    err_more c.node_at.result (FailsPage step new page) (FailsBy new B)
    (λ fault h. fails_at new page B (λ pages agrees out. (refl, drafted_at sheets pages page (subst (λ (n : ℕ). page < n) (sym (agrees.count ∙ count)) c.requires.within) ∙ ap (by_sheet page pages) none ∙ out)) fault h.cause) c.node_at.ensures.failed
