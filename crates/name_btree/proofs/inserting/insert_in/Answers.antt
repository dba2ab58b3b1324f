use Rattle.std.proofs.Common.{◌∙◌, ◌≤◌, length, subst, arith}
use Rattle.std.proofs.lemmas.Result.{err_from_is_err_and}
use Rattle.fsd_table.specs.Table.{top}
use Rattle.fsd_table.specs.declared.child.Child.{Child}
use Rattle.name_page.specs.Pages.{with_images}
use Rattle.name_page.proofs.LookLaws.{agrees_now}
use Rattle.name_btree.specs.Draft.{drafted}
use Rattle.name_btree.specs.Grown.{Grows, BreaksGrowth, BreaksNew}
use Rattle.name_btree.proofs.steps.CauseLaws.{fails_by_map}
use Rattle.name_btree.proofs.drafts.DraftLaws.{drafted_length}
use Rattle.name_btree.proofs.drafts.ReachedLaws.{draft_over, drafted_over}
use Rattle.name_btree.proofs.growth.TreeGrowthLaws.{inserts_whole, inserts_parted, still_draft, growth_new}
use Rattle.name_btree.proofs.drafts.SheetLaws.{sheets_then, one_sheet}
use Rattle.name_btree.proofs.inserting.insert_in.Goals as goal

pub returns-in_err-insert_below-clause-fault : goal.returns-in_err-insert_below-clause-fault
returns-in_err-insert_below-clause-fault g c =
    let new = c.insert_below.new.t in
    let sheets = c.args.draft.now.sheets.items in
    let e = c.args.entry.now in
    let p = err_from_is_err_and c.from_residual.result c.from_residual.ensures.1 in
    rw (p.1, p.2) (fails_by_map (g.T.Pages.step new) (λ pages. BreaksGrowth e (drafted sheets pages) 5 c.top.result) (λ pages. BreaksNew e (drafted sheets pages))
    (λ images page is h. growth_new e (drafted sheets images) c.top.result page c.top.ensures h) c.in_err-insert_below.field-0.0 c.in_err-insert_below.ensures.fault)

pub returns-in-Whole-clause-inserted : goal.returns-in-Whole-clause-inserted
returns-in-Whole-clause-inserted g c = λ images agrees.
    let step = with_images images (g.T.Pages.step c.args.t.now) in
    let last = with_images images (g.T.Pages.step c.insert_below.new.t) in
    let pages = drafted c.args.draft.now.sheets.items images in
    let after = drafted c.insert_below.new.draft.sheets.items images in
    let e = c.args.entry.now in
    let grown = c.in_ok-insert_below.field-0 in
    let at_top = subst (λ (d : Child). Grows e step last pages after 5 d grown) c.top.ensures (c.in_ok-insert_below.ensures.grown images agrees) in
    inserts_whole e step last pages after (subst (Grows e step last pages after 5 top) c.in-Whole.is at_top)

pub returns-in-Whole-clause-drafted : goal.returns-in-Whole-clause-drafted
returns-in-Whole-clause-drafted g c =
    let step = g.T.Pages.step c.args.t.now in
    let last = g.T.Pages.step c.insert_below.new.t in
    let below = c.in_ok-insert_below.ensures in
    let grows = below.grown last.images (agrees_now last) in
    record {
      grows = record { room = omega (arith, below.drafted.grows.room); freed = below.drafted.grows.freed; drawn = below.drafted.grows.drawn };
      whole = still_draft (with_images last.images step) last grows.came c.args.draft.now c.insert_below.new.draft grows.takes (draft_over last.images step c.args.draft.now below.calls.edits.count c.requires.draft) below.drafted.sheets below.drafted.grows.freed;
    }

pub returns-in-Parted-clause-drafted : goal.returns-in-Parted-clause-drafted
returns-in-Parted-clause-drafted g c =
    let step = g.T.Pages.step c.args.t.now in
    let last = g.T.Pages.step c.insert_below.new.t in
    let old = c.args.draft.now.sheets.items in
    let between = c.insert_below.new.draft.sheets.items in
    let new = c.put_ways.new.self.sheets.items in
    let below = c.in_ok-insert_below.ensures in
    let put = c.put_ways.ensures in
    let grows = below.grown last.images (agrees_now last) in
    let freed = put.freed ∙ below.drafted.grows.freed in
    record {
      grows = record { room = omega (arith, below.drafted.grows.room, put.sheets.one); freed = freed; drawn = sheets_then step last last old between new below.drafted.grows.drawn (one_sheet last between new 0 _ put.sheets) };
      whole = still_draft (with_images last.images step) last grows.came c.args.draft.now c.put_ways.new.self grows.takes (draft_over last.images step c.args.draft.now below.calls.edits.count c.requires.draft) put.sheets.sheets freed;
    }

pub returns-in-Parted-clause-inserted : goal.returns-in-Parted-clause-inserted
returns-in-Parted-clause-inserted g c = λ images agrees.
    let last0 = g.T.Pages.step c.insert_below.new.t in
    let step = with_images images (g.T.Pages.step c.args.t.now) in
    let last = with_images images last0 in
    let old = c.args.draft.now.sheets.items in
    let between = c.insert_below.new.draft.sheets.items in
    let pages = drafted old images in
    let after = drafted between images in
    let e = c.args.entry.now in
    let grown = c.in_ok-insert_below.field-0 in
    let at_top = subst (λ (d : Child). Grows e step last pages after 5 d grown) c.top.ensures (c.in_ok-insert_below.ensures.grown images agrees) in
    let parted = subst (Grows e step last pages after 5 top) c.in-Parted.is at_top in
    let small : length pages ≤ 4096 = omega (arith, drafted_length old images, agrees.count, g.met.T.Pages.small c.insert_below.new.t) in
    inserts_parted e step last pages between c.put_ways.new.self.sheets.items c.in-Parted.left c.in-Parted.separator small parted (drafted_over last0 images agrees.count between c.put_ways.new.self.sheets.items 0 _ c.put_ways.ensures.sheets)

pub returns-in_err-insert_below-clause-calls : goal.returns-in_err-insert_below-clause-calls
returns-in_err-insert_below-clause-calls g c =
    let p = err_from_is_err_and c.from_residual.result c.from_residual.ensures.1 in
    rw (p.1, p.2) c.in_err-insert_below.ensures.calls

pub returns-in_err-insert_below-clause-failed : goal.returns-in_err-insert_below-clause-failed
returns-in_err-insert_below-clause-failed g c =
    let p = err_from_is_err_and c.from_residual.result c.from_residual.ensures.1 in
    rw (p.1, p.2) c.in_err-insert_below.ensures.failed
