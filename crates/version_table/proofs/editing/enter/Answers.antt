use Rattle.std.proofs.Common.{List, None, ◌≡◌}
use Rattle.std.proofs.lemmas.Result.{on_ok_weaker}
use Rattle.fsd_formats.specs.declared.entry.Entry.{Entry}
use Rattle.fsd_table.specs.Tree.{table_of}
use Rattle.name_btree.specs.Map.{without_all}
use Rattle.name_page.specs.Edits.{with_entry}
use Rattle.name_page.specs.Lookups.{entry_with}
use Rattle.version_table.specs.Plan.{planned_entry, with_planned}
use Rattle.version_table.proofs.EnterLaws.{planned_made, planned_new}
use Rattle.version_table.proofs.StepLaws.{for_rested, makes_rested, edits_rested, insert_rested, tree_ascends}
use Rattle.version_table.proofs.editing.enter.Goals as goal

pub insert-requires-clause-new : goal.insert-requires-clause-new
insert-requires-clause-new g c =
    let P = g.T.Pages in
    let a = c.args.t.now in
    let b = c.rest.new.self in
    let plan = c.args.plan.now in
    let entry = c.planned_entry-entry.result in
    let keys = c.keys_left-gone.result.items in
    for_rested P a b b c.rest.ensures.step (λ (table : List Entry). entry_with entry.key (without_all keys table) ≡ None)
    (λ trusted height tree. planned_new plan c.args.serial c.args.bytes c.args.runs entry c.planned_entry-entry.ensures keys c.keys_left-gone.ensures (table_of (P.step a).images height) (tree_ascends (P.step a).images height tree)
    (c.requires.ready trusted height tree)) (g.met.T.Pages.trust a b None c.rest.ensures.outside)

pub returns-clause-entered : goal.returns-clause-entered
returns-clause-entered g c =
    let P = g.T.Pages in
    let a = c.args.t.now in
    let b = c.rest.new.self in
    let plan = c.args.plan.now in
    let entry = c.planned_entry-entry.result in
    let keys = c.keys_left-gone.result.items in
    let e = c.insert.ensures in
    on_ok_weaker c.insert.result (makes_rested P a b c.insert.new.t c.rest.ensures.step (with_planned plan (planned_entry plan c.args.serial c.args.bytes c.args.runs)) (λ (table : List Entry). with_entry entry (without_all keys table))
    (λ height tree trusted. planned_made plan c.args.serial c.args.bytes c.args.runs entry c.planned_entry-entry.ensures keys c.keys_left-gone.ensures (table_of (P.step a).images height) (tree_ascends (P.step a).images height tree)
    (c.requires.ready (g.met.T.Pages.trust a b None c.rest.ensures.outside (e.edits.calls.trust trusted)) height tree))) e.inserted

pub returns-clause-edits : goal.returns-clause-edits
returns-clause-edits g c =
    let law = g.met.T.Pages in
    let rest = c.rest.ensures in
    edits_rested g.T.Pages law.then c.args.t.now c.rest.new.self c.insert.new.t rest.outside (law.trust c.args.t.now c.rest.new.self None rest.outside) rest.step c.insert.result c.insert.ensures.edits

pub returns-clause-failed : goal.returns-clause-failed
returns-clause-failed g c = insert_rested g.T.Pages c.args.t.now c.rest.new.self c.insert.new.t c.rest.ensures.step c.insert.result c.insert.ensures.failed
