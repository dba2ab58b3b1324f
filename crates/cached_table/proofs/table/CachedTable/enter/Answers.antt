use Rattle.std.proofs.Common.{◌≤◌, ℕ, List, ap, refl, rules, subst}
use Rattle.std.proofs.lemmas.Result.{on_err_weaker}
use Rattle.name_page.specs.Pages.{spare_count, outer_in}
use Rattle.version_table.specs.Plan.{IsPlan, planned_entry, with_planned}
use Rattle.fsd_bytes.specs.Keys.{max_u32}
use Rattle.fsd_formats.specs.declared.entry.Entry.{Entry}
use Rattle.version_table.specs.Versions.{next_key}
use Rattle.cached_table.specs.Entering.{HasNoNumber, LosesUntaken, up_to}
use Rattle.cached_table.proofs.LeftLaws.{left_as}
use Rattle.cached_table.proofs.EditLaws.{changes_left, edits_left, made_so, of_so, refuses_left, stays_left}
use Rattle.cached_table.proofs.EnteringLaws.{entered_each, enters_in, refused_each, refused_walks, refuses_in}
use Rattle.cached_table.proofs.LookLaws.{looks_left}
use Rattle.cached_table.proofs.MetLaws.{shown_steps, unsound_left}
use Rattle.cached_table.proofs.StayLaws.{walks_stay}
use Rattle.cached_table.proofs.WaitingLaws.{none_failed, waits_left}
use Rattle.cached_table.proofs.table.CachedTable.enter.Goals as goal

pub returns-clause-edits : goal.returns-clause-edits
returns-clause-edits g c = edits_left c.new-table.ensures.over c.new-table.ensures.step c.enter_at-done.ensures.calls.count c.enter_at-done.ensures.calls.outside (left_as c.rest.ensures.left (search rules) (search rules) (search rules))

pub returns-clause-waiting : goal.returns-clause-waiting
returns-clause-waiting g c = waits_left c.new-table.ensures.over c.enter_at-done.ensures.calls.count (left_as c.rest.ensures.left refl (search rules) refl) c.enter_at-done.ensures.pages

pub returns-clause-changes : goal.returns-clause-changes
returns-clause-changes g c = changes_left c.new-table.ensures.over c.new-table.ensures.step c.enter_at-done.ensures.calls.count c.enter_at-done.ensures.calls.outside (left_as c.rest.ensures.left refl (search rules) refl) 36 c.enter_at-done.ensures.changes

pub returns-clause-entered : goal.returns-clause-entered
returns-clause-entered g c =
    let r = c.enter_at-done.result in
    let e = c.enter_at-done.ensures.entered in
    let d = c.args.draft.now in
    enters_in _ _ _ _ _ _ _ _ _ _ _ _ _ _ r (entered_each r (λ plan x. x.name_is) e)
    (of_so c.new-table.ensures.over c.new-table.ensures.step c.enter_at-done.ensures.calls.count c.enter_at-done.ensures.calls.outside (left_as c.rest.ensures.left (search rules) refl refl) (λ plan table. IsPlan c.args.name.now c.args.given table plan) r (entered_each r (λ plan x. x.planned) e))
    (entered_each r (λ plan x. x.made.taken) e)
    (entered_each r (λ plan x. subst (λ (n : ℕ). 8 ≤ n) (ap spare_count c.new-table.ensures.step) x.made.room) e)
    (made_so c.new-table.ensures.over c.new-table.ensures.step c.enter_at-done.ensures.calls.count c.enter_at-done.ensures.calls.outside (left_as c.rest.ensures.left (search rules) (search rules) (search rules)) (λ plan. with_planned plan (planned_entry plan d.serial d.length d.runs)) r (entered_each r (λ plan x. x.made.entered) e))

pub returns-clause-refused : goal.returns-clause-refused
returns-clause-refused g c =
    let r = c.enter_at-done.result in
    let map = up_to c.args.l.now.sectors c.args.map.now in
    let w = c.args.shadow.now in
    let e = c.enter_at-done.ensures.refused in
    let walks = refused_walks _ map w c.args.name.now (HasNoNumber c.args.name.now) c.args.home_a c.new-table.result c.enter_at-done.new.t r e in
    let outside = c.enter_at-done.ensures.calls.outside in
    let by = shown_steps _ (outer_in r) map w c.args.name.now c.args.home_a c.new-table.result c.enter_at-done.new.t r walks (refused_each r (λ why x. x.shown) e) in
    refuses_in _ _ _ _ _ _ _ _ _ _ _ _ _ r
    (stays_left c.new-table.ensures.over c.new-table.ensures.step c.enter_at-done.ensures.calls.count c.enter_at-done.ensures.calls.outside (left_as c.rest.ensures.left (search rules) (search rules) (search rules)) r (none_failed _ (outer_in r) c.new-table.result c.enter_at-done.new.t r walks))
    (on_err_weaker r (λ walks. looks_left c.new-table.ensures.over c.new-table.ensures.step (walks_stay _ _ _ walks) outside (left_as c.rest.ensures.left (search rules) (search rules) refl) walks.stays) walks)
    (refuses_left c.new-table.ensures.over c.new-table.ensures.step c.enter_at-done.ensures.calls.count c.enter_at-done.ensures.calls.outside (left_as c.rest.ensures.left (search rules) (search rules) (search rules)) (LosesUntaken map w) (HasNoNumber c.args.name.now) (λ (table : List Entry). (next_key c.args.name.now table).version ≤ max_u32) r (refused_each r (λ why x. x.fault) e))
    (unsound_left c.new-table.ensures.over c.new-table.ensures.step outside (left_as c.rest.ensures.left (search rules) (search rules) refl) map w r by.0 by.1)
