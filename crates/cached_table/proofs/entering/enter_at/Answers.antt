use Rattle.std.proofs.Common.{◌<◌, ◌^◌, ◌∙◌, List, Option, arith, ap, rules, subst, sym}
use Rattle.fsd_bytes.specs.declared.refusal.Refusal.{Refusal}
use Rattle.name_page.specs.Looks.{OnlyEdits, OnlyWalks}
use Rattle.name_page.specs.Pages.{spare_count, outer_refusal}
use Rattle.name_page.proofs.LookLaws.{edits_then, pages_then, walks_edits, walks_pages}
use Rattle.version_table.specs.declared.oldest.Leaving.{Leaving}
use Rattle.version_table.specs.declared.planning.Plan.{Plan}
use Rattle.version_table.specs.Plan.{IsPlanReady, keys_left, planned_entry, with_planned}
use Rattle.version_table.specs.Table.{OfTable}
use Rattle.cached_table.specs.Entering.{EntersPlanned, HasNoNumber, LosesUntaken, RefusesAt, RefusesPlanned, up_to}
use Rattle.cached_table.proofs.EnteringLaws.{changes_stay, is_usable, made_behind, outer_planned, plan_refuses, plan_shows, refused_behind}
use Rattle.cached_table.proofs.HighestLaws.{holds_now}
use Rattle.cached_table.proofs.entering.enter_at.Goals as goal

-- ---- no plan

pub returns-in-Err-clause-calls : goal.returns-in-Err-clause-calls
returns-in-Err-clause-calls g c =
    let told = ap outer_refusal c.plan_refusal.ensures ∙ outer_planned c.args.home_a c.in-Err.fault in
    subst (λ (o : Option Refusal). OnlyEdits g.T.Pages o c.args.t.now c.plan_version.new.t) (sym told) (walks_edits g.T.Pages c.args.t.now c.plan_version.new.t c.in-Err.ensures.walks)

pub returns-in-Err-clause-changes : goal.returns-in-Err-clause-changes
returns-in-Err-clause-changes g c = omega (arith, changes_stay g.T.Pages c.args.t.now c.plan_version.new.t c.in-Err.ensures.walks)

pub returns-in-Err-clause-pages : goal.returns-in-Err-clause-pages
returns-in-Err-clause-pages g c = walks_pages g.T.Pages c.args.t.now c.plan_version.new.t c.in-Err.ensures.walks

pub returns-in-Err-clause-refused : goal.returns-in-Err-clause-refused
returns-in-Err-clause-refused g c =
    let P = g.T.Pages in
    let a = c.args.t.now in
    let now = c.plan_version.new.t in
    let name = c.args.name.now in
    let map = up_to c.args.l.now.sectors c.args.map.now in
    let w = c.args.shadow.now in
    let cause = c.in-Err.ensures.failed.cause in
    subst (RefusesAt P map w name (HasNoNumber name) c.args.home_a a now) (sym c.plan_refusal.ensures) (record {
      kept = subst (λ (o : Option Refusal). OnlyWalks P o a now) (sym (outer_planned c.args.home_a c.in-Err.fault)) c.in-Err.ensures.walks;
      fault = plan_refuses P (OfTable P a now (LosesUntaken map w)) (OfTable P a now (HasNoNumber name)) _ (spare_count (P.step a)) c.args.home_a now (λ none. absurd none) (λ used. used) c.in-Err.fault cause;
      shown = plan_shows P map w name c.args.home_a a now c.in-Err.fault _ _ cause c.in-Err.ensures.shown;
    })

-- ---- a plan

pub enter_planned-requires-clause-changes : goal.enter_planned-requires-clause-changes
enter_planned-requires-clause-changes g c = omega (arith, c.requires.changes, changes_stay g.T.Pages c.args.t.now c.plan_version.new.t c.in-Ok.ensures.walks)

pub enter_planned-requires-clause-ready : goal.enter_planned-requires-clause-ready
enter_planned-requires-clause-ready g c = holds_now g.T.Pages c.args.t.now c.plan_version.new.t c.in-Ok.ensures.walks (IsPlanReady (record { key = c.in-Ok.plan.key; keep = c.in-Ok.plan.keep; gone = c.in-Ok.plan.gone })) c.in-Ok.ensures.ready

pub enter_planned-requires-clause-fits : goal.enter_planned-requires-clause-fits
enter_planned-requires-clause-fits g c = record {
  version = search rules;
  keep = omega (arith, c.in-Ok.ensures.formed.keep);
  epoch = c.requires.epoch;
  count = c.requires.count;
  length = search rules;
  runs = c.requires.runs;
}

pub returns-in-Ok-enter_planned-clause-calls : goal.returns-in-Ok-enter_planned-clause-calls
returns-in-Ok-enter_planned-clause-calls g c =
    let P = g.T.Pages in
    edits_then P g.met.T.Pages.then c.args.t.now c.plan_version.new.t c.enter_planned.new.t (walks_edits P c.args.t.now c.plan_version.new.t c.in-Ok.ensures.walks) c.in-Ok-enter_planned.ensures.calls

pub returns-in-Err-enter_planned-clause-calls : goal.returns-in-Err-enter_planned-clause-calls
returns-in-Err-enter_planned-clause-calls g c =
    let P = g.T.Pages in
    edits_then P g.met.T.Pages.then c.args.t.now c.plan_version.new.t c.enter_planned.new.t (walks_edits P c.args.t.now c.plan_version.new.t c.in-Ok.ensures.walks) c.in-Err-enter_planned.ensures.calls

pub returns-in-Ok-enter_planned-clause-pages : goal.returns-in-Ok-enter_planned-clause-pages
returns-in-Ok-enter_planned-clause-pages g c =
    let P = g.T.Pages in
    pages_then (P.step c.args.t.now) (P.step c.plan_version.new.t) (P.step c.enter_planned.new.t) c.in-Ok-enter_planned.ensures.calls.count (walks_pages P c.args.t.now c.plan_version.new.t c.in-Ok.ensures.walks) c.in-Ok-enter_planned.ensures.pages

pub returns-in-Err-enter_planned-clause-pages : goal.returns-in-Err-enter_planned-clause-pages
returns-in-Err-enter_planned-clause-pages g c =
    let P = g.T.Pages in
    pages_then (P.step c.args.t.now) (P.step c.plan_version.new.t) (P.step c.enter_planned.new.t) c.in-Err-enter_planned.ensures.calls.count (walks_pages P c.args.t.now c.plan_version.new.t c.in-Ok.ensures.walks) c.in-Err-enter_planned.ensures.pages

pub returns-in-Ok-enter_planned-clause-changes : goal.returns-in-Ok-enter_planned-clause-changes
returns-in-Ok-enter_planned-clause-changes g c = omega (arith, changes_stay g.T.Pages c.args.t.now c.plan_version.new.t c.in-Ok.ensures.walks, c.in-Ok-enter_planned.ensures.changes)

pub returns-in-Err-enter_planned-clause-changes : goal.returns-in-Err-enter_planned-clause-changes
returns-in-Err-enter_planned-clause-changes g c = omega (arith, changes_stay g.T.Pages c.args.t.now c.plan_version.new.t c.in-Ok.ensures.walks, c.in-Err-enter_planned.ensures.changes)

pub returns-in-Ok-enter_planned-clause-entered : goal.returns-in-Ok-enter_planned-clause-entered
returns-in-Ok-enter_planned-clause-entered g c =
    let P = g.T.Pages in
    let a = c.args.t.now in
    let now = c.plan_version.new.t in
    let new = c.enter_planned.new.t in
    let d = c.args.draft.now in
    let plan : Plan = record { key = c.in-Ok.plan.key; keep = c.in-Ok.plan.keep; gone = c.in-Ok.plan.gone } in
    let edit = with_planned plan (planned_entry plan d.serial d.length d.runs) in
    let made = subst (λ (gone : List Leaving). EntersPlanned P (up_to c.args.l.now.sectors c.args.map.now) c.args.shadow.now gone edit now new) c.as_slice.ensures.value c.in-Ok-enter_planned.ensures.entered in
    let trust = c.in-Ok-enter_planned.ensures.calls.trust in
    record { name_is = c.in-Ok.ensures.formed.named; planned = λ t. c.in-Ok.ensures.planned (trust t); made = made_behind P (up_to c.args.l.now.sectors c.args.map.now) c.args.shadow.now plan.gone.items edit a now new c.in-Ok.ensures.walks trust made }

pub returns-in-Err-enter_planned-clause-refused : goal.returns-in-Err-enter_planned-clause-refused
returns-in-Err-enter_planned-clause-refused g c =
    let P = g.T.Pages in
    let a = c.args.t.now in
    let now = c.plan_version.new.t in
    let new = c.enter_planned.new.t in
    let name = c.args.name.now in
    let map = up_to c.args.l.now.sectors c.args.map.now in
    let w = c.args.shadow.now in
    let plan : Plan = record { key = c.in-Ok.plan.key; keep = c.in-Ok.plan.keep; gone = c.in-Ok.plan.gone } in
    let e = c.in-Ok.ensures in
    let small : c.in-Ok.plan.key.version < 2 ^ 32 = search rules in
    let refuses = subst (λ (gone : List Leaving). RefusesPlanned P map w c.args.home_a gone now new c.in-Err-enter_planned.refusal) c.as_slice.ensures.value c.in-Err-enter_planned.ensures.refused in
    refused_behind P g.met.T.Pages.then map w name (HasNoNumber name) c.args.home_a a now new plan.gone.items c.in-Err-enter_planned.refusal e.walks e.formed.met (λ trusted height tree. (keys_left plan, (e.planned trusted height tree).entries))
    (is_usable P a now name c.args.given plan small e.planned) refuses
