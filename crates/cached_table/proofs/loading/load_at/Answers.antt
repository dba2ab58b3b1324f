use Rattle.std.proofs.Common.{Option, subst, sym}
use Rattle.std.proofs.lemmas.Option.{MatchOption-at_some}
use Rattle.fsd_bytes.specs.declared.refusal.Refusal.{Refusal}
use Rattle.name_page.specs.Looks.{OnlyWalks}
use Rattle.name_page.specs.Pages.{spare_count}
use Rattle.name_page.proofs.LookLaws.{pages_then, walks_pages}
use Rattle.version_table.specs.declared.planning.Plan.{Plan}
use Rattle.version_table.specs.Loading.{IsLoadPlan}
use Rattle.cached_table.specs.Entering.{up_to}
use Rattle.cached_table.specs.Loading.{RefusesLoad}
use Rattle.cached_table.proofs.EnteringLaws.{outer_planned, plan_refuses, plan_shows}
use Rattle.cached_table.proofs.LoadingLaws.{absent_by, false_told, loads_behind, refused_load}
use Rattle.cached_table.proofs.loading.load_at.Goals as goal

-- ---- no plan

pub returns-in-Ok-None-clause-pages : goal.returns-in-Ok-None-clause-pages
returns-in-Ok-None-clause-pages g c = walks_pages g.T.Pages c.args.t.now c.plan_load.new.t c.in-Ok-None.ensures.walks

pub returns-in-Ok-None-clause-loaded : goal.returns-in-Ok-None-clause-loaded
returns-in-Ok-None-clause-loaded g c = λ is. absurd (false_told is)

pub returns-in-Err-clause-pages : goal.returns-in-Err-clause-pages
returns-in-Err-clause-pages g c = walks_pages g.T.Pages c.args.t.now c.plan_load.new.t c.in-Err.ensures.walks

pub returns-in-Err-clause-refused : goal.returns-in-Err-clause-refused
returns-in-Err-clause-refused g c =
    let P = g.T.Pages in
    let a = c.args.t.now in
    let now = c.plan_load.new.t in
    let key = c.args.key.now in
    let map = up_to c.args.l.now.sectors c.args.map.now in
    let w = c.args.shadow.now in
    let cause = c.in-Err.ensures.failed.cause in
    subst (RefusesLoad P key map w c.args.home_a a now) (sym c.plan_refusal.ensures) (record {
      kept = subst (λ (o : Option Refusal). OnlyWalks P o a now) (sym (outer_planned c.args.home_a c.in-Err.fault)) c.in-Err.ensures.walks;
      fault = plan_refuses P _ _ _ (spare_count (P.step a)) c.args.home_a now (λ none. none) (λ none. none) c.in-Err.fault cause;
      shown = plan_shows P map w key.name c.args.home_a a now c.in-Err.fault _ _ cause c.in-Err.ensures.shown;
    })

-- ---- a plan

pub returns-in-Ok-clause-pages : goal.returns-in-Ok-clause-pages
returns-in-Ok-clause-pages g c =
    let P = g.T.Pages in
    pages_then (P.step c.args.t.now) (P.step c.plan_load.new.t) (P.step c.enter_planned.new.t) c.in-Ok.ensures.calls.count (walks_pages P c.args.t.now c.plan_load.new.t c.in-Ok-Some.ensures.walks) c.in-Ok.ensures.pages

pub returns-in-Err-enter_planned-clause-pages : goal.returns-in-Err-enter_planned-clause-pages
returns-in-Err-enter_planned-clause-pages g c =
    let P = g.T.Pages in
    pages_then (P.step c.args.t.now) (P.step c.plan_load.new.t) (P.step c.enter_planned.new.t) c.in-Err-enter_planned.ensures.calls.count (walks_pages P c.args.t.now c.plan_load.new.t c.in-Ok-Some.ensures.walks) c.in-Err-enter_planned.ensures.pages

pub returns-in-Ok-clause-loaded : goal.returns-in-Ok-clause-loaded
returns-in-Ok-clause-loaded g c = λ is.
    let plan : Plan = record { key = c.in-Ok-Some.plan.key; keep = c.in-Ok-Some.plan.keep; gone = c.in-Ok-Some.plan.gone } in
    let e = c.in-Ok-Some.ensures in
    let planned = MatchOption-at_some _ (IsLoadPlan g.T.Pages c.args.key.now c.args.keep c.args.t.now c.plan_load.new.t) plan c.in-Ok-Some.field-0-is e.planned in
    loads_behind g.T.Pages (up_to c.args.l.now.sectors c.args.map.now) c.args.shadow.now c.args.key.now c.args.keep c.args.draft.now c.args.t.now c.plan_load.new.t c.enter_planned.new.t plan planned e.walks c.in-Ok.ensures.calls.trust c.in-Ok.ensures.entered

pub returns-in-Err-enter_planned-clause-refused : goal.returns-in-Err-enter_planned-clause-refused
returns-in-Err-enter_planned-clause-refused g c =
    let plan : Plan = record { key = c.in-Ok-Some.plan.key; keep = c.in-Ok-Some.plan.keep; gone = c.in-Ok-Some.plan.gone } in
    let e = c.in-Ok-Some.ensures in
    let planned = MatchOption-at_some _ (IsLoadPlan g.T.Pages c.args.key.now c.args.keep c.args.t.now c.plan_load.new.t) plan c.in-Ok-Some.field-0-is e.planned in
    refused_load g.T.Pages g.met.T.Pages.then (up_to c.args.l.now.sectors c.args.map.now) c.args.shadow.now c.args.key.now c.args.home_a c.args.t.now c.plan_load.new.t c.enter_planned.new.t c.in-Err-enter_planned.refusal e.walks
    (absent_by planned c.args.draft.now) c.in-Err-enter_planned.ensures.refused
