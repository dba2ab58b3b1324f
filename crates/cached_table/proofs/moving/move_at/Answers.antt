use Rattle.std.proofs.Common.{◌<◌, ◌-◌, ◌^◌, ◌∙◌, inl, inr, drop, length, List, Option, rules, subst, sym, take}
use Rattle.fsd_bytes.specs.declared.refusal.Refusal.{Refusal}
use Rattle.fsd_formats.specs.declared.entry.Entry.{Entry}
use Rattle.name_page.specs.Looks.{OnlyWalks}
use Rattle.name_page.specs.Pages.{spare_count}
use Rattle.name_page.proofs.LookLaws.{edits_then, pages_then, walks_edits, walks_pages}
use Rattle.version_table.specs.declared.oldest.Leaving.{Leaving}
use Rattle.version_table.specs.declared.planning.Plan.{Plan}
use Rattle.version_table.specs.Plan.{planned_entry, with_planned}
use Rattle.version_table.specs.Table.{OfTable}
use Rattle.cached_table.specs.Entering.{EntersPlanned, LosesUntaken, RefusesAt, RefusesPlanned, up_to}
use Rattle.cached_table.specs.Moving.{LacksNumber}
use Rattle.cached_table.proofs.EnteringLaws.{made_behind, outer_planned, plan_refuses, plan_shows, refused_behind}
use Rattle.cached_table.proofs.MovingLaws.{first_of, moved_lost, moved_usable, others_of}
use Rattle.cached_table.proofs.moving.move_at.Goals as goal

-- ---- no plan

pub returns-in-Err-clause-refused : goal.returns-in-Err-clause-refused
returns-in-Err-clause-refused g c =
    let P = g.T.Pages in
    let a = c.args.t.now in
    let now = c.plan_move.new.t in
    let key = c.args.key.now in
    let name = c.args.name.now in
    let map = up_to c.args.l.now.sectors c.args.map.now in
    let w = c.args.shadow.now in
    let cause = c.in-Err.ensures.failed.cause in
    subst (RefusesAt P map w name (LacksNumber key name) c.args.home_a a now) (sym c.plan_refusal.ensures) (record {
      kept = subst (λ (o : Option Refusal). OnlyWalks P o a now) (sym (outer_planned c.args.home_a c.in-Err.fault)) c.in-Err.ensures.walks;
      fault = plan_refuses P (OfTable P a now (LosesUntaken map w)) (OfTable P a now (LacksNumber key name)) _ (spare_count (P.step a)) c.args.home_a now
          (λ none trusted height tree. inr (none trusted height tree)) (λ used trusted height tree. inl (used trusted height tree)) c.in-Err.fault cause;
      shown = plan_shows P map w name c.args.home_a a now c.in-Err.fault _ _ cause c.in-Err.ensures.shown;
    })

-- ---- a plan

pub returns-in-Ok-enter_planned-clause-calls : goal.returns-in-Ok-enter_planned-clause-calls
returns-in-Ok-enter_planned-clause-calls g c =
    let P = g.T.Pages in
    edits_then P g.met.T.Pages.then c.args.t.now c.plan_move.new.t c.enter_planned.new.t (walks_edits P c.args.t.now c.plan_move.new.t c.in-Ok.ensures.walks) c.in-Ok-enter_planned.ensures.calls

pub returns-in-Err-enter_planned-clause-calls : goal.returns-in-Err-enter_planned-clause-calls
returns-in-Err-enter_planned-clause-calls g c =
    let P = g.T.Pages in
    edits_then P g.met.T.Pages.then c.args.t.now c.plan_move.new.t c.enter_planned.new.t (walks_edits P c.args.t.now c.plan_move.new.t c.in-Ok.ensures.walks) c.in-Err-enter_planned.ensures.calls

pub returns-in-Ok-enter_planned-clause-pages : goal.returns-in-Ok-enter_planned-clause-pages
returns-in-Ok-enter_planned-clause-pages g c =
    let P = g.T.Pages in
    pages_then (P.step c.args.t.now) (P.step c.plan_move.new.t) (P.step c.enter_planned.new.t) c.in-Ok-enter_planned.ensures.calls.count (walks_pages P c.args.t.now c.plan_move.new.t c.in-Ok.ensures.walks) c.in-Ok-enter_planned.ensures.pages

pub returns-in-Err-enter_planned-clause-pages : goal.returns-in-Err-enter_planned-clause-pages
returns-in-Err-enter_planned-clause-pages g c =
    let P = g.T.Pages in
    pages_then (P.step c.args.t.now) (P.step c.plan_move.new.t) (P.step c.enter_planned.new.t) c.in-Err-enter_planned.ensures.calls.count (walks_pages P c.args.t.now c.plan_move.new.t c.in-Ok.ensures.walks) c.in-Err-enter_planned.ensures.pages

pub returns-in-Ok-enter_planned-clause-moved : goal.returns-in-Ok-enter_planned-clause-moved
returns-in-Ok-enter_planned-clause-moved g c =
    let P = g.T.Pages in
    let a = c.args.t.now in
    let now = c.plan_move.new.t in
    let new = c.enter_planned.new.t in
    let map = up_to c.args.l.now.sectors c.args.map.now in
    let w = c.args.shadow.now in
    let plan : Plan = record { key = c.in-Ok.plan.key; keep = c.in-Ok.plan.keep; gone = c.in-Ok.plan.gone } in
    let formed = c.in-Ok.ensures.formed in
    let goes = c.as_slice-gone.ensures.value ∙ formed.goes in
    let edit : Leaving → List Entry → List Entry = λ (m : Leaving). with_planned plan (planned_entry plan m.entry.serial m.entry.length m.entry.runs) in
    let made = subst (λ (gone : List Leaving). EntersPlanned P map w gone (edit formed.moved) now new) (others_of c.as_slice-gone.result.now formed.moved formed.others goes)
    (subst (λ (m : Leaving). EntersPlanned P map w (take (length c.as_slice-gone.result.now - 1) (drop 1 c.as_slice-gone.result.now)) (edit m) now new) (first_of c.as_slice-gone.result.now formed.moved c.index-gone-0.result formed.others goes) c.in-Ok-enter_planned.ensures.entered) in
    let trust = c.in-Ok-enter_planned.ensures.calls.trust in
    record {
      name_is = formed.named;
      moved = formed.moved;
      others = formed.others;
      goes = formed.goes;
      of_key = formed.of_key;
      planned = λ t. c.in-Ok.ensures.planned (trust t);
      made = made_behind P map w formed.others (edit formed.moved) a now new c.in-Ok.ensures.walks trust made;
    }

pub returns-in-Err-enter_planned-clause-refused : goal.returns-in-Err-enter_planned-clause-refused
returns-in-Err-enter_planned-clause-refused g c =
    let P = g.T.Pages in
    let a = c.args.t.now in
    let now = c.plan_move.new.t in
    let new = c.enter_planned.new.t in
    let key = c.args.key.now in
    let name = c.args.name.now in
    let map = up_to c.args.l.now.sectors c.args.map.now in
    let w = c.args.shadow.now in
    let plan : Plan = record { key = c.in-Ok.plan.key; keep = c.in-Ok.plan.keep; gone = c.in-Ok.plan.gone } in
    let e = c.in-Ok.ensures in
    let formed = e.formed in
    let small : c.in-Ok.plan.key.version < 2 ^ 32 = search rules in
    let goes = c.as_slice-gone.ensures.value ∙ formed.goes in
    let refuses = subst (λ (gone : List Leaving). RefusesPlanned P map w c.args.home_a gone now new c.in-Err-enter_planned.refusal) (others_of c.as_slice-gone.result.now formed.moved formed.others goes) c.in-Err-enter_planned.ensures.refused in
    refused_behind P g.met.T.Pages.then map w name (LacksNumber key name) c.args.home_a a now new formed.others c.in-Err-enter_planned.refusal e.walks formed.met_others
    (λ trusted height tree. moved_lost key name _ plan formed.moved formed.others formed.goes (e.planned trusted height tree))
    (λ trusted height tree. moved_usable key name _ plan small (e.planned trusted height tree)) refuses
