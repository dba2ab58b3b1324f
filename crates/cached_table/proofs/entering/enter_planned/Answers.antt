use Rattle.std.proofs.Common.{[], List, Option, Err, ap, refl, rules, subst, sym}
use Rattle.std.specs.Prelude.{⊤}
use Rattle.fsd_bytes.specs.declared.refusal.Refusal.{Refusal}
use Rattle.name_btree.specs.declared.fault.TreeFault.{TreeFault}
use Rattle.name_page.specs.Looks.{OnlyEdits, OnlyWalks}
use Rattle.name_page.specs.Pages.{spare_count}
use Rattle.name_page.proofs.LookLaws.{reaches_still, reaches_walks, walks_edits}
use Rattle.run_table.specs.declared.run.Run.{Run}
use Rattle.version_table.specs.Plan.{planned_entry, with_planned}
use Rattle.version_table.specs.Table.{MakesTable}
use Rattle.cached_table.specs.Entering.{AreInTurn, RefusesPlanned, up_to}
use Rattle.cached_table.proofs.EnteringLaws.{enter_refuses, enter_shows, gone_refuse, gone_shows, outer_entered, outer_untaken, spare_enough}
use Rattle.cached_table.proofs.entering.enter_planned.Goals as goal

pub returns-in-Some-clause-calls : goal.returns-in-Some-clause-calls
returns-in-Some-clause-calls g c =
    let P = g.T.Pages in
    let a = c.args.t.now in
    subst (λ (o : Option Refusal). OnlyEdits P o a a) (sym (outer_untaken c.args.home_a (up_to c.args.l.now.sectors c.args.map.now) c.args.shadow.now c.args.freed.now c.in-Some.refusal c.in-Some.ensures.told))
    (walks_edits P a a (reaches_walks P a a (reaches_still P a (g.met.T.Pages.still a))))

pub returns-in-Some-clause-refused : goal.returns-in-Some-clause-refused
returns-in-Some-clause-refused g c =
    let P = g.T.Pages in
    let a = c.args.t.now in
    let map = up_to c.args.l.now.sectors c.args.map.now in
    let w = c.args.shadow.now in
    let gone = c.args.freed.now in
    record {
      kept = subst (λ (o : Option Refusal). OnlyWalks P o a a) (sym (outer_untaken c.args.home_a map w gone c.in-Some.refusal c.in-Some.ensures.told)) (reaches_walks P a a (reaches_still P a (g.met.T.Pages.still a)));
      fault = gone_refuse P (AreInTurn map w [] gone → ⊥) ⊥ ⊤ (spare_count (P.step a)) c.args.home_a a map w gone c.in-Some.refusal c.in-Some.ensures.told (c.in-Some.ensures.some refl);
      shown = gone_shows c.args.home_a map w gone c.in-Some.refusal c.in-Some.ensures.told;
    }

pub returns-in-Ok-clause-entered : goal.returns-in-Ok-clause-entered
returns-in-Ok-clause-entered g c =
    let e = c.in-Ok.ensures in
    record { taken = search rules; room = spare_enough (spare_count (g.T.Pages.step c.args.t.now)) (λ few. cc (e.full.1 few)); entered = subst (λ (runs : List Run). MakesTable g.T.Pages c.args.t.now c.enter.new.t (with_planned c.args.plan.now (planned_entry c.args.plan.now c.args.like.now.serial c.args.like.now.length runs))) c.copied.ensures e.entered }

pub returns-in-Err-clause-refused : goal.returns-in-Err-clause-refused
returns-in-Err-clause-refused g c =
    let P = g.T.Pages in
    let a = c.args.t.now in
    let new = c.enter.new.t in
    let map = up_to c.args.l.now.sectors c.args.map.now in
    let w = c.args.shadow.now in
    let gone = c.args.freed.now in
    let e = c.in-Err.ensures in
    subst (RefusesPlanned P map w c.args.home_a gone a new) (sym c.enter_refusal.ensures) (record {
      kept = subst (λ (o : Option Refusal). OnlyWalks P o a new) (sym (outer_entered c.in-Err.fault)) e.edits.kept;
      fault = enter_refuses P (AreInTurn map w [] gone → ⊥) ⊥ ⊤ (spare_count (P.step a)) c.args.home_a new c.in-Err.fault e.failed.cause (λ is. e.full.0 (ap (λ (x : TreeFault). Err x) is)) tt;
      shown = enter_shows c.args.home_a map w gone c.in-Err.fault;
    })
