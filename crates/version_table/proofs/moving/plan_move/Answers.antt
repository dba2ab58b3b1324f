use Rattle.std.specs.Prelude.{◌==◌, ◌-◌}
use Rattle.std.proofs.Common.{◌≤◌, ◌∙◌, refl, ℕ, List, None, ap, subst, sym, arith}
use Rattle.fsd_bytes.specs.declared.key.Key.{Key}
use Rattle.fsd_formats.specs.declared.entry.Entry.{Entry}
use Rattle.fsd_files.specs.Answers.{entry_of}
use Rattle.fsd_table.specs.Table.{top}
use Rattle.fsd_table.specs.Tree.{table_of}
use Rattle.fsd_table.proofs.BoundLaws.{all_weaker}
use Rattle.name_page.proofs.LookLaws.{walks_then}
use Rattle.version_table.specs.declared.oldest.Leaving.{Leaving}
use Rattle.version_table.specs.declared.planning.Plan.{Plan}
use Rattle.version_table.specs.Met.{IsMetBetween}
use Rattle.version_table.specs.Moving.{IsMovePlan}
use Rattle.version_table.specs.Plan.{IsPlan, IsPlanReady}
use Rattle.version_table.proofs.MeetLaws.{met_earlier, of_later}
use Rattle.version_table.proofs.MoveLaws.{all_beside, keep_bound, move_is, move_ready}
use Rattle.version_table.proofs.PlanLaws.{entries_good, entries_numbered, entry_bounds}
use Rattle.version_table.proofs.StepLaws.{tree_ascends}
use Rattle.version_table.proofs.moving.plan_move.Goals as goal

pub returns-clause-walks : goal.returns-clause-walks
returns-clause-walks g c = walks_then g.T.Pages g.met.T.Pages.then c.args.t.now c.version_at.new.t c.plan_version.new.t c.in_ok-moved.ensures.walks c.in_ok-plan.ensures.walks

pub returns-clause-formed : goal.returns-clause-formed
returns-clause-formed g c =
    let P = g.T.Pages in
    let a = c.args.t.now in
    let then = c.version_at.new.t in
    let now = c.plan_version.new.t in
    let name = c.args.name.now in
    let met = c.in_ok-moved.ensures.met in
    let formed = c.in_ok-plan.ensures.formed in
    let made = c.moved_by.ensures in
    let walked = c.in_ok-moved.ensures.walks in
    let moved : Leaving = record { entry = c.in_ok-moved.moved.entry; page = c.in_ok-moved.moved.page } in
    record {
      named = ap (λ (k : Key). k.name) made.key ∙ formed.named;
      version = omega (arith, formed.version, ap (λ (k : Key). k.version) made.key);
      keep = subst (λ (n : ℕ). n ≤ 999) (sym made.keep) (keep_bound (c.in_ok-plan.plan.key.version == 1) moved.entry.keep c.in_ok-plan.plan.keep (entry_bounds moved.entry met.entry).keep formed.keep);
      moved = moved;
      others = _;
      goes = made.gone;
      of_key = met.suits;
      met = record {
        at = then;
        before = walked;
        after = c.in_ok-plan.ensures.walks;
        stands = met.there;
        way = met.way;
        entry = met.entry;
        fits = met.fits;
        named = ap (λ (k : Key). k.name) met.suits;
      };
      met_others = all_beside (IsMetBetween P name a now) moved.entry.key name c.in_ok-plan.plan.gone.items
          (all_weaker (IsMetBetween P name then now) (IsMetBetween P name a now) c.in_ok-plan.plan.gone.items (λ one h. met_earlier P g.met.T.Pages.then name name a then now one refl walked h) formed.met);
    }

pub returns-clause-planned : goal.returns-clause-planned
returns-clause-planned g c = λ trusted height tree.
    let P = g.T.Pages in
    let a = c.args.t.now in
    let then = c.version_at.new.t in
    let now = c.plan_version.new.t in
    let name = c.args.name.now in
    let found = c.in_ok-moved.ensures in
    let planned = c.in_ok-plan.ensures in
    let made = c.moved_by.ensures in
    let moved : Leaving = record { entry = c.in_ok-moved.moved.entry; page = c.in_ok-moved.moved.page } in
    let next : Plan = record { key = c.in_ok-plan.plan.key; keep = c.in_ok-plan.plan.keep; gone = c.in_ok-plan.plan.gone } in
    let table = table_of (P.step a).images height in
    subst (λ (k : Key). IsMovePlan k name table c.moved_by.result) found.met.suits
    (move_is name table (tree_ascends (P.step a).images height tree) (entries_numbered table (entries_good (height - 1) (P.step a).images top)) moved
    (ap (λ (k : Key). entry_of k table) found.met.suits ∙ found.found (planned.walks.trust trusted) height tree) next
    (of_later P a then now (λ (xs : List Entry). IsPlan name None xs next) found.walks planned.walks.trust planned.planned trusted height tree)
    (of_later P a then now (IsPlanReady next) found.walks planned.walks.trust planned.ready trusted height tree)
    c.moved_by.result made.key made.keep made.gone)

pub returns-clause-ready : goal.returns-clause-ready
returns-clause-ready g c = λ trusted height tree.
    let P = g.T.Pages in
    let a = c.args.t.now in
    let then = c.version_at.new.t in
    let now = c.plan_version.new.t in
    let name = c.args.name.now in
    let found = c.in_ok-moved.ensures in
    let planned = c.in_ok-plan.ensures in
    let made = c.moved_by.ensures in
    let moved : Leaving = record { entry = c.in_ok-moved.moved.entry; page = c.in_ok-moved.moved.page } in
    let next : Plan = record { key = c.in_ok-plan.plan.key; keep = c.in_ok-plan.plan.keep; gone = c.in_ok-plan.plan.gone } in
    let table = table_of (P.step a).images height in
    move_ready name table (tree_ascends (P.step a).images height tree) (entries_numbered table (entries_good (height - 1) (P.step a).images top)) moved
    (ap (λ (k : Key). entry_of k table) found.met.suits ∙ found.found (planned.walks.trust trusted) height tree) next
    (of_later P a then now (λ (xs : List Entry). IsPlan name None xs next) found.walks planned.walks.trust planned.planned trusted height tree)
    (of_later P a then now (IsPlanReady next) found.walks planned.walks.trust planned.ready trusted height tree)
    c.moved_by.result made.key made.keep made.gone
