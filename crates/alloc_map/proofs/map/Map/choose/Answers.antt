use Rattle.std.proofs.Common.{◌<◌, ◌≤◌, [], List, length, ap, sym, ◌∙◌, ℕ, Ok, Err, arith}
use Rattle.run_table.specs.declared.run.Run.{Run}
use Rattle.run_table.specs.RunTable.{total}
use Rattle.run_table.specs.Space.{runs_of}
use Rattle.sector_set.specs.Area.{Area, left_of}
use Rattle.alloc_map.specs.declared.no_place.NoPlace.TheVariants.{TooFragmented}
use Rattle.alloc_map.specs.NoPlace.{choice}
use Rattle.alloc_map.proofs.ChooseLaws.{lowest, lowest_here, lowest_on, chosen_first, chosen_none, chosen_cut, best_within}
use Rattle.alloc_map.proofs.LongestLaws.{longest_with, longest_of_all, kept_next}
use Rattle.alloc_map.proofs.map.Map.choose.Goals as goal

pub loop-run-init : goal.loop-run-init
loop-run-init c =
    let whole = ap (left_of c.self.inside.free) c.from-at.ensures.value ∙ c.from-at.ensures.all in
    record {
      low = omega (arith, c.from-at.ensures.value);
      inside = omega (arith, c.from-at.ensures.value, c.from-at.ensures.order);
      seen = ap (lowest c.args.need) whole;
      kept = ap (λ (x : List Run). longest_with x (left_of c.self.inside.free c.from-at.result)) c.new-longest.ensures ∙ ap (longest_with []) whole ∙ longest_of_all (runs_of c.self.inside.free.sectors);
    }

pub loop-run-preserved : goal.loop-run-preserved
loop-run-preserved c =
    let within = c.in-Some.ensures.within in
    record {
      low = omega (arith, c.loop-run.invariant.low, within.0);
      inside = within.2;
      seen = sym (lowest_on c.args.need _ _ c.in-Some.run' c.in-Some.ensures.first c.if-need-run.false) ∙ c.loop-run.invariant.seen;
      kept = kept_next c.loop-run.longest c.keep.new.self _ _ c.in-Some.run' c.keep.ensures c.in-Some.ensures.first ∙ c.loop-run.invariant.kept;
    }

pub returns-then-need-run : goal.returns-then-need-run
returns-then-need-run c =
    let enough : c.args.need ≤ length c.self.inside.free.sectors = omega (arith, c.count-free.ensures.value, c.if-free-need.false) in
    ap Ok c.one_run.ensures
    ∙ sym (chosen_first c.self.inside.free.sectors c.args.need c.in-Some.run' enough (sym c.loop-run.invariant.seen ∙ lowest_here c.args.need _ _ c.in-Some.run' c.in-Some.ensures.first c.if-need-run.true))
    ∙ ap (λ (m : Area). choice m.sectors c.args.need) c.self.view_is

pub total-best-requires : goal.total-best-requires
total-best-requires c =
    let kept = ap (longest_with c.loop-run.longest) (sym c.in_default.ensures.first) ∙ c.loop-run.invariant.kept in
    omega (arith, best_within c.self.inside.free.sectors c.loop-run.longest kept, c.count-free.ensures.value)

pub returns-then-best-need : goal.returns-then-best-need
returns-then-best-need c =
    let kept = ap (longest_with c.loop-run.longest) (sym c.in_default.ensures.first) ∙ c.loop-run.invariant.kept in
    let enough : c.args.need ≤ length c.self.inside.free.sectors = omega (arith, c.count-free.ensures.value, c.if-free-need.false) in
    let few : total c.loop-run.longest < c.args.need = omega (arith, c.total-best.ensures, c.if-best-need.true) in
    ap (λ (n : ℕ). Err (TooFragmented c.args.need n)) c.total-best.ensures
    ∙ sym (chosen_none c.self.inside.free.sectors c.args.need c.loop-run.longest enough (sym c.loop-run.invariant.seen ∙ ap (lowest c.args.need) c.in_default.ensures.first) kept few)
    ∙ ap (λ (m : Area). choice m.sectors c.args.need) c.self.view_is

pub returns : goal.returns
returns c =
    let kept = ap (longest_with c.loop-run.longest) (sym c.in_default.ensures.first) ∙ c.loop-run.invariant.kept in
    let enough : c.args.need ≤ length c.self.inside.free.sectors = omega (arith, c.count-free.ensures.value, c.if-free-need.false) in
    let many : c.args.need ≤ total c.loop-run.longest = omega (arith, c.total-best.ensures, c.if-best-need.false) in
    ap Ok c.cut_to.ensures
    ∙ sym (chosen_cut c.self.inside.free.sectors c.args.need c.loop-run.longest enough (sym c.loop-run.invariant.seen ∙ ap (lowest c.args.need) c.in_default.ensures.first) kept many)
    ∙ ap (λ (m : Area). choice m.sectors c.args.need) c.self.view_is
