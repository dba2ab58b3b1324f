use Rattle.std.proofs.Common.{◌∙◌, List, Some, None, sym, ap, subst, arith}
use Rattle.run_table.specs.declared.run.Run.{Run}
use Rattle.sector_set.specs.Area.{Area}
use Rattle.sector_set.specs.Meet.{meets}
use Rattle.shadow_frees.specs.Readers.{AreTogether}
use Rattle.sector_set.proofs.MeetLaws.{none_any}
use Rattle.run_table.specs.RunTable.{sectors_of}
use Rattle.run_table.specs.Space.{contains}
use Rattle.shadow_frees.proofs.HeldLaws.{slot_at, version_at, still_together, may_move, may_come, removed_moved, kept_moved, all_removed, removed_stays, kept_stays, all_there, all_kept, nobody, nothing_kept}
use Rattle.shadow_frees.proofs.readers.keep_held.Goals.{in-Some+then-are_in, in-Some+else-are_in, in_default}
use Rattle.shadow_frees.proofs.readers.keep_held.Goals as goal

pub loop-slot-init : goal.loop-slot-init
loop-slot-init c = record {
  removed = nobody c.args.removed.now c.args.removed.now c.requires.own;
  kept = nothing_kept c.args.kept.now c.args.removed.now c.requires.own_kept;
}

pub are_in-requires-clause-within : goal.are_in-requires-clause-within
are_in-requires-clause-within c =
    let at = slot_at c.args.held.now c.loop-slot.slot-index c.slot-item.result (Some c.in-Some.runs) c.loop-slot-test.true c.slot-item.is c.in-Some.is in
    let v = version_at c.args.removed.now c.args.kept.now c.args.held.now c.loop-slot.slot-index c.in-Some.runs c.requires.slots c.loop-slot-test.true at in
    λ s h. let a = v.within s (ap (λ (x : List Run). contains (sectors_of x) s) (sym c.as_slice.ensures.value) ∙ h) in
    (omega (arith, a.0, ap (λ (m : Area). m.from) c.loop-slot.invariant.removed), omega (arith, a.1, ap (λ (m : Area). m.to) c.loop-slot.invariant.removed))

pub are_in-requires-clause-together : goal.are_in-requires-clause-together
are_in-requires-clause-together c =
    let at = slot_at c.args.held.now c.loop-slot.slot-index c.slot-item.result (Some c.in-Some.runs) c.loop-slot-test.true c.slot-item.is c.in-Some.is in
    let v = version_at c.args.removed.now c.args.kept.now c.args.held.now c.loop-slot.slot-index c.in-Some.runs c.requires.slots c.loop-slot-test.true at in
    subst (AreTogether c.loop-slot.removed) (sym c.as_slice.ensures.value)
    (still_together c.args.removed.now c.args.kept.now c.args.held.now c.loop-slot.slot-index c.in-Some.runs c.loop-slot.removed v c.loop-slot.invariant.removed)

pub remove-requires : goal.remove-requires
remove-requires c =
    let at = slot_at c.args.held.now c.loop-slot.slot-index c.slot-item.result (Some c.in-Some.runs) c.loop-slot-test.true c.slot-item.is c.in-Some.is in
    let v = version_at c.args.removed.now c.args.kept.now c.args.held.now c.loop-slot.slot-index c.in-Some.runs c.requires.slots c.loop-slot-test.true at in
    let met = ap (meets c.loop-slot.removed.sectors) (sym c.as_slice.ensures.value) ∙ sym c.are_in.ensures ∙ c.if-are_in.true in
    may_move c.args.removed.now c.args.kept.now c.args.held.now c.loop-slot.slot-index c.in-Some.runs c.loop-slot.removed v c.loop-slot.invariant.removed met

pub insert-requires : goal.insert-requires
insert-requires c =
    let at = slot_at c.args.held.now c.loop-slot.slot-index c.slot-item.result (Some c.in-Some.runs) c.loop-slot-test.true c.slot-item.is c.in-Some.is in
    let v = version_at c.args.removed.now c.args.kept.now c.args.held.now c.loop-slot.slot-index c.in-Some.runs c.requires.slots c.loop-slot-test.true at in
    let met = ap (meets c.loop-slot.removed.sectors) (sym c.as_slice.ensures.value) ∙ sym c.are_in.ensures ∙ c.if-are_in.true in
    may_come c.args.removed.now c.args.kept.now c.args.held.now c.loop-slot.slot-index c.in-Some.runs c.loop-slot.removed c.loop-slot.kept c.requires.apart v c.loop-slot.invariant.removed c.loop-slot.invariant.kept met

pub loop-slot-preserved : goal.loop-slot-preserved
loop-slot-preserved c = elim c.match-slot.branch [
  | in-Some+then-are_in w ↦ (
      let at = slot_at c.args.held.now c.loop-slot.slot-index c.slot-item.result (Some w.in-Some.runs) c.loop-slot-test.true c.slot-item.is w.in-Some.is in
      let v = version_at c.args.removed.now c.args.kept.now c.args.held.now c.loop-slot.slot-index w.in-Some.runs c.requires.slots c.loop-slot-test.true at in
      let met = ap (meets c.loop-slot.removed.sectors) (sym w.as_slice.ensures.value) ∙ sym w.are_in.ensures ∙ w.if-are_in.true in
      record {
        removed = w.removed-is ∙ removed_moved c.args.held.now c.loop-slot.slot-index w.in-Some.runs c.args.removed.now c.loop-slot.removed w.remove.new.self c.loop-slot-test.true at c.loop-slot.invariant.removed w.remove.ensures;
        kept = w.kept-is ∙ kept_moved c.args.held.now c.loop-slot.slot-index w.in-Some.runs c.args.removed.now c.args.kept.now c.loop-slot.kept w.insert.new.self c.loop-slot-test.true at c.loop-slot.invariant.kept w.insert.ensures
            (λ s h. (all_removed c.args.removed.now c.args.kept.now c.args.held.now c.loop-slot.slot-index w.in-Some.runs c.loop-slot.removed v c.loop-slot.invariant.removed met s h).1);
      })
  | in-Some+else-are_in w ↦ (
      let at = slot_at c.args.held.now c.loop-slot.slot-index c.slot-item.result (Some w.in-Some.runs) c.loop-slot-test.true c.slot-item.is w.in-Some.is in
      let out = ap (meets c.loop-slot.removed.sectors) (sym w.as_slice.ensures.value) ∙ sym w.are_in.ensures ∙ w.if-are_in.false in
      record {
        removed = w.removed-is ∙ removed_stays c.args.held.now c.loop-slot.slot-index (Some w.in-Some.runs) c.args.removed.now c.loop-slot.removed c.loop-slot-test.true at c.loop-slot.invariant.removed
            (λ s l h g. none_any (contains c.loop-slot.removed.sectors) (sectors_of w.in-Some.runs) out s g);
        kept = w.kept-is ∙ kept_stays c.args.held.now c.loop-slot.slot-index (Some w.in-Some.runs) c.args.removed.now c.args.kept.now c.loop-slot.removed c.loop-slot.kept c.loop-slot-test.true at c.loop-slot.invariant.removed c.loop-slot.invariant.kept c.requires.apart
            (λ s l h g. none_any (contains c.loop-slot.removed.sectors) (sectors_of w.in-Some.runs) out s g);
      })
  | in_default w ↦ (
      let at = slot_at c.args.held.now c.loop-slot.slot-index c.slot-item.result None c.loop-slot-test.true c.slot-item.is w.in_default.is in
      record {
        removed = w.removed-is ∙ removed_stays c.args.held.now c.loop-slot.slot-index None c.args.removed.now c.loop-slot.removed c.loop-slot-test.true at c.loop-slot.invariant.removed (λ s l h g. absurd cc);
        kept = w.kept-is ∙ kept_stays c.args.held.now c.loop-slot.slot-index None c.args.removed.now c.args.kept.now c.loop-slot.removed c.loop-slot.kept c.loop-slot-test.true at c.loop-slot.invariant.removed c.loop-slot.invariant.kept c.requires.apart (λ s l h g. absurd cc);
      })
]

pub returns-clause-removed : goal.returns-clause-removed
returns-clause-removed c = all_there c.args.held.now c.loop-slot.slot-index c.args.removed.now c.loop-slot.removed (omega arith) c.loop-slot.invariant.removed

pub returns-clause-kept : goal.returns-clause-kept
returns-clause-kept c = all_kept c.args.held.now c.loop-slot.slot-index c.args.kept.now c.args.removed.now c.loop-slot.kept (omega arith) c.loop-slot.invariant.kept
