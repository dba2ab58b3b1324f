use Rattle.std.proofs.Common.{◌∙◌, All, List, Some, None, sym, ap, subst, refl, inl, inr, arith}
use Rattle.std.proofs.lemmas.List.{take_all}
use Rattle.run_table.specs.declared.run.Run.{Run}
use Rattle.run_table.specs.RunTable.{sectors_of}
use Rattle.sector_set.specs.Meet.{meets}
use Rattle.shadow_frees.specs.Readers.{IsSameOrApart}
use Rattle.shadow_frees.proofs.HeldLaws.{slot_at, are_equal, no_agreement, agree_more}
use Rattle.shadow_frees.proofs.readers.agree.Goals.{in-Some+else-ne, else-ne-via-then-ne+else-overlap, else-ne-via-else-ne, in_default}
use Rattle.shadow_frees.proofs.readers.agree.Goals as goal

pub returns-then-overlap : goal.returns-then-overlap
returns-then-overlap c =
    let met = ap (λ (x : List Run). meets (sectors_of x) c.in-Some.other) (sym c.as_slice-then-ne.ensures.value) ∙ ap (meets (sectors_of c.as_slice-then-ne.result.now)) (sym c.as_slice.ensures.value) ∙ sym c.overlap.ensures ∙ c.if-overlap.true in (
      λ t. absurd cc,
      λ all. absurd (no_agreement c.in-Some.other c.args.runs.now c.ne.result c.ne.ensures c.if-ne.true met
          (subst (IsSameOrApart c.args.runs.now) (sym c.slot-item.is ∙ c.in-Some.is) (all c.loop-slot.slot-index c.slot-item.result c.loop-slot-test.true))),
    )

pub loop-slot-preserved : goal.loop-slot-preserved
loop-slot-preserved c = elim c.match-slot.branch [
  | in-Some+else-ne w ↦ (
      let at = slot_at c.args.held.now c.loop-slot.slot-index c.slot-item.result (Some w.in-Some.other) c.loop-slot-test.true c.slot-item.is w.in-Some.is in
      agree_more c.args.held.now c.loop-slot.slot-index c.args.runs.now (Some w.in-Some.other) c.loop-slot-test.true at c.loop-slot.invariant
      (elim w.else-ne.branch [
        | else-ne-via-then-ne+else-overlap u ↦ inr (ap (λ (x : List Run). meets (sectors_of x) w.in-Some.other) (sym u.as_slice-then-ne.ensures.value) ∙ ap (meets (sectors_of u.as_slice-then-ne.result.now)) (sym u.as_slice.ensures.value) ∙ sym u.overlap.ensures ∙ u.if-overlap.false)
        | else-ne-via-else-ne u ↦ inl (are_equal w.in-Some.other c.args.runs.now w.ne.result w.ne.ensures u.if-ne.false)
      ]))
  | in_default w ↦ agree_more c.args.held.now c.loop-slot.slot-index c.args.runs.now None c.loop-slot-test.true (slot_at c.args.held.now c.loop-slot.slot-index c.slot-item.result None c.loop-slot-test.true c.slot-item.is w.in_default.is) c.loop-slot.invariant tt
]

pub returns : goal.returns
returns c = (λ t. subst (All (IsSameOrApart c.args.runs.now)) (take_all c.loop-slot.slot-index c.args.held.now (omega arith)) c.loop-slot.invariant, λ all. refl)
