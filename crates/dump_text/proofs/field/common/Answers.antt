use Rattle.std.proofs.Common.{◌≡◌, inl, inr, length, ◌∙◌, arith}
use Rattle.std.proofs.lemmas.Bool.{cases_lt}
use Rattle.dump_text.proofs.Fields.{common_end}
use Rattle.dump_text.proofs.field.common.Goals as goal

pub returns-clause-count : goal.returns-clause-count
returns-clause-count c =
    let at : c.min-most.result ≡ c.loop-place.place = omega (arith, c.loop-place.auto.place-end, c.loop-place-test.false) in
    at ∙ common_end c.args.text.now c.args.bytes.now c.loop-place.place _
    (elim (cases_lt (length c.args.text.now) (length c.args.bytes.now)) [
      | inl lt ↦ inl (omega (arith, lt, at, c.min-most.ensures))
      | inr le ↦ inr (omega (arith, le, at, c.min-most.ensures))
    ])
    c.loop-place.invariant
