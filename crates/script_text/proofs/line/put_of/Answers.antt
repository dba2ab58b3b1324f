use Rattle.std.proofs.Common.{arith}
use borrow.Author.Tests.{ltb-true, ltb-false}
use Rattle.script_text.proofs.FieldLaws.{other_put}
use Rattle.script_text.proofs.line.put_of.Goals.{in_default-via-then-fields-lt2, in_default-via-else-fields-lt2+else-fields-lt3+else-fields-lt4}
use Rattle.script_text.proofs.line.put_of.Goals as goal

pub returns-in_default : goal.returns-in_default
returns-in_default c = elim c.in_default.branch [
  | in_default-via-then-fields-lt2 w ↦ other_put (λ w. w.now) c.args.fields.now (λ h. omega (arith, ltb-true, ltb-false)) (λ h. omega (arith, ltb-true, ltb-false))
  | in_default-via-else-fields-lt2+else-fields-lt3+else-fields-lt4 w ↦ other_put (λ w. w.now) c.args.fields.now (λ h. omega (arith, ltb-true, ltb-false)) (λ h. omega (arith, ltb-true, ltb-false))
]
