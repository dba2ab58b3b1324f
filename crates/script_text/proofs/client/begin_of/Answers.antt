use Rattle.std.proofs.Common.{arith}
use borrow.Author.Tests.{ltb-true, ltb-false}
use Rattle.script_text.proofs.FieldLaws.{other_begin}
use Rattle.script_text.proofs.client.begin_of.Goals.{in_default-via-then-fields-lt3, in_default-via-else-fields-lt3+else-fields-lt4}
use Rattle.script_text.proofs.client.begin_of.Goals as goal

pub returns-in_default : goal.returns-in_default
returns-in_default c = elim c.in_default.branch [
  | in_default-via-then-fields-lt3 w ↦ other_begin (λ w. w.now) c.args.fields.now (λ h. omega (arith, ltb-true, ltb-false))
  | in_default-via-else-fields-lt3+else-fields-lt4 w ↦ other_begin (λ w. w.now) c.args.fields.now (λ h. omega (arith, ltb-true, ltb-false))
]
