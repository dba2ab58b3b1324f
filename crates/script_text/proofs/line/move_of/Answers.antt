use Rattle.std.proofs.Common.{arith}
use borrow.Author.Tests.{ltb-true, ltb-false}
use Rattle.script_text.proofs.FieldLaws.{other_move}
use Rattle.script_text.proofs.line.move_of.Goals.{in_default-via-then-fields-lt2, in_default-via-else-fields-lt2+else-fields-lt3}
use Rattle.script_text.proofs.line.move_of.Goals as goal

pub returns-in_default : goal.returns-in_default
returns-in_default c = elim c.in_default.branch [
  | in_default-via-then-fields-lt2 w ↦ other_move (λ w. w.now) c.args.fields.now (λ h. omega (arith, ltb-true, ltb-false))
  | in_default-via-else-fields-lt2+else-fields-lt3 w ↦ other_move (λ w. w.now) c.args.fields.now (λ h. omega (arith, ltb-true, ltb-false))
]
