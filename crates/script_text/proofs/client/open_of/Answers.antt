use Rattle.std.proofs.Common.{arith}
use borrow.Author.Tests.{ltb-true, ltb-false}
use Rattle.fsd_texts.specs.declared.call.Call.TheVariants as Calls
use Rattle.fsd_texts.specs.Script.{key_in}
use Rattle.script_text.proofs.FieldLaws.{other_call}
use Rattle.script_text.proofs.client.open_of.Goals.{in_default-via-then-fields-lt2, in_default-via-else-fields-lt2+else-fields-lt3}
use Rattle.script_text.proofs.client.open_of.Goals as goal

pub returns-in_default : goal.returns-in_default
returns-in_default c = elim c.in_default.branch [
  | in_default-via-then-fields-lt2 w ↦ other_call (λ w. w.now) key_in Calls.Open c.args.fields.now (λ h. omega (arith, ltb-true, ltb-false))
  | in_default-via-else-fields-lt2+else-fields-lt3 w ↦ other_call (λ w. w.now) key_in Calls.Open c.args.fields.now (λ h. omega (arith, ltb-true, ltb-false))
]
