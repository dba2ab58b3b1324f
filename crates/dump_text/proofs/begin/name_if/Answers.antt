use Rattle.std.proofs.Common.{sym, ◌∙◌}
use Rattle.dump_text.proofs.Fields.{unread_if}
use Rattle.dump_text.proofs.begin.name_if.Goals as goal

pub returns-in-Err : goal.returns-in-Err
returns-in-Err c = unread_if c.args.bytes.now c.in-Err.field-0 (sym c.parse.ensures ∙ c.in-Err.is)
