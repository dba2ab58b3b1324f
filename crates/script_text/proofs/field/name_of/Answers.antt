use Rattle.std.proofs.Common.{◌∙◌, sym, refl}
use Rattle.fsd_bytes.proofs.NameLaws.{no_name}
use Rattle.script_text.proofs.field.name_of.Goals as goal

pub returns-in-Err : goal.returns-in-Err
returns-in-Err c = rw (no_name c.args.word.now c.in-Err.field-0 (sym c.parse.ensures ∙ c.in-Err.is)) refl
