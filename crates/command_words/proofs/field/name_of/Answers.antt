use Rattle.std.proofs.Common.{refl, rules}
use Rattle.fsd_bytes.proofs.NameLaws.{no_name}
use Rattle.command_words.proofs.field.name_of.Goals as goal

pub returns-in-Err : goal.returns-in-Err
returns-in-Err c = rw (no_name c.args.word.now c.in-Err.field-0 (search rules)) refl
