use Rattle.std.proofs.Common.{rules}
use Rattle.command_words.proofs.SeedLaws.{seed_read, seed_refused}
use Rattle.command_words.proofs.field.seed_of.Goals as goal

pub returns-in-Ok : goal.returns-in-Ok
returns-in-Ok c = seed_read c.args.word.now (search rules) c.in-Ok.seed c.in-Ok.ensures.value.0

pub returns-in-Err : goal.returns-in-Err
returns-in-Err c = seed_refused c.args.word.now (search rules) c.in-Err.ensures.value.0
