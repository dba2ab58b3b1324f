use Rattle.std.proofs.Common.{[], sym}
use Rattle.fsd_runs.specs.declared.request.Request.TheVariants.{NoCommand}
use Rattle.cfs_cli.proofs.run.Goals as goal

pub returns-in-Ok-clause-ran : goal.returns-in-Ok-clause-ran
returns-in-Ok-clause-ran g c = rw (c.in-Ok.is, sym c.as_slice.ensures.value) c.run_words.ensures

pub returns-in-Ok-clause-no_words : goal.returns-in-Ok-clause-no_words
returns-in-Ok-clause-no_words g c = rw c.in-Ok.is tt

pub returns-in-Err-clause-ran : goal.returns-in-Err-clause-ran
returns-in-Err-clause-ran g c = rw c.in-Err.is tt

pub returns-in-Err-clause-no_words : goal.returns-in-Err-clause-no_words
returns-in-Err-clause-no_words g c = rw c.in-Err.is (c.run_out_of_memory.ensures NoCommand [])

pub returns-in-Err-2-clause-ran : goal.returns-in-Err-2-clause-ran
returns-in-Err-2-clause-ran g c = rw c.in-Err-2.is tt

pub returns-in-Err-2-clause-no_words : goal.returns-in-Err-2-clause-no_words
returns-in-Err-2-clause-no_words g c = rw c.in-Err-2.is (c.say_usage.ensures [])
