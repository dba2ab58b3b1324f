use Rattle.std.proofs.Common.{◌∙◌, ap}
use Rattle.clap.specs.Matches.{found_of}
use Rattle.clap.proofs.WalkLemmas.{first_value-rows}
use Rattle.fsd_runs.specs.Words.{if_given}
use Rattle.command_words.proofs.field.number_if_given.Goals as goal

pub returns : goal.returns
returns c = c.option_of.ensures ∙ ap if_given (c.get_str.ensures ∙ first_value-rows (found_of c.args.fields.now) c.args.id.now)
