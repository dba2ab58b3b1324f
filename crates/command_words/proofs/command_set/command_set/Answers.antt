use Rattle.command_words.proofs.command_set.command_set.Goals as goal

pub returns : goal.returns
returns c = c.program_of.ensures
