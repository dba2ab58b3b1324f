use Rattle.std.proofs.Common.{◌∙◌, ap, rules}
use Rattle.clap.specs.Matches.{found_of}
use Rattle.clap.proofs.WalkLemmas.{first_value-rows}
use Rattle.command_words.proofs.WordLaws.{word_or_none}
use Rattle.command_words.proofs.field.field.Goals as goal

pub returns : goal.returns
returns c = ap (λ s. s.now) c.unwrap_or.ensures
    ∙ word_or_none c.get_str.result _ _ (search rules) (c.get_str.ensures ∙ first_value-rows (found_of c.args.fields.now) c.args.id.now)
