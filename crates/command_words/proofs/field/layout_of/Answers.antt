use Rattle.std.proofs.Common.{◌∙◌, ap, codes}
use Rattle.clap.specs.Matches.{found_of}
use Rattle.clap.proofs.WalkLemmas.{first_value-rows}
use Rattle.fsd_runs.specs.Words.{layout_in}
use Rattle.command_words.proofs.field.layout_of.Goals as goal

pub returns : goal.returns
returns c = c.kind_of.ensures ∙ ap layout_in (c.get_str.ensures ∙ first_value-rows (found_of c.args.fields.now) (codes "layout"))
