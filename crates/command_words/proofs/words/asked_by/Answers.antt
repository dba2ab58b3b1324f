use Rattle.std.proofs.Common.{◌≡◌, ◌∙◌, Some, ap, option_map, rules}
use Rattle.clap.specs.Matches.{found_of, subcommand_name_of}
use Rattle.clap.specs.Walk.{rows_of}
use Rattle.clap.specs.Simple.{subcommand_rows_of}
use Rattle.clap.specs.declared.parser.matches.ArgMatches.TheViews.{out-ArgMatches}
use Rattle.fsd_runs.specs.Words.{entered_request, image_word}
use Rattle.command_words.proofs.WordLaws.{rows_by_name}
use Rattle.command_words.proofs.words.asked_by.Goals as goal

pub returns-in-Some : goal.returns-in-Some
returns-in-Some c =
    let name_is : Some c.in-Some.name.now ≡ subcommand_name_of c.args.matches.now = search rules in
    let rows_are : Some (rows_of (found_of c.in-Some.fields.now)) ≡ option_map (λ p. p.1) (subcommand_rows_of c.args.matches.now) = search rules in
    let both : Some (c.in-Some.name.now, rows_of (found_of c.in-Some.fields.now)) ≡ subcommand_rows_of c.args.matches.now =
    rows_by_name (out-ArgMatches c.args.matches.now).subcommand _ _ name_is rows_are in
    record {
      request = c.request_by.ensures ∙ ap entered_request both;
      image = c.field.ensures ∙ ap image_word both;
    }
