use Rattle.std.proofs.Common.{◌≡◌}
use Rattle.std.proofs.lemmas.Result.{IfOk-weaker}
use Rattle.clap.specs.Built.{AddsSubcommand}
use Rattle.clap.specs.Simple.{app_of}
use Rattle.clap.specs.declared.builder.command.Command.{Command}
use Rattle.command_words.specs.CommandSet.{shape_of, with_row}
use Rattle.command_words.proofs.CommandSet.{with_next}
use Rattle.command_words.proofs.command_set.with_row.Goals as goal

pub returns : goal.returns
returns c =
    let old = c.args.program in
    let row = c.args.row.now in
    let sub = c.in_ok-command.command in
    IfOk-weaker c.subcommand.result (AddsSubcommand old sub) (λ (new : Command). app_of new ≡ with_row (app_of old) row) (with_next old sub (shape_of row) c.in_ok-command.ensures) c.subcommand.ensures
