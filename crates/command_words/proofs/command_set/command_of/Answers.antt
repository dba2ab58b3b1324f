use Rattle.std.proofs.Common.{map}
use Rattle.std.specs.Borrow.{Bor}
use Rattle.clap.specs.Walk.{Text}
use Rattle.fsd_runs.specs.Words.{positional}
use Rattle.command_words.proofs.CommandSet.{option_more, positional_more}
use Rattle.command_words.proofs.command_set.command_of.Goals as goal

pub loop-positional-preserved : goal.loop-positional-preserved
loop-positional-preserved c =
    positional_more _ _ _ _ c.in_ok-command.ensures c.new.ensures.optional.1 c.args.row.now.name.now c.args.row.now.positionals.now c.loop-positional.positional-index _
    c.loop-positional-test.true c.required.ensures c.new.ensures.rule c.loop-positional.invariant

pub loop-option-preserved : goal.loop-option-preserved
loop-option-preserved c =
    option_more _ _ _ _ c.in_ok-command-2.ensures c.new-in-loop-option.ensures.optional.1 c.args.row.now.name.now
    (map (λ (id : Bor Text). positional id.now) c.args.row.now.positionals.now) c.args.row.now.options.now c.loop-option.option-index _
    c.loop-option-test.true c.long.ensures c.new-in-loop-option.ensures.rule c.loop-option.invariant
