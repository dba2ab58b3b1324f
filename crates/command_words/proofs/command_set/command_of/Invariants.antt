use Rattle.std.proofs.Common.{◌++◌, map, take}
use Rattle.fsd_runs.specs.Words.{option, positional, subcommand}
use Rattle.command_words.specs.CommandSet.{IsCommand}
use Rattle.command_words.proofs.command_set.command_of.Given as goal

-- the command takes the positionals so far
abbrev pub invariant-loop-positional : goal.invariant-loop-positional
invariant-loop-positional l = IsCommand l.command (subcommand l.row.name.now (map (λ id. positional id.now) (take l.positional-index l.row.positionals.now)))

-- the command takes its positionals and the options so far
abbrev pub invariant-loop-option : goal.invariant-loop-option
invariant-loop-option l =
    IsCommand l.command (subcommand l.row.name.now (map (λ id. positional id.now) l.row.positionals.now ++ map (λ id. option id.now) (take l.option-index l.row.options.now)))
