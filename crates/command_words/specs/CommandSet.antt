-- The command set, as `clap` is told of it.
use Rattle.std.specs.Prelude.{◌≡◌, [], ◌++◌, false, map}
use Rattle.clap.specs.Simple.{App, Shape, app_of, with_subcommand}
use Rattle.clap.specs.declared.builder.command.Command.{Command}
use Rattle.clap.specs.declared.builder.command.Command.TheViews.{out-Command}
use Rattle.fsd_runs.specs.Words.{option, positional, subcommand}
use Rattle.command_words.specs.declared.command_set.Row.{Row}

-- a command of this shape, with no subcommand and no argument that is global
pub record IsCommand (command : Command) (shape : Shape) : Type 0 where
  pub app : app_of command ≡ record { top = shape; subs = [] }
  pub local : (out-Command command).has_globals ≡ false

-- the command of a row
abbrev pub shape_of : Row → Shape
shape_of row = subcommand row.name.now (map (λ id. positional id.now) row.positionals.now ++ map (λ id. option id.now) row.options.now)

-- the program with one more command
abbrev pub with_row : App → Row → App
with_row app row = with_subcommand app (shape_of row)
