use Rattle.std.proofs.Common.{◌≡◌, codes, fold, take}
use Rattle.clap.specs.Simple.{app_of, new_app}
use Rattle.command_words.specs.CommandSet.{with_row}
use Rattle.command_words.proofs.command_set.program_of.Given as goal

-- the program has the commands so far
abbrev pub invariant-loop-row : goal.invariant-loop-row
invariant-loop-row l = app_of l.program ≡ fold with_row (new_app (codes "cfs")) (take l.row-index l.rows)
