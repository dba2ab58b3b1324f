-- Runs that share sectors.
use Rattle.std.specs.Prelude.{ℕ, Bool, List}
use Rattle.std.specs.List.{list_any}
use Rattle.run_table.specs.declared.run.Run.{Run}
use Rattle.run_table.specs.RunTable.{sectors_of}
use Rattle.run_table.specs.Space.{contains}

-- whether any of these sectors is one of the runs'
abbrev pub meets : List ℕ → List Run → Bool
meets sectors runs = list_any (contains sectors) (sectors_of runs)
