-- Which sectors the versions take.
use Rattle.std.specs.Prelude.{◌&&◌, List, IsTrue}
use Rattle.std.specs.List.{list_all, flat_map}
use Rattle.volume_layout.specs.declared.layout.Layout.{Layout}
use Rattle.volume_layout.specs.Layout.{is_data}
use Rattle.run_table.specs.declared.run.Run.{Run}
use Rattle.run_table.specs.RunTable.{sectors_of}
use Rattle.run_table.specs.Space.{all_differ}

-- all sectors of the plans differ, and lie in the data area
abbrev pub Apart : Layout → List (List Run) → Type 0
Apart l plans = let all = flat_map sectors_of plans in IsTrue (all_differ all && list_all (is_data l) all)
