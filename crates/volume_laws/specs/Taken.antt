-- Which sectors versions take, by what is free and what waits.
use Rattle.std.specs.Prelude.{ℕ, Bool, not, ◌&&◌, ◌||◌, List, Result, Ok, Err, Option, Some, None, if◌then◌else◌}
use Rattle.std.specs.List.{list_all}
use Rattle.volume_layout.specs.Layout.{home_a, is_data}
use Rattle.run_table.specs.declared.run.Run.{Run}
use Rattle.run_table.specs.RunTable.{sectors_of}
use Rattle.run_table.specs.Space.{contains, all_differ}
use Rattle.fsd_bytes.specs.declared.refusal.Refusal.{Refusal}
use Rattle.fsd_bytes.specs.declared.refusal.Refusal.TheVariants as Why
use Rattle.fsd_formats.specs.declared.entry.Entry.{Entry}
use Rattle.sector_set.specs.Area.{Area}
use Rattle.shadow_frees.specs.Waits.{waits_in}
use Rattle.cached_table.specs.Entering.{up_to}
use Rattle.volume_contract.specs.Causes.{meets_held}
use Rattle.volume_contract.specs.State.{held_runs}
use Rattle.volume_laws.specs.Volume.{VolumeValue}

-- the free sectors, in the data area as it ends now
abbrev pub data_map : VolumeValue → Area
data_map v = up_to v.layout.sectors v.map

-- the sector lies in the data area, and is neither free nor waiting
abbrev pub is_taken : VolumeValue → ℕ → Bool
is_taken v s = is_data v.layout s && not (contains v.map.sectors s || waits_in v.shadow s)

-- so are the sectors of the runs, each is named once, and each reader holds these very runs, or none of their sectors
abbrev pub are_taken : VolumeValue → List Run → Bool
are_taken v runs = all_differ (sectors_of runs) && list_all (is_taken v) (sectors_of runs) && not (meets_held (held_runs v.shadow.held) runs)

-- an entry that was met in the leaf at this page is one of the table only where its sectors are taken
abbrev pub met_entry : VolumeValue → (page : ℕ) → Entry → Result Entry Refusal
met_entry v page e = if are_taken v e.runs then Ok e else Err (Why.Unsound (home_a v.layout page))

-- nothing is done where it is down
abbrev pub down_fault : Option ℕ → Result (Unit {0}) Refusal
down_fault None = Ok tt
down_fault (Some s) = Err (Why.Down s)
