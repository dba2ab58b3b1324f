-- What a mounted volume has: its files, where they lie, and which sectors wait.
use Rattle.std.specs.Prelude.{ℕ, suc, ◌+◌, ◌-◌, ◌≤◌, Bool, not, ◌&&◌, ◌||◌, List, [], length, map, filter, Option, is_none, nat_le, ◌==◌, if◌then◌else◌}
use Rattle.std.specs.List.{list_any, flat_map}
use Rattle.fsd_bytes.specs.declared.key.Key.{Key}
use Rattle.fsd_bytes.specs.Keys.{same_key}
use Rattle.fsd_bytes.specs.declared.key.Serial.{Serial}
use Rattle.volume_layout.specs.declared.layout.Layout.{Layout}
use Rattle.volume_layout.specs.Layout.{data_start, is_data}
use Rattle.run_table.specs.declared.run.Run.{Run}
use Rattle.fsd_formats.specs.declared.entry.Entry.{Entry}
use Rattle.fsd_files.specs.Files.{Files}
use Rattle.run_table.specs.RunTable.{sectors_of, total}
use Rattle.run_table.specs.Space.{contains, where_free, runs_of, pick}

pub record Volume : Type 0 where
  pub layout : Layout
  pub files : Files
  -- the files' entries in order, which say where they lie
  pub entries : List Entry
  -- sectors of versions that went since the last force
  pub removed : List ℕ
  -- runs of versions that open readers hold, and of unfinished creations
  pub held : List (List Run)
  pub drafts : List (List Run)
  -- how many name pages the table has
  pub reached : ℕ
  -- accepted changes since the last force
  pub unforced : ℕ
  -- the serial that the next creation draws
  pub serial : Serial

abbrev pub plans_of : List Entry → List (List Run)
plans_of entries = map (λ e. e.runs) entries

abbrev pub is_in : List (List Run) → ℕ → Bool
is_in plans s = contains (flat_map sectors_of plans) s

module _ (v : Volume) where
  abbrev pub in_version : ℕ → Bool
  in_version s = is_in (plans_of v.entries) s

  abbrev pub waits : ℕ → Bool
  waits s = not (in_version s) && (contains v.removed s || is_in v.held s || is_in v.drafts s)

  abbrev pub is_free : ℕ → Bool
  is_free s = is_data v.layout s && not (in_version s) && not (waits s)

  abbrev pub free_runs : List Run
  free_runs = runs_of (where_free is_free (data_start v.layout) v.layout.sectors)

  abbrev pub free_count : ℕ
  free_count = total free_runs

  abbrev pub waiting_count : ℕ
  waiting_count = length (where_free waits (data_start v.layout) v.layout.sectors)

  abbrev pub pages_free : ℕ
  pages_free = v.layout.pages - v.reached

  abbrev pub place_for : ℕ → Option (List Run)
  place_for need = pick free_runs need

-- what went before is on the disk as gone
abbrev pub forced : Volume → Volume
forced v = record v { removed = []; unforced = 0 }

-- where a creation finds no place and a removed sector waits, a force comes first
abbrev pub forced_for_place : ℕ → Volume → Volume
forced_for_place need v = if is_none (place_for v need) && not (length v.removed == 0) then forced v else v

-- A volume may force by itself before a change, but only once two changes wait for one. Which changes those are it says
-- for itself: here it is what it chose.
abbrev pub forced_if : Bool → Volume → Volume
forced_if chosen v = if chosen && nat_le 2 v.unforced then forced v else v

-- the table has its root, and no more than a page for each version beside it
pub record HasReach (v : Volume) : Type 0 where
  pub root : 1 ≤ v.reached
  pub most : v.reached ≤ length v.files + 1

-- the next creation's serial is drawn
abbrev pub drawn : Volume → Volume
drawn v = record v { serial = record { epoch = v.serial.epoch; count = suc v.serial.count } }

abbrev pub entries_at : List Key → List Entry → List Entry
entries_at keys entries = filter (λ e. list_any (same_key e.key) keys) entries

abbrev pub entries_without : List Key → List Entry → List Entry
entries_without keys entries = filter (λ e. not (list_any (same_key e.key) keys)) entries
