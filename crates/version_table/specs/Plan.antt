-- What making a version is to do.
use Rattle.std.specs.Prelude.{◌≡◌, ◌≤◌, ℕ, List, Option, Some, None, map}
use Rattle.std.specs.List.{AllByRecursion}
use Rattle.fsd_bytes.specs.declared.key.Key.{Key}
use Rattle.fsd_bytes.specs.declared.key.Serial.{Serial}
use Rattle.run_table.specs.declared.run.Run.{Run}
use Rattle.fsd_formats.specs.declared.entry.Entry.{Entry}
use Rattle.fsd_files.specs.Answers.{entry_of, entry_put}
use Rattle.fsd_files.specs.Volume.{entries_at, entries_without}
use Rattle.version_table.specs.declared.oldest.Leaving.{Leaving}
use Rattle.version_table.specs.declared.planning.Plan.{Plan}
use Rattle.name_page.specs.declared.pages.Pages.{Ghosts}
use Rattle.version_table.specs.Met.{IsMetBetween, entries_left}
use Rattle.version_table.specs.Versions.{leaving_keys, next_keep, next_key}

abbrev pub key_left : Leaving → Key
key_left g = g.entry.key

abbrev pub keys_left : Plan → List Key
keys_left plan = map key_left plan.gone.items

-- by the definitions, of a name in a table
pub record IsPlan (name : List ℕ) (given : Option ℕ) (table : List Entry) (plan : Plan) : Type 0 where
  pub key : plan.key ≡ next_key name table
  pub keep : plan.keep ≡ next_keep name given table
  pub keys : keys_left plan ≡ leaving_keys name given table
  pub entries : entries_left plan.gone.items ≡ entries_at (keys_left plan) table

-- over any pages: a version of the name, which is numbered from 1 on, and what goes was met in its leaf
pub record IsFormedPlan {D : Type 0} (P : Ghosts D) (name : List ℕ) (old new : D) (plan : Plan) : Type 0 where
  pub named : plan.key.name ≡ name
  pub version : 1 ≤ plan.key.version
  pub keep : plan.keep ≤ 999
  pub met : AllByRecursion (IsMetBetween P name old new) plan.gone.items

-- the key is new, and what goes is there
pub record IsPlanReady (plan : Plan) (table : List Entry) : Type 0 where
  pub fresh : entry_of plan.key table ≡ None
  pub there : AllByRecursion (λ g. entry_of g.entry.key table ≡ Some g.entry) plan.gone.items

-- the entry of the version
abbrev pub planned_entry : Plan → Serial → ℕ → List Run → Entry
planned_entry plan serial length runs = record { key = plan.key; keep = plan.keep; serial = serial; length = length; runs = runs }

-- the entries once it is there
abbrev pub with_planned : Plan → Entry → List Entry → List Entry
with_planned plan e table = entries_without (keys_left plan) (entry_put e table)
