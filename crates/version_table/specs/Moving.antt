-- What moving a version to another name is to do.
use Rattle.std.specs.Prelude.{◌≡◌, ◌≤◌, ℕ, ◌∷◌, ◌++◌, [], List, Some, map, option_map, take, unwrap_or, if◌then◌else◌}
use Rattle.std.specs.List.{AllByRecursion}
use Rattle.fsd_bytes.specs.declared.key.Key.{Key}
use Rattle.fsd_bytes.specs.Keys.{same_key}
use Rattle.fsd_formats.specs.declared.entry.Entry.{Entry}
use Rattle.fsd_files.specs.Answers.{entry_of, highest_entry}
use Rattle.fsd_files.specs.Files.{moved_out}
use Rattle.fsd_files.specs.Volume.{entries_at, entries_without}
use Rattle.version_table.specs.declared.oldest.Leaving.{Leaving}
use Rattle.version_table.specs.declared.planning.Plan.{Plan}
use Rattle.name_page.specs.declared.pages.Pages.{Ghosts}
use Rattle.name_page.specs.Lookups.{same_name}
use Rattle.version_table.specs.Met.{IsMetBetween, entries_left}
use Rattle.version_table.specs.Versions.{next_key, versions_of}

-- the keep of the name's highest version, or its own
abbrev pub keep_moved : List ℕ → (own : ℕ) → List Entry → ℕ
keep_moved name own table = unwrap_or (option_map (λ e. e.keep) (highest_entry name table)) own

-- the keys of the name's versions that go by the keep once the version of this key is its next one
abbrev pub leaving_by_move : Key → List ℕ → (own : ℕ) → List Entry → List Key
leaving_by_move key name own table = moved_out (keep_moved name own table) (map (λ e. e.key) (versions_of name (entries_without (key ∷ []) table)) ++ next_key name table ∷ [])

-- By the definitions, of a version in a table: first it goes under its key, then what the keep of the name lets go.
pub record IsMovePlan (key : Key) (name : List ℕ) (table : List Entry) (plan : Plan) : Type 0 where
  pub entry : Entry
  pub others : List Leaving
  pub page : ℕ
  pub there : entry_of key table ≡ Some entry
  pub goes : plan.gone.items ≡ record { entry = entry; page = page } ∷ others
  pub key_is : plan.key ≡ next_key name table
  pub keep_is : plan.keep ≡ keep_moved name entry.keep table
  pub keys : map (λ g. g.entry.key) others ≡ leaving_by_move key name entry.keep table
  pub entries : entries_left others ≡ entries_at (leaving_by_move key name entry.keep table) table

-- over any pages: a version of the name, which is numbered from 1 on; first the version of the key goes, which was met in
-- its leaf, as those of the name were that go
pub record IsFormedMove {D : Type 0} (P : Ghosts D) (key : Key) (name : List ℕ) (old new : D) (plan : Plan) : Type 0 where
  pub named : plan.key.name ≡ name
  pub version : 1 ≤ plan.key.version
  pub keep : plan.keep ≤ 999
  pub moved : Leaving
  pub others : List Leaving
  pub goes : plan.gone.items ≡ moved ∷ others
  pub of_key : moved.entry.key ≡ key
  pub met : IsMetBetween P key.name old new moved
  pub met_others : AllByRecursion (IsMetBetween P name old new) others

-- ---- met one after another

-- of two that go, the first but the one of this key
abbrev pub other_of : Key → List Leaving → List Leaving
other_of key (a ∷ b ∷ rest) = if same_key a.entry.key key then b ∷ [] else a ∷ []
other_of key fewer = []

-- of those of a name that go once there is one more, the one that goes where the version of this key comes: among its own
-- name's there is none more then
abbrev pub leaving_beside : Key → List ℕ → List Leaving → List Leaving
leaving_beside key name oldest = if same_name key.name name then other_of key oldest else take 1 oldest
