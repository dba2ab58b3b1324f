-- The versions of a name among entries in the order of their keys, and what one more does.
use Rattle.std.specs.Prelude.{◌≡◌, ℕ, ◌+◌, ◌-◌, min, ◌&&◌, List, [], ◌∷◌, ◌++◌, length, take, map, filter, Option, Some, None, option_map, ◌==◌, if◌then◌else◌}
use Rattle.fsd_bytes.specs.Bytes.{same_bytes}
use Rattle.fsd_bytes.specs.declared.key.Key.{Key}
use Rattle.fsd_bytes.specs.Keys.{key_lt, key_of}
use Rattle.fsd_formats.specs.declared.entry.Entry.{Entry}
use Rattle.fsd_files.specs.Answers.{highest_entry}
use Rattle.fsd_files.specs.Files.{gone, keep_of, next_version}
use Rattle.name_btree.specs.declared.lookup.FoundEntry.{FoundEntry}

-- the versions of a name, the oldest first
abbrev pub versions_of : List ℕ → List Entry → List Entry
versions_of name table = filter (λ e. same_bytes name e.key.name) table

-- the key of the next version
abbrev pub next_key : List ℕ → List Entry → Key
next_key name table = key_of name (next_version (option_map (λ e. e.key.version) (highest_entry name table)))

-- its keep, where this one is given
abbrev pub next_keep : List ℕ → Option ℕ → List Entry → ℕ
next_keep name given table = keep_of given (option_map (λ e. e.keep) (highest_entry name table))

-- the keys of those that go once it is there
abbrev pub leaving_keys : List ℕ → Option ℕ → List Entry → List Key
leaving_keys name given table = gone (next_keep name given table) (map (λ e. e.key) (versions_of name table) ++ next_key name table ∷ [])

-- ---- met one after another

-- of these versions, the first beyond the keep once there is one more, two at most
abbrev pub oldest_beyond : ℕ → List Entry → List Entry
oldest_beyond keep versions = if keep == 0 then [] else take (min 2 (length versions + 1 - keep)) versions

-- the later versions of a key's name
abbrev pub versions_behind : Key → List Entry → List Entry
versions_behind key table = filter (λ e. same_bytes key.name e.key.name && key_lt key e.key) table

-- the first of them was found, where there is one
abbrev pub IsFirstBehind : Key → List Entry → Option FoundEntry → Type 0
IsFirstBehind key table None = versions_behind key table ≡ []
IsFirstBehind key table (Some f) = versions_behind key table ≡ f.entry ∷ versions_behind f.entry.key table
