-- A list on its way.
use Rattle.std.specs.Prelude.{◌≡◌, ℕ, List, ◌++◌, length, filter, Option}
use Rattle.fsd_bytes.specs.declared.key.Key.{Key}
use Rattle.fsd_bytes.specs.declared.pattern.Pattern.{Pattern}
use Rattle.fsd_bytes.specs.Keys.{fits}
use Rattle.fsd_formats.specs.declared.entry.Entry.{Entry}
use Rattle.scrub.specs.Walk.{last_key}

abbrev pub fitting : Pattern → List Entry → List Entry
fitting pattern entries = filter (λ e. fits pattern e.key.name) entries

-- So many of the entries were met in order, the last of them with this key, and those that fit are listed.
pub record AreListed (pattern : Pattern) (entries : List Entry) (count : ℕ) (last : Option Key) (listed : List Entry) : Type 0 where
  pub front : List Entry
  pub rest : List Entry
  pub all : entries ≡ front ++ rest
  pub met : length front ≡ count
  pub ends : last ≡ last_key front
  pub fit : listed ≡ fitting pattern front
