-- The entries of a volume, one after another.
use Rattle.std.specs.Prelude.{◌≡◌, ⊤, ℕ, List, ◌++◌, length, Option, None, option_map}
use Rattle.std.specs.List.{last_or}
use Rattle.fsd_bytes.specs.declared.key.Key.{Key}
use Rattle.fsd_bytes.specs.declared.refusal.Refusal.{Refusal}
use Rattle.fsd_bytes.specs.declared.refusal.Refusal.TheVariants as Why
use Rattle.fsd_formats.specs.declared.entry.Entry.{Entry}

-- the key of the last of these
abbrev pub last_key : List Entry → Option Key
last_key front = option_map (λ e. e.key) (last_or None front)

-- So many first entries were met, in order, the last of them with this key.
pub record IsWalked (entries front : List Entry) (count : ℕ) (last : Option Key) : Type 0 where
  pub rest : List Entry
  pub all : entries ≡ front ++ rest
  pub met : length front ≡ count
  pub ends : last ≡ last_key front

-- a fault from outside
abbrev pub IsFromOutside : Refusal → Type 0
IsFromOutside (Why.Device s) = ⊤
IsFromOutside Why.Memory = ⊤
IsFromOutside other = ⊥
