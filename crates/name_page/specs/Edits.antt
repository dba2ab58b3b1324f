-- A table that is edited at a key.
use Rattle.std.specs.Prelude.{Bool, List, ◌∷◌, ◌++◌, filter, if◌then◌else◌}
use Rattle.std.specs.declared.cmp.Ordering.{Ordering}
use Rattle.std.specs.Ordering.{is_lt, is_gt}
use Rattle.fsd_bytes.specs.declared.key.Key.{Key}
use Rattle.fsd_bytes.specs.Keys.{key_cmp, same_key}
use Rattle.fsd_formats.specs.declared.entry.Entry.{Entry}
use Rattle.name_page.specs.declared.entries.Side.{Side}
use Rattle.name_page.specs.declared.entries.Side.TheVariants.{Lesser, Greater}

-- what compares so with a key stands on this side of it
abbrev pub has_order : Side → Ordering → Bool
has_order Lesser order = is_lt order
has_order Greater order = is_gt order

abbrev pub is_on : Side → Key → Entry → Bool
is_on side key e = has_order side (key_cmp e.key key)

-- the entries on one side of a key
abbrev pub beside : Side → Key → List Entry → List Entry
beside side key entries = filter (is_on side key) entries

-- a table without a key
abbrev pub without : Key → List Entry → List Entry
without key table = beside Lesser key table ++ beside Greater key table

-- a table with an entry, in place of one with its key
abbrev pub with_entry : Entry → List Entry → List Entry
with_entry entry table = beside Lesser entry.key table ++ entry ∷ beside Greater entry.key table

-- the entry, in place of one with its key
abbrev pub put : Entry → Entry → Entry
put entry old = if same_key old.key entry.key then entry else old
