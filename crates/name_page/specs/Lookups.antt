-- What is looked up among entries.
use Rattle.std.specs.Prelude.{ℕ, Bool, true, List, [], ◌∷◌, Option, Some, None, find, if◌then◌else◌}
use Rattle.std.specs.Option.{option_or}
use Rattle.std.specs.Ordering.{nat_cmp, eq_by_cmp}
use Rattle.std.specs.Cmp.Lexicographic.{slice_cmp}
use Rattle.fsd_bytes.specs.declared.key.Key.{Key}
use Rattle.fsd_bytes.specs.Keys.{key_lt, same_key}
use Rattle.fsd_formats.specs.declared.entry.Entry.{Entry}

abbrev pub entry_with : Key → List Entry → Option Entry
entry_with key entries = find (λ e. same_key e.key key) entries

-- the last entry that passes
abbrev pub last_that : (Entry → Bool) → List Entry → Option Entry
last_that test [] = None
last_that test (e ∷ entries) = option_or (last_that test entries) (if test e then Some e else None)

abbrev pub same_name : List ℕ → List ℕ → Bool
same_name = eq_by_cmp (slice_cmp nat_cmp)

-- the highest version of a name, where keys ascend
abbrev pub highest_of : List ℕ → List Entry → Option Entry
highest_of name entries = last_that (λ e. same_name e.key.name name) entries

-- any key is after none
abbrev pub is_after : Option Key → Key → Bool
is_after None key = true
is_after (Some before) key = key_lt before key

-- the least later key, where keys ascend
abbrev pub first_after : Option Key → List Entry → Option Entry
first_after before entries = find (λ e. is_after before e.key) entries
