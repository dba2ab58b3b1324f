-- What the pages of a table have.
use Rattle.std.specs.Prelude.{ℕ, Bool, true, false, not, ◌&&◌, List, [], ◌∷◌, length, map, Option, Some, None, slice_get, option_and_then}
use Rattle.std.specs.List.{list_all}
use Rattle.fsd_bytes.specs.declared.key.Key.{Key}
use Rattle.fsd_bytes.specs.Keys.{key_lt}
use Rattle.fsd_formats.specs.declared.entry.Entry.{Entry}
use Rattle.fsd_formats.specs.declared.page.Separator.{Separator}
use Rattle.fsd_formats.specs.NamePage.{Content, Leaf, Interior, read_page}
use Rattle.fsd_table.specs.declared.child.Child.{Child}

-- what a page has: None where the grammar refuses it
unfoldable pub page_at : List (List ℕ) → ℕ → Option Content
page_at images page = option_and_then (read_page page (length images)) (slice_get images page)

-- the first child stands below the first separator, each other one from its separator on
abbrev pub children : ℕ → Option Key → Option Key → List Separator → List Child
children first low high [] = record { page = first; low = low; high = high } ∷ []
children first low high (s ∷ separators) = record { page = first; low = low; high = Some s.key } ∷ children s.child (Some s.key) high separators

abbrev pub children_of : Option Key → Option Key → Option Content → List Child
children_of low high (Some (Interior first separators)) = children first low high separators
children_of low high other = []

abbrev pub entries_of : Option Content → List Entry
entries_of (Some (Leaf entries)) = entries
entries_of other = []

-- ---- keys between two others

abbrev pub not_below : Option Key → Key → Bool
not_below None key = true
not_below (Some low) key = not (key_lt key low)

abbrev pub below : Option Key → Key → Bool
below None key = true
below (Some high) key = key_lt key high

abbrev pub keys_fit : (low high : Option Key) → List Key → Bool
keys_fit low high keys = list_all (λ key. not_below low key && below high key) keys

abbrev pub entry_keys : List Entry → List Key
entry_keys entries = map (λ e. e.key) entries

abbrev pub separator_keys : List Separator → List Key
separator_keys separators = map (λ s. s.key) separators

abbrev pub content_fits : (low high : Option Key) → Option Content → Bool
content_fits low high (Some (Leaf entries)) = keys_fit low high (entry_keys entries)
content_fits low high (Some (Interior first separators)) = keys_fit low high (separator_keys separators)
content_fits low high other = false
