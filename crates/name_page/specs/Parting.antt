-- What is too much for one page, in two.
use Rattle.std.specs.Prelude.{◌≡◌, ℕ, true, if◌then◌else◌, List, length}
use Rattle.std.specs.List.{flat_map}
use Rattle.std.specs.Ordering.{is_gt, is_lt}
use Rattle.fsd_bytes.specs.declared.key.Key.{Key}
use Rattle.fsd_bytes.specs.Keys.{key_cmp}
use Rattle.fsd_formats.specs.declared.entry.Entry.{Entry}
use Rattle.fsd_formats.specs.declared.page.Separator.{Separator}
use Rattle.fsd_formats.specs.NamePage.{Leaf, Interior, is_page, entry_bytes}
use Rattle.name_page.specs.declared.parting.Fuller.{Fuller}
use Rattle.name_page.specs.declared.parting.Fuller.TheVariants.{Behind, Front, Neither}

-- how many bytes of a page entries take
abbrev pub used_by : List Entry → ℕ
used_by entries = length (flat_map entry_bytes entries)

-- any page may have the one or the other
abbrev pub AreLeaves : List Entry → List Entry → Type 0
AreLeaves front behind = (page : ℕ) → (is_page page 0 (Leaf front) ≡ true) × (is_page page 0 (Leaf behind) ≡ true)

abbrev pub AreInteriors : (p first : ℕ) → List Separator → (second : ℕ) → List Separator → Type 0
AreInteriors p first front second behind = (page : ℕ) → (is_page page p (Interior first front) ≡ true) × (is_page page p (Interior second behind) ≡ true)

-- the part that is to have the most, where a key comes to a leaf that begins and ends so
abbrev pub fuller_by : (first last : Entry) → Key → Fuller
fuller_by first last key = if is_lt (key_cmp last.key key) then Front else if is_gt (key_cmp first.key key) then Behind else Neither
