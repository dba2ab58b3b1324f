-- Places between keys.
use Rattle.std.specs.Prelude.{◌≡◌, Bool, true, false, not, Option, Some, None, ⊤}
use Rattle.std.specs.Ordering.{nat_cmp, is_gt}
use Rattle.std.specs.Cmp.Lexicographic.{slice_cmp}
use Rattle.fsd_bytes.specs.declared.key.Key.{Key}
use Rattle.fsd_bytes.specs.Keys.{key_cmp, key_lt}
use Rattle.fsd_formats.specs.declared.entry.Entry.{Entry}
use Rattle.name_page.specs.declared.cut.Cut.{Cut}
use Rattle.name_page.specs.declared.cut.Cut.TheVariants.{Start, UpTo, Named, End}

-- whether the key stands before the place
abbrev pub is_before : Cut → Key → Bool
is_before Start key = false
is_before (UpTo last) key = not (is_gt (key_cmp key last))
is_before (Named name) key = not (is_gt (slice_cmp nat_cmp key.name name))
is_before End key = true

-- the place behind a key, or before all
abbrev pub after_cut : Option Key → Cut
after_cut None = Start
after_cut (Some key) = UpTo key

-- a key that stands before the place is greater
abbrev pub IsLesser : (Key → Bool) → Entry → Type 0
IsLesser before e = (k : Key) × (before k ≡ true) × (key_lt e.key k ≡ true)

-- the place stands between two keys
abbrev pub AtLow : (Key → Bool) → Option Key → Type 0
AtLow before None = ⊤
AtLow before (Some k) = before k ≡ true

abbrev pub AtHigh : (Key → Bool) → Option Key → Type 0
AtHigh before None = ⊤
AtHigh before (Some k) = before k ≡ false
