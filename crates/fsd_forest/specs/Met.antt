-- The pages that a search meets on the way to a place between keys.
use Rattle.std.specs.Prelude.{ℕ, zero, suc, Bool, true, not, List, [], ◌∷◌, Option, Some, if◌then◌else◌}
use Rattle.std.specs.List.{list_any}
use Rattle.std.specs.Ordering.{nat_cmp, is_gt}
use Rattle.std.specs.Cmp.Lexicographic.{slice_cmp}
use Rattle.fsd_bytes.specs.declared.key.Key.{Key}
use Rattle.fsd_formats.specs.declared.page.Separator.{Separator}
use Rattle.fsd_formats.specs.NamePage.{Content, Leaf, Interior}
use Rattle.fsd_table.specs.Table.{max_height}

-- down from the child at the place; left of it stand the pages along the last children of the child before
abbrev pub met_below : (down : List ℕ → ℕ → List ℕ) (last : ℕ → List ℕ) (before : Key → Bool) (left : List ℕ) → ℕ → List Separator → List ℕ
met_below down last before left first [] = down left first
met_below down last before left first (s ∷ separators) = if before s.key then met_below down last before (last first) s.child separators else down left first

-- a leaf with no entry before the place leads on to what is left of it
abbrev pub met_at : (down : List ℕ → ℕ → List ℕ) (last : ℕ → List ℕ) (before : Key → Bool) (left : List ℕ) → Option Content → List ℕ
met_at down last before left (Some (Leaf entries)) = if list_any (λ e. before e.key) entries then [] else left
met_at down last before left (Some (Interior first separators)) = met_below down last before left first separators
met_at down last before left other = []

-- the pages that the search for the last entry before a place meets from a page on, in so many levels
abbrev pub pages_met : (levels : ℕ) (at : ℕ → Option Content) (before : Key → Bool) (left : List ℕ) → ℕ → List ℕ
pages_met zero at before left page = []
pages_met (suc levels) at before left page = page ∷ met_at (pages_met levels at before) (pages_met levels at (λ key. true) []) before left (at page)

-- the keys of this name and of those before it
abbrev pub is_up_to : (name : List ℕ) → Key → Bool
is_up_to name key = not (is_gt (slice_cmp nat_cmp key.name name))

-- the pages that the search for the highest version of a name meets, by what each page has
abbrev pub search_of : (at : ℕ → Option Content) (name : List ℕ) → List ℕ
search_of at name = pages_met max_height at (is_up_to name) [] 0
