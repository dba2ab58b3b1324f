-- What a page is that a path reaches.
use Rattle.std.specs.Prelude.{◌≡◌, ℕ, true, List, ◌∷◌, Contains, Some}
use Rattle.fsd_formats.specs.declared.entry.Entry.{Entry}
use Rattle.fsd_formats.specs.NamePage.{Leaf}
use Rattle.fsd_table.specs.Pages.{content_fits, entries_of}
use Rattle.fsd_table.specs.Table.{Visit, visits}

-- a path from page 0 reaches a page of which this holds
abbrev pub ReachesPage : (Visit → Type 0) → List (List ℕ) → Type 0
ReachesPage Is pages = (visit : Visit) × Contains (visits pages) visit × Is visit

-- a leaf that keeps within its bounds, and has the entry
pub record HasEntry (e : Entry) (v : Visit) : Type 0 where
  pub there : Contains (entries_of v.content) e
  pub fits : content_fits v.low v.high v.content ≡ true

-- a leaf that keeps within its bounds, which begin where those of another end (or both have none there), and that begins
-- with the entry
pub record BeginsWith (e : Entry) (v w : Visit) : Type 0 where
  pub rest : List Entry
  pub leaf : w.content ≡ Some (Leaf (e ∷ rest))
  pub fits : content_fits w.low w.high w.content ≡ true
  pub beside : w.low ≡ v.high
