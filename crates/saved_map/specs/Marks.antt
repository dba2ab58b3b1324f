-- What is marked in a saved map.
use Rattle.std.specs.Prelude.{◌≡◌, ℕ, Bool, false, List, length, slice_index_or}
use Rattle.volume_layout.specs.declared.layout.Layout.{Layout}
use Rattle.volume_layout.specs.Layout.{data_start, most_of}
use Rattle.fsd_formats.specs.SavedMap.{marks}
use Rattle.run_table.specs.Space.{contains}
use Rattle.sector_set.specs.Area.{Area}

-- the free sectors of the data area are marked, and the first homes of the free pages
abbrev pub is_marked : Layout → (free : List ℕ) → (pages : List Bool) → ℕ → Bool
is_marked l free pages s = marks l (contains free) (λ page. slice_index_or pages page false) s

-- The interval is of the data area, with room for the most sectors that the volume may grow to, and there is a flag for each
-- page.
pub record AreOf (l : Layout) (map : Area) (pages : List Bool) : Type 0 where
  pub from : map.from ≡ data_start l
  pub to : map.to ≡ most_of l
  pub pages_are : length pages ≡ l.pages
