-- Where the log has a page: the page's own sector and its copy.
use Rattle.std.specs.Prelude.{◌≡◌, ◌<◌, ◌≤◌, ℕ, ◌+◌, ◌*◌, List, [], ◌∷◌, length, Option, Some, None, ◌==◌, if◌then◌else◌}
use Rattle.std.specs.Option.{option_or}
use Rattle.volume_layout.specs.Shape.{Shape}
use Rattle.volume_layout.specs.Kinds.{gap_of}
use Rattle.fsd_log.specs.Scan.{Placed, place_of}

-- the page's two sectors among those of these pages, whose images begin at a place and their copies at another
abbrev pub places_in : (page place copy : ℕ) → (pages : List ℕ) → Option (ℕ × ℕ)
places_in page place copy [] = None
places_in page place copy (p ∷ pages) = if p == page then Some (place, copy) else places_in page (place + 1) (copy + 1) pages

abbrev pub places_at : Shape → (third page : ℕ) → Placed → Option (ℕ × ℕ)
places_at l third page r = let place = place_of l third r.at + 3 + gap_of l in places_in page place (place + length r.entry.pages + 1 + gap_of l) r.entry.pages

-- its two sectors in the last record that has it
abbrev pub last_places : Shape → (third page : ℕ) → List Placed → Option (ℕ × ℕ)
last_places l third page [] = None
last_places l third page (r ∷ records) = option_or (last_places l third page records) (places_at l third page r)

-- The sectors are those of one page in a record that lies in the log: its image's and the copy's.
pub record LieInRecord (l : Shape) (a b : ℕ) : Type 0 where
  pub start : ℕ
  pub count : ℕ
  pub index : ℕ
  pub there : index < count
  pub first : a ≡ start + 3 + gap_of l + index
  pub copy : b ≡ start + 3 + gap_of l + count + 1 + gap_of l + index
  pub from : 16 ≤ start
  pub to : start + (2 * count + (5 + 2 * gap_of l)) ≤ 16 + 3 * l.third
