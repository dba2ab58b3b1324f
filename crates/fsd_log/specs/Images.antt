-- A page's last image in the log.
use Rattle.std.specs.Prelude.{ℕ, List, [], ◌∷◌, Option, Some, None, ◌==◌, if◌then◌else◌}
use Rattle.std.specs.Option.{option_or}
use Rattle.fsd_log.specs.Scan.{Placed}

-- the page's image among those of these pages
abbrev pub image_in : ℕ → (pages : List ℕ) → (images : List (List ℕ)) → Option (List ℕ)
image_in page [] images = None
image_in page (p ∷ pages) [] = None
image_in page (p ∷ pages) (image ∷ images) = if p == page then Some image else image_in page pages images

-- its image in the last record that has it
abbrev pub last_image : ℕ → List Placed → Option (List ℕ)
last_image page [] = None
last_image page (r ∷ records) = option_or (last_image page records) (image_in page r.entry.pages r.entry.images)
