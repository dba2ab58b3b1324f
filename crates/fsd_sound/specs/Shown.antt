-- What an image shows of a volume with this layout: the pages of the name table, each by its newest image.
use Rattle.std.specs.Prelude.{ℕ, List, [], ◌∷◌, Option, Some, option_map, option_and_then}
use Rattle.std.specs.List.{range_with_len}
use Rattle.std.specs.Option.{option_or}
use Rattle.volume_layout.specs.declared.layout.Layout.{Layout}
use Rattle.fsd_formats.specs.declared.anchor.Anchor.{Anchor}
use Rattle.fsd_log.specs.Scan.{Placed, Walked, scan, tape}
use Rattle.fsd_log.specs.Images.{last_image}
use Rattle.fsd_table.specs.Table.{Telling, told_in}
use Rattle.fsd_files.specs.Disk.{Image, bytes_at}
use Rattle.fsd_sound.specs.Anchors.{anchor_of}
use Rattle.fsd_sound.specs.Homes.{home_of}

-- ---- the log

-- the scan by an anchor
abbrev pub scan_by : Layout → Image → Anchor → Walked
scan_by l i a = scan l a.epoch (tape l a.third (bytes_at i)) a.first

abbrev pub records_by : Layout → Image → Anchor → List Placed
records_by l i a = (scan_by l i a).records

-- ---- the pages

-- the last image in the log, else that at home
abbrev pub newest : Layout → Image → List Placed → ℕ → Option (List ℕ)
newest l i records page = option_or (last_image page records) (home_of l i page)

-- all or none
abbrev pub each_of : {A B : Type 0} → (A → Option B) → List A → Option (List B)
each_of f [] = Some []
each_of f (x ∷ xs) = option_and_then (λ y. option_map (λ ys. y ∷ ys) (each_of f xs)) (f x)

abbrev pub all_pages : Layout → List ℕ
all_pages l = range_with_len 0 l.pages

abbrev pub shown_by : Layout → Image → Anchor → Option (List (List ℕ))
shown_by l i a = each_of (newest l i (records_by l i a)) (all_pages l)

abbrev pub shown : Layout → Image → Option (List (List ℕ))
shown l i = option_and_then (shown_by l i) (anchor_of i)

-- ---- what they tell

-- the entries of the table that the pages are, and how many pages it has; none where they are no table
abbrev pub told : Layout → Image → Option Telling
told l i = option_and_then told_in (shown l i)
