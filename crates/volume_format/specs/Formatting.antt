-- A new image, and what a format makes of it.
use Rattle.std.specs.Prelude.{◌≡◌, ◌≤◌, ℕ, ◌+◌, ◌||◌, ◌==◌, List, [], ◌∷◌, Some, None, IsFalse, slice_index_or, if◌then◌else◌}
use Rattle.fsd_bytes.specs.Bytes.{sector}
use Rattle.volume_layout.specs.declared.layout.Layout.{Layout}
use Rattle.volume_layout.specs.Kinds.{longest_of}
use Rattle.volume_layout.specs.Layout.{home_a, home_b}
use Rattle.volume_layout.specs.Root.{root_bytes}
use Rattle.fsd_formats.specs.Anchors.{anchor_bytes}
use Rattle.sector_disk.specs.declared.sector.Sector.{Sector}
use Rattle.sector_disk.specs.declared.sector.Sector.TheVariants.{Whole, Damaged}
use Rattle.sector_disk.specs.declared.sector.WeakRun.{WeakRun}
use Rattle.sector_disk.specs.Image.{in_weak_run, lay, open_damage, sector_at}
use Rattle.sector_disk.specs.Machine.{Moment}
use Rattle.fsd_files.specs.Disk.{Sectors, SectorWorn}
use Rattle.version_data.specs.Writing.{lay_at}
use Rattle.fsd_sound.specs.Format.{IsFormattedIn, format_page, format_anchor}

-- ---- the image

-- No sector is whole, and no window was opened.
pub record IsNewImage (moment : Moment) : Type 0 where
  pub damaged : (s : ℕ) → sector_at moment.image s ≡ Damaged
  pub windows : moment.windows ≡ record { present = None; next = None }

-- An empty volume stands, in a window of its own, whose run the volume bears.
pub record Formats (l : Layout) (old new : Moment) : Type 0 where
  pub run : WeakRun
  pub short : run.count ≤ longest_of l.kind
  pub formatted : IsFormattedIn l run new.image
  pub windows : new.windows ≡ record { present = Some run; next = None }
  pub said : new.said ≡ old.said

-- ---- what is written

-- the places in front of the log, in the order in which they are written
abbrev pub head_places : List ℕ
head_places = 1 ∷ 2 ∷ 3 ∷ 5 ∷ 6 ∷ 7 ∷ 9 ∷ 10 ∷ 11 ∷ 13 ∷ 14 ∷ 15 ∷ 8 ∷ 12 ∷ 4 ∷ 0 ∷ []

-- what stands there: the roots, the anchors, and zeros between them
abbrev pub head_sector : Layout → ℕ → List ℕ
head_sector l s = if s == 0 || s == 4 then root_bytes l else (if s == 8 || s == 12 then anchor_bytes format_anchor else sector [])

abbrev pub head_place : ℕ → ℕ
head_place k = slice_index_or head_places k 0

-- so many of these sectors, the roots last
abbrev pub head_to : Layout → List Sector → ℕ → List Sector
head_to l image count = lay_at image head_place (λ k. head_sector l (head_place k)) count

abbrev pub with_head : Layout → List Sector → List Sector
with_head l image = head_to l image 16

-- so many name pages from a place on
abbrev pub with_pages : List Sector → (first pages : ℕ) → List Sector
with_pages image first pages = lay image first (λ page. Whole (format_page page)) pages

abbrev pub with_volume : Layout → List Sector → List Sector
with_volume l image = with_head l (with_pages (with_pages image (home_a l 0) l.pages) (home_b l 0) l.pages)

-- ---- where, and how much

-- so many sectors that follow each other
abbrev pub row : (first count : ℕ) → Sectors
row first count = in_weak_run (record { first = first; count = count })

-- the sectors in front of the log, and both homes of each name page
abbrev pub format_writes : Layout → Sectors
format_writes l s = row 0 16 s || row (home_a l 0) l.pages s || row (home_b l 0) l.pages s

abbrev pub format_count : Layout → ℕ
format_count l = l.pages + l.pages + 16

-- The other sectors stay, but for wear in the windows of before and of now.
abbrev pub KeepsOthers : Sectors → Moment → Moment → Type 0
KeepsOthers may old new = (s : ℕ) → IsFalse (may s) → SectorWorn (open_damage old.windows s || open_damage new.windows s) (sector_at old.image s) (sector_at new.image s)
