-- What a force makes of the pages, the log and the disk.
use Rattle.std.specs.Prelude.{◌≡◌, ◌⊎◌, ℕ, ◌+◌, ◌≤◌, ◌<◌, List, [], ◌∷◌, length}
use Rattle.volume_layout.specs.declared.layout.Layout.{Layout}
use Rattle.volume_layout.specs.Layout.{home_a, home_b, map_start, InLog}
use Rattle.volume_layout.specs.Kinds.{gap_of}
use Rattle.sector_disk.specs.declared.sector.WeakRun.{WeakRun}
use Rattle.sector_disk.specs.Image.{open_damage, sector_at}
use Rattle.sector_disk.specs.Machine.{Moment}
use Rattle.fsd_formats.specs.Record.{record_len}
use Rattle.fsd_log.specs.Scan.{Placed}
use Rattle.fsd_files.specs.Disk.{Image, SectorWorn}
use Rattle.fsd_sound.specs.Mounted.{StandsOver as Over}
use Rattle.fsd_sound.specs.Saved.{IsOpen}
use Rattle.fsd_sound.specs.Sound.{ShowsPages}
use Rattle.log_thirds.specs.LogValue.{LogValue}
use Rattle.log_thirds.specs.Append.{stamp_now, log_with}
use Rattle.group_commit.specs.Resident.{ResidentValue, stamped}
use Rattle.group_commit.specs.Room.{log_before, sectors_before}

-- how many sectors are written: none where no page waits; else those before the record, and the record's
abbrev pub sectors_written : LogValue → (dirty : List ℕ) → ℕ
sectors_written log [] = 0
sectors_written log (page ∷ more) = sectors_before log (length (page ∷ more)) + record_len (gap_of log.layout) (length (page ∷ more))

-- the pages with those that wait stamped
abbrev pub stamped_by : LogValue → ResidentValue → List (List ℕ)
stamped_by log s = stamped (stamp_now log) s.dirty s.pages

-- the log with the record behind what it goes behind, if there is one
abbrev pub log_forced : LogValue → List ℕ → LogValue
log_forced log [] = log
log_forced log (page ∷ more) = log_with (log_before log (length (page ∷ more))) (page ∷ more)

-- The disk shows these pages, the log is its own, and the pages in memory are those of
-- the disk but for the ones that wait.
abbrev pub StandsOverDisk : LogValue → (records : List Placed) → (disk : List (List ℕ)) → ResidentValue → List WeakRun → Image → Type 0
StandsOverDisk log records disk s windows i = Over log.layout log.anchor log.head records disk s.pages s.dirty windows i

-- The map and the data area stay but for wear.
abbrev pub KeepsData : Layout → Moment → Moment → Type 0
KeepsData l old left = (s : ℕ) → map_start l ≤ s → SectorWorn (open_damage old.windows s) (sector_at old.image s) (sector_at left.image s)

-- the sector is a home of a page
abbrev pub IsSomeHome : Layout → ℕ → Type 0
IsSomeHome l s = (page : ℕ) × (page < l.pages) × ((s ≡ home_a l page) ⊎ (s ≡ home_b l page))

-- what a force may write: the log, the anchors and the homes
abbrev pub MayWrite : Layout → ℕ → Type 0
MayWrite l s = InLog l s ⊎ (((s ≡ 8) ⊎ (s ≡ 12)) ⊎ IsSomeHome l s)

-- All other sectors stay but for wear: the roots, the map and the data. There are as many as before.
pub record KeepsOutside (l : Layout) (old left : Moment) : Type 0 where
  pub size : length left.image ≡ length old.image
  pub others : (s : ℕ) → (MayWrite l s → ⊥) → SectorWorn (open_damage old.windows s) (sector_at old.image s) (sector_at left.image s)

-- At each moment the disk shows the pages as they were or as they are now, and only log, anchors and homes change. No
-- anchor says that its volume was closed.
pub record Commits (l : Layout) (runs : List WeakRun) (disk now : List (List ℕ)) (old left : Moment) : Type 0 where
  pub shows : ShowsPages l runs (disk ∷ now ∷ []) left.image
  pub kept : KeepsData l old left
  pub outside : KeepsOutside l old left
  pub opened : IsOpen left.image
  pub windows : left.windows ≡ old.windows
  pub said : left.said ≡ old.said

-- At the end it shows those that are in memory, and none waits.
pub record Committed (log : LogValue) (s : ResidentValue) (windows : List WeakRun) (i : Image) : Type 0 where
  pub records : List Placed
  pub stands : StandsOverDisk log records s.pages s windows i
