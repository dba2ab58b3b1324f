-- What holds of a mounted volume and the disk below it, between two calls.
use Rattle.std.specs.Prelude.{◌≡◌, ℕ, ◌+◌, ◌*◌, ◌≤◌, Bool, nat_lt, List, [], ◌∷◌, length, take, Option, Some, IfSome, IsTrue, IsFalse, slice_index_or}
use Rattle.std.specs.List.{AllZip}
use Rattle.volume_layout.specs.declared.layout.Layout.{Layout}
use Rattle.volume_layout.specs.Layout.{map_start}
use Rattle.run_table.specs.Space.{contains}
use Rattle.sector_disk.specs.declared.sector.WeakRun.{WeakRun}
use Rattle.sector_disk.specs.Image.{sector_at}
use Rattle.fsd_formats.specs.declared.anchor.Anchor.{Anchor}
use Rattle.fsd_log.specs.Scan.{Placed, Head}
use Rattle.fsd_table.specs.Table.{Telling, told_in}
use Rattle.fsd_files.specs.Disk.{Image, Sectors, SectorWorn, Has, in_runs}
use Rattle.fsd_files.specs.Files.{Change, after}
use Rattle.fsd_files.specs.Kept.{Describes, KeptIn, data_sectors}
use Rattle.fsd_files.specs.Volume.{Volume, plans_of, is_in, is_free, forced as with_none_unforced}
use Rattle.fsd_files.specs.Waiting.{IsSpaced, Changes, is_leader, is_let_go}
use Rattle.fsd_sound.specs.Laid.{HasOwnLog}
use Rattle.fsd_sound.specs.Sound.{ShowsPages, weak_of}

-- the image of a page
abbrev pub image_at : List (List ℕ) → ℕ → List ℕ
image_at pages page = slice_index_or pages page []

-- Two lists of pages are the same but for these.
pub record AgreeOutside (dirty : List ℕ) (a b : List (List ℕ)) : Type 0 where
  pub size : length a ≡ length b
  pub each : (page : ℕ) → IsFalse (contains dirty page) → image_at a page ≡ image_at b page

-- What a volume has in memory: the newest images of its table's pages, those that wait for a force, and where its log
-- ends. Of each draft the slices that were written, one place for each data sector; of each held version its bytes.
pub record Mounted : Type 0 where
  pub volume : Volume
  pub pages : List (List ℕ)
  pub dirty : List ℕ
  pub anchor : Anchor
  pub head : Head
  pub slices : List (List (Option (List ℕ)))
  pub bytes : List (List ℕ)

-- One change changes no more pages than this.
abbrev pub most_changed : ℕ
most_changed = 40

-- A volume forces by itself where more than so many pages wait.
abbrev pub most_waiting : ℕ
most_waiting = 56

abbrev pub forces_by_itself : Mounted → Bool
forces_by_itself m = nat_lt most_waiting (length m.dirty)

-- what the volume's own table tells
abbrev pub telling_of : Volume → Telling
telling_of v = record { entries = v.entries; reached = v.reached }

-- The disk shows these pages, the log is the volume's own,
-- and the pages in memory are those of the disk but for the ones that wait.
pub record StandsOver (l : Layout) (anchor : Anchor) (head : Head) (records : List Placed) (disk pages : List (List ℕ)) (dirty : List ℕ) (windows : List WeakRun) (i : Image) : Type 0 where
  pub shows : ShowsPages l windows (disk ∷ []) i
  pub own : HasOwnLog l anchor records head (weak_of windows) i
  pub clean : AgreeOutside dirty disk pages

-- The table on the disk is that of the forced changes.
-- Nothing of it is let go, and a leader of the volume lies in it only as a leader.
pub record HasForced (v : Volume) (windows : List WeakRun) (h : List Change) (f : ℕ) (i : Image) (disk : List (List ℕ)) : Type 0 where
  pub telling : Telling
  pub told : told_in disk ≡ Some telling
  pub described : Describes v.layout (in_runs windows) i (after (take f h)) telling.entries
  pub taken : (s : ℕ) → IsTrue (is_in (plans_of telling.entries) s) → IsFalse (is_let_go v s)
  pub leaders : (s : ℕ) → IsTrue (is_in (plans_of telling.entries) s) → IsTrue (is_leader v.entries s) → IsTrue (is_leader telling.entries s)

-- a slice that was written stands in its sector
abbrev pub Wrote : Sectors → Image → Option (List ℕ) → ℕ → Type 0
Wrote hurt i slice s = IfSome slice (λ bytes. Has hurt i bytes s)

-- What is written of the drafts stands, and so do the held versions.
pub record HasOpen (hurt : Sectors) (i : Image) (m : Mounted) : Type 0 where
  pub drafts : AllZip (λ slices runs. AllZip (Wrote hurt i) slices (data_sectors runs)) m.slices m.volume.drafts
  pub held : AllZip (KeptIn i hurt) m.bytes m.volume.held

-- The volume over this disk, after these changes, the first f of them forced.
pub record IsMounted (m : Mounted) (windows : List WeakRun) (h : List Change) (f : ℕ) (i : Image) : Type 0 where
  pub files : m.volume.files ≡ after h
  pub described : Describes m.volume.layout (in_runs windows) i m.volume.files m.volume.entries
  pub count : f + m.volume.unforced ≡ length h
  pub few : length m.dirty ≤ most_changed * m.volume.unforced
  pub epoch : m.volume.serial.epoch ≡ m.anchor.epoch
  pub third : m.anchor.third ≤ 2
  pub room : map_start m.volume.layout ≤ m.volume.layout.sectors
  pub in_memory : told_in m.pages ≡ Some (telling_of m.volume)
  pub spaced : IsSpaced m.volume
  pub open_ones : HasOpen (in_runs windows) i m
  pub disk : List (List ℕ)
  pub records : List Placed
  pub over : StandsOver m.volume.layout m.anchor m.head records disk m.pages m.dirty windows i
  pub forced : HasForced m.volume windows h f i disk

-- ---- what the calls of a volume do to it

-- the images agree but on free sectors
abbrev pub SameTaken : Volume → Image → Image → Type 0
SameTaken v i j = (s : ℕ) → IsFalse (is_free v s) → sector_at j s ≡ sector_at i s

-- the images agree on all that is not let go
abbrev pub SameStays : Volume → Image → Image → Type 0
SameStays v i j = (s : ℕ) → IsFalse (is_let_go v s) → sector_at j s ≡ sector_at i s

-- the images agree behind the map's start, but for wear
abbrev pub SameData : Layout → Sectors → Image → Image → Type 0
SameData l hurt i j = (s : ℕ) → map_start l ≤ s → SectorWorn (hurt s) (sector_at i s) (sector_at j s)

-- The later one has that change in memory: its pages tell its table, and each page that differs waits.
pub record ChangesTo (h : List Change) (windows : List WeakRun) (i : Image) (old new : Mounted) : Type 0 where
  pub volume : Changes old.volume new.volume
  pub anchor : new.anchor ≡ old.anchor
  pub head : new.head ≡ old.head
  pub files : new.volume.files ≡ after h
  pub described : Describes old.volume.layout (in_runs windows) i new.volume.files new.volume.entries
  pub told : told_in new.pages ≡ Some (telling_of new.volume)
  pub open_ones : HasOpen (in_runs windows) i new
  pub still : (page : ℕ) → IsFalse (contains new.dirty page) → IsFalse (contains old.dirty page)
  pub few : length new.dirty ≤ length old.dirty + most_changed
  pub clean : AgreeOutside new.dirty old.pages new.pages

-- the volume behind a force: nothing waits for one, and the anchor may have moved on
abbrev pub with_forced : Mounted → List (List ℕ) → Anchor → Head → Mounted
with_forced m now anchor head = record m { volume = with_none_unforced m.volume; pages = now; dirty = []; anchor = anchor; head = head }

-- The anchor that a force leaves is of the same epoch.
pub record IsSameEpoch (old new : Anchor) : Type 0 where
  pub epoch : new.epoch ≡ old.epoch
  pub third : new.third ≤ 2

-- The volume is what the pages in memory tell, and nothing waits.
pub record IsFreshlyMounted (h : List Change) (windows : List WeakRun) (i : Image) (m : Mounted) : Type 0 where
  pub records : List Placed
  pub over : StandsOver m.volume.layout m.anchor m.head records m.pages m.pages m.dirty windows i
  pub clean : m.dirty ≡ []
  pub told : told_in m.pages ≡ Some (telling_of m.volume)
  pub files : m.volume.files ≡ after h
  pub described : Describes m.volume.layout (in_runs windows) i m.volume.files m.volume.entries
  pub removed : m.volume.removed ≡ []
  pub held : m.volume.held ≡ []
  pub drafts : m.volume.drafts ≡ []
  pub slices : m.slices ≡ []
  pub bytes : m.bytes ≡ []
  pub unforced : m.volume.unforced ≡ 0
  pub epoch : m.volume.serial.epoch ≡ m.anchor.epoch
  pub third : m.anchor.third ≤ 2
  pub room : map_start m.volume.layout ≤ m.volume.layout.sectors
