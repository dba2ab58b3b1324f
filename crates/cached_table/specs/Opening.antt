-- What a mount has of a name table once it is opened: surveyed as it stands at home, or by its saved map.
use Rattle.std.specs.Prelude.{◌≡◌, ⊤, ◌<◌, ◌+◌, ℕ, false, not, List, [], Some, length, replicate, slice_index_or, count_by}
use Rattle.volume_layout.specs.declared.layout.Layout.{Layout}
use Rattle.page_cache.specs.Cache.{cached_bytes, no_pages, pins_of}
use Rattle.table_pages.specs.Kept.{images_given}
use Rattle.fsd_table.specs.Breaks.{Breaks, BreaksAt}
use Rattle.fsd_table.specs.Table.{Telling, told_in}
use Rattle.fsd_files.specs.Disk.{Image}
use Rattle.fsd_files.specs.Space.{Apart}
use Rattle.fsd_files.specs.Volume.{is_in, plans_of}
use Rattle.fsd_sound.specs.Mounted.{image_at}
pub use Rattle.fsd_sound.specs.Saved.{is_reached}
use Rattle.fsd_sound.specs.declared.fault.MountFault.{MountFault}
use Rattle.fsd_sound.specs.declared.fault.MountFault.TheVariants.{Device, Lost, Memory, Unsound}
use Rattle.cached_table.specs.Homes.{home_by}
use Rattle.table_survey.specs.Claims.{IsOfData, data_area, whole_area}
use Rattle.saved_map.specs.declared.believing.SavedMap.{SavedMap}
use Rattle.cached_table.specs.declared.opening.Opened.{Opened}
use Rattle.cached_table.specs.declared.opening.Room.{Room}

-- so many pages are in memory at most
abbrev pub frames : ℕ
frames = 256

-- the pages that stand at home
abbrev pub home_pages : Layout → Image → List (List ℕ)
home_pages l i = images_given (home_by l i) l.pages

-- ---- over any machine

-- No page is in memory, free or marked, and the whole data area is free.
pub record IsRoomFor (l : Layout) (room : Room) : Type 0 where
  pub cache : room.cache ≡ no_pages frames
  pub free_pages : room.free_pages ≡ replicate l.pages false
  pub map : room.map ≡ whole_area l
  pub marks : room.marks.items ≡ replicate l.pages false

-- No page is changed or pinned. The map is of the data area, and each page is free or not.
pub record IsOpened (l : Layout) (o : Opened) : Type 0 where
  pub frames_are : o.cache.frames ≡ frames
  pub dirty : o.cache.dirty ≡ []
  pub unpinned : (page : ℕ) → pins_of o.cache page ≡ 0
  pub pages : length o.free_pages ≡ l.pages
  pub map : IsOfData l o.map

-- by its saved map: no page is in memory, and free are the sectors and the pages that the map marks
abbrev pub opened_by : SavedMap → Opened
opened_by saved = record { cache = no_pages frames; free_pages = saved.free_pages.items; map = saved.map; versions = saved.versions }

-- why a table isn't opened
abbrev pub IsOpenFault : MountFault → Type 0
IsOpenFault (Device s) = ⊤
IsOpenFault (Lost a b) = ⊤
IsOpenFault (Unsound s) = ⊤
IsOpenFault Memory = ⊤
IsOpenFault fault = ⊥

-- ---- where the pages are known

-- These pages are a table that nothing breaks: its versions are counted, only their sectors are taken, and only pages
-- that it doesn't reach are free. Each page in memory is one of them.
pub record IsTableOf (l : Layout) (pages : List (List ℕ)) (o : Opened) : Type 0 where
  pub telling : Telling
  pub told : told_in pages ≡ Some telling
  pub whole : (page : ℕ) → Breaks l pages page → ⊥
  pub versions : length telling.entries ≡ o.versions
  pub apart : Apart l (plans_of telling.entries)
  pub map : o.map ≡ data_area l (λ s. not (is_in (plans_of telling.entries) s))
  pub free_pages : (page : ℕ) → page < l.pages → slice_index_or o.free_pages page false ≡ not (is_reached pages page)
  pub spare : count_by (λ free. free) o.free_pages + telling.reached ≡ l.pages
  pub inside : (page : ℕ) (bytes : List ℕ) → cached_bytes o.cache page ≡ Some bytes → page < l.pages
  pub memory : (page : ℕ) (bytes : List ℕ) → cached_bytes o.cache page ≡ Some bytes → image_at pages page ≡ bytes

-- the disk or memory failed, or a page breaks them
abbrev pub IsNoTable : Layout → List (List ℕ) → MountFault → Type 0
IsNoTable l pages (Device s) = ⊤
IsNoTable l pages Memory = ⊤
IsNoTable l pages (Unsound s) = BreaksAt l pages s
IsNoTable l pages fault = ⊥
