-- A volume by its parts, and what holds of them over any machine.
use Rattle.std.specs.Prelude.{◌≡◌, ◌⊎◌, ℕ, ◌<◌, ◌-◌, ◌^◌, Bool, ◌||◌, List, [], Option, None, length, IsTrue, IsFalse}
use Rattle.volume_layout.specs.declared.layout.Layout.{Layout}
use Rattle.volume_layout.specs.Layout.{IsPlanned}
use Rattle.run_table.specs.Space.{contains}
use Rattle.fsd_bytes.specs.declared.key.Serial.{Serial}
use Rattle.sector_set.specs.Area.{Area}
use Rattle.shadow_frees.specs.Readers.{is_held}
use Rattle.shadow_frees.specs.Waits.{Waits, waits_in}
use Rattle.group_commit.specs.Cached.{AreWaiting}
use Rattle.log_thirds.specs.LogValue.{LogValue}
use Rattle.page_cache.specs.Cache.{CacheValue, pins_of}
use Rattle.table_survey.specs.Claims.{IsOfData}
use Rattle.cached_table.specs.Opening.{frames}

-- The layout, the free sectors, those that wait, the log, the pages in memory, a flag for each page whether it is free,
-- the serial that the next creation draws, the number of versions, and the place of the force that failed.
pub record VolumeValue : Type 0 where
  pub layout : Layout
  pub map : Area
  pub shadow : Waits
  pub log : LogValue
  pub cache : CacheValue
  pub free_pages : List Bool
  pub serial : Serial
  pub versions : ℕ
  pub down : Option ℕ

-- No sector waits twice, what is kept is kept for a reader, and eight readers at most hold a version each.
pub record WaitsOnce (w : Waits) : Type 0 where
  pub removed : (s : ℕ) → IsTrue (contains w.removed.sectors s) → IsFalse (contains w.kept.sectors s || contains w.unfinished.sectors s)
  pub kept : (s : ℕ) → IsTrue (contains w.kept.sectors s) → IsFalse (contains w.unfinished.sectors s)
  pub readers : (s : ℕ) → IsTrue (contains w.kept.sectors s) → IsTrue (is_held w.held s)
  pub slots : length w.held ≡ 8

-- The layout is one that is planned. The map and the shadow are of the data area, no free sector waits, and none waits
-- twice; the log is the layout's, in the epoch of the serials; each name page is free or not, and none is pinned. Where it is not down,
-- each dirty page is an image of itself, and the next record can be numbered;
-- where none is dirty no sector waits for a force.
pub record IsWholeVolume (v : VolumeValue) : Type 0 where
  pub planned : IsPlanned v.layout
  pub map : IsOfData v.layout v.map
  pub removed : IsOfData v.layout v.shadow.removed
  pub kept : IsOfData v.layout v.shadow.kept
  pub unfinished : IsOfData v.layout v.shadow.unfinished
  pub apart : (s : ℕ) → IsTrue (contains v.map.sectors s) → IsFalse (waits_in v.shadow s)
  pub once : WaitsOnce v.shadow
  pub log : v.log.layout ≡ v.layout
  pub epoch : v.serial.epoch ≡ v.log.anchor.epoch
  pub pages : length v.free_pages ≡ v.layout.pages
  pub room : v.cache.frames ≡ frames
  pub unpinned : (page : ℕ) → pins_of v.cache page ≡ 0
  pub waiting : v.down ≡ None → AreWaiting v.layout.pages v.cache
  pub numbered : v.down ≡ None → (v.cache.dirty ≡ []) ⊎ (v.log.head.number < 2 ^ 32 - 1)
  pub still : v.cache.dirty ≡ [] → v.shadow.removed.sectors ≡ []
