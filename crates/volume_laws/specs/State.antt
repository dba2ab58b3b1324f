-- What a volume tells, and what it is of.
use Rattle.std.specs.Prelude.{◌≡◌, ℕ, ◌<◌, false, not, ◌||◌, ◌==◌, List, Option, Some, length, slice_index_or}
use Rattle.volume_layout.specs.Layout.{IsPlanned}
use Rattle.run_table.specs.Space.{contains, where_free, runs_of}
use Rattle.shadow_frees.specs.Readers.{unheld}
use Rattle.shadow_frees.specs.Waits.{waiting_sectors}
use Rattle.page_cache.specs.Cache.{cached_bytes}
use Rattle.fsd_log.specs.Scan.{Placed}
use Rattle.fsd_files.specs.Volume.{is_free, is_in}
use Rattle.fsd_files.specs.Waiting.{is_kept_alone}
use Rattle.fsd_sound.specs.Mounted.{Mounted, image_at}
use Rattle.log_thirds.specs.Append.{IsIndexed}
use Rattle.log_thirds.specs.LogValue.{FitsLayout}
use Rattle.volume_contract.specs.State.{HasEnough, State}
use Rattle.volume_laws.specs.Volume.{VolumeValue}
use Rattle.cached_table.specs.Opening.{is_reached}

-- ---- over any machine

module _ (v : VolumeValue) where
  -- the sectors that are free once a force has ended: what waited for it and nobody holds is free then
  abbrev pub freed_sectors : List ℕ
  freed_sectors = where_free (λ s. contains v.map.sectors s || contains (unheld v.shadow.held v.shadow.removed).sectors s) v.map.from v.map.to

  -- the name pages that are free
  abbrev pub spare_pages : List ℕ
  spare_pages = where_free (λ page. slice_index_or v.free_pages page false) 0 (length v.free_pages)

  abbrev pub state : State
  state = record {
    layout = v.layout;
    serial = v.serial;
    anchor = v.log.anchor;
    head = v.log.head;
    slots = v.log.slots;
    dirty = v.cache.dirty;
    free = runs_of v.map.sectors;
    freed = runs_of freed_sectors;
    waiting = waiting_sectors v.shadow;
    waits = not (length v.shadow.removed.sectors == 0);
    unfinished = v.shadow.unfinished.sectors;
    readers = v.shadow.held;
    free_pages = spare_pages;
    versions = v.versions;
    down = v.down;
  }

  -- the pages that are in memory
  abbrev pub resident : ℕ → Option (List ℕ)
  resident = cached_bytes v.cache

  -- those are there that the search for the highest version of a name meets, or all in use
  abbrev pub HasEnoughFor : (name : List ℕ) → Type 0
  HasEnoughFor name = HasEnough state resident name

-- ---- over an honest machine

-- What it has in memory is of this volume, whose log has these records: pages, free sectors, those that wait for a force,
-- for a reader alone, and for an unfinished creation, free name pages, and where each page's last image lies.
pub record IsMemoryOf (v : VolumeValue) (m : Mounted) (records : List Placed) : Type 0 where
  pub planned : IsPlanned v.layout
  pub pages : (page : ℕ) (bytes : List ℕ) → resident v page ≡ Some bytes → image_at m.pages page ≡ bytes
  pub inside : (page : ℕ) (bytes : List ℕ) → resident v page ≡ Some bytes → page < v.layout.pages
  pub map : (s : ℕ) → contains v.map.sectors s ≡ is_free m.volume s
  pub removed : (s : ℕ) → contains v.shadow.removed.sectors s ≡ contains m.volume.removed s
  pub kept : (s : ℕ) → contains v.shadow.kept.sectors s ≡ is_kept_alone m.volume s
  pub unfinished : (s : ℕ) → contains v.shadow.unfinished.sectors s ≡ is_in m.volume.drafts s
  pub free_pages : (page : ℕ) → page < v.layout.pages → slice_index_or v.free_pages page false ≡ not (is_reached m.pages page)
  pub log : v.log.layout ≡ v.layout
  pub fits : FitsLayout v.log
  pub indexed : IsIndexed v.log records
