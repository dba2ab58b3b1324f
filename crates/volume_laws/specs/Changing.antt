-- What one change more makes of a volume.
use Rattle.std.specs.Prelude.{◌≡◌, ℕ, Bool, ◌+◌, ◌<◌, ◌≤◌, not, false, List, [], ◌∷◌, ◌++◌, length, Some, IsFalse, slice_index_or}
use Rattle.run_table.specs.Space.{contains}
use Rattle.page_cache.specs.Cache.{CacheValue, cached_bytes}
use Rattle.fsd_table.specs.Tree.{IsTree, pages_of}
use Rattle.fsd_files.specs.Disk.{Image, Sectors}
use Rattle.fsd_files.specs.Files.{Change, step}
use Rattle.fsd_files.specs.Kept.{Describes}
use Rattle.fsd_files.specs.Volume.{Volume, is_free, is_in}
use Rattle.fsd_files.specs.Waiting.{Changes, is_kept_alone}
use Rattle.fsd_sound.specs.Mounted.{AgreeOutside, Mounted, image_at, most_changed}
use Rattle.volume_contract.specs.State.{Known, held_runs}
use Rattle.volume_laws.specs.Volume.{VolumeValue}

-- The volume after one change more, which keeps the versions of the disk: nothing that was held or unfinished differs.
pub record IsAfter (c : Change) (hurt : Sectors) (i : Image) (old new : Volume) : Type 0 where
  pub changes : Changes old new
  pub files : new.files ≡ step old.files c
  pub described : Describes old.layout hurt i new.files new.entries
  pub held : new.held ≡ old.held
  pub drafts : new.drafts ≡ old.drafts

-- A tree of this height stands in the pages now, and all others are free. Those that differ are dirty, as are those
-- that were, and at most 40 more.
pub record MakesPages (old new : CacheValue) (flags : List Bool) (pages now : List (List ℕ)) (height : ℕ) : Type 0 where
  pub tree : IsTree now height
  pub free : (page : ℕ) → page < length now → slice_index_or flags page false ≡ not (contains (pages_of now height) page)
  pub there : (page : ℕ) (bytes : List ℕ) → cached_bytes new page ≡ Some bytes → image_at now page ≡ bytes
  pub inside : (page : ℕ) (bytes : List ℕ) → cached_bytes new page ≡ Some bytes → page < length flags
  pub still : (page : ℕ) → IsFalse (contains new.dirty page) → IsFalse (contains old.dirty page)
  pub few : length new.dirty ≤ length old.dirty + most_changed
  pub clean : AgreeOutside new.dirty pages now

-- Its free sectors and those that wait are the volume's, and so are what readers hold, its serial and its count of
-- versions.
pub record HasSpace (v : VolumeValue) (m : Volume) : Type 0 where
  pub map : (s : ℕ) → contains v.map.sectors s ≡ is_free m s
  pub removed : (s : ℕ) → contains v.shadow.removed.sectors s ≡ contains m.removed s
  pub kept : (s : ℕ) → contains v.shadow.kept.sectors s ≡ is_kept_alone m s
  pub unfinished : (s : ℕ) → contains v.shadow.unfinished.sectors s ≡ is_in m.drafts s
  pub held : m.held ≡ held_runs v.shadow.held
  pub serial : m.serial ≡ v.serial
  pub versions : length m.files ≡ v.versions

-- the same volume, with its log where it was and what readers hold
pub record IsSameVolume (old new : VolumeValue) : Type 0 where
  pub layout : new.layout ≡ old.layout
  pub log : new.log ≡ old.log
  pub readers : new.shadow.held ≡ old.shadow.held
  pub down : new.down ≡ old.down

-- what stands after one change more, with these pages in memory
abbrev pub mounted_after : Mounted → Volume → (now : List (List ℕ)) → (dirty : List ℕ) → Mounted
mounted_after m volume now dirty = record m { volume = volume; pages = now; dirty = dirty }

abbrev pub known_after : Known → Change → Volume → (now : List (List ℕ)) → (dirty : List ℕ) → Known
known_after k c volume now dirty = record k { mounted = mounted_after k.mounted volume now dirty; changes = k.changes ++ c ∷ [] }
