-- What is taken of a saved map: the bits of its sectors, as marks of sectors of the data area and of first homes.
use Rattle.std.specs.Prelude.{◌≡◌, ℕ, ◌+◌, ◌-◌, ◌*◌, ◌<◌, ◌≤◌, Bool, false, ◌&&◌, ◌||◌, List, Some, IsTrue, IsFalse, slice_index_or, if◌then◌else◌}
use Rattle.volume_layout.specs.declared.layout.Layout.{Layout}
use Rattle.volume_layout.specs.Layout.{home_a, is_data, map_bits}
use Rattle.run_table.specs.Space.{contains}
use Rattle.sector_set.specs.Area.{Area, IsOwn}
use Rattle.sector_set.specs.Bits.{in_range}
use Rattle.fsd_formats.specs.declared.map_head.MapHead.{MapHead}
use Rattle.fsd_formats.specs.MapSector.{has_map_bit, read_map_head}
use Rattle.fsd_formats.specs.SavedMap.{is_first_home}
use Rattle.saved_map.specs.Marks.{AreOf}

-- ---- marks

-- a sector that may be marked
abbrev pub has_place : Layout → ℕ → Bool
has_place l s = is_data l s || is_first_home l s

-- a first home is marked by its page's flag, any other sector if it is in the set
abbrev pub marks : Layout → Area → (pages : List Bool) → ℕ → Bool
marks l map pages s = if is_first_home l s then slice_index_or pages (s - home_a l 0) false else contains map.sectors s

-- The interval and the flags are the layout's, and the set's sectors lie in the interval.
pub record AreKept (l : Layout) (map : Area) (pages : List Bool) : Type 0 where
  pub of : AreOf l map pages
  pub own : IsOwn map

-- Marked are the sectors that pass the test.
pub record AreMarked (l : Layout) (test : ℕ → Bool) (map : Area) (pages : List Bool) : Type 0 where
  pub kept : AreKept l map pages
  pub each : (s : ℕ) → marks l map pages s ≡ test s

-- No sector from this one on is marked.
abbrev pub AreNewFrom : Layout → Area → (pages : List Bool) → ℕ → Type 0
AreNewFrom l map pages at = (s : ℕ) → at ≤ s → IsFalse (marks l map pages s)

-- Besides those that were, the sectors are marked that pass the test.
abbrev pub AreAdded : Layout → (more : ℕ → Bool) → (map : Area) → (pages : List Bool) → Area → List Bool → Type 0
AreAdded l more map pages new_map new_pages = AreMarked l (λ s. marks l map pages s || more s) new_map new_pages

-- each sector of start..stop may be marked
abbrev pub HavePlaces : Layout → (start stop : ℕ) → Type 0
HavePlaces l start stop = (s : ℕ) → start ≤ s → s < stop → IsTrue (has_place l s)

-- ---- the bits of a map's sector

-- whether a sector is marked in so many first bits of a map's sector, the first of which is another's
abbrev pub is_set_in_first : (bytes : List ℕ) → (at count : ℕ) → ℕ → Bool
is_set_in_first bytes at count s = in_range at (at + count) s && has_map_bit bytes (s - at)

-- or in all
abbrev pub is_set_at : (bytes : List ℕ) → (at : ℕ) → ℕ → Bool
is_set_at bytes at = is_set_in_first bytes at map_bits

-- No bit is set but of a sector that may be marked.
abbrev pub IsClear : Layout → (at : ℕ) → (bytes : List ℕ) → Type 0
IsClear l at bytes = (n : ℕ) → n < map_bits → IsFalse (has_place l (at + n)) → IsFalse (has_map_bit bytes n)

-- The bytes are a sector of a map with this head.
pub record IsPart (l : Layout) (head : MapHead) (bytes : List ℕ) : Type 0 where
  pub read : read_map_head bytes ≡ Some head
  pub clear : IsClear l (map_bits * head.index) bytes
