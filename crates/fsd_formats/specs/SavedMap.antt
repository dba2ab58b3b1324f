-- The sectors of a saved map.
use Rattle.std.specs.Prelude.{◌≡◌, ℕ, ◌*◌, ◌/◌, ◌%◌, ◌<◌, ◌-◌, Bool, ◌&&◌, ◌||◌, List, [], Some, IsFalse, get_or, nat_le, nat_lt, if◌then◌else◌}
use Rattle.volume_layout.specs.declared.layout.Layout.{Layout}
use Rattle.volume_layout.specs.Layout.{home_a, is_data, map_bits, map_sectors}
use Rattle.fsd_formats.specs.declared.map_head.MapHead.{MapHead}
use Rattle.fsd_formats.specs.MapSector.{has_map_bit, map_sector, read_map_head}

-- the sector is the first home of a name page
abbrev pub is_first_home : Layout → ℕ → Bool
is_first_home l s = nat_le (home_a l 0) s && nat_lt s (home_a l l.pages)

-- whether a sector of the volume is marked in a map's sectors
abbrev pub is_set_in : List (List ℕ) → ℕ → Bool
is_set_in sectors s = has_map_bit (get_or sectors (s / map_bits) []) (s % map_bits)

-- How many pages paths from page 0 reached, and how many versions there were.
pub record MapCounts : Type 0 where
  pub pages : ℕ
  pub versions : ℕ

abbrev pub head_of : (epoch index : ℕ) → MapCounts → MapHead
head_of epoch index counts = record { epoch = epoch; index = index; pages = counts.pages; versions = counts.versions }

-- a sector of the data area is marked where it is free, and the first home of a page where that is spare; no other
abbrev pub marks : Layout → (free spare : ℕ → Bool) → ℕ → Bool
marks l free spare s = if is_data l s then free s else is_first_home l s && spare (s - home_a l 0)

-- the sector of this number of such a map
abbrev pub saved_sector : Layout → (free spare : ℕ → Bool) → (epoch : ℕ) → MapCounts → ℕ → List ℕ
saved_sector l free spare epoch counts k = map_sector (head_of epoch k counts) (marks l free spare) (map_bits * k)

-- The sectors are a map of that epoch with these counts: each has its head, and only sectors of the data area and first
-- homes are marked.
pub record IsMapOf (l : Layout) (epoch : ℕ) (counts : MapCounts) (sectors : List (List ℕ)) : Type 0 where
  pub heads : (k : ℕ) → k < map_sectors l → read_map_head (get_or sectors k []) ≡ Some (head_of epoch k counts)
  pub clear : (s : ℕ) → s < map_bits * map_sectors l → IsFalse (is_data l s || is_first_home l s) → IsFalse (is_set_in sectors s)
