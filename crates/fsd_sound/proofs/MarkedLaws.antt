-- A map whose sectors have the bits of a test is read as it was written, and what the test tells of the pages it tells.
use Rattle.std.proofs.Common.{◌≡◌, ℕ, ◌+◌, ◌*◌, ◌/◌, ◌%◌, ◌^◌, ◌<◌, ◌≤◌, ◌||◌, ◌==◌, cond, min, Bool, true, false, not, List, [], length, map, get_or, Some, ap, ◌∙◌, arith}
use Rattle.std.specs.Prelude.{IsFalse, IsTrue, nat_le, nat_lt}
use Rattle.std.specs.Int.{div_ceil}
use Rattle.std.specs.List.{range_with_len}
use Rattle.std.proofs.lemmas.Bool.{ltb-true, and_parts}
use Rattle.std.proofs.lemmas.List.FromFn.{get_or-map-range_with_len}
use Rattle.volume_layout.specs.declared.layout.Layout.{Layout}
use Rattle.volume_layout.specs.Layout.{IsPlanned, data_start, home_a, is_data, map_bits, map_sectors, map_start}
use Rattle.volume_layout.proofs.GrownLaws.{most_least}
use Rattle.volume_layout.proofs.RootLaws.{planned_bounds}
use Rattle.fsd_formats.specs.MapSector.{bit_bytes, bits_of, has_map_bit, map_sector, read_map_head}
use Rattle.fsd_formats.specs.SavedMap.{IsMapOf, MapCounts, head_of, is_first_home, is_set_in}
use Rattle.fsd_formats.proofs.MapLaws.{map_bit_is_read, map_head_is_read}
use Rattle.sector_disk.specs.declared.sector.Sector.{Sector}
use Rattle.sector_disk.specs.declared.sector.Sector.TheVariants.{Whole}
use Rattle.sector_disk.specs.Image.{sector_at}
use Rattle.fsd_files.specs.Disk.{Image, bytes_at, bytes_of}
use Rattle.fsd_files.specs.Volume.{is_in, plans_of}
use Rattle.fsd_table.specs.Table.{Telling, told_in}
use Rattle.fsd_sound.specs.Saved.{AreSaved, is_reached}
use Rattle.fsd_sound.proofs.ClosingLaws.{HasSaved}
use Rattle.fsd_sound.proofs.EachLaws.{all_in_range, each_of_all}

-- ---- how many sectors a map has

module _ (l : Layout) (planned : IsPlanned l) where
  -- each sector of the volume has a bit
  pub all_mapped : l.sectors ≤ map_bits * map_sectors l
  all_mapped = by (l.most == 0) (most_least l planned)
    where
      by : (b : Bool) → l.sectors ≤ cond b (min (map_bits * div_ceil (cond b l.sectors l.most) map_bits) (2 ^ 24)) l.most → l.sectors ≤ map_bits * div_ceil (cond b l.sectors l.most) map_bits
      by true le = omega (arith, le)
      by false le = omega (arith, le)

  pub few_map_sectors : map_sectors l < 2 ^ 16
  few_map_sectors = by (l.most == 0)
    where
      by : (b : Bool) → div_ceil (cond b l.sectors l.most) map_bits < 2 ^ 16
      by true = let few = (planned_bounds l planned).sectors_most in omega (arith, few)
      by false = let few = (planned_bounds l planned).most_most in omega (arith, few)

-- ---- a map by a test

-- What the pages tell is what the test and the counts say: the data sectors that are in no version pass it, and the first
-- homes of the pages that no path reaches, and no other.
pub record TestTells (l : Layout) (counts : MapCounts) (test : ℕ → Bool) (pages : List (List ℕ)) : Type 0 where
  pub telling : Telling
  pub told : told_in pages ≡ Some telling
  pub reached : telling.reached ≡ counts.pages
  pub versions : length telling.entries ≡ counts.versions
  pub free : (s : ℕ) → IsTrue (is_data l s) → test s ≡ not (is_in (plans_of telling.entries) s)
  pub spare : (page : ℕ) → page < l.pages → test (home_a l page) ≡ not (is_reached pages page)
  pub clear : (s : ℕ) → IsFalse (is_data l s || is_first_home l s) → IsFalse (test s)

-- The numbers of a map fit its heads.
pub record FitsHeads (epoch : ℕ) (counts : MapCounts) : Type 0 where
  pub epoch_fits : epoch < 2 ^ 32
  pub pages : counts.pages < 2 ^ 16
  pub versions : counts.versions < 2 ^ 32

module _ (l : Layout) (planned : IsPlanned l) (epoch : ℕ) (counts : MapCounts) (fits : FitsHeads epoch counts) (test : ℕ → Bool) where
  abbrev pub marked_sector : ℕ → List ℕ
  marked_sector k = map_sector (head_of epoch k counts) test (map_bits * k)

  abbrev pub marked_sectors : List (List ℕ)
  marked_sectors = map marked_sector (range_with_len 0 (map_sectors l))

  at_place : (k : ℕ) → k < map_sectors l → get_or marked_sectors k [] ≡ marked_sector k
  at_place k lt = get_or-map-range_with_len marked_sector 0 (map_sectors l) k k [] lt (omega arith)

  is_marked_so : (s : ℕ) → s < map_bits * map_sectors l → is_set_in marked_sectors s ≡ test s
  is_marked_so s lt =
      let inside : s / map_bits < map_sectors l = omega (arith, lt) in
      let rest : s % map_bits < 8 * bit_bytes = omega arith in
      let there : map_bits * (s / map_bits) + s % map_bits ≡ s = omega arith in
      ap (λ (bytes : List ℕ). has_map_bit bytes (s % map_bits)) (at_place (s / map_bits) inside)
      ∙ map_bit_is_read (head_of epoch (s / map_bits) counts) test (map_bits * (s / map_bits)) (s % map_bits) rest ∙ ap test there

  -- it is a map where the test passes no other sector
  marked_is_map : ((s : ℕ) → IsFalse (is_data l s || is_first_home l s) → IsFalse (test s)) → IsMapOf l epoch counts marked_sectors
  marked_is_map clear = record {
    heads = λ k lt.
        ap read_map_head (at_place k lt)
        ∙ map_head_is_read (head_of epoch k counts) (bits_of test (map_bits * k) bit_bytes) (record { epoch = fits.epoch_fits; index = omega (arith, lt, few_map_sectors l planned); pages = fits.pages; versions = fits.versions });
    clear = λ s lt out. is_marked_so s lt ∙ clear s out;
  }

  home_mapped : (page : ℕ) → page < l.pages → home_a l page < map_bits * map_sectors l
  home_mapped page lt =
      let all = all_mapped l planned in
      let least = (planned_bounds l planned).sectors_least in
      omega (arith, lt, all, least)

  data_mapped : (s : ℕ) → IsTrue (is_data l s) → s < map_bits * map_sectors l
  data_mapped s is =
      let below : s < l.sectors = ltb-true s l.sectors (and_parts (nat_le (data_start l) s) (nat_lt s l.sectors) is).1 in
      let all = all_mapped l planned in
      omega (arith, below, all)

  module _ (pages : List (List ℕ)) (tells : TestTells l counts test pages) where
    marked_are_saved : AreSaved l counts marked_sectors pages
    marked_are_saved = record {
      telling = tells.telling;
      told = tells.told;
      reached = tells.reached;
      versions = tells.versions;
      free = λ s is. is_marked_so s (data_mapped s is) ∙ tells.free s is;
      spare = λ page lt. is_marked_so (home_a l page) (home_mapped page lt) ∙ tells.spare page lt;
    }

    -- an image that has them has saved what the pages tell
    pub marked_has_saved : (i : Image) → ((k : ℕ) → k < map_sectors l → sector_at i (map_start l + k) ≡ Whole (marked_sector k)) → HasSaved l epoch pages i
    marked_has_saved i stands = record {
      some = let all = all_mapped l planned in let least = (planned_bounds l planned).sectors_least in omega (arith, all, least);
      sectors = marked_sectors;
      whole = each_of_all (λ k. bytes_at i (map_start l + k)) marked_sector (range_with_len 0 (map_sectors l))
          (all_in_range (λ k. bytes_at i (map_start l + k) ≡ Some (marked_sector k)) 0 (map_sectors l) (λ k low lt. ap (λ (x : Sector). bytes_of x) (stands k (omega (arith, lt)))));
      counts = counts;
      is = marked_is_map tells.clear;
      saved = marked_are_saved;
    }
