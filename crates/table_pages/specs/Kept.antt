-- What holds of a table over a cache, by its parts.
use Rattle.std.specs.Prelude.{◌≡◌, ℕ, ◌≤◌, ◌++◌, Bool, true, List, [], Option, map, length, count_by, nat_eq}
use Rattle.std.proofs.Common.{◌∙◌}
use Rattle.std.specs.List.{range_with_len}
use Rattle.std.specs.Option.{unwrap_or}
use Rattle.sector_disk.specs.declared.machine.Machine.{Ghosts as MachineGhosts}
use Rattle.sector_disk.specs.Machine.{Wears}
use Rattle.page_cache.specs.declared.source.PageSource.{Ghosts as SourceGhosts}
use Rattle.page_cache.specs.Cache.{CacheValue, IsResident, AreNewest, is_among, pins_of, with_written}
use Rattle.page_cache.proofs.WrittenLaws.{pins_written, dirty_written, clean_written}
use Rattle.table_pages.specs.Bringing.{IsTrusted, given_by}
use Rattle.table_pages.specs.Sparing.{AreSpare}

-- the bytes of so many pages, where this gives them
unfoldable pub images_given : (ℕ → Option (List ℕ)) → (count : ℕ) → List (List ℕ)
images_given image count = map (λ page. unwrap_or (image page) []) (range_with_len 0 count)

-- A table can be made over these: the source has as many pages as can be free; the disk is large enough for it, and the
-- cache for a step; no page is pinned.
pub record IsReady {D E : Type 0} (M : MachineGhosts D) (S : SourceGhosts E) (m : D) (cache : CacheValue) (source : E) (free : List Bool) : Type 0 where
  pub pages : S.pages source ≡ length free
  pub small : length free ≤ 4096
  pub sectors : S.sectors source ≤ (M.report m).sectors
  pub frames : 192 ≤ cache.frames
  pub unpinned : (page : ℕ) → pins_of cache page ≡ 0

-- The source has as many pages as can be free; the disk is large enough for it. The pages that were reached and the
-- free ones that are kept are pinned, and no others; those that are dirty are in the cache. The disk was only worn
-- since the table was made; where the outside is trusted, what is not dirty is what the source has.
pub record IsKeptSince {D E : Type 0} (M : MachineGhosts D) (S : SourceGhosts E) (first : D) (had : CacheValue) (m : D) (cache : CacheValue) (source : E) (free : List Bool) (reached spares : List ℕ) (promised : ℕ) : Type 0 where
  pub pages : S.pages source ≡ length free
  pub small : length free ≤ 4096
  pub sectors : S.sectors source ≤ (M.report m).sectors
  pub frames : 192 ≤ cache.frames
  pub few_reached : length reached ≤ 80
  pub few_spares : length spares ≤ 16
  pub pins : (page : ℕ) → pins_of cache page ≡ count_by (nat_eq page) (reached ++ spares)
  pub dirty : (page : ℕ) → is_among cache.dirty page ≡ true → IsResident cache page
  pub are_spare : AreSpare free spares
  pub enough : promised ≤ length spares
  pub worn : M.honest m → ∥ Wears (M.now first) (M.now m) ∥₁
  pub clean : IsTrusted M S source first had m → AreNewest (given_by M S source m) cache

-- so it is where a page is written
pub kept_written : {D E : Type 0} (M : MachineGhosts D) (S : SourceGhosts E) (first : D) (had : CacheValue) (m : D) (cache : CacheValue) (source : E) (free : List Bool) (reached spares : List ℕ) (promised : ℕ) → IsKeptSince M S first had m cache source free reached spares promised
    → (page : ℕ) (bytes : List ℕ) → IsKeptSince M S first had m (with_written page bytes cache) source free reached spares promised
kept_written M S first had m cache source free reached spares promised h page bytes = record {
  pages = h.pages;
  small = h.small;
  sectors = h.sectors;
  frames = h.frames;
  few_reached = h.few_reached;
  few_spares = h.few_spares;
  pins = λ q. pins_written page bytes cache q ∙ h.pins q;
  dirty = dirty_written page bytes cache h.dirty;
  are_spare = h.are_spare;
  enough = h.enough;
  worn = h.worn;
  clean = λ t. clean_written page bytes cache (given_by M S source m) (h.clean t);
}
