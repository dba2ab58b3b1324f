-- Pages read one after another. The laws stand here since a table's `impl` rests on them.
use Rattle.std.proofs.Common.{◌≡◌, ◌⊎◌, inl, inr, ℕ, false, List, Some, refl, ◌∙◌, sym}
use Rattle.std.proofs.lemmas.Bool.{true≢false}
use Rattle.sector_disk.specs.declared.machine.Machine.{Ghosts as MachineGhosts}
use Rattle.sector_disk.specs.Machine.{Moment, Wears}
use Rattle.sector_disk.proofs.Holding.{wears_on}
use Rattle.page_cache.specs.declared.source.PageSource.{Ghosts as SourceGhosts}
use Rattle.page_cache.specs.Cache.{CacheValue, cached_bytes, is_among}
use Rattle.page_cache.proofs.Entries.{by_bool}
use Rattle.table_pages.specs.Reads.{StoodWhole, Fills}

module _ {D E : Type 0} (M : MachineGhosts D) (S : SourceGhosts E) (source : E) where
  -- what stood later stood as the earlier disk was worn
  pub stood_before : (a b : Moment) (page : ℕ) (bytes : List ℕ) → Wears a b → StoodWhole M S source b page bytes → StoodWhole M S source a page bytes
  stood_before a b page bytes worn s =
      let at_end : Moment = record b { image = s.image } in
      record {
        image = s.image;
        worn = (wears_on a b at_end worn (record { image = s.worn; windows = refl; said = refl })).image;
        stands = s.stands;
      }

  pub fills_still : (m : D) (c : CacheValue) → Fills M S source m m c c
  fills_still m c = record { frames = refl; dirty = λ page is. is; stood = λ h page bytes out is. inl is }

  pub fills_then : (m1 m2 m3 : D) (a b c : CacheValue) → (M.honest m3 → M.honest m2) → (M.honest m2 → Wears (M.now m1) (M.now m2)) → Fills M S source m1 m2 a b → Fills M S source m2 m3 b c → Fills M S source m1 m3 a c
  fills_then m1 m2 m3 a b c back worn x y = record {
    frames = y.frames ∙ x.frames;
    dirty = λ page is. y.dirty page (x.dirty page is);
    stood = λ h page bytes out is. at h page bytes out (y.stood h page bytes out is);
  }
    where
      clean : (page : ℕ) → is_among c.dirty page ≡ false → is_among b.dirty page ≡ false
      clean page out = by_bool (is_among b.dirty page) (λ t. absurd (true≢false (sym (y.dirty page t) ∙ out))) (λ t. t)

      at : M.honest m3 → (page : ℕ) (bytes : List ℕ) → is_among c.dirty page ≡ false → (cached_bytes b page ≡ Some bytes) ⊎ StoodWhole M S source (M.now m2) page bytes → (cached_bytes a page ≡ Some bytes) ⊎ StoodWhole M S source (M.now m1) page bytes
      at h page bytes out (inl had) = x.stood (back h) page bytes (clean page out) had
      at h page bytes out (inr stood) = inr (stood_before (M.now m1) (M.now m2) page bytes (worn (back h)) stood)
