-- What a look-up in a volume's table leaves of the volume, and what it tells, where the volume stands.
use Rattle.std.proofs.Common.{◌≡◌, inl, inr, ℕ, Bool, true, false, List, length, Option, Some, None, Result, Ok, Err, refl, sym, ap, subst, ◌∙◌, arith}
use Rattle.std.specs.Prelude.{IfErr, IfOk, slice_index_or}
use Rattle.std.proofs.lemmas.Bool.{both_ways}
use Rattle.volume_layout.specs.declared.layout.Layout.{Layout}
use Rattle.sector_disk.specs.declared.machine.Machine.{Ghosts as MachineGhosts}
use Rattle.sector_disk.specs.Image.{AreShort}
use Rattle.fsd_bytes.specs.declared.key.Key.{Key}
use Rattle.fsd_bytes.specs.declared.refusal.Refusal.{Refusal}
use Rattle.fsd_bytes.specs.declared.refusal.Refusal.TheVariants as Why
use Rattle.fsd_formats.specs.declared.entry.Entry.{Entry}
use Rattle.fsd_table.specs.Table.{BreaksTable}
use Rattle.fsd_table.specs.Tree.{IsTree, table_of}
use Rattle.page_cache.specs.Cache.{CacheValue, IsCache, cached_bytes, is_among}
use Rattle.log_thirds.specs.LogValue.{LogValue}
use Rattle.group_commit.specs.contracts.newest.NewestPageSource.TheImpl as by_log
use Rattle.fsd_files.specs.Answers.{entry_of}
use Rattle.name_page.specs.Lookups.{entry_with}
use Rattle.name_page.specs.Pages.{outer_refusal}
use Rattle.name_btree.specs.declared.fault.TreeFault.{TreeFault}
use Rattle.name_btree.specs.declared.fault.TreeFault.TheVariants.{Pages, Broken}
use Rattle.name_btree.specs.declared.lookup.FoundEntry.{FoundEntry}
use Rattle.name_btree.specs.Fault.{outer_of, outer_told}
use Rattle.name_btree.specs.Lookup.{found_entry}
use Rattle.table_pages.specs.Bringing.{IsTrusted}
use Rattle.volume_contract.specs.State.{Known, Stands}
use Rattle.cached_table.specs.Looking.{BarsPages, FaultIn, FaultsOver, FindsEntry, LooksOnly, images_by, refusal_in, told_from}
use Rattle.volume_laws.specs.State.{IsMemoryOf, state}
use Rattle.volume_laws.specs.Volume.{IsWholeVolume, VolumeValue}
use Rattle.volume_laws.proofs.CacheLaws.{filled, knows_pages, newest_there}
use Rattle.volume_laws.proofs.PageLaws.{never_lost}
use Rattle.cached_table.proofs.ResidentLaws.{clean_absent}
use Rattle.volume_laws.proofs.TableLaws.{found_with, not_spare, pages_read, unbroken}
use Rattle.volume_laws.specs.WearLaws.{stands_worn}
use Rattle.cached_table.proofs.RefusalLaws.{outer_cases}

-- ---- where the volume stands

module _ {D : Type 0} (M : MachineGhosts D) (short : (m : D) → M.honest m → AreShort (M.now m).windows) (m m' : D) (v : VolumeValue) (whole : IsWholeVolume v) (cached : IsCache v.cache) (c : CacheValue)
    (refusal : Option Refusal) (looks : LooksOnly M by_log.ghosts v.log refusal m m' v.cache c v.free_pages) (honest : M.honest m') (k : Known) (stands : Stands state IsMemoryOf v k (M.now m)) where
  trusted : IsTrusted M by_log.ghosts v.log m v.cache m'
  trusted = record {
    honest = honest;
    knows = knows_pages v k (M.now m) whole stands (short m (looks.reads.trust.honest honest));
    clean = newest_there v k (M.now m) whole stands;
  }

  worn : Stands state IsMemoryOf v k (M.now m')
  worn =
      let wears = looks.reads.worn honest in
      stands_worn v k (M.now m) (M.now m') (short m (looks.reads.trust.honest honest)) (record { image = wears.image; windows = wears.windows }) stands

  -- a page that waits has its bytes
  kept : (page : ℕ) → is_among c.dirty page ≡ true → cached_bytes c page ≡ cached_bytes v.cache page
  kept page waits = by (cached_bytes v.cache page) refl
    where
      waited : is_among v.cache.dirty page ≡ true
      waited = ap (λ (d : List ℕ). is_among d page) (sym looks.dirty) ∙ waits

      by : (o : Option (List ℕ)) → cached_bytes v.cache page ≡ o → cached_bytes c page ≡ cached_bytes v.cache page
      by None none = absurd (both_ways (is_among v.cache.dirty page) (clean_absent v.cache cached page none) waited)
      by (Some bytes) there = looks.kept page (omega (arith, stands.holds.inside page bytes there, whole.pages)) waited

  stands_after : Stands state IsMemoryOf (record v { cache = c }) k (M.now m')
  stands_after = filled v k (M.now m') whole worn c looks.dirty kept (looks.clean trusted)

  pages_before : images_by M by_log.ghosts v.log m v.cache (length v.free_pages) ≡ k.mounted.pages
  pages_before = pages_read v k (M.now m) whole stands cached

  pages_after : images_by M by_log.ghosts v.log m' c (length v.free_pages) ≡ k.mounted.pages
  pages_after = looks.stays trusted ∙ pages_before

  -- no page of it is broken or barred
  sound : (page : ℕ) → BreaksTable (images_by M by_log.ghosts v.log m' c (length v.free_pages)) page → ⊥
  sound page breaks = unbroken v k (M.now m) whole stands page (subst (λ (images : List (List ℕ)). BreaksTable images page) pages_after breaks)

  unbarred : (page : ℕ) → BarsPages (images_by M by_log.ghosts v.log m' c (length v.free_pages)) v.free_pages page → ⊥
  unbarred page (inl breaks) = sound page breaks
  unbarred page (inr spare) = at (subst (λ (images : List (List ℕ)). BarsPages images v.free_pages page) pages_after (inr spare))
    where
      at : BarsPages k.mounted.pages v.free_pages page → ⊥
      at (inl breaks) = unbroken v k (M.now m) whole stands page breaks
      at (inr (free, way)) = both_ways (slice_index_or v.free_pages page false) (subst (λ (n : ℕ). slice_index_or v.free_pages n false ≡ false) way.2 (not_spare v k (M.now m) whole stands way.0 way.1)) free

-- so each fault is the disk's, or a want of memory
module _ {D : Type 0} (M : MachineGhosts D) (short : (m : D) → M.honest m → AreShort (M.now m).windows) (m m' : D) (v : VolumeValue) (whole : IsWholeVolume v) (cached : IsCache v.cache) (c : CacheValue)
    (honest : M.honest m') (k : Known) (stands : Stands state IsMemoryOf v k (M.now m)) (e : Option Entry) (home_a : ℕ) where
  fault_outside : (f : TreeFault) → LooksOnly M by_log.ghosts v.log (outer_of f) m m' v.cache c v.free_pages → FaultsOver M by_log.ghosts v.log m' c v.free_pages home_a f → FindsEntry e (Err (refusal_in home_a f))
  fault_outside (Broken page) looks faults = absurd (sound M short m m' v whole cached c None looks honest k stands page faults.cause)
  fault_outside (Pages r) looks faults = by faults.cause
    where
      by : FaultIn (images_by M by_log.ghosts v.log m' c (length v.free_pages)) v.free_pages home_a (Pages r) → FindsEntry e (Err r)
      by (inr bars) = absurd (unbarred M short m m' v whole cached c (outer_refusal r) looks honest k stands bars.0 bars.2)
      by (inl outer) = outer_cases (λ (x : Refusal). LooksOnly M by_log.ghosts v.log (outer_refusal x) m m' v.cache c v.free_pages → FindsEntry e (Err x)) (λ s here. tt)
          (λ a b here. let lost = here.loses.lost honest in
          absurd (never_lost v k (M.now m') whole (worn M short m m' v whole cached c (Some (Why.Lost a b)) here honest k stands) here.loses.page (omega (arith, here.loses.within, ap (λ (l : Layout). l.pages) whole.log)) a b lost.first lost.second lost.copies))
          (λ here. tt) r outer looks

  finds_told : (r : Result (Option FoundEntry) TreeFault) → LooksOnly M by_log.ghosts v.log (outer_told r) m m' v.cache c v.free_pages → IfErr r (FaultsOver M by_log.ghosts v.log m' c v.free_pages home_a)
      → IfOk r (λ found. found_entry found ≡ e) → FindsEntry e (told_from home_a r)
  finds_told (Ok found) looks faults is = is
  finds_told (Err f) looks faults is = fault_outside f looks faults

-- ---- what a look-up over the parts of a volume says of it

module _ {D : Type 0} (M : MachineGhosts D) (short : (m : D) → M.honest m → AreShort (M.now m).windows) (m m' : D) (v w : VolumeValue) (is : v ≡ w) (whole : IsWholeVolume v) (cached : IsCache v.cache) (c : CacheValue)
    (log : LogValue) (of_log : log ≡ v.log) where
  pub stands_found : (free : List Bool) (refusal : Option Refusal) → LooksOnly M by_log.ghosts log refusal m m' v.cache c v.free_pages → free ≡ v.free_pages
      → M.honest m' → (k : Known) → Stands state IsMemoryOf w k (M.now m) → Stands state IsMemoryOf (record v { cache = c; free_pages = free }) k (M.now m')
  stands_found free refusal looks same honest k stands =
      subst (λ (f : List Bool). Stands state IsMemoryOf (record v { cache = c; free_pages = f }) k (M.now m')) (sym same)
      (stands_after M short m m' v whole cached c refusal (subst (λ (l : LogValue). LooksOnly M by_log.ghosts l refusal m m' v.cache c v.free_pages) of_log looks) honest k
      (subst (λ (x : VolumeValue). Stands state IsMemoryOf x k (M.now m)) (sym is) stands))

  -- the entry that is looked up so, as the pages have it
  abbrev pub FindsIn : (look : List Entry → Option Entry) → LogValue → Option FoundEntry → Type 0
  FindsIn look l found = IsTrusted M by_log.ghosts l m v.cache m' → (height : ℕ) → IsTree (images_by M by_log.ghosts l m v.cache (length v.free_pages)) height
      → found_entry found ≡ look (table_of (images_by M by_log.ghosts l m v.cache (length v.free_pages)) height)

  -- whatever is looked up in the tree that the pages are
  module _ (look : List Entry → Option Entry) (e : Known → Option Entry)
      (there : (k : Known) → Stands state IsMemoryOf v k (M.now m) → (height : ℕ) × IsTree k.mounted.pages height × (look (table_of k.mounted.pages height) ≡ e k)) where
    looked_there : (k : Known) → Stands state IsMemoryOf v k (M.now m) → IsTrusted M by_log.ghosts v.log m v.cache m' → (r : Result (Option FoundEntry) TreeFault) → IfOk r (FindsIn look v.log)
        → IfOk r (λ found. found_entry found ≡ e k)
    looked_there k stands trust (Err f) one = tt
    looked_there k stands trust (Ok found) one =
        let tree = there k stands in
        let by : (height : ℕ) → IsTree k.mounted.pages height → found_entry found ≡ look (table_of k.mounted.pages height) =
        subst (λ (images : List (List ℕ)). (height : ℕ) → IsTree images height → found_entry found ≡ look (table_of images height)) (pages_read v k (M.now m) whole stands cached) (one trust) in
        by tree.0 tree.1 ∙ tree.2

    pub finds_looked : (home_a : ℕ) (r : Result (Option FoundEntry) TreeFault) (result : Result (Option FoundEntry) Refusal) → result ≡ told_from home_a r → LooksOnly M by_log.ghosts log (outer_told r) m m' v.cache c v.free_pages
        → IfErr r (FaultsOver M by_log.ghosts log m' c v.free_pages home_a) → IfOk r (FindsIn look log) → M.honest m' → (k : Known) → Stands state IsMemoryOf w k (M.now m) → FindsEntry (e k) result
    finds_looked home_a r result told_is looks faults finds honest k stands =
        let looks_by : LooksOnly M by_log.ghosts v.log (outer_told r) m m' v.cache c v.free_pages = subst (λ (l : LogValue). LooksOnly M by_log.ghosts l (outer_told r) m m' v.cache c v.free_pages) of_log looks in
        let faults_by : IfErr r (FaultsOver M by_log.ghosts v.log m' c v.free_pages home_a) = subst (λ (l : LogValue). IfErr r (FaultsOver M by_log.ghosts l m' c v.free_pages home_a)) of_log faults in
        let finds_by : IfOk r (FindsIn look v.log) = subst (λ (l : LogValue). IfOk r (FindsIn look l)) of_log finds in
        let here : Stands state IsMemoryOf v k (M.now m) = subst (λ (x : VolumeValue). Stands state IsMemoryOf x k (M.now m)) (sym is) stands in
        subst (FindsEntry (e k)) (sym told_is)
        (finds_told M short m m' v whole cached c honest k here (e k) home_a r looks_by faults_by
        (looked_there k here (trusted M short m m' v whole cached c (outer_told r) looks_by honest k here) r finds_by))

  pub finds_found : (key : Key) (home_a : ℕ) (r : Result (Option FoundEntry) TreeFault) (result : Result (Option FoundEntry) Refusal) → result ≡ told_from home_a r → LooksOnly M by_log.ghosts log (outer_told r) m m' v.cache c v.free_pages
      → IfErr r (FaultsOver M by_log.ghosts log m' c v.free_pages home_a) → IfOk r (FindsIn (entry_with key) log) → M.honest m' → (k : Known) → Stands state IsMemoryOf w k (M.now m) → FindsEntry (entry_of key k.mounted.volume.entries) result
  finds_found key = finds_looked (entry_with key) (λ k. entry_of key k.mounted.volume.entries) (λ k stands. found_with v k (M.now m) whole stands key)
