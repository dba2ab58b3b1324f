-- How it ends over a volume that stands where a version was to be entered into its table.
use Rattle.std.proofs.Common.{◌≡◌, inl, inr, ℕ, ◌+◌, ◌-◌, ◌<◌, ◌≤◌, Bool, false, cond, List, [], length, Option, Some, None, Result, Err, refl, sym, ap, subst, ◌∙◌, arith}
use Rattle.std.specs.Prelude.{IsErrAnd, count_by, nat_lt, slice_index_or}
use Rattle.std.specs.List.{AllByRecursion, flat_map, list_all, list_any}
use Rattle.std.proofs.lemmas.Bool.{and_parts, both_ways, le-ltb, lt-ltb}
use Rattle.volume_layout.specs.declared.layout.Layout.{Layout}
use Rattle.volume_layout.specs.Layout.{is_data}
use Rattle.sector_disk.specs.declared.machine.Machine.{Ghosts as MachineGhosts}
use Rattle.sector_disk.specs.Image.{AreShort}
use Rattle.fsd_bytes.specs.Keys.{max_u32, same_key}
use Rattle.fsd_bytes.specs.declared.key.Key.{Key}
use Rattle.fsd_bytes.specs.declared.refusal.Refusal.{Refusal}
use Rattle.fsd_bytes.specs.declared.refusal.Refusal.TheVariants as Why
use Rattle.run_table.specs.RunTable.{sectors_of}
use Rattle.run_table.specs.Space.{all_differ}
use Rattle.fsd_formats.specs.declared.entry.Entry.{Entry}
use Rattle.fsd_table.specs.Tree.{IsTree, table_of}
use Rattle.fsd_table.specs.Table.{top}
use Rattle.fsd_table.proofs.BoundLaws.{Ascend, all_weaker, entries_ascend}
use Rattle.fsd_files.specs.Answers.{enter_fault, entry_of}
use Rattle.fsd_files.specs.Files.{new_key}
use Rattle.fsd_files.specs.Volume.{entries_at, pages_free, plans_of}
use Rattle.fsd_files.proofs.CountLaws.{differ_occurs, used}
use Rattle.fsd_files.proofs.EachLaws.{each_kept}
use Rattle.page_cache.specs.Cache.{CacheValue, IsCache}
use Rattle.log_thirds.specs.LogValue.{LogValue}
use Rattle.group_commit.specs.contracts.newest.NewestPageSource.TheImpl as by_log
use Rattle.name_page.specs.Pages.{outer_refusal}
use Rattle.table_pages.specs.Bringing.{IsTrusted}
use Rattle.version_table.specs.declared.oldest.Leaving.{Leaving}
use Rattle.version_table.specs.Met.{entries_left}
use Rattle.version_table.specs.Versions.{next_key}
use Rattle.version_table.proofs.PlanLaws.{each_found, each_mapped, keys_agree}
use Rattle.volume_contract.specs.State.{Known, Stands, volume_of}
use Rattle.cached_table.specs.Editing.{EditsOnly, StaysInCache}
use Rattle.cached_table.specs.Entering.{AreInTurn, AreTaken, LosesUntaken, NoneFor, OfTableIn, RefusesFor}
use Rattle.volume_laws.specs.Entered.{EndsEntered, EndsMade, StandsEntered}
use Rattle.cached_table.specs.Looking.{BarsPages, images_by}
use Rattle.volume_laws.specs.State.{IsMemoryOf, state}
use Rattle.volume_laws.specs.Taken.{data_map}
use Rattle.volume_laws.specs.Volume.{IsWholeVolume, VolumeValue}
use Rattle.volume_laws.proofs.CountLaws.{count_of_flags}
use Rattle.volume_laws.proofs.EntryLaws.{entry_contained, taken_there}
use Rattle.volume_laws.proofs.GoingLaws.{fewer_used, in_turn}
use Rattle.volume_laws.proofs.MadeLaws.{stands_unedited, trusted, worn}
use Rattle.volume_laws.proofs.PageLaws.{never_lost}
use Rattle.volume_laws.proofs.TableLaws.{is_tree, not_spare, pages_read, unbroken}
use Rattle.volume_laws.proofs.TakenLaws.{taken_is_out}
use Rattle.volume_laws.proofs.RangeLaws.{handed}

-- ---- by the definitions

module _ {D : Type 0} (M : MachineGhosts D) (short : (m : D) → M.honest m → AreShort (M.now m).windows) (m m' : D) (v : VolumeValue) (whole : IsWholeVolume v) (cached : IsCache v.cache) (c : CacheValue) (flags : List Bool)
    (refusal : Option Refusal) (edits : EditsOnly M by_log.ghosts v.log refusal m m' v.cache c v.free_pages flags) (honest : M.honest m') (k : Known) (stands : Stands state IsMemoryOf v k (M.now m)) (name : List ℕ) where
  was_pages : images_by M by_log.ghosts v.log m v.cache (length v.free_pages) ≡ k.mounted.pages
  was_pages = pages_read v k (M.now m) whole stands cached

  trust : IsTrusted M by_log.ghosts v.log m v.cache m'
  trust = trusted M short m m' v whole cached c flags refusal edits honest k stands

  -- what holds of the table holds of the volume's entries
  pub of_entries : (Is : List Entry → Type 0) → OfTableIn M by_log.ghosts v.log m m' v.cache v.free_pages Is → Is (volume_of k).entries
  of_entries Is h =
      let tree = is_tree v k (M.now m) whole stands in
      subst Is (ap (λ (pages : List (List ℕ)). table_of pages tree.0) was_pages ∙ tree.2)
      (h trust tree.0 (subst (λ (pages : List (List ℕ)). IsTree pages tree.0) (sym was_pages) tree.1))

  -- as many pages are spare as the volume has free ones
  free_is : pages_free (volume_of k) ≡ count_by (λ spare. spare) v.free_pages
  free_is = stands.fits.pages_free ∙ count_of_flags v.free_pages

  same_key_is : new_key name (volume_of k).files ≡ next_key name (volume_of k).entries
  same_key_is = keys_agree name (volume_of k).files (volume_of k).entries stands.disk.described.lists

  used_up : max_u32 < (next_key name (volume_of k).entries).version → enter_fault (volume_of k) name ≡ Some Why.VersionsUsedUp
  used_up most = ap (λ (b : Bool). cond b (Some Why.VersionsUsedUp) (cond (nat_lt (pages_free (volume_of k)) 8) (Some (Why.NameTableFull (pages_free (volume_of k)))) None))
      (lt-ltb max_u32 (new_key name (volume_of k).files).version (omega (arith, most, ap (λ (x : Key). x.version) same_key_is)))

  usable : (next_key name (volume_of k).entries).version ≤ max_u32 → nat_lt max_u32 (new_key name (volume_of k).files).version ≡ false
  usable most = le-ltb max_u32 (new_key name (volume_of k).files).version (omega (arith, most, ap (λ (x : Key). x.version) same_key_is))

  table_full : (n : ℕ) → n ≡ count_by (λ spare. spare) v.free_pages → n < 8 → (next_key name (volume_of k).entries).version ≤ max_u32 → enter_fault (volume_of k) name ≡ Some (Why.NameTableFull n)
  table_full n is few most =
      let free : pages_free (volume_of k) ≡ n = free_is ∙ sym is in
      (λ i. cond (usable most i) (Some Why.VersionsUsedUp) (cond (nat_lt (free i) 8) (Some (Why.NameTableFull (free i))) None))
      ∙ ap (λ (b : Bool). cond b (Some (Why.NameTableFull n)) None) (lt-ltb n 8 few)

  -- nothing bars the version
  pub none_bars : 8 ≤ count_by (λ spare. spare) v.free_pages → (next_key name (volume_of k).entries).version ≤ max_u32 → enter_fault (volume_of k) name ≡ None
  none_bars many most =
      (λ i. cond (usable most i) (Some Why.VersionsUsedUp) (cond (nat_lt (pages_free (volume_of k)) 8) (Some (Why.NameTableFull (pages_free (volume_of k)))) None))
      ∙ ap (λ (b : Bool). cond b (Some (Why.NameTableFull (pages_free (volume_of k)))) None) (le-ltb (pages_free (volume_of k)) 8 (omega (arith, many, free_is)))

  -- ---- the versions that go

  -- those of its entries are taken, each alone
  turn_there : (keys : List Key) (gone : List Leaving) → entries_left gone ≡ entries_at keys (volume_of k).entries → AreInTurn (data_map v) v.shadow [] gone
  turn_there keys gone left = in_turn (data_map v) v.shadow [] gone taken once
    where
      ascend : Ascend (volume_of k).entries
      ascend = let tree = is_tree v k (M.now m) whole stands in subst Ascend tree.2 (entries_ascend (tree.0 - 1) k.mounted.pages top tree.1.subtree)

      each : AllByRecursion (λ e. AreTaken (data_map v) v.shadow e.runs) (entries_at keys (volume_of k).entries)
      each = each_kept (λ (e : Entry). AreTaken (data_map v) v.shadow e.runs) (λ e. list_any (same_key e.key) keys) (volume_of k).entries
          (all_weaker (λ (e : Entry). entry_of e.key (volume_of k).entries ≡ Some e) (λ (e : Entry). AreTaken (data_map v) v.shadow e.runs) (volume_of k).entries
          (λ e there. taken_is_out v whole e.runs (taken_there v v refl whole k (M.now m) stands e (entry_contained e.key (volume_of k).entries e there))) (each_found (volume_of k).entries ascend))

      taken : AllByRecursion (λ g. AreTaken (data_map v) v.shadow g.entry.runs) gone
      taken = each_mapped (λ (e : Entry). AreTaken (data_map v) v.shadow e.runs) (λ (g : Leaving). g.entry) gone (subst (AllByRecursion (λ (e : Entry). AreTaken (data_map v) v.shadow e.runs)) (sym left) each)

      once : (s : ℕ) → used s (plans_of (entries_left [])) + used s (plans_of (entries_left gone)) ≤ 1
      once s =
          let plans = plans_of (volume_of k).entries in
          let apart = and_parts (all_differ (flat_map sectors_of plans)) (list_all (is_data (volume_of k).layout) (flat_map sectors_of plans)) stands.disk.described.apart in
          let all = differ_occurs (flat_map sectors_of plans) apart.0 s in
          let some = fewer_used (λ e. list_any (same_key e.key) keys) s (volume_of k).entries in
          omega (arith, all, some, ap (λ (es : List Entry). used s (plans_of es)) left)

  -- ---- a refusal

  abbrev left : VolumeValue
  left = record v { cache = c; free_pages = flags }

  module _ (valid : IsCache c) (stays : StaysInCache M by_log.ghosts v.log m m' v.cache c v.free_pages flags) where
    are_pages : images_by M by_log.ghosts v.log m' c (length flags) ≡ k.mounted.pages
    are_pages = stays.images trust ∙ was_pages

    -- it stands as it was
    pub stands_left : Stands state IsMemoryOf left k (M.now m')
    stands_left = stands_unedited M short m m' v whole cached c flags refusal edits honest k stands valid stays.dirty stays.same_flags are_pages

    unbarred : (page : ℕ) → BarsPages k.mounted.pages v.free_pages page → ⊥
    unbarred page (inl breaks) = unbroken v k (M.now m) whole stands page breaks
    unbarred page (inr (free, way)) = both_ways (slice_index_or v.free_pages page false) (subst (λ (n : ℕ). slice_index_or v.free_pages n false ≡ false) way.2 (not_spare v k (M.now m) whole stands way.0 way.1)) free

    barred : (IsTrusted M by_log.ghosts v.log m v.cache m' → (page : ℕ) × BarsPages (images_by M by_log.ghosts v.log m' c (length flags)) flags page) → ⊥
    barred h =
        let one = h trust in
        unbarred one.0 (subst (λ (f : List Bool). BarsPages k.mounted.pages f one.0) stays.same_flags (subst (λ (p : List (List ℕ)). BarsPages p flags one.0) are_pages one.1))

    untaken : OfTableIn M by_log.ghosts v.log m m' v.cache v.free_pages (LosesUntaken (data_map v) v.shadow) → ⊥
    untaken h = let lost = of_entries (LosesUntaken (data_map v) v.shadow) h in lost.3 (turn_there lost.0 lost.1 lost.2)

-- a refusal is one of the definitions, or came from outside
module _ {D : Type 0} (M : MachineGhosts D) (short : (m : D) → M.honest m → AreShort (M.now m).windows) (m m' : D) (v : VolumeValue) (whole : IsWholeVolume v) (cached : IsCache v.cache) (c : CacheValue) (flags : List Bool)
    (honest : M.honest m') (k : Known) (stands : Stands state IsMemoryOf v k (M.now m)) (name : List ℕ) (valid : IsCache c) (stays : StaysInCache M by_log.ghosts v.log m m' v.cache c v.free_pages flags) where
  abbrev After : (Option Refusal → Type 0) → Type 0
  After Holds = (told : Option Refusal) → EditsOnly M by_log.ghosts v.log told m m' v.cache c v.free_pages flags → Holds told

  pub refused_by : (fault : Option Refusal) {T : Type 0} (Made : T → Type 0) (Untaken UsedUp Usable : Type 0) → After (λ told. Untaken → ⊥) → After (λ told. UsedUp → fault ≡ Some Why.VersionsUsedUp)
      → After (λ told. (n : ℕ) → n ≡ count_by (λ spare. spare) v.free_pages → n < 8 → Usable → fault ≡ Some (Why.NameTableFull n)) → (r : Refusal) → EditsOnly M by_log.ghosts v.log (outer_refusal r) m m' v.cache c v.free_pages flags
      → RefusesFor (IsTrusted M by_log.ghosts v.log m v.cache m' → (page : ℕ) × BarsPages (images_by M by_log.ghosts v.log m' c (length flags)) flags page) Untaken UsedUp Usable (count_by (λ spare. spare) v.free_pages) r
      → EndsMade fault Made k (record v { cache = c; free_pages = flags }) (M.now m') (Err r)
  refused_by fault Made Untaken UsedUp Usable untaken used full (Why.Device s) edits none = stands_left M short m m' v whole cached c flags _ edits honest k stands name valid stays
  refused_by fault Made Untaken UsedUp Usable untaken used full Why.Memory edits none = stands_left M short m m' v whole cached c flags _ edits honest k stands name valid stays
  refused_by fault Made Untaken UsedUp Usable untaken used full (Why.Lost a b) edits none =
      let lost = edits.loses.lost honest in
      absurd (never_lost v k (M.now m') whole (worn M short m m' v whole cached c flags _ edits honest k stands) edits.loses.page (omega (arith, edits.loses.within, ap (λ (l : Layout). l.pages) whole.log)) a b lost.first lost.second lost.copies)
  refused_by fault Made Untaken UsedUp Usable untaken used full (Why.Unsound s) edits (inl bars) = absurd (barred M short m m' v whole cached c flags _ edits honest k stands name valid stays bars)
  refused_by fault Made Untaken UsedUp Usable untaken used full (Why.Unsound s) edits (inr lost) = absurd (untaken _ edits lost)
  refused_by fault Made Untaken UsedUp Usable untaken used full Why.VersionsUsedUp edits (inr (inl bars)) = absurd (barred M short m m' v whole cached c flags _ edits honest k stands name valid stays bars)
  refused_by fault Made Untaken UsedUp Usable untaken used full Why.VersionsUsedUp edits (inr (inr lost)) = absurd (untaken _ edits lost)
  refused_by fault Made Untaken UsedUp Usable untaken used full Why.VersionsUsedUp edits (inl most) = (used _ edits most, stands_left M short m m' v whole cached c flags _ edits honest k stands name valid stays)
  refused_by fault Made Untaken UsedUp Usable untaken used full (Why.NameTableFull n) edits (is, few, usable) = (full _ edits n is few usable, stands_left M short m m' v whole cached c flags _ edits honest k stands name valid stays)
  refused_by fault Made Untaken UsedUp Usable untaken used full r edits none = absurd none

module _ {D : Type 0} (M : MachineGhosts D) (short : (m : D) → M.honest m → AreShort (M.now m).windows) (m m' : D) (v : VolumeValue) (whole : IsWholeVolume v) (cached : IsCache v.cache) (c : CacheValue) (flags : List Bool)
    (honest : M.honest m') (k : Known) (stands : Stands state IsMemoryOf v k (M.now m)) (name : List ℕ) (given : Option ℕ) (bytes : List ℕ) (draft : Entry) (valid : IsCache c)
    (stays : StaysInCache M by_log.ghosts v.log m m' v.cache c v.free_pages flags) where
  abbrev Ends : Refusal → Type 0
  Ends r = EndsEntered name given bytes draft k (record v { cache = c; free_pages = flags }) (M.now m') (Err r)

  pub refused_ends : (r : Refusal) → EditsOnly M by_log.ghosts v.log (outer_refusal r) m m' v.cache c v.free_pages flags → NoneFor M by_log.ghosts v.log (data_map v) v.shadow name m m' v.cache c v.free_pages flags r → Ends r
  refused_ends r edits none =
      refused_by M short m m' v whole cached c flags honest k stands name valid stays (enter_fault (volume_of k) name) (StandsEntered name given bytes draft k (record v { cache = c; free_pages = flags }) (M.now m'))
      (OfTableIn M by_log.ghosts v.log m m' v.cache v.free_pages (LosesUntaken (data_map v) v.shadow))
      (OfTableIn M by_log.ghosts v.log m m' v.cache v.free_pages (λ table. max_u32 < (next_key name table).version))
      (OfTableIn M by_log.ghosts v.log m m' v.cache v.free_pages (λ table. (next_key name table).version ≤ max_u32))
      (λ told edits lost. untaken M short m m' v whole cached c flags told edits honest k stands name valid stays lost)
      (λ told edits most. used_up M short m m' v whole cached c flags told edits honest k stands name (of_entries M short m m' v whole cached c flags told edits honest k stands name (λ table. max_u32 < (next_key name table).version) most))
      (λ told edits n is few usable. table_full M short m m' v whole cached c flags told edits honest k stands name n is few
      (of_entries M short m m' v whole cached c flags told edits honest k stands name (λ table. (next_key name table).version ≤ max_u32) usable))
      r edits none

-- ---- as the parts of a volume have it

module _ {D : Type 0} (M : MachineGhosts D) (short : (m : D) → M.honest m → AreShort (M.now m).windows) (m m' : D) (v w : VolumeValue) (is : v ≡ w) (whole : IsWholeVolume v) (cached : IsCache v.cache) (c : CacheValue) (flags : List Bool)
    (log : LogValue) (of_log : log ≡ v.log) (valid : IsCache c) (name : List ℕ) (given : Option ℕ) (draft : Entry) where
  pub ends_refused : (result : Result Key Refusal) (why : Refusal) → IsErrAnd result (λ told. told ≡ why) → EditsOnly M by_log.ghosts log (outer_refusal why) m m' v.cache c v.free_pages flags
      → StaysInCache M by_log.ghosts log m m' v.cache c v.free_pages flags → NoneFor M by_log.ghosts log (data_map v) v.shadow name m m' v.cache c v.free_pages flags why
      → M.honest m' → (k : Known) → Stands state IsMemoryOf w k (M.now m) → (bytes : List ℕ) → EndsEntered name given bytes draft k (record v { cache = c; free_pages = flags }) (M.now m') result
  ends_refused result why told edits stays none honest k stands bytes =
      handed (λ (r : Result Key Refusal). EndsEntered name given bytes draft k (record v { cache = c; free_pages = flags }) (M.now m') r) result why told
      (refused_ends M short m m' v whole cached c flags honest k (subst (λ (x : VolumeValue). Stands state IsMemoryOf x k (M.now m)) (sym is) stands) name given bytes draft valid
      (subst (λ (l : LogValue). StaysInCache M by_log.ghosts l m m' v.cache c v.free_pages flags) of_log stays) why
      (subst (λ (l : LogValue). EditsOnly M by_log.ghosts l (outer_refusal why) m m' v.cache c v.free_pages flags) of_log edits)
      (subst (λ (l : LogValue). NoneFor M by_log.ghosts l (data_map v) v.shadow name m m' v.cache c v.free_pages flags why) of_log none))
