-- How a volume answers where a version was to be loaded into its table.
use Rattle.std.proofs.Common.{◌≡◌, ℕ, ◌+◌, ◌^◌, ◌-◌, ◌<◌, ◌≤◌, min, Bool, false, List, [], length, Option, Some, None, Result, Err, refl, sym, subst, ◌∙◌, arith}
use Rattle.std.specs.Prelude.{IsErrAnd, count_by}
use Rattle.std.proofs.lemmas.Bool.{le-ltb, lt-ltb}
use Rattle.sector_disk.specs.declared.machine.Machine.{Ghosts as MachineGhosts}
use Rattle.sector_disk.specs.Image.{AreShort, open_damage}
use Rattle.fsd_bytes.specs.declared.key.Key.{Key}
use Rattle.fsd_bytes.specs.declared.refusal.Refusal.{Refusal}
use Rattle.fsd_bytes.specs.declared.refusal.Refusal.TheVariants as Why
use Rattle.sector_set.specs.Area.{Area, without_sectors}
use Rattle.shadow_frees.specs.Waits.{Waits}
use Rattle.fsd_formats.specs.declared.entry.Entry.{Entry}
use Rattle.fsd_formats.specs.NamePage.{sectors_for}
use Rattle.fsd_table.specs.Reached.{ReachesPage}
use Rattle.fsd_files.specs.Answers.{HasVersion, entry_of, entry_put, load_fault, loaded_entry}
use Rattle.fsd_files.specs.Files.{Change}
use Rattle.fsd_files.specs.Volume.{Volume, pages_free}
use Rattle.fsd_sound.specs.Lookups.{HasKey}
use Rattle.group_commit.specs.Cached.{AreWaiting}
use Rattle.group_commit.specs.contracts.newest.NewestPageSource.TheImpl as by_log
use Rattle.log_thirds.specs.LogValue.{LogValue}
use Rattle.name_page.specs.Pages.{outer_refusal}
use Rattle.page_cache.specs.Cache.{CacheValue, IsCache}
use Rattle.volume_contract.specs.Causes.{ShowsOfPages}
use Rattle.volume_contract.specs.Found.{ShowsReached}
use Rattle.volume_contract.specs.Order.{Comes}
use Rattle.volume_contract.specs.State.{Known, Stands, State, volume_of}
use Rattle.cached_table.specs.Editing.{DirtiesAtMost, EditsOnly, EditsTable}
use Rattle.cached_table.specs.Entering.{OfTableIn}
use Rattle.cached_table.specs.Loading.{LoadsNone, LoadsThere, entry_drafted}
use Rattle.cached_table.specs.Looking.{LooksOnly}
use Rattle.volume_laws.specs.Entered.{EndsLoaded, StandsLoaded, StandsMade, loading_steps}
use Rattle.volume_laws.specs.Placing.{IsPlace}
use Rattle.volume_laws.specs.State.{IsMemoryOf, resident, state}
use Rattle.volume_laws.specs.Taken.{data_map}
use Rattle.volume_laws.specs.Volume.{IsWholeVolume, VolumeValue}
use Rattle.volume_laws.proofs.CountLaws.{count_of_flags}
use Rattle.volume_laws.proofs.EnterDone.{edits_here, ends_made, here}
use Rattle.volume_laws.proofs.EnterEnds.{of_entries, refused_by, stands_left}
use Rattle.volume_laws.proofs.EnteredCalls.{free_told}
use Rattle.volume_laws.proofs.LoadLaws.{load_free, load_full, load_there}
use Rattle.volume_laws.proofs.MakingLaws.{refuses_comes, whole_entered}
use Rattle.volume_laws.proofs.MoveCalls.{asked_follows}
use Rattle.volume_laws.proofs.NewVersionLaws.{IsMade, load_made, loaded_is}
use Rattle.volume_laws.proofs.RangeLaws.{handed}
use Rattle.volume_laws.proofs.ReadLaws.{shows_now}

-- ---- over any machine

-- a refusal of the table's load is one of its steps
pub load_comes : {D : Type 0} (M : MachineGhosts D) (m m' : D) (v w : VolumeValue) → v ≡ w → (log : LogValue) (key : Key) (c : CacheValue) (flags : List Bool) (home_a : ℕ) (why : Refusal)
    → LoadsNone M by_log.ghosts log key (data_map v) v.shadow m m' v.cache c v.free_pages flags home_a why → Comes (loading_steps (state w)) why
load_comes M m m' v w is log key c flags home_a why none =
    asked_follows {T = Key} Why.Exists (state w) (Err why) (refuses_comes (state w) _ _ _ _ (count_by (λ spare. spare) v.free_pages) (free_told v w is) why none.fault)

-- it is none that tells the version as there
pub load_some : {D : Type 0} (M : MachineGhosts D) (m m' : D) (log : LogValue) (key : Key) (map : Area) (w : Waits) (old c : CacheValue) (free flags : List Bool) (home_a : ℕ) (why : Refusal)
    → LoadsNone M by_log.ghosts log key map w m m' old c free flags home_a why → why ≡ Why.Exists → ⊥
load_some M m m' log key map w old c free flags home_a why none is = (subst (LoadsNone M by_log.ghosts log key map w m m' old c free flags home_a) is none).fault

-- it is whole once the sectors are taken
pub whole_loaded : (v : VolumeValue) → IsWholeVolume v → (c : CacheValue) (flags : List Bool) → IsWholeVolume (record v { cache = c; free_pages = flags }) → (draft : Entry) (free : Area) (versions : ℕ) → free ≡ without_sectors v.map draft.runs
    → IsWholeVolume (record v { map = free; cache = c; free_pages = flags; versions = versions })
whole_loaded v whole c flags edited draft free versions taken = whole_entered v whole c flags edited draft.runs [] tt false (λ none. refl) free v.shadow versions taken refl refl refl refl

-- the pages that were read show a version of the key
pub load_reached : {D : Type 0} (M : MachineGhosts D) (m m' : D) (v w : VolumeValue) → v ≡ w → IsWholeVolume v → (c : CacheValue) (flags : List Bool) (log : LogValue) → log ≡ v.log → (new : State) (key : Key)
    → LoadsThere M by_log.ghosts log key m m' v.cache c v.free_pages flags → ShowsReached M (resident w) (state w) new m m' (HasKey key)
load_reached M m m' v w is whole c flags log of_log new key loads = λ honest.
    subst (λ (x : VolumeValue). ShowsOfPages (state x) new (resident x) (M.now m) (M.now m') (ReachesPage (HasKey key))) is
    (shows_now M m m' v whole c None (subst (λ (l : LogValue). LooksOnly M by_log.ghosts l None m m' v.cache c v.free_pages) of_log loads.looks) honest new (ReachesPage (HasKey key)) (λ pages have.
    let led = loads.told.way pages have in
    (led.0, led.1, record { entry = loads.found.entry; there = record { there = led.3; fits = led.4 }; of_key = loads.told.suits })))

-- ---- over a volume that stands

module _ {D : Type 0} (M : MachineGhosts D) (short : (m : D) → M.honest m → AreShort (M.now m).windows) (m m' : D) (v w : VolumeValue) (is : v ≡ w) (whole : IsWholeVolume v) (cached : IsCache v.cache) (c : CacheValue) (flags : List Bool)
    (log : LogValue) (of_log : log ≡ v.log) (key : Key) (keep : ℕ) (draft : Entry) (honest : M.honest m') (k : Known) (stands : Stands state IsMemoryOf w k (M.now m)) (bytes : List ℕ) where
  now_here : Stands state IsMemoryOf v k (M.now m)
  now_here = subst (λ (x : VolumeValue). Stands state IsMemoryOf x k (M.now m)) (sym is) stands

  free_is : pages_free (volume_of k) ≡ count_by (λ spare. spare) v.free_pages
  free_is = now_here.fits.pages_free ∙ count_of_flags v.free_pages

  abbrev left : VolumeValue
  left = record v { cache = c; free_pages = flags }

  -- what holds of the table holds of the volume's entries
  of_table : (told : Option Refusal) → EditsOnly M by_log.ghosts v.log told m m' v.cache c v.free_pages flags → (Is : List Entry → Type 0) → OfTableIn M by_log.ghosts v.log m m' v.cache v.free_pages Is → Is (volume_of k).entries
  of_table told edits Is h = of_entries M short m m' v whole cached c flags told edits honest k now_here key.name Is h

  abbrev Lacks : List Entry → Type 0
  Lacks table = entry_of key table ≡ None

  -- none is loaded
  pub load_refused : IsCache c → {T : Type 0} (result : Result T Refusal) (why : Refusal) (home_a : ℕ) → IsErrAnd result (λ told. told ≡ why) → EditsOnly M by_log.ghosts log (outer_refusal why) m m' v.cache c v.free_pages flags
      → LoadsNone M by_log.ghosts log key (data_map v) v.shadow m m' v.cache c v.free_pages flags home_a why → EndsLoaded key keep bytes draft k left (M.now m') result
  load_refused valid {T} result why home_a told edits loads =
      let none = subst (λ (l : LogValue). LoadsNone M by_log.ghosts l key (data_map v) v.shadow m m' v.cache c v.free_pages flags home_a why) of_log loads in
      handed (λ (r : Result T Refusal). EndsLoaded key keep bytes draft k left (M.now m') r) result why told
      (refused_by M short m m' v whole cached c flags honest k now_here key.name valid none.kept (load_fault (volume_of k) key) (λ (x : T). StandsLoaded key keep bytes draft k left (M.now m')) ⊥ ⊥
      (OfTableIn M by_log.ghosts v.log m m' v.cache v.free_pages Lacks) (λ told edits lost. lost) (λ told edits used. absurd used)
      (λ told edits n is few lacks. load_full (volume_of k) key n (of_table told edits Lacks lacks) (free_is ∙ sym is) (lt-ltb n 8 few)) why
      (subst (λ (l : LogValue). EditsOnly M by_log.ghosts l (outer_refusal why) m m' v.cache c v.free_pages flags) of_log edits) none.fault)

  -- a version of the key is there
  pub load_exists : (T : Type 0) → IsCache c → EditsOnly M by_log.ghosts log None m m' v.cache c v.free_pages flags → LoadsThere M by_log.ghosts log key m m' v.cache c v.free_pages flags → EndsLoaded {T = T} key keep bytes draft k left (M.now m') (Err Why.Exists)
  load_exists T valid edits loads =
      let there = subst (λ (l : LogValue). LoadsThere M by_log.ghosts l key m m' v.cache c v.free_pages flags) of_log loads in
      let edits_by = subst (λ (l : LogValue). EditsOnly M by_log.ghosts l None m m' v.cache c v.free_pages flags) of_log edits in (
        load_there (volume_of k) key there.found.entry (of_table None edits_by (λ table. entry_of key table ≡ Some there.found.entry) there.there),
        stands_left M short m m' v whole cached c flags None edits_by honest k now_here key.name valid there.kept,
      )

  -- ---- it is loaded

  module _ (narrow : v.layout.sectors < 2 ^ 32) (room : length v.cache.dirty ≤ 56) (edits : EditsOnly M by_log.ghosts log None m m' v.cache c v.free_pages flags) (fewer : DirtiesAtMost 36 v.cache c) (waits : AreWaiting (length v.free_pages) c)
      (absent : OfTableIn M by_log.ghosts log m m' v.cache v.free_pages Lacks) (many : 8 ≤ count_by (λ spare. spare) v.free_pages)
      (makes : EditsTable M by_log.ghosts log m m' v.cache c v.free_pages flags (entry_put (entry_drafted key keep draft)))
      (place : IsPlace v.map (sectors_for draft.length) draft.runs) (long : draft.length ≡ length bytes) (written : HasVersion (open_damage (M.now m').windows) (M.now m').image bytes draft) where
    abbrev was : Stands state IsMemoryOf v k (M.now m)
    was = here M short m m' v w is whole cached c flags log of_log narrow room edits fewer waits honest k stands

    none_here : entry_of key (volume_of k).entries ≡ None
    none_here = of_table None (edits_here M short m m' v w is whole cached c flags log of_log narrow room edits fewer waits honest k stands) Lacks
        (subst (λ (l : LogValue). OfTableIn M by_log.ghosts l m m' v.cache v.free_pages Lacks) of_log absent)

    is_load : IsMade (volume_of k) (Change.Load key keep bytes) (loaded_entry key keep bytes draft.runs draft.serial) [] [] (entry_put (entry_drafted key keep draft)) bytes
    is_load = load_made (volume_of k) key keep bytes draft was.disk.described.lists none_here long

    pub ends_loaded : (free : Area) (versions : ℕ) → versions ≡ min (v.versions - 0 + 1) 4294967295 → free ≡ without_sectors v.map draft.runs → IsWholeVolume (record v { map = free; cache = c; free_pages = flags; versions = versions })
        → StandsLoaded key keep bytes draft k (record v { map = free; cache = c; free_pages = flags; versions = versions }) (M.now m')
    ends_loaded free versions counts taken made_whole =
        let new : VolumeValue = record v { map = free; cache = c; free_pages = flags; versions = versions } in
        record {
          none = load_free (volume_of k) key none_here (le-ltb (pages_free (volume_of k)) 8 (omega (arith, many, free_is)));
          made = subst (λ (becomes : ℕ → Volume). StandsMade (Change.Load key keep bytes) becomes (loaded_entry key keep bytes draft.runs draft.serial) bytes draft k new (M.now m'))
              (λ i r. sym (loaded_is (volume_of k) key keep bytes draft was.disk.described.lists none_here long r) i)
              (ends_made M short m m' v w is whole cached c flags log of_log narrow room edits fewer waits honest k stands _ _ _ [] (entry_put (entry_drafted key keep draft)) bytes is_load makes (sectors_for draft.length) place written.data_there
              draft written free v.shadow versions counts taken refl refl refl refl made_whole);
        }
