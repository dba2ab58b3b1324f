-- A volume that stands stands with one version more, once its table was edited in the cache.
use Rattle.std.proofs.Common.{◌≡◌, inl, inr, ℕ, ◌+◌, ◌-◌, ◌<◌, ◌≤◌, Bool, true, false, not, ◌&&◌, List, [], length, None, Some, refl, sym, ap, subst, ◌∙◌, arith}
use Rattle.std.specs.Prelude.{T}
use Rattle.std.specs.FinMap.{is_sorted}
use Rattle.std.proofs.lemmas.Bool.{both_ways, cases_lt, false_from_ne_true, or_right}
use Rattle.std.proofs.lemmas.List.{ext_get_or}
use Rattle.volume_layout.specs.declared.layout.Layout.{Layout}
use Rattle.sector_disk.specs.declared.machine.Machine.{Ghosts as MachineGhosts}
use Rattle.sector_disk.specs.Image.{AreShort, open_damage}
use Rattle.sector_disk.specs.Machine.{Moment}
use Rattle.fsd_bytes.specs.declared.key.Key.{Key}
use Rattle.fsd_bytes.specs.Keys.{key_cmp}
use Rattle.run_table.specs.declared.run.Run.{Run}
use Rattle.run_table.specs.RunTable.{sectors_of}
use Rattle.run_table.specs.Space.{contains}
use Rattle.sector_set.specs.Area.{Area, without_sectors}
use Rattle.sector_set.proofs.FreeLaws.{contains_where, contains_where_outside}
use Rattle.shadow_frees.specs.Waits.{Waits}
use Rattle.fsd_formats.specs.declared.entry.Entry.{Entry}
use Rattle.fsd_table.specs.Table.{top}
use Rattle.fsd_table.specs.Tree.{IsTree, pages_of, table_of}
use Rattle.fsd_table.proofs.BoundLaws.{Ascend, entries_ascend}
use Rattle.fsd_table.proofs.VisitLaws.{one_table}
use Rattle.fsd_files.specs.Answers.{entry_of}
use Rattle.fsd_files.specs.Disk.{in_runs}
use Rattle.fsd_files.specs.Files.{Change, Files}
use Rattle.fsd_files.specs.Kept.{KeptIn}
use Rattle.fsd_files.specs.Volume.{Volume, is_free, is_in}
use Rattle.fsd_files.specs.Waiting.{Changes}
use Rattle.fsd_files.proofs.HistoryLaws.{after_in_order}
use Rattle.fsd_files.proofs.WaitLaws.{open_taken}
use Rattle.page_cache.specs.Cache.{CacheValue, IsCache, is_among}
use Rattle.fsd_sound.specs.Mounted.{most_changed}
use Rattle.group_commit.specs.contracts.newest.NewestPageSource.TheImpl as by_log
use Rattle.version_table.specs.declared.oldest.Leaving.{Leaving}
use Rattle.volume_contract.specs.State.{Known, Stands, held_runs, volume_of}
use Rattle.volume_laws.specs.Changing.{IsAfter, known_after}
use Rattle.cached_table.specs.Editing.{EditsOnly, EditsTable}
use Rattle.cached_table.specs.Entering.{with_gone}
use Rattle.volume_laws.specs.Placing.{IsPlace}
use Rattle.volume_laws.specs.State.{IsMemoryOf, state}
use Rattle.volume_laws.specs.Volume.{IsWholeVolume, VolumeValue}
use Rattle.table_survey.specs.Claims.{IsOfData}
use Rattle.table_survey.proofs.DataLaws.{of_data_own}
use Rattle.volume_laws.proofs.ChangeLaws.{stands_changed}
use Rattle.volume_laws.proofs.EnteredSpace.{made, made_count, made_free, made_kept, made_there, made_waits}
use Rattle.volume_laws.proofs.MadeLaws.{has_table, pages_made, pages_now, worn}
use Rattle.volume_laws.proofs.NewVersionLaws.{IsMade, made_described, place_free, written_kept}
use Rattle.volume_laws.proofs.TableLaws.{is_tree}

-- the free sectors without those that are taken
taken_map : (l : Layout) (map : Area) (v : Volume) (runs : List Run) → IsOfData l map → ((s : ℕ) → contains map.sectors s ≡ is_free v s)
    → (s : ℕ) → contains (without_sectors map runs).sectors s ≡ (is_free v s && not (contains (sectors_of runs) s))
taken_map l map v runs of_data is s =
    elim (cases_lt s map.from) [
      | inl low ↦ outside (λ from to. absurd (omega (arith, low, from)))
      | inr from ↦ elim (cases_lt s map.to) [
        | inr high ↦ outside (λ low to. absurd (omega (arith, high, to)))
        | inl to ↦ contains_where left map.from map.to s from to ∙ ap (λ (b : Bool). b && not (contains (sectors_of runs) s)) (is s)
      ]
    ]
  where
    left : ℕ → Bool
    left t = contains map.sectors t && not (contains (sectors_of runs) t)

    outside : (map.from ≤ s → s < map.to → ⊥) → contains (without_sectors map runs).sectors s ≡ (is_free v s && not (contains (sectors_of runs) s))
    outside far =
        let none : contains map.sectors s ≡ false =
        ap (λ (m : Area). contains m.sectors s) (of_data_own l map of_data) ∙ contains_where_outside (contains map.sectors) map.from map.to s far in
        contains_where_outside left map.from map.to s far ∙ ap (λ (b : Bool). b && not (contains (sectors_of runs) s)) (sym none ∙ is s)

-- ---- the volume that stands

-- its entries and its files are in order
pub ascend : (v : VolumeValue) (k : Known) (now : Moment) → IsWholeVolume v → Stands state IsMemoryOf v k now → Ascend (volume_of k).entries
ascend v k now whole stands =
    let tree = is_tree v k now whole stands in
    subst Ascend tree.2 (entries_ascend (tree.0 - 1) k.mounted.pages top tree.1.subtree)

pub sorted : (v : VolumeValue) (k : Known) (now : Moment) → Stands state IsMemoryOf v k now → T (is_sorted key_cmp (volume_of k).files)
sorted v k now stands = subst (λ (fs : Files). T (is_sorted key_cmp fs)) (sym stands.disk.files) (after_in_order k.changes)

module _ {D : Type 0} (M : MachineGhosts D) (short : (m : D) → M.honest m → AreShort (M.now m).windows) (m m' : D) (v : VolumeValue) (whole : IsWholeVolume v) (cached : IsCache v.cache) (c : CacheValue) (flags : List Bool)
    (edits : EditsOnly M by_log.ghosts v.log None m m' v.cache c v.free_pages flags) (honest : M.honest m') (k : Known) (stands : Stands state IsMemoryOf v k (M.now m))
    (few : length c.dirty ≤ length v.cache.dirty + most_changed) (within : (page : ℕ) → is_among c.dirty page ≡ true → page < length flags)
    (change : Change) (e : Entry) (out : List Key) (gone : List Leaving) (edit : List Entry → List Entry) (bytes : List ℕ) (is_made : IsMade (volume_of k) change e out gone edit bytes)
    (makes : EditsTable M by_log.ghosts v.log m m' v.cache c v.free_pages flags edit) (need : ℕ) (place : IsPlace v.map need e.runs) (there : KeptIn (M.now m').image (open_damage (M.now m').windows) bytes e.runs) where
  now : Stands state IsMemoryOf v k (M.now m')
  now = worn M short m m' v whole cached c flags None edits honest k stands

  abbrev pages_entered : List (List ℕ)
  pages_entered = pages_now M short m m' v whole cached c flags None edits honest k stands

  abbrev reached_entered : ℕ
  reached_entered = length (pages_of pages_entered (has_table M short m m' v whole cached c flags None edits honest k stands few within edit makes).height)

  abbrev volume_entered : Volume
  volume_entered = made (volume_of k) change e out reached_entered

  abbrev pub known_entered : Known
  known_entered = known_after k change volume_entered pages_entered c.dirty

  changed : Changes (volume_of k) volume_entered
  changed = is_made.changed reached_entered now.disk.spaced (place_free v k.mounted _ need e.runs now.holds place)

  pub after : IsAfter change (in_runs k.windows) (M.now m').image (volume_of k) volume_entered
  after = record {
    changes = changed;
    files = refl;
    described = made_described (volume_of k) change e out reached_entered gone edit bytes is_made (in_runs k.windows) (M.now m').image changed now.disk.described.kept (written_kept (M.now m') k.windows bytes e.runs now.ends there);
    held = refl;
    drafts = refl;
  }

  -- no reader holds a sector that is taken
  unheld : (s : ℕ) → contains (sectors_of e.runs) s ≡ true → is_in (volume_of k).held s ≡ false
  unheld s here = false_from_ne_true (is_in (volume_of k).held s) (λ is.
      both_ways (is_free (volume_of k) s) (open_taken (volume_of k) s (or_right (is_in (volume_of k).drafts s) (is_in (volume_of k).held s) is)) (sym (now.holds.map s) ∙ place.free.inside s here))

  -- as many versions as are told
  pub count_entered : length volume_entered.files + length gone ≡ v.versions + 1
  count_entered =
      made_count (volume_of k) change e out reached_entered is_made.stays is_made.absent gone is_made.goes stands.disk.described.lists after.described.lists ∙ ap (λ (n : ℕ). n + 1) stands.fits.versions

  -- its entry is found by its key
  pub entry_entered : entry_of e.key volume_entered.entries ≡ Some e
  entry_entered = made_there (volume_of k) change e out reached_entered is_made.stays is_made.absent

  -- so some page has changed, and waits for a force
  pub some_waits : c.dirty ≡ [] → ⊥
  some_waits none =
      let made = pages_made M short m m' v whole cached c flags None edits honest k stands few within edit makes in
      let tree = is_tree v k (M.now m) whole stands in
      let same : k.mounted.pages ≡ pages_entered =
      ext_get_or [] k.mounted.pages pages_entered made.0.clean.size (λ page lt. made.0.clean.each page (ap (λ (d : List ℕ). contains d page) none)) in
      let height : ℕ = (has_table M short m m' v whole cached c flags None edits honest k stands few within edit makes).height in
      let now_tree : IsTree k.mounted.pages height = subst (λ (pages : List (List ℕ)). IsTree pages height) (sym same) made.0.tree in
      let entries : (volume_of k).entries ≡ volume_entered.entries =
      sym tree.2 ∙ one_table k.mounted.pages tree.0 height tree.1 now_tree ∙ ap (λ (pages : List (List ℕ)). table_of pages height) same ∙ made.1 ∙ is_made.entries in
      absurd (let both : None ≡ Some e = sym is_made.fresh ∙ ap (entry_of e.key) entries ∙ entry_entered in cc both)

  module _ (free : Area) (waits : Waits) (versions : ℕ) (count : versions + length gone ≡ v.versions + 1) (taken : free ≡ without_sectors v.map e.runs) (goes : waits.removed ≡ with_gone v.shadow.removed gone)
      (kept : waits.kept ≡ v.shadow.kept) (unfinished : waits.unfinished ≡ v.shadow.unfinished) (held : waits.held ≡ v.shadow.held) where
    abbrev pub entered : VolumeValue
    entered = record v { map = free; shadow = waits; cache = c; free_pages = flags; versions = versions }

    -- it stands with the version, whose sectors are taken, and without those that go, whose sectors wait
    pub stands_entered : IsWholeVolume entered → Stands state IsMemoryOf entered known_entered (M.now m')
    stands_entered entered_whole =
        let made = pages_made M short m m' v whole cached c flags None edits honest k stands few within edit makes in
        stands_changed v entered k (M.now m') change volume_entered pages_entered _ whole entered_whole now
        (record { layout = refl; log = refl; readers = held; down = refl }) after made.0 (made.1 ∙ is_made.entries) refl
        (record {
          map = λ s. ap (λ (a : Area). contains a.sectors s) taken ∙ taken_map v.layout v.map (volume_of k) e.runs whole.map now.holds.map s
              ∙ sym (made_free (volume_of k) change e out reached_entered is_made.stays is_made.absent s);
          removed = λ s. ap (λ (a : Area). contains a.sectors s) goes
              ∙ made_waits (volume_of k) change e out reached_entered v.layout whole.planned v.shadow.removed gone changed now.fits.layout whole.removed is_made.goes now.holds.removed s;
          kept = λ s. ap (λ (a : Area). contains a.sectors s) kept ∙ now.holds.kept s ∙ sym (made_kept (volume_of k) change e out reached_entered is_made.stays is_made.absent unheld s);
          unfinished = λ s. ap (λ (a : Area). contains a.sectors s) unfinished ∙ now.holds.unfinished s;
          held = now.fits.held ∙ ap held_runs (sym held);
          serial = now.fits.serial;
          versions = omega (arith, count_entered, count);
        })
