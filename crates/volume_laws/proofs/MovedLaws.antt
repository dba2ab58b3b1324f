-- A volume that stands stands with a version under its new key, once its table was edited in the cache.
use Rattle.std.proofs.Common.{◌≡◌, ℕ, ◌+◌, ◌<◌, ◌≤◌, Bool, true, List, [], ◌∷◌, length, Some, None, refl, sym, ap, subst, ◌∙◌, arith}
use Rattle.std.specs.Prelude.{T}
use Rattle.std.specs.FinMap.{is_sorted}
use Rattle.std.proofs.lemmas.List.{ext_get_or}
use Rattle.sector_disk.specs.declared.machine.Machine.{Ghosts as MachineGhosts}
use Rattle.sector_disk.specs.Image.{AreShort}
use Rattle.fsd_bytes.specs.declared.key.Key.{Key}
use Rattle.fsd_bytes.specs.Keys.{key_cmp}
use Rattle.run_table.specs.Space.{contains}
use Rattle.sector_set.specs.Area.{Area}
use Rattle.shadow_frees.specs.Waits.{Waits}
use Rattle.fsd_formats.specs.declared.entry.Entry.{Entry}
use Rattle.fsd_table.specs.Tree.{IsTree, pages_of, table_of}
use Rattle.fsd_table.proofs.VisitLaws.{one_table}
use Rattle.fsd_files.specs.Answers.{entry_of}
use Rattle.fsd_files.specs.Disk.{in_runs}
use Rattle.fsd_files.specs.Files.{Change, Files, gone_by_move}
use Rattle.fsd_files.specs.Kept.{Lists}
use Rattle.fsd_files.specs.Volume.{Volume}
use Rattle.fsd_files.proofs.HistoryLaws.{after_in_order}
use Rattle.fsd_files.proofs.MoveLaws.{moved_away}
use Rattle.page_cache.specs.Cache.{CacheValue, IsCache, is_among}
use Rattle.fsd_sound.specs.Mounted.{most_changed}
use Rattle.group_commit.specs.contracts.newest.NewestPageSource.TheImpl as by_log
use Rattle.version_table.specs.declared.oldest.Leaving.{Leaving}
use Rattle.version_table.specs.declared.planning.Plan.{Plan}
use Rattle.version_table.specs.Moving.{IsMovePlan}
use Rattle.version_table.specs.Plan.{planned_entry, with_planned}
use Rattle.volume_contract.specs.State.{Known, Stands, held_runs, volume_of}
use Rattle.volume_laws.specs.Changing.{IsAfter, known_after}
use Rattle.cached_table.specs.Editing.{EditsOnly, EditsTable}
use Rattle.cached_table.specs.Entering.{with_gone}
use Rattle.volume_laws.specs.State.{IsMemoryOf, state}
use Rattle.volume_laws.specs.Volume.{IsWholeVolume, VolumeValue}
use Rattle.volume_laws.proofs.ChangeLaws.{stands_changed}
use Rattle.volume_laws.proofs.EnteredSpace.{gone_wait}
use Rattle.volume_laws.proofs.MadeLaws.{has_table, pages_made, pages_now, worn}
use Rattle.volume_laws.proofs.MovedSpace.{after_moved, count_made, entries_made, gone_are, has, moved_alone, moved_free, volume_made}
use Rattle.volume_laws.proofs.TableLaws.{is_tree}

module _ {D : Type 0} (M : MachineGhosts D) (short : (m : D) → M.honest m → AreShort (M.now m).windows) (m m' : D) (v : VolumeValue) (whole : IsWholeVolume v) (cached : IsCache v.cache) (c : CacheValue) (flags : List Bool)
    (edits : EditsOnly M by_log.ghosts v.log None m m' v.cache c v.free_pages flags) (honest : M.honest m') (k : Known) (stands : Stands state IsMemoryOf v k (M.now m))
    (few : length c.dirty ≤ length v.cache.dirty + most_changed) (within : (page : ℕ) → is_among c.dirty page ≡ true → page < length flags)
    (key : Key) (name : List ℕ) (e : Entry) (there : entry_of key (volume_of k).entries ≡ Some e) (plan : Plan) (planned : IsMovePlan key name (volume_of k).entries plan)
    (moved : Leaving) (others : List Leaving) (goes : plan.gone.items ≡ moved ∷ others)
    (makes : EditsTable M by_log.ghosts v.log m m' v.cache c v.free_pages flags (with_planned plan (planned_entry plan moved.entry.serial moved.entry.length moved.entry.runs))) where
  abbrev edit : List Entry → List Entry
  edit = with_planned plan (planned_entry plan moved.entry.serial moved.entry.length moved.entry.runs)

  now : Stands state IsMemoryOf v k (M.now m')
  now = worn M short m m' v whole cached c flags None edits honest k stands

  pub sorted : T (is_sorted key_cmp (volume_of k).files)
  sorted = subst (λ (fs : Files). T (is_sorted key_cmp fs)) (sym stands.disk.files) (after_in_order k.changes)

  abbrev pub lists : Lists (volume_of k).files (volume_of k).entries
  lists = stands.disk.described.lists

  abbrev pages_moved : List (List ℕ)
  pages_moved = pages_now M short m m' v whole cached c flags None edits honest k stands

  abbrev pub reached_moved : ℕ
  reached_moved = length (pages_of pages_moved (has_table M short m m' v whole cached c flags None edits honest k stands few within edit makes).height)

  abbrev pub volume_moved : Volume
  volume_moved = volume_made (volume_of k) key name e reached_moved sorted lists there

  abbrev pub known_moved : Known
  known_moved = known_after k (Change.Move key name) volume_moved pages_moved c.dirty

  after : IsAfter (Change.Move key name) (in_runs k.windows) (M.now m').image (volume_of k) volume_moved
  after = after_moved (volume_of k) key name e reached_moved sorted lists there (in_runs k.windows) (M.now m').image now.disk.spaced now.disk.described

  entries_moved : edit (volume_of k).entries ≡ volume_moved.entries
  entries_moved = entries_made (volume_of k) key name e reached_moved sorted lists there plan planned moved others goes

  -- as many versions as are told, but for those that go
  pub count_moved : length volume_moved.files + length others ≡ v.versions
  count_moved = count_made (volume_of k) key name e reached_moved sorted lists there plan planned moved others goes after.described.lists ∙ stands.fits.versions

  -- some page has changed, and waits for a force
  pub some_moved : c.dirty ≡ [] → ⊥
  some_moved none =
      let made = pages_made M short m m' v whole cached c flags None edits honest k stands few within edit makes in
      let tree = is_tree v k (M.now m) whole stands in
      let same : k.mounted.pages ≡ pages_moved =
      ext_get_or [] k.mounted.pages pages_moved made.0.clean.size (λ page lt. made.0.clean.each page (ap (λ (d : List ℕ). contains d page) none)) in
      let height : ℕ = (has_table M short m m' v whole cached c flags None edits honest k stands few within edit makes).height in
      let now_tree : IsTree k.mounted.pages height = subst (λ (pages : List (List ℕ)). IsTree pages height) (sym same) made.0.tree in
      let entries : (volume_of k).entries ≡ volume_moved.entries =
      sym tree.2 ∙ one_table k.mounted.pages tree.0 height tree.1 now_tree ∙ ap (λ (pages : List (List ℕ)). table_of pages height) same ∙ made.1 ∙ entries_moved in
      let file = (has (volume_of k) key name e reached_moved sorted lists there).file in
      absurd (let both : Some e ≡ None = sym there ∙ ap (entry_of key) entries ∙ moved_away (volume_of k) key name file e reached_moved sorted lists there in cc both)

  module _ (waits : Waits) (versions : ℕ) (count : versions + length others ≡ v.versions) (frees : waits.removed ≡ with_gone v.shadow.removed others)
      (kept : waits.kept ≡ v.shadow.kept) (unfinished : waits.unfinished ≡ v.shadow.unfinished) (held : waits.held ≡ v.shadow.held) where
    abbrev pub left : VolumeValue
    left = record v { shadow = waits; cache = c; free_pages = flags; versions = versions }

    -- it stands with the version under its new key, and without those that go by the keep, whose sectors wait
    pub stands_moved : IsWholeVolume left → Stands state IsMemoryOf left known_moved (M.now m')
    stands_moved left_whole =
        let made = pages_made M short m m' v whole cached c flags None edits honest k stands few within edit makes in
        stands_changed v left k (M.now m') (Change.Move key name) volume_moved pages_moved _ whole left_whole now
        (record { layout = refl; log = refl; readers = held; down = refl }) after made.0 (made.1 ∙ entries_moved) refl
        (record {
          map = λ s. now.holds.map s ∙ sym (moved_free (volume_of k) key name e reached_moved sorted lists there s);
          removed = λ s. ap (λ (a : Area). contains a.sectors s) frees
              ∙ gone_wait (volume_of k) volume_moved (gone_by_move key name (has (volume_of k) key name e reached_moved sorted lists there).file (volume_of k).files) refl refl after.changes v.layout whole.planned v.shadow.removed others now.fits.layout whole.removed
              (gone_are (volume_of k) key name e reached_moved sorted lists there plan planned moved others goes) now.holds.removed s;
          kept = λ s. ap (λ (a : Area). contains a.sectors s) kept ∙ now.holds.kept s ∙ sym (moved_alone (volume_of k) key name e reached_moved sorted lists there s);
          unfinished = λ s. ap (λ (a : Area). contains a.sectors s) unfinished ∙ now.holds.unfinished s;
          held = now.fits.held ∙ ap held_runs (sym held);
          serial = now.fits.serial;
          versions = let counted = count_moved in omega (arith, counted, count);
        })
