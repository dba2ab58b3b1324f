-- A volume that stands stands without a version, once its table was edited in the cache.
use Rattle.std.proofs.Common.{◌≡◌, ℕ, ◌+◌, ◌-◌, ◌<◌, ◌≤◌, Bool, true, false, cond, not, List, [], ◌∷◌, filter, length, Some, None, refl, sym, ap, subst, ◌∙◌, arith}
use Rattle.std.specs.List.{list_any}
use Rattle.sector_disk.specs.declared.machine.Machine.{Ghosts as MachineGhosts}
use Rattle.sector_disk.specs.Image.{AreShort}
use Rattle.fsd_bytes.specs.declared.key.Key.{Key}
use Rattle.fsd_bytes.specs.Keys.{same_key}
use Rattle.run_table.specs.Space.{contains}
use Rattle.sector_set.specs.Area.{Area, together}
use Rattle.shadow_frees.specs.Waits.{Waits}
use Rattle.fsd_formats.specs.declared.entry.Entry.{Entry}
use Rattle.fsd_table.specs.Table.{top}
use Rattle.fsd_table.specs.Tree.{pages_of}
use Rattle.fsd_table.proofs.BoundLaws.{Ascend, entries_ascend}
use Rattle.fsd_files.specs.Answers.{deleted, entry_of}
use Rattle.fsd_files.specs.Disk.{in_runs}
use Rattle.fsd_files.specs.Files.{Change}
use Rattle.fsd_files.specs.Volume.{Volume, entries_at, entries_without}
use Rattle.fsd_files.proofs.ListingLaws.{lists_length}
use Rattle.page_cache.specs.Cache.{CacheValue, IsCache, is_among}
use Rattle.fsd_sound.specs.Mounted.{most_changed}
use Rattle.group_commit.specs.contracts.newest.NewestPageSource.TheImpl as by_log
use Rattle.volume_contract.specs.State.{Known, Stands, held_runs, volume_of}
use Rattle.volume_laws.specs.Changing.{known_after}
use Rattle.cached_table.specs.Editing.{EditsOnly, EditsTable}
use Rattle.volume_laws.specs.State.{IsMemoryOf, state}
use Rattle.volume_laws.specs.Volume.{IsWholeVolume, VolumeValue}
use Rattle.volume_laws.proofs.ChangeLaws.{stands_changed}
use Rattle.volume_laws.proofs.GoneLaws.{after_deleted, deleted_free, deleted_kept, deleted_waits, one_at}
use Rattle.volume_laws.proofs.MadeLaws.{has_table, pages_made, pages_now, worn}
use Rattle.volume_laws.proofs.TableLaws.{is_tree}

-- ---- how many versions there are

pub split_count : (p : Entry → Bool) (entries : List Entry) → length (filter (λ e. not (p e)) entries) + length (filter p entries) ≡ length entries
split_count p [] = refl
split_count p (z ∷ entries) = by (p z) (split_count p entries)
  where
    by : (b : Bool) → length (filter (λ e. not (p e)) entries) + length (filter p entries) ≡ length entries
        → length (cond (not b) (z ∷ filter (λ e. not (p e)) entries) (filter (λ e. not (p e)) entries)) + length (cond b (z ∷ filter p entries) (filter p entries)) ≡ length (z ∷ entries)
    by true rest = omega (arith, rest)
    by false rest = omega (arith, rest)

-- ---- the volume

module _ {D : Type 0} (M : MachineGhosts D) (short : (m : D) → M.honest m → AreShort (M.now m).windows) (m m' : D) (v : VolumeValue) (whole : IsWholeVolume v) (cached : IsCache v.cache) (c : CacheValue) (flags : List Bool)
    (edits : EditsOnly M by_log.ghosts v.log None m m' v.cache c v.free_pages flags) (honest : M.honest m') (k : Known) (stands : Stands state IsMemoryOf v k (M.now m))
    (few : length c.dirty ≤ length v.cache.dirty + most_changed) (within : (page : ℕ) → is_among c.dirty page ≡ true → page < length flags)
    (key : Key) (e : Entry) (there : entry_of key (volume_of k).entries ≡ Some e) (makes : EditsTable M by_log.ghosts v.log m m' v.cache c v.free_pages flags (entries_without (key ∷ []))) where
  abbrev pages_left : List (List ℕ)
  pages_left = pages_now M short m m' v whole cached c flags None edits honest k stands

  abbrev pub reached_left : ℕ
  reached_left = length (pages_of pages_left (has_table M short m m' v whole cached c flags None edits honest k stands few within (entries_without (key ∷ [])) makes).height)

  abbrev pub volume_left : Volume
  volume_left = (deleted (volume_of k) key reached_left (Some e)).1

  abbrev pub known_left : Known
  known_left = known_after k (Change.Delete key) volume_left pages_left c.dirty

  pub alone : entries_at (key ∷ []) (volume_of k).entries ≡ e ∷ []
  alone =
      let tree = is_tree v k (M.now m) whole stands in
      let ascend : Ascend (volume_of k).entries = subst Ascend tree.2 (entries_ascend (tree.0 - 1) k.mounted.pages top tree.1.subtree) in
      one_at key (volume_of k).entries e ascend there

  pub one_less : length volume_left.files + 1 ≡ v.versions
  one_less =
      let now = worn M short m m' v whole cached c flags None edits honest k stands in
      let after = after_deleted (in_runs k.windows) (M.now m').image (volume_of k) reached_left e now.disk.spaced now.disk.described key there in
      let parts = split_count (λ x. list_any (same_key x.key) (key ∷ [])) (volume_of k).entries in
      omega (
        arith,
        lists_length volume_left.files volume_left.entries after.described.lists,
        lists_length (volume_of k).files (volume_of k).entries stands.disk.described.lists,
        parts,
        ap (λ (es : List Entry). length es) alone,
        stands.fits.versions,
      )

  module _ (waits : Waits) (versions : ℕ) (fewer : versions + 1 ≡ v.versions) (goes : waits.removed ≡ together v.shadow.removed e.runs)
      (kept : waits.kept ≡ v.shadow.kept) (unfinished : waits.unfinished ≡ v.shadow.unfinished) (held : waits.held ≡ v.shadow.held) where
    abbrev left : VolumeValue
    left = record v { shadow = waits; cache = c; free_pages = flags; versions = versions }

    -- it stands without the version, whose sectors wait
    pub stands_deleted : IsWholeVolume left → Stands state IsMemoryOf left known_left (M.now m')
    stands_deleted left_whole =
        let now = worn M short m m' v whole cached c flags None edits honest k stands in
        let made = pages_made M short m m' v whole cached c flags None edits honest k stands few within (entries_without (key ∷ [])) makes in
        stands_changed v left k (M.now m') (Change.Delete key) volume_left pages_left _ whole left_whole now
        (record { layout = refl; log = refl; readers = held; down = refl })
        (after_deleted (in_runs k.windows) (M.now m').image (volume_of k) reached_left e now.disk.spaced now.disk.described key there)
        made.0 made.1 refl
        (record {
          map = λ s. now.holds.map s ∙ sym (deleted_free (volume_of k) key reached_left e now.disk.spaced s);
          removed = λ s. ap (λ (a : Area). contains a.sectors s) goes ∙ deleted_waits (volume_of k) key reached_left e now.disk.spaced v.layout whole.planned v.shadow.removed now.fits.layout whole.removed alone now.holds.removed s;
          kept = λ s. ap (λ (a : Area). contains a.sectors s) kept ∙ now.holds.kept s ∙ sym (deleted_kept (volume_of k) key reached_left e now.disk.spaced s);
          unfinished = λ s. ap (λ (a : Area). contains a.sectors s) unfinished ∙ now.holds.unfinished s;
          held = now.fits.held ∙ ap held_runs (sym held);
          serial = now.fits.serial;
          versions = omega (arith, one_less, fewer);
        })
