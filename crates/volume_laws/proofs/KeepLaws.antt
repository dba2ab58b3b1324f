-- A volume that stands stands with another keep of a version, once its table was edited in the cache.
use Rattle.std.proofs.Common.{◌≡◌, ℕ, ◌+◌, ◌<◌, ◌≤◌, Bool, true, false, nat_lt, List, [], ◌∷◌, length, Some, None, refl, sym, ◌∙◌, arith}
use Rattle.sector_disk.specs.declared.machine.Machine.{Ghosts as MachineGhosts}
use Rattle.sector_disk.specs.Image.{AreShort}
use Rattle.fsd_bytes.specs.declared.key.Key.{Key}
use Rattle.fsd_formats.specs.declared.entry.Entry.{Entry}
use Rattle.fsd_table.specs.Tree.{pages_of}
use Rattle.fsd_formats.specs.NamePage.{max_keep}
use Rattle.fsd_files.specs.Answers.{entries_with_keep, highest_entry, keep_set}
use Rattle.fsd_files.specs.Disk.{in_runs}
use Rattle.fsd_files.specs.Files.{Change}
use Rattle.fsd_files.specs.Volume.{Volume}
use Rattle.fsd_files.proofs.ListingLaws.{lists_length}
use Rattle.page_cache.specs.Cache.{CacheValue, IsCache, is_among}
use Rattle.fsd_sound.specs.Mounted.{most_changed}
use Rattle.group_commit.specs.contracts.newest.NewestPageSource.TheImpl as by_log
use Rattle.volume_contract.specs.State.{Known, Stands, volume_of}
use Rattle.volume_laws.specs.Changing.{known_after}
use Rattle.cached_table.specs.Editing.{EditsOnly, EditsTable}
use Rattle.volume_laws.specs.State.{IsMemoryOf, state}
use Rattle.volume_laws.specs.Volume.{IsWholeVolume, VolumeValue}
use Rattle.volume_laws.proofs.ChangeLaws.{stands_changed}
use Rattle.volume_laws.proofs.GoneLaws.{after_kept, kept_alone, kept_free}
use Rattle.volume_laws.proofs.MadeLaws.{has_table, pages_made, pages_now, worn}

-- another keep leaves as many entries
as_many_kept : (key : Key) (keep : ℕ) (entries : List Entry) → length (entries_with_keep key keep entries) ≡ length entries
as_many_kept key keep [] = refl
as_many_kept key keep (z ∷ entries) = omega (arith, as_many_kept key keep entries)

module _ {D : Type 0} (M : MachineGhosts D) (short : (m : D) → M.honest m → AreShort (M.now m).windows) (m m' : D) (v : VolumeValue) (whole : IsWholeVolume v) (cached : IsCache v.cache) (c : CacheValue) (flags : List Bool)
    (edits : EditsOnly M by_log.ghosts v.log None m m' v.cache c v.free_pages flags) (honest : M.honest m') (k : Known) (stands : Stands state IsMemoryOf v k (M.now m))
    (few : length c.dirty ≤ length v.cache.dirty + most_changed) (within : (page : ℕ) → is_among c.dirty page ≡ true → page < length flags)
    (name : List ℕ) (keep : ℕ) (small : nat_lt max_keep keep ≡ false) (e : Entry) (there : highest_entry name (volume_of k).entries ≡ Some e) (makes : EditsTable M by_log.ghosts v.log m m' v.cache c v.free_pages flags (entries_with_keep e.key keep)) where
  abbrev pages_kept : List (List ℕ)
  pages_kept = pages_now M short m m' v whole cached c flags None edits honest k stands

  abbrev reached_kept : ℕ
  reached_kept = length (pages_of pages_kept (has_table M short m m' v whole cached c flags None edits honest k stands few within (entries_with_keep e.key keep) makes).height)

  abbrev volume_kept : Volume
  volume_kept = (keep_set (volume_of k) name keep reached_kept (Some e)).1

  abbrev pub known_kept : Known
  known_kept = known_after k (Change.SetKeep name keep) volume_kept pages_kept c.dirty

  abbrev left : VolumeValue
  left = record v { cache = c; free_pages = flags }

  -- it stands with the keep
  pub stands_kept : IsWholeVolume left → Stands state IsMemoryOf left known_kept (M.now m')
  stands_kept left_whole =
      let now = worn M short m m' v whole cached c flags None edits honest k stands in
      let made = pages_made M short m m' v whole cached c flags None edits honest k stands few within (entries_with_keep e.key keep) makes in
      let after = after_kept (in_runs k.windows) (M.now m').image (volume_of k) reached_kept e now.disk.spaced now.disk.described name keep small there in
      stands_changed v left k (M.now m') (Change.SetKeep name keep) volume_kept pages_kept _ whole left_whole now
      (record { layout = refl; log = refl; readers = refl; down = refl }) after made.0 made.1 refl
      (record {
        map = λ s. now.holds.map s ∙ sym (kept_free (volume_of k) name keep reached_kept e s);
        removed = now.holds.removed;
        kept = λ s. now.holds.kept s ∙ sym (kept_alone (volume_of k) name keep reached_kept e s);
        unfinished = now.holds.unfinished;
        held = now.fits.held;
        serial = now.fits.serial;
        versions = omega (
          arith,
          lists_length volume_kept.files volume_kept.entries after.described.lists,
          lists_length (volume_of k).files (volume_of k).entries stands.disk.described.lists,
          as_many_kept e.key keep (volume_of k).entries,
          stands.fits.versions,
        );
      })
