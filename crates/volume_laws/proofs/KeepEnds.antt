-- How a volume that stands answers where the keep of a version was set in its table.
use Rattle.std.proofs.Common.{◌≡◌, ◌⊎◌, inl, inr, ℕ, ◌+◌, ◌<◌, ◌≤◌, Bool, true, false, cond, nat_lt, List, [], ◌∷◌, ◌++◌, length, Option, Some, None, refl, sym, ap, subst, ◌∙◌, arith}
use Rattle.std.proofs.lemmas.Bool.{both_ways, eqb-true, le-ltb, or_cases}
use Rattle.std.proofs.lemmas.List.Folds.{list_any-append}
use Rattle.std.specs.Prelude.{◌==◌}
use Rattle.sector_disk.specs.declared.machine.Machine.{Ghosts as MachineGhosts}
use Rattle.sector_disk.specs.Image.{AreShort}
use Rattle.fsd_bytes.specs.declared.key.Key.{Key}
use Rattle.fsd_formats.specs.declared.entry.Entry.{Entry}
use Rattle.fsd_formats.specs.NamePage.{max_keep}
use Rattle.fsd_table.specs.Tree.{table_of}
use Rattle.fsd_table.proofs.VisitLaws.{one_table}
use Rattle.fsd_files.specs.Answers.{entries_with_keep, highest_entry, keep_outcome, keep_set, refused}
use Rattle.fsd_bytes.specs.declared.refusal.Refusal.TheVariants.{KeepTooLarge}
use Rattle.fsd_files.specs.Files.{Change}
use Rattle.fsd_files.specs.declared.reply.Reply.TheVariants.{Kept}
use Rattle.page_cache.specs.Cache.{CacheValue, IsCache, cached_bytes, is_among}
use Rattle.name_page.specs.Pages.{with_one}
use Rattle.name_page.proofs.MarkLaws.{one_count}
use Rattle.name_btree.specs.Map.{HasTable, IsTable}
use Rattle.fsd_sound.specs.Mounted.{most_changed}
use Rattle.group_commit.specs.contracts.newest.NewestPageSource.TheImpl as by_log
use Rattle.volume_contract.specs.Ends.{AnswersAndStands}
use Rattle.volume_contract.specs.State.{Known, Stands, volume_of}
use Rattle.cached_table.specs.Editing.{DirtiesOne, EditsOnly, EditsTable, SetsKeep, SetsKeepIn, as_step}
use Rattle.cached_table.specs.Looking.{images_by}
use Rattle.volume_laws.specs.State.{IsMemoryOf, state}
use Rattle.volume_laws.specs.Volume.{IsWholeVolume, VolumeValue}
use Rattle.volume_laws.proofs.KeepLaws.{known_kept, stands_kept}
use Rattle.volume_laws.proofs.MadeLaws.{table_was, trusted}
use Rattle.cached_table.proofs.ResidentLaws.{clean_absent}
use Rattle.volume_laws.proofs.TableLaws.{is_tree, pages_read}

-- ---- one page more

one_of_with : (xs : List ℕ) (page other : ℕ) → is_among (with_one xs page) other ≡ true → (is_among xs other ≡ true) ⊎ (page ≡ other)
one_of_with xs page other there = by (is_among xs page) there
  where
    by : (b : Bool) → is_among (cond b xs (xs ++ page ∷ [])) other ≡ true → (is_among xs other ≡ true) ⊎ (page ≡ other)
    by true here = inl here
    by false here = elim (or_cases (is_among xs other) (is_among (page ∷ []) other) (sym (list_any-append (λ t. t == other) xs (page ∷ [])) ∙ here)) [
      | inl old ↦ inl old
      | inr new ↦ elim (or_cases (page == other) false new) [
        | inl same ↦ inr (eqb-true page other same)
        | inr none ↦ absurd (cc none)
      ]
    ]

-- ---- the volume

module _ {D : Type 0} (M : MachineGhosts D) (short : (m : D) → M.honest m → AreShort (M.now m).windows) (m m' : D) (v : VolumeValue) (whole : IsWholeVolume v) (cached : IsCache v.cache) (c : CacheValue) (flags : List Bool)
    (edits : EditsOnly M by_log.ghosts v.log None m m' v.cache c v.free_pages flags) (honest : M.honest m') (k : Known) (stands : Stands state IsMemoryOf v k (M.now m))
    (name : List ℕ) (keep : ℕ) (fits : keep ≤ 999) (key : Key) (room : length v.cache.dirty ≤ 56) (one : DirtiesOne (length v.free_pages) v.cache c)
    (sets : SetsKeepIn M by_log.ghosts v.log m m' v.cache c v.free_pages flags name keep key) where
  few : length c.dirty ≤ length v.cache.dirty + most_changed
  few = omega (arith, ap (λ (d : List ℕ). length d) one.changed, one_count v.cache.dirty one.page)

  within : (page : ℕ) → is_among c.dirty page ≡ true → page < length flags
  within page waits = elim (one_of_with v.cache.dirty one.page page (ap (λ (d : List ℕ). is_among d page) (sym one.changed) ∙ waits)) [
    | inr same ↦ omega (arith, one.there, same, edits.size)
    | inl was ↦ by was (cached_bytes v.cache page) refl
  ]
    where
      by : is_among v.cache.dirty page ≡ true → (o : Option (List ℕ)) → cached_bytes v.cache page ≡ o → page < length flags
      by was None none = absurd (both_ways (is_among v.cache.dirty page) (clean_absent v.cache cached page none) was)
      by was (Some bytes) there = omega (arith, stands.holds.inside page bytes there, whole.pages, edits.size)

  small : nat_lt max_keep keep ≡ false
  small = le-ltb max_keep keep (omega (arith, fits))

  abbrev before : List (List ℕ)
  before = images_by M by_log.ghosts v.log m v.cache (length v.free_pages)

  same_pages : before ≡ k.mounted.pages
  same_pages = pages_read v k (M.now m) whole stands cached

  abbrev first : ℕ
  first = (is_tree v k (M.now m) whole stands).0

  first_table : IsTable (as_step before v.free_pages) first
  first_table = table_was M short m m' v whole cached c flags None edits honest k stands before same_pages

  set : SetsKeep (as_step before v.free_pages) (as_step (images_by M by_log.ghosts v.log m' c (length flags)) flags) name keep key first
  set = sets.sets (trusted M short m m' v whole cached c flags None edits honest k stands) first first_table

  there : highest_entry name (volume_of k).entries ≡ Some set.entry
  there =
      let tree = is_tree v k (M.now m) whole stands in
      ap (highest_entry name) (sym tree.2) ∙ ap (λ (pages : List (List ℕ)). highest_entry name (table_of pages first)) (sym same_pages) ∙ set.highest

  makes : EditsTable M by_log.ghosts v.log m m' v.cache c v.free_pages flags (entries_with_keep set.entry.key keep)
  makes = record {
    makes = λ t height table.
        let made = sets.sets t height table in
        let both : Some made.entry ≡ Some set.entry = sym made.highest ∙ ap (highest_entry name) (one_table before height first table.tree first_table.tree) ∙ set.highest in
        let same : made.entry ≡ set.entry = cc both in
        subst (HasTable (as_step (images_by M by_log.ghosts v.log m' c (length flags)) flags)) (ap (λ (e : Entry). entries_with_keep e.key keep (table_of before height)) same) made.set;
  }

  pub kept_answered : IsWholeVolume (record v { cache = c; free_pages = flags }) → AnswersAndStands state IsMemoryOf (λ met. keep_outcome met (volume_of k) name keep) (Kept key keep) (Change.SetKeep name keep ∷ []) k (record v { cache = c; free_pages = flags }) (M.now m')
  kept_answered left_whole =
      let after : Known = known_kept M short m m' v whole cached c flags edits honest k stands few within name keep small set.entry there makes in
      let reached : ℕ = (volume_of after).reached in (
        after,
        record {
          met = record { forces = false; reached = reached; damaged = None; found = []; healed = 0 };
          forces = sym (le-ltb 56 (length k.mounted.dirty) (omega (arith, room, ap (λ (d : List ℕ). length d) stands.fits.dirty)));
          is = ap (λ (b : Bool). cond b (refused (volume_of k) (KeepTooLarge keep)) (keep_set (volume_of k) name keep reached (highest_entry name (volume_of k).entries))) small
              ∙ ap (keep_set (volume_of k) name keep reached) there ∙ ap (λ (x : Key). (Kept x keep, volume_of after)) set.key_is;
          opened = refl;
          windows = refl;
          changes = refl;
        },
        stands_kept M short m m' v whole cached c flags edits honest k stands few within name keep small set.entry there makes left_whole,
      )
