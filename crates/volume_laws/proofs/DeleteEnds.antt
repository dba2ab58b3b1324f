-- How a volume that stands answers where a version was taken out of its table.
use Rattle.std.proofs.Common.{◌≡◌, inl, inr, ℕ, ◌+◌, ◌<◌, ◌≤◌, Bool, true, false, List, [], ◌∷◌, length, Some, None, Result, Err, refl, sym, ap, subst, ◌∙◌, arith}
use Rattle.std.specs.List.{list_any}
use Rattle.std.specs.Prelude.{Contains, IsTrue}
use Rattle.std.proofs.lemmas.Bool.{both_ways, le-ltb}
use Rattle.std.proofs.lemmas.List.{ext_get_or}
use Rattle.run_table.specs.Space.{contains}
use Rattle.sector_disk.specs.declared.machine.Machine.{Ghosts as MachineGhosts}
use Rattle.sector_disk.specs.Image.{AreShort}
use Rattle.sector_disk.specs.Machine.{Moment}
use Rattle.fsd_bytes.specs.declared.key.Key.{Key}
use Rattle.fsd_bytes.specs.declared.refusal.Refusal.{Refusal}
use Rattle.fsd_bytes.specs.declared.refusal.Refusal.TheVariants as Why
use Rattle.fsd_formats.specs.declared.entry.Entry.{Entry}
use Rattle.fsd_bytes.specs.Keys.{same_key}
use Rattle.fsd_table.specs.Tree.{IsTree, table_of}
use Rattle.fsd_table.proofs.VisitLaws.{one_table}
use Rattle.fsd_files.specs.Answers.{delete_outcome, deleted, entry_of}
use Rattle.fsd_files.specs.Files.{Change}
use Rattle.fsd_files.specs.declared.reply.Reply.TheVariants.{Deleted, Refused}
use Rattle.fsd_files.specs.Volume.{entries_without}
use Rattle.fsd_sound.specs.Mounted.{most_changed}
use Rattle.group_commit.specs.Cached.{AreWaiting}
use Rattle.group_commit.specs.contracts.newest.NewestPageSource.TheImpl as by_log
use Rattle.log_thirds.specs.LogValue.{LogValue}
use Rattle.page_cache.specs.Cache.{CacheValue, IsCache, is_among}
use Rattle.name_btree.specs.declared.fault.TreeFault.{TreeFault}
use Rattle.name_btree.specs.Fault.{outer_of}
use Rattle.shadow_frees.specs.Waits.{Waits}
use Rattle.volume_contract.specs.Ends.{AnswersAndStands}
use Rattle.volume_contract.specs.State.{Known, Stands, volume_of}
use Rattle.cached_table.specs.Editing.{DirtiesAtMost, EditsOnly, EditsTable, FaultsEdit, StaysInCache}
use Rattle.volume_laws.specs.Ending.{EndsEdit, GivesUp, edit_refusal}
use Rattle.volume_laws.specs.State.{IsMemoryOf, state}
use Rattle.volume_laws.specs.Volume.{IsWholeVolume, VolumeValue}
use Rattle.volume_laws.proofs.ChangeEnds.{answered_none, edit_failed}
use Rattle.volume_laws.specs.Taken.{are_taken, met_entry}
use Rattle.volume_laws.proofs.EntryLaws.{entry_contained, met_refused}
use Rattle.volume_laws.proofs.DeleteLaws.{alone, known_left, one_less, reached_left, split_count, stands_deleted}
use Rattle.volume_laws.proofs.MadeLaws.{has_table, pages_made, pages_now}
use Rattle.volume_laws.proofs.TableLaws.{is_tree}

pub delete_none : (k : Known) (u : VolumeValue) (now : Moment) (key : Key) → length k.mounted.dirty ≤ 56 → entry_of key (volume_of k).entries ≡ None → Stands state IsMemoryOf u k now
    → AnswersAndStands state IsMemoryOf (λ met. delete_outcome met (volume_of k) key) (Refused Why.NoSuch) [] k u now
delete_none k u now key few none there = answered_none (λ met. delete_outcome met (volume_of k) key) k u now few (ap (deleted (volume_of k) key 0) none) there

module _ {D : Type 0} (M : MachineGhosts D) (short : (m : D) → M.honest m → AreShort (M.now m).windows) (m m' : D) (v : VolumeValue) (whole : IsWholeVolume v) (cached : IsCache v.cache) (c : CacheValue) (flags : List Bool)
    (edits : EditsOnly M by_log.ghosts v.log None m m' v.cache c v.free_pages flags) (honest : M.honest m') (k : Known) (stands : Stands state IsMemoryOf v k (M.now m))
    (waits : AreWaiting (length v.free_pages) c) (room : length v.cache.dirty ≤ 56) (most : DirtiesAtMost 8 v.cache c)
    (key : Key) (e : Entry) (there : entry_of key (volume_of k).entries ≡ Some e) (makes : EditsTable M by_log.ghosts v.log m m' v.cache c v.free_pages flags (entries_without (key ∷ []))) where
  few : length c.dirty ≤ length v.cache.dirty + most_changed
  few = omega (arith, room, most.few)

  within : (page : ℕ) → is_among c.dirty page ≡ true → page < length flags
  within page is = let inside : page < length v.free_pages = (waits page is).inside in omega (arith, inside, edits.size)

  -- ---- a page is dirty, since the table has changed

  abbrev pages : List (List ℕ)
  pages = pages_now M short m m' v whole cached c flags None edits honest k stands

  same_pages : c.dirty ≡ [] → pages ≡ k.mounted.pages
  same_pages none =
      let made = pages_made M short m m' v whole cached c flags None edits honest k stands few within (entries_without (key ∷ [])) makes in
      ext_get_or [] pages k.mounted.pages (sym made.0.clean.size) (λ page lt. sym (made.0.clean.each page (ap (λ (d : List ℕ). contains d page) none)))

  some_dirty : c.dirty ≡ [] → ⊥
  some_dirty none =
      let has = has_table M short m m' v whole cached c flags None edits honest k stands few within (entries_without (key ∷ [])) makes in
      let tree = is_tree v k (M.now m) whole stands in
      let now : IsTree k.mounted.pages has.height = subst (λ (p : List (List ℕ)). IsTree p has.height) (same_pages none) has.is.tree in
      let table : entries_without (key ∷ []) (volume_of k).entries ≡ (volume_of k).entries =
      sym has.table_is ∙ ap (λ (p : List (List ℕ)). table_of p has.height) (same_pages none) ∙ one_table k.mounted.pages has.height tree.0 now tree.1 ∙ tree.2 in
      let parts = split_count (λ x. list_any (same_key x.key) (key ∷ [])) (volume_of k).entries in
      let one = alone M short m m' v whole cached c flags edits honest k stands few within key e there makes in
      absurd (omega (arith, parts, ap (λ (es : List Entry). length es) table, ap (λ (es : List Entry). length es) one))

  -- ---- the answer

  module _ (w : Waits) (n : ℕ) (gives : GivesUp c.dirty e.runs v.shadow v.versions w n) where
    abbrev left : VolumeValue
    left = record v { shadow = w; cache = c; free_pages = flags; versions = n }

    abbrev reached : ℕ
    reached = reached_left M short m m' v whole cached c flags edits honest k stands few within key e there makes

    pub deleted_answered : IsWholeVolume left → AnswersAndStands state IsMemoryOf (λ met. delete_outcome met (volume_of k) key) (Deleted key) (Change.Delete key ∷ []) k left (M.now m')
    deleted_answered whole_left = elim gives [
      | inl none ↦ elim none.0 [
        | inl clean ↦ absurd (some_dirty clean)
        | inr counted ↦ absurd (let less = one_less M short m m' v whole cached c flags edits honest k stands few within key e there makes in omega (arith, less, counted))
      ]
      | inr some ↦ (
        known_left M short m m' v whole cached c flags edits honest k stands few within key e there makes,
        record {
          met = record { forces = false; reached = reached; damaged = None; found = []; healed = 0 };
          forces = sym (le-ltb 56 (length k.mounted.dirty) (omega (arith, room, ap (λ (d : List ℕ). length d) stands.fits.dirty)));
          is = ap (deleted (volume_of k) key reached) there;
          opened = refl;
          windows = refl;
          changes = refl;
        },
        stands_deleted M short m m' v whole cached c flags edits honest k stands few within key e there makes w n some.2 some.1.removed some.1.kept some.1.unfinished some.1.held whole_left,
      )
    ]

-- ---- as its caller sees the volume

module _ {D : Type 0} (M : MachineGhosts D) (short : (m : D) → M.honest m → AreShort (M.now m).windows) (m m' : D) (v w : VolumeValue) (is : v ≡ w) (whole : IsWholeVolume v) (cached : IsCache v.cache) (c : CacheValue) (cached_then : IsCache c) (flags : List Bool)
    (honest : M.honest m') (k : Known) (stands : Stands state IsMemoryOf w k (M.now m)) (log : LogValue) (of_log : log ≡ v.log) (key : Key) where
  here : Stands state IsMemoryOf v k (M.now m)
  here = subst (λ (x : VolumeValue). Stands state IsMemoryOf x k (M.now m)) (sym is) stands

  pub deleted_ends : (e : Entry) → e.key ≡ key → entry_of key (volume_of k).entries ≡ Some e → length w.cache.dirty ≤ 56 → EditsOnly M by_log.ghosts log None m m' v.cache c v.free_pages flags
      → (AreWaiting (length v.free_pages) v.cache → AreWaiting (length v.free_pages) c) → w.down ≡ None → DirtiesAtMost 8 v.cache c → EditsTable M by_log.ghosts log m m' v.cache c v.free_pages flags (entries_without (key ∷ []))
      → (wait : Waits) (n : ℕ) → GivesUp c.dirty e.runs v.shadow v.versions wait n → IsWholeVolume (record v { shadow = wait; cache = c; free_pages = flags; versions = n })
      → AnswersAndStands state IsMemoryOf (λ met. delete_outcome met (volume_of k) key) (Deleted key) (Change.Delete key ∷ []) k (record v { shadow = wait; cache = c; free_pages = flags; versions = n }) (M.now m')
  deleted_ends e is_key there few edits waits up most makes wait n gives whole_left =
      let room : length v.cache.dirty ≤ 56 = subst (λ (x : VolumeValue). length x.cache.dirty ≤ 56) (sym is) few in
      let were = subst (λ (n : ℕ). AreWaiting n v.cache) (sym whole.pages) (whole.waiting (ap (λ (x : VolumeValue). x.down) is ∙ up)) in
      deleted_answered M short m m' v whole cached c flags (subst (λ (l : LogValue). EditsOnly M by_log.ghosts l None m m' v.cache c v.free_pages flags) of_log edits) honest k here (waits were) room most key e there
      (subst (λ (l : LogValue). EditsTable M by_log.ghosts l m m' v.cache c v.free_pages flags (entries_without (key ∷ []))) of_log makes) wait n gives whole_left

  pub delete_failed : (home_a : ℕ) (f : TreeFault) → EditsOnly M by_log.ghosts log (outer_of f) m m' v.cache c v.free_pages flags → StaysInCache M by_log.ghosts log m m' v.cache c v.free_pages flags
      → FaultsEdit M by_log.ghosts log m m' v.cache c flags home_a f → (r : Result (Unit {0}) Refusal) → r ≡ Err (edit_refusal f)
      → EndsEdit (λ met. delete_outcome met (volume_of k) key) (λ x. Deleted key) (Change.Delete key) k (record v { cache = c; free_pages = flags }) (M.now m') r
  delete_failed home_a f edits stays faults r told =
      subst (EndsEdit (λ met. delete_outcome met (volume_of k) key) (λ x. Deleted key) (Change.Delete key) k (record v { cache = c; free_pages = flags }) (M.now m')) (sym told)
      (edit_failed M short m m' v whole cached c cached_then flags honest k here {T = Unit {0}} (λ met. delete_outcome met (volume_of k) key) (λ x. Deleted key) (Change.Delete key) home_a f
      (subst (λ (l : LogValue). EditsOnly M by_log.ghosts l (outer_of f) m m' v.cache c v.free_pages flags) of_log edits)
      (subst (λ (l : LogValue). StaysInCache M by_log.ghosts l m m' v.cache c v.free_pages flags) of_log stays)
      (subst (λ (l : LogValue). FaultsEdit M by_log.ghosts l m m' v.cache c flags home_a f) of_log faults))

-- ---- behind a look-up

-- an entry that was found and is not taken is none of the table
pub met_ended : (u : VolumeValue) (k : Known) (key : Key) (page : ℕ) (e : Entry) (why : Refusal) (r : Result Entry Refusal) → entry_of key (volume_of k).entries ≡ Some e
    → ((x : Entry) → Contains (volume_of k).entries x → IsTrue (are_taken u x.runs)) → r ≡ met_entry u page e → r ≡ Err why → ⊥
met_ended u k key page e why r there taken met err = both_ways (are_taken u e.runs) (met_refused u page e why r met err).1 (taken e (entry_contained key (volume_of k).entries e there))

-- the key is that of the entry
pub keyed_ends : (k : Known) (u : VolumeValue) (now : Moment) (key other : Key) (r : Result (Unit {0}) Refusal) → other ≡ key
    → EndsEdit (λ met. delete_outcome met (volume_of k) other) (λ x. Deleted other) (Change.Delete other) k u now r
    → EndsEdit (λ met. delete_outcome met (volume_of k) key) (λ x. Deleted key) (Change.Delete key) k u now r
keyed_ends k u now key other r same ends = subst (λ (x : Key). EndsEdit (λ met. delete_outcome met (volume_of k) x) (λ y. Deleted x) (Change.Delete x) k u now r) same ends
