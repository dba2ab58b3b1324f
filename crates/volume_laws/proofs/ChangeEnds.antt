-- How a change of a version ends where a volume stands, once its table was edited in the cache or the edit has failed.
use Rattle.std.proofs.Common.{◌≡◌, inl, inr, ℕ, ◌≤◌, Bool, false, cond, List, [], length, Option, Some, None, Result, Ok, Err, refl, sym, ap, subst, ◌∙◌, arith}
use Rattle.std.specs.Prelude.{IfErr, IfOk, OnErr, slice_index_or}
use Rattle.std.proofs.lemmas.Bool.{both_ways, le-ltb}
use Rattle.std.proofs.lemmas.List.{append-nil}
use Rattle.volume_layout.specs.declared.layout.Layout.{Layout}
use Rattle.sector_disk.specs.declared.machine.Machine.{Ghosts as MachineGhosts}
use Rattle.sector_disk.specs.Image.{AreShort}
use Rattle.sector_disk.specs.Machine.{Moment}
use Rattle.fsd_bytes.specs.declared.key.Key.{Key}
use Rattle.fsd_bytes.specs.declared.refusal.Refusal.{Refusal}
use Rattle.fsd_bytes.specs.declared.refusal.Refusal.TheVariants as Why
use Rattle.fsd_formats.specs.declared.entry.Entry.{Entry}
use Rattle.fsd_formats.specs.NamePage.{max_keep}
use Rattle.fsd_table.specs.Table.{BreaksTable}
use Rattle.fsd_table.specs.Tree.{IsTree, table_of}
use Rattle.fsd_files.specs.Answers.{Met, Outcome, highest_entry, keep_outcome, keep_set, refused}
use Rattle.fsd_bytes.specs.declared.refusal.Refusal.TheVariants.{KeepTooLarge}
use Rattle.fsd_files.specs.Files.{Change}
use Rattle.fsd_files.specs.declared.reply.Reply.{Reply}
use Rattle.fsd_files.specs.declared.reply.Reply.TheVariants.{Refused}
use Rattle.group_commit.specs.contracts.newest.NewestPageSource.TheImpl as by_log
use Rattle.log_thirds.specs.LogValue.{LogValue}
use Rattle.page_cache.specs.Cache.{CacheValue, IsCache}
use Rattle.name_page.specs.Pages.{outer_refusal}
use Rattle.name_btree.specs.declared.fault.TreeFault.{TreeFault}
use Rattle.name_btree.specs.declared.fault.TreeFault.TheVariants.{Pages, Broken}
use Rattle.name_btree.specs.Fault.{outer_of}
use Rattle.table_pages.specs.Bringing.{IsTrusted}
use Rattle.table_pages.specs.Reads.{LosesPage}
use Rattle.version_table.specs.declared.fault.VersionFault.{VersionFault}
use Rattle.version_table.specs.declared.fault.VersionFault.TheVariants.{Table, NoSuch, VersionsUsedUp}
use Rattle.version_table.specs.Fault.{outer_met}
use Rattle.volume_contract.specs.Ends.{AnswersAndStands, kept_key}
use Rattle.volume_contract.specs.State.{Known, Stands, volume_of}
use Rattle.cached_table.specs.Editing.{DirtiesOne, EditsOnly, FaultsEdit, FaultsKeep, SetsKeepIn, StaysInCache}
use Rattle.volume_laws.specs.Ending.{EndsEdit, edit_refusal, kept_told}
use Rattle.cached_table.specs.Looking.{BarsPages, FaultIn, FindsEntry, images_by}
use Rattle.volume_laws.specs.State.{IsMemoryOf, state}
use Rattle.volume_laws.specs.Volume.{IsWholeVolume, VolumeValue}
use Rattle.cached_table.proofs.RefusalLaws.{outer_cases}
use Rattle.volume_laws.proofs.KeepEnds.{kept_answered}
use Rattle.volume_laws.proofs.MadeLaws.{stands_unedited, trusted, worn}
use Rattle.volume_laws.proofs.PageLaws.{never_lost}
use Rattle.volume_laws.proofs.TableLaws.{is_tree, not_spare, pages_read, unbroken}

-- ---- where nothing is changed

-- the definitions refuse
pub answered_so : (why : Refusal) (outcome : Met → Outcome) (k : Known) (u : VolumeValue) (now : Moment) → length k.mounted.dirty ≤ 56
    → outcome (record { forces = false; reached = 0; damaged = None; found = []; healed = 0 }) ≡ (Refused why, volume_of k) → Stands state IsMemoryOf u k now → AnswersAndStands state IsMemoryOf outcome (Refused why) [] k u now
answered_so why outcome k u now few is there = (
  k,
  record {
    met = record { forces = false; reached = 0; damaged = None; found = []; healed = 0 };
    forces = sym (le-ltb 56 (length k.mounted.dirty) (omega (arith, few)));
    is = is;
    opened = refl;
    windows = refl;
    changes = sym (append-nil k.changes);
  },
  there,
)

-- since there is no such version
pub answered_none : (outcome : Met → Outcome) (k : Known) (u : VolumeValue) (now : Moment) → length k.mounted.dirty ≤ 56
    → outcome (record { forces = false; reached = 0; damaged = None; found = []; healed = 0 }) ≡ (Refused Why.NoSuch, volume_of k) → Stands state IsMemoryOf u k now → AnswersAndStands state IsMemoryOf outcome (Refused Why.NoSuch) [] k u now
answered_none = answered_so Why.NoSuch

pub keep_none : (k : Known) (u : VolumeValue) (now : Moment) (name : List ℕ) (keep : ℕ) → keep ≤ 999 → length k.mounted.dirty ≤ 56 → highest_entry name (volume_of k).entries ≡ None → Stands state IsMemoryOf u k now
    → AnswersAndStands state IsMemoryOf (λ met. keep_outcome met (volume_of k) name keep) (Refused Why.NoSuch) [] k u now
keep_none k u now name keep fits few none there = answered_none (λ met. keep_outcome met (volume_of k) name keep) k u now few
    (ap (λ (b : Bool). cond b (refused (volume_of k) (KeepTooLarge keep)) (keep_set (volume_of k) name keep 0 (highest_entry name (volume_of k).entries))) (le-ltb max_keep keep (omega (arith, fits)))
    ∙ ap (keep_set (volume_of k) name keep 0) none) there

-- the look-up was refused from outside
pub look_ended : {T : Type 0} (e : Option Entry) (outcome : Met → Outcome) (says : T → Reply) (change : Change) (k : Known) (u : VolumeValue) (now : Moment) (why : Refusal) → FindsEntry e (Err why) → Stands state IsMemoryOf u k now
    → EndsEdit outcome says change k u now (Err why)
look_ended e outcome says change k u now (Why.Device s) finds there = there
look_ended e outcome says change k u now Why.Memory finds there = there
look_ended e outcome says change k u now why finds there = absurd finds

module _ {D : Type 0} (M : MachineGhosts D) (short : (m : D) → M.honest m → AreShort (M.now m).windows) (m m' : D) (v : VolumeValue) (whole : IsWholeVolume v) (cached : IsCache v.cache) (c : CacheValue) (cached_then : IsCache c) (flags : List Bool)
    (honest : M.honest m') (k : Known) (stands : Stands state IsMemoryOf v k (M.now m)) where
  abbrev left : VolumeValue
  left = record v { cache = c; free_pages = flags }

  -- ---- where the edit fails

  module _ (refusal : Option Refusal) (edits : EditsOnly M by_log.ghosts v.log refusal m m' v.cache c v.free_pages flags) (stays : StaysInCache M by_log.ghosts v.log m m' v.cache c v.free_pages flags) where
    is_trusted : IsTrusted M by_log.ghosts v.log m v.cache m'
    is_trusted = trusted M short m m' v whole cached c flags refusal edits honest k stands

    same_pages : images_by M by_log.ghosts v.log m' c (length flags) ≡ k.mounted.pages
    same_pages = stays.images is_trusted ∙ pages_read v k (M.now m) whole stands cached

    stands_left : Stands state IsMemoryOf left k (M.now m')
    stands_left = stands_unedited M short m m' v whole cached c flags refusal edits honest k stands cached_then stays.dirty stays.same_flags same_pages

    unbarred : (page : ℕ) → BarsPages (images_by M by_log.ghosts v.log m' c (length flags)) flags page → ⊥
    unbarred page (inl breaks) = unbroken v k (M.now m) whole stands page (subst (λ (images : List (List ℕ)). BreaksTable images page) same_pages breaks)
    unbarred page (inr spare) = at (subst (λ (images : List (List ℕ)). BarsPages images v.free_pages page) same_pages (inr (ap (λ (f : List Bool). slice_index_or f page false) (sym stays.same_flags) ∙ spare.0, spare.1)))
      where
        at : BarsPages k.mounted.pages v.free_pages page → ⊥
        at (inl breaks) = unbroken v k (M.now m) whole stands page breaks
        at (inr (free, way)) = both_ways (slice_index_or v.free_pages page false) (subst (λ (n : ℕ). slice_index_or v.free_pages n false ≡ false) way.2 (not_spare v k (M.now m) whole stands way.0 way.1)) free

    lost_none : (a b : ℕ) → LosesPage M by_log.ghosts v.log m' a b → ⊥
    lost_none a b loses =
        let lost = loses.lost honest in
        never_lost v k (M.now m') whole (worn M short m m' v whole cached c flags refusal edits honest k stands) loses.page (omega (arith, loses.within, ap (λ (l : Layout). l.pages) whole.log)) a b lost.first lost.second lost.copies

  -- it stands as it was, and the disk or memory refused
  module _ {T : Type 0} (outcome : Met → Outcome) (says : T → Reply) (change : Change) (home_a : ℕ) where
    pub edit_failed : (f : TreeFault) → EditsOnly M by_log.ghosts v.log (outer_of f) m m' v.cache c v.free_pages flags → StaysInCache M by_log.ghosts v.log m m' v.cache c v.free_pages flags
        → FaultsEdit M by_log.ghosts v.log m m' v.cache c flags home_a f → EndsEdit outcome says change k left (M.now m') (Err (edit_refusal f))
    edit_failed (Broken page) edits stays faults = absurd (unbarred None edits stays page (inl (faults.cause (is_trusted None edits stays))))
    edit_failed (Pages r) edits stays faults = by (faults.cause (is_trusted (outer_refusal r) edits stays))
      where
        by : FaultIn (images_by M by_log.ghosts v.log m' c (length flags)) flags home_a (Pages r) → EndsEdit outcome says change k left (M.now m') (Err (edit_refusal (Pages r)))
        by (inr bars) = absurd (unbarred (outer_refusal r) edits stays bars.0 bars.2)
        by (inl outer) = outer_cases (λ (x : Refusal). EditsOnly M by_log.ghosts v.log (outer_refusal x) m m' v.cache c v.free_pages flags → EndsEdit outcome says change k left (M.now m') (Err (edit_refusal (Pages x))))
            (λ s here. stands_left (Some (Why.Device s)) here stays)
            (λ a b here. absurd (lost_none (Some (Why.Lost a b)) here stays a b here.loses))
            (λ here. stands_left (Some Why.Memory) here stays) r outer edits

  -- ---- another keep

  module _ (name : List ℕ) (keep : ℕ) (fits : keep ≤ 999) (room : length v.cache.dirty ≤ 56) (home_a : ℕ) where
    abbrev outcome : Met → Outcome
    outcome met = keep_outcome met (volume_of k) name keep

    none_answered : highest_entry name (volume_of k).entries ≡ None → Stands state IsMemoryOf left k (M.now m') → AnswersAndStands state IsMemoryOf outcome (Refused Why.NoSuch) [] k left (M.now m')
    none_answered none there = keep_none k left (M.now m') name keep fits (omega (arith, room, ap (λ (d : List ℕ). length d) stands.fits.dirty)) none there

    pub keep_ends : (r : Result Key VersionFault) → EditsOnly M by_log.ghosts v.log (outer_met r) m m' v.cache c v.free_pages flags → OnErr r (StaysInCache M by_log.ghosts v.log m m' v.cache c v.free_pages flags)
        → IfOk r (λ key. DirtiesOne (length v.free_pages) v.cache c) → IfOk r (SetsKeepIn M by_log.ghosts v.log m m' v.cache c v.free_pages flags name keep)
        → IfErr r (FaultsKeep M by_log.ghosts v.log m m' v.cache c v.free_pages flags home_a name) → IsWholeVolume left
        → EndsEdit outcome (kept_key keep) (Change.SetKeep name keep) k left (M.now m') (kept_told r)
    keep_ends (Ok key) edits stays one sets faults whole_left = kept_answered M short m m' v whole cached c flags edits honest k stands name keep fits key room one sets whole_left
    keep_ends (Err (Table f)) edits stays one sets faults whole_left = edit_failed outcome (kept_key keep) (Change.SetKeep name keep) home_a f edits stays faults
    keep_ends (Err NoSuch) edits stays one sets faults whole_left =
        let tree = is_tree v k (M.now m) whole stands in
        let none : highest_entry name (table_of k.mounted.pages tree.0) ≡ None =
        subst (λ (images : List (List ℕ)). (height : ℕ) → IsTree images height → highest_entry name (table_of images height) ≡ None) (pages_read v k (M.now m) whole stands cached) (faults.none (is_trusted None edits stays)) tree.0 tree.1 in
        none_answered (ap (highest_entry name) (sym tree.2) ∙ none) (stands_left None edits stays)
    keep_ends (Err VersionsUsedUp) edits stays one sets faults whole_left = absurd faults

-- ---- as its caller sees the volume

module _ {D : Type 0} (M : MachineGhosts D) (short : (m : D) → M.honest m → AreShort (M.now m).windows) (m m' : D) (v w : VolumeValue) (is : v ≡ w) (whole : IsWholeVolume v) (cached : IsCache v.cache) (c : CacheValue) (cached_then : IsCache c) (flags : List Bool)
    (honest : M.honest m') (k : Known) (stands : Stands state IsMemoryOf w k (M.now m)) where
  here : Stands state IsMemoryOf v k (M.now m)
  here = subst (λ (x : VolumeValue). Stands state IsMemoryOf x k (M.now m)) (sym is) stands

  pub keep_ended : (name : List ℕ) (keep : ℕ) → keep ≤ 999 → length w.cache.dirty ≤ 56 → (home_a : ℕ) (log : LogValue) → log ≡ v.log → (r : Result Key VersionFault) (result : Result Key Refusal) → result ≡ kept_told r
      → EditsOnly M by_log.ghosts log (outer_met r) m m' v.cache c v.free_pages flags → OnErr r (StaysInCache M by_log.ghosts log m m' v.cache c v.free_pages flags)
      → IfOk r (λ key. DirtiesOne (length v.free_pages) v.cache c) → IfOk r (SetsKeepIn M by_log.ghosts log m m' v.cache c v.free_pages flags name keep)
      → IfErr r (FaultsKeep M by_log.ghosts log m m' v.cache c v.free_pages flags home_a name) → IsWholeVolume (record v { cache = c; free_pages = flags })
      → EndsEdit (λ met. keep_outcome met (volume_of k) name keep) (kept_key keep) (Change.SetKeep name keep) k (record v { cache = c; free_pages = flags }) (M.now m') result
  keep_ended name keep fits few home_a log of_log r result told edits stays one sets faults whole_left =
      let room : length v.cache.dirty ≤ 56 = subst (λ (x : VolumeValue). length x.cache.dirty ≤ 56) (sym is) few in
      subst (EndsEdit (λ met. keep_outcome met (volume_of k) name keep) (kept_key keep) (Change.SetKeep name keep) k (record v { cache = c; free_pages = flags }) (M.now m')) (sym told)
      (keep_ends M short m m' v whole cached c cached_then flags honest k here name keep fits room home_a r
      (subst (λ (l : LogValue). EditsOnly M by_log.ghosts l (outer_met r) m m' v.cache c v.free_pages flags) of_log edits)
      (subst (λ (l : LogValue). OnErr r (StaysInCache M by_log.ghosts l m m' v.cache c v.free_pages flags)) of_log stays) one
      (subst (λ (l : LogValue). IfOk r (SetsKeepIn M by_log.ghosts l m m' v.cache c v.free_pages flags name keep)) of_log sets)
      (subst (λ (l : LogValue). IfErr r (FaultsKeep M by_log.ghosts l m m' v.cache c v.free_pages flags home_a name)) of_log faults) whole_left)
