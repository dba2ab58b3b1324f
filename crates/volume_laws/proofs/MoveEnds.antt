-- How a volume that stands answers where a version was to be moved in its table.
use Rattle.std.proofs.Common.{◌≡◌, ◌⊎◌, inl, inr, ℕ, ◌-◌, ◌+◌, ◌^◌, ◌<◌, ◌≤◌, Bool, true, false, not, List, [], ◌∷◌, length, Option, Some, None, Result, Ok, Err, refl, sym, ap, subst, ◌∙◌, arith}
use Rattle.std.specs.Prelude.{IsErrAnd, count_by, ◌==◌}
use Rattle.std.proofs.lemmas.Bool.{le-ltb}
use Rattle.sector_disk.specs.declared.machine.Machine.{Ghosts as MachineGhosts}
use Rattle.sector_disk.specs.Image.{AreShort}
use Rattle.sector_disk.specs.Machine.{Moment}
use Rattle.shadow_frees.specs.Waits.{Waits}
use Rattle.fsd_bytes.specs.Keys.{max_u32}
use Rattle.fsd_bytes.specs.declared.key.Key.{Key}
use Rattle.fsd_bytes.specs.declared.refusal.Refusal.{Refusal}
use Rattle.fsd_bytes.specs.declared.refusal.Refusal.TheVariants as Why
use Rattle.fsd_formats.specs.declared.entry.Entry.{Entry}
use Rattle.fsd_table.specs.Tree.{IsTree, table_of}
use Rattle.fsd_table.proofs.VisitLaws.{one_table}
use Rattle.fsd_files.specs.Answers.{enter_fault, entry_of, move_outcome, moved, moved_unless}
use Rattle.fsd_files.specs.Files.{new_key}
use Rattle.fsd_files.specs.declared.reply.Reply.TheVariants.{Moved, Refused}
use Rattle.fsd_files.specs.Volume.{pages_free}
use Rattle.fsd_files.proofs.FoundLaws.{no_file}
use Rattle.group_commit.specs.Cached.{AreWaiting}
use Rattle.group_commit.specs.contracts.newest.NewestPageSource.TheImpl as by_log
use Rattle.log_thirds.specs.LogValue.{LogValue}
use Rattle.name_page.specs.Pages.{outer_refusal}
use Rattle.page_cache.specs.Cache.{CacheValue, IsCache, is_among}
use Rattle.fsd_sound.specs.Mounted.{most_changed}
use Rattle.version_table.specs.declared.oldest.Leaving.{Leaving}
use Rattle.version_table.specs.declared.planning.Plan.{Plan}
use Rattle.version_table.specs.Moving.{IsMovePlan}
use Rattle.version_table.specs.Plan.{planned_entry, with_planned}
use Rattle.version_table.specs.Versions.{next_key}
use Rattle.volume_contract.specs.Ends.{AnswersAndStands}
use Rattle.volume_contract.specs.State.{Known, Stands, volume_of}
use Rattle.cached_table.specs.Editing.{DirtiesAtMost, EditsOnly, EditsTable, StaysInCache}
use Rattle.cached_table.specs.Entering.{NoneFor, OfTableIn, RefusesFor, with_gone}
use Rattle.cached_table.specs.Looking.{images_by}
use Rattle.cached_table.specs.Moving.{NoneMoves}
use Rattle.volume_laws.specs.Ending.{EndsMove}
use Rattle.volume_laws.specs.Entered.{EndsEntered}
use Rattle.volume_laws.specs.State.{IsMemoryOf, state}
use Rattle.volume_laws.specs.Taken.{data_map}
use Rattle.volume_laws.specs.Volume.{IsWholeVolume, VolumeValue}
use Rattle.volume_laws.proofs.ChangeEnds.{answered_none, answered_so}
use Rattle.volume_laws.proofs.EnterDone.{some_wait}
use Rattle.volume_laws.proofs.EnterEnds.{none_bars, of_entries, refused_ends}
use Rattle.volume_laws.proofs.MakingLaws.{with_if}
use Rattle.volume_laws.proofs.MovedLaws.{count_moved, known_moved, some_moved, sorted, stands_moved}
use Rattle.volume_laws.proofs.MovedSpace.{HasFile, file_there, key_is}
use Rattle.volume_laws.proofs.PutLaws.{enter_cases}
use Rattle.volume_laws.proofs.RangeLaws.{handed}
use Rattle.volume_laws.proofs.TableLaws.{is_tree, pages_read}

-- ---- nothing is moved

-- there is no such version
pub move_none : (k : Known) (u : VolumeValue) (now : Moment) (key : Key) (name : List ℕ) → length k.mounted.dirty ≤ 56 → entry_of key (volume_of k).entries ≡ None → Stands state IsMemoryOf u k now → EndsMove key name k u now (Err Why.NoSuch)
move_none k u now key name few none stands =
    let file = no_file key (volume_of k).files (volume_of k).entries stands.disk.described.lists none in
    answered_none (λ met. move_outcome met (volume_of k) key name) k u now few (λ i. moved (volume_of k) key name 0 (file i) (none i)) stands

module _ (k : Known) (u : VolumeValue) (now : Moment) (key : Key) (name : List ℕ) (e : Entry) (few : length k.mounted.dirty ≤ 56) (there : entry_of key (volume_of k).entries ≡ Some e) where
  bars : (why : Refusal) → enter_fault (volume_of k) name ≡ Some why → Stands state IsMemoryOf u k now → AnswersAndStands state IsMemoryOf (λ met. move_outcome met (volume_of k) key name) (Refused why) [] k u now
  bars why fault stands =
      let has : HasFile (volume_of k) key e = file_there (volume_of k) key e stands.disk.described.lists there in
      answered_so why (λ met. move_outcome met (volume_of k) key name) k u now few
      ((λ i. moved (volume_of k) key name 0 (has.there i) (there i)) ∙ ap (λ (o : Option Refusal). moved_unless o (volume_of k) key name has.file e 0) fault) stands

  fault_ends : (why : Refusal) → enter_fault (volume_of k) name ≡ Some why → Stands state IsMemoryOf u k now → EndsMove key name k u now (Err why)
  fault_ends why fault stands =
      enter_cases (λ (r : Refusal). enter_fault (volume_of k) name ≡ Some r → EndsMove key name k u now (Err r)) (volume_of k) name why
      (λ is. bars Why.VersionsUsedUp is stands) (λ is. bars (Why.NameTableFull (pages_free (volume_of k))) is stands) fault fault

  -- a version could not be entered under the name
  pub entered_ends : (given : Option ℕ) (bytes : List ℕ) (draft : Entry) (why : Refusal) → EndsEntered name given bytes draft k u now (Err why) → EndsMove key name k u now (Err why)
  entered_ends given bytes draft (Why.Device s) ends = ends
  entered_ends given bytes draft Why.Memory ends = ends
  entered_ends given bytes draft why ends = fault_ends why ends.0 ends.1

-- the same refusal for another cause
refuses_with : (A B C E F : Type 0) (free : ℕ) → (C → F) → (r : Refusal) → RefusesFor A B C E free r → RefusesFor A B F E free r
refuses_with A B C E F free more (Why.Device s) h = tt
refuses_with A B C E F free more (Why.Lost a b) h = tt
refuses_with A B C E F free more Why.Memory h = tt
refuses_with A B C E F free more (Why.Unsound s) h = h
refuses_with A B C E F free more Why.VersionsUsedUp (inl used) = inl (more used)
refuses_with A B C E F free more Why.VersionsUsedUp (inr other) = inr other
refuses_with A B C E F free more (Why.NameTableFull n) h = h
refuses_with A B C E F free more other h = absurd h

module _ {D : Type 0} (M : MachineGhosts D) (short : (m : D) → M.honest m → AreShort (M.now m).windows) (m m' : D) (v w : VolumeValue) (is : v ≡ w) (whole : IsWholeVolume v) (cached : IsCache v.cache) (c : CacheValue) (flags : List Bool)
    (log : LogValue) (of_log : log ≡ v.log) (key : Key) (name : List ℕ) (honest : M.honest m') (k : Known) (stands : Stands state IsMemoryOf w k (M.now m)) (room : length w.cache.dirty ≤ 56) (e : Entry) (there : entry_of key (volume_of k).entries ≡ Some e) where
  here : Stands state IsMemoryOf v k (M.now m)
  here = subst (λ (x : VolumeValue). Stands state IsMemoryOf x k (M.now m)) (sym is) stands

  few_dirty : length k.mounted.dirty ≤ 56
  few_dirty = omega (arith, room, ap (λ (d : List ℕ). length d) stands.fits.dirty)

  abbrev images : List (List ℕ)
  images = images_by M by_log.ghosts v.log m v.cache (length v.free_pages)

  -- the table has the version
  found_in : (height : ℕ) → IsTree images height → entry_of key (table_of images height) ≡ Some e
  found_in height tree =
      let was : images ≡ k.mounted.pages = pages_read v k (M.now m) whole here cached in
      let first = is_tree v k (M.now m) whole here in
      ap (λ (pages : List (List ℕ)). entry_of key (table_of pages height)) was
      ∙ ap (entry_of key) (one_table k.mounted.pages height first.0 (subst (λ (pages : List (List ℕ)). IsTree pages height) was tree) first.1 ∙ first.2)
      ∙ there

  none_for : (why : Refusal) → NoneMoves M by_log.ghosts v.log (data_map v) v.shadow key name m m' v.cache c v.free_pages flags why → NoneFor M by_log.ghosts v.log (data_map v) v.shadow name m m' v.cache c v.free_pages flags why
  none_for why none = refuses_with _ _ _ _ _ (count_by (λ spare. spare) v.free_pages) (λ used trust height tree. by height (found_in height tree) (used trust height tree)) why none
    where
      by : (height : ℕ) → entry_of key (table_of images height) ≡ Some e → (max_u32 < (next_key name (table_of images height)).version) ⊎ (entry_of key (table_of images height) ≡ None) → max_u32 < (next_key name (table_of images height)).version
      by height has (inl most) = most
      by height has (inr none) = absurd (cc (has, none))

  pub move_refused : IsCache c → (result : Result Key Refusal) (why : Refusal) → IsErrAnd result (λ told. told ≡ why) → EditsOnly M by_log.ghosts log (outer_refusal why) m m' v.cache c v.free_pages flags
      → StaysInCache M by_log.ghosts log m m' v.cache c v.free_pages flags → NoneMoves M by_log.ghosts log (data_map v) v.shadow key name m m' v.cache c v.free_pages flags why → EndsMove key name k (record v { cache = c; free_pages = flags }) (M.now m') result
  move_refused valid result why told edits stays none =
      handed (λ (r : Result Key Refusal). EndsMove key name k (record v { cache = c; free_pages = flags }) (M.now m') r) result why told
      (entered_ends k (record v { cache = c; free_pages = flags }) (M.now m') key name e few_dirty there None [] e why
      (refused_ends M short m m' v whole cached c flags honest k here name None [] e valid
      (subst (λ (l : LogValue). StaysInCache M by_log.ghosts l m m' v.cache c v.free_pages flags) of_log stays) why
      (subst (λ (l : LogValue). EditsOnly M by_log.ghosts l (outer_refusal why) m m' v.cache c v.free_pages flags) of_log edits)
      (none_for why (subst (λ (l : LogValue). NoneMoves M by_log.ghosts l (data_map v) v.shadow key name m m' v.cache c v.free_pages flags why) of_log none))))

  -- ---- it is moved

  module _ (plan : Plan) (moving : Leaving) (others : List Leaving) (goes : plan.gone.items ≡ moving ∷ others) (small : plan.key.version < 2 ^ 32) (edits : EditsOnly M by_log.ghosts log None m m' v.cache c v.free_pages flags)
      (fewer : DirtiesAtMost 36 v.cache c) (waits : AreWaiting (length v.free_pages) c) (planned : OfTableIn M by_log.ghosts log m m' v.cache v.free_pages (λ table. IsMovePlan key name table plan)) (many : 8 ≤ count_by (λ spare. spare) v.free_pages)
      (makes : EditsTable M by_log.ghosts log m m' v.cache c v.free_pages flags (with_planned plan (planned_entry plan moving.entry.serial moving.entry.length moving.entry.runs))) where
    abbrev edit : List Entry → List Entry
    edit = with_planned plan (planned_entry plan moving.entry.serial moving.entry.length moving.entry.runs)

    edits_here : EditsOnly M by_log.ghosts v.log None m m' v.cache c v.free_pages flags
    edits_here = subst (λ (l : LogValue). EditsOnly M by_log.ghosts l None m m' v.cache c v.free_pages flags) of_log edits

    makes_here : EditsTable M by_log.ghosts v.log m m' v.cache c v.free_pages flags edit
    makes_here = subst (λ (l : LogValue). EditsTable M by_log.ghosts l m m' v.cache c v.free_pages flags edit) of_log makes

    few : length c.dirty ≤ length v.cache.dirty + most_changed
    few = omega (arith, fewer.few, room, ap (λ (x : VolumeValue). length x.cache.dirty) is)

    within : (page : ℕ) → is_among c.dirty page ≡ true → page < length flags
    within page dirty = let one = waits page dirty in omega (arith, one.inside, edits.size)

    plan_here : IsMovePlan key name (volume_of k).entries plan
    plan_here = of_entries M short m m' v whole cached c flags None edits_here honest k here name (λ table. IsMovePlan key name table plan)
        (subst (λ (l : LogValue). OfTableIn M by_log.ghosts l m m' v.cache v.free_pages (λ table. IsMovePlan key name table plan)) of_log planned)

    usable : (next_key name (volume_of k).entries).version ≤ max_u32
    usable = omega (arith, small, ap (λ (x : Key). x.version) plan_here.key_is)

    abbrev known : Known
    known = known_moved M short m m' v whole cached c flags edits_here honest k here few within key name e there plan plan_here moving others goes makes_here

    not_dry : c.dirty ≡ [] → ⊥
    not_dry = some_moved M short m m' v whole cached c flags edits_here honest k here few within key name e there plan plan_here moving others goes makes_here

    counted : length (volume_of known).files + length others ≡ v.versions
    counted = count_moved M short m m' v whole cached c flags edits_here honest k here few within key name e there plan plan_here moving others goes makes_here

    key_here : plan.key ≡ new_key name (volume_of k).files
    key_here = key_is (volume_of k) key name e (volume_of known).reached
        (sorted M short m m' v whole cached c flags edits_here honest k here few within key name e there plan plan_here moving others goes makes_here) here.disk.described.lists there plan plan_here moving others goes

    module _ (shadow : Waits) (versions : ℕ) (counts : versions ≡ v.versions - length others) (none : Bool) (is_none : none ≡ (length c.dirty == 0)) (removed : shadow.removed ≡ with_if (not none) v.shadow.removed others)
        (kept : shadow.kept ≡ v.shadow.kept) (unfinished : shadow.unfinished ≡ v.shadow.unfinished) (held : shadow.held ≡ v.shadow.held) where
      frees : shadow.removed ≡ with_gone v.shadow.removed others
      frees = removed ∙ ap (λ (b : Bool). with_if b v.shadow.removed others) (some_wait none c.dirty not_dry is_none)

      -- it stands with the version under its new key, which is told
      pub moved_ends : IsWholeVolume (record v { shadow = shadow; cache = c; free_pages = flags; versions = versions })
          → EndsMove key name k (record v { shadow = shadow; cache = c; free_pages = flags; versions = versions }) (M.now m') (Ok plan.key)
      moved_ends left_whole =
          let has : HasFile (volume_of k) key e = file_there (volume_of k) key e here.disk.described.lists there in
          let reached : ℕ = (volume_of known).reached in (
            known,
            record {
              met = record { forces = false; reached = reached; damaged = None; found = []; healed = 0 };
              forces = sym (le-ltb 56 (length k.mounted.dirty) (omega (arith, few_dirty)));
              is = (λ i. moved (volume_of k) key name reached (has.there i) (there i))
                  ∙ ap (λ (o : Option Refusal). moved_unless o (volume_of k) key name has.file e reached) (none_bars M short m m' v whole cached c flags None edits_here honest k here name many usable)
                  ∙ ap (λ (x : Key). (Moved key x, volume_of known)) (sym key_here);
              opened = refl;
              windows = refl;
              changes = refl;
            },
            stands_moved M short m m' v whole cached c flags edits_here honest k here few within key name e there plan plan_here moving others goes makes_here
                shadow versions (omega (arith, counts, counted)) frees kept unfinished held left_whole,
          )
