-- A creation that is entered into the table: over the volume that has it abandoned its sectors are free, and they are taken there as those of a version that lay in free sectors.
use Rattle.std.proofs.Common.{◌≡◌, ℕ, ◌+◌, ◌-◌, ◌^◌, ◌<◌, ◌≤◌, min, Bool, true, false, not, ◌&&◌, ◌||◌, List, [], ◌∷◌, ◌++◌, length, Option, None, Some, refl, sym, ap, subst, ◌∙◌}
use Rattle.std.specs.Prelude.{count_by, ◌==◌}
use Rattle.std.proofs.lemmas.Bool.{both_ways, false_from_ne_true, or_from, or_right}
use Rattle.sector_disk.specs.declared.machine.Machine.{Ghosts as MachineGhosts}
use Rattle.sector_disk.specs.Image.{AreShort, open_damage}
use Rattle.run_table.specs.declared.run.Run.{Run}
use Rattle.run_table.specs.RunTable.{sectors_of}
use Rattle.run_table.specs.Space.{contains}
use Rattle.sector_set.specs.Area.{Area, AreIn, AreOut, area, together, without_sectors}
use Rattle.sector_set.proofs.FreeLaws.{where_same}
use Rattle.shadow_frees.specs.Waits.{Waits}
use Rattle.fsd_formats.specs.declared.entry.Entry.{Entry}
use Rattle.fsd_formats.specs.NamePage.{sectors_for}
use Rattle.fsd_files.specs.Answers.{HasVersion}
use Rattle.group_commit.specs.Cached.{AreWaiting}
use Rattle.group_commit.specs.contracts.newest.NewestPageSource.TheImpl as by_log
use Rattle.log_thirds.specs.LogValue.{LogValue}
use Rattle.page_cache.specs.Cache.{CacheValue, IsCache}
use Rattle.version_table.specs.declared.oldest.Leaving.{Leaving}
use Rattle.version_table.specs.declared.planning.Plan.{Plan}
use Rattle.version_table.specs.Plan.{IsPlan, planned_entry, with_planned}
use Rattle.volume_contract.specs.Pieces.{ended, slices_in, with_opened}
use Rattle.volume_contract.specs.State.{Known, Stands}
use Rattle.cached_table.specs.Editing.{DirtiesAtMost, EditsOnly, EditsTable}
use Rattle.cached_table.specs.Entering.{AreInTurn, OfTableIn}
use Rattle.volume_laws.specs.Completed.{Completes}
use Rattle.volume_laws.specs.Entered.{StandsEntered}
use Rattle.volume_laws.specs.Placing.{IsPlace}
use Rattle.volume_laws.specs.State.{IsMemoryOf, state}
use Rattle.volume_laws.specs.Taken.{data_map}
use Rattle.volume_laws.specs.Volume.{IsWholeVolume, VolumeValue}
use Rattle.table_survey.proofs.DataLaws.{of_data_own}
use Rattle.volume_laws.proofs.PieceLaws.{abandoned, map_more, stands_abandoned, unfinished_left, waiting_out, whole_abandoned}
use Rattle.volume_laws.proofs.EnterDone.{ends_entered}
use Rattle.volume_laws.proofs.MakingLaws.{whole_entered, with_if}

-- ---- the volume without the creation

module _ (v : VolumeValue) (whole : IsWholeVolume v) (runs : List Run) (are : AreIn v.shadow.unfinished runs) where
  not_free : AreOut v.map runs
  not_free = waiting_out v whole v.shadow.unfinished runs whole.unfinished are
      (λ s there. or_right (contains v.shadow.removed.sectors s) (contains v.shadow.kept.sectors s || contains v.shadow.unfinished.sectors s) (or_right (contains v.shadow.kept.sectors s) (contains v.shadow.unfinished.sectors s) there))

  -- once its sectors are taken there, as many are free as before
  pub map_back : v.map ≡ without_sectors (together v.map runs) runs
  map_back = own ∙ (λ i. record { from = v.map.from; to = v.map.to; sectors = where_same (contains v.map.sectors) (λ s. contains (together v.map runs).sectors s && not (contains (sectors_of runs) s)) v.map.from v.map.to same i })
    where
      own : v.map ≡ area v.map.from v.map.to (contains v.map.sectors)
      own = of_data_own v.layout v.map whole.map

      tests : (a b : Bool) → (b ≡ true → a ≡ false) → a ≡ ((a || b) && not b)
      tests true true out = absurd (cc (out refl))
      tests true false out = refl
      tests false true out = refl
      tests false false out = refl

      same : (s : ℕ) → v.map.from ≤ s → s < v.map.to → contains v.map.sectors s ≡ (contains (together v.map runs).sectors s && not (contains (sectors_of runs) s))
      same s low high = tests (contains v.map.sectors s) (contains (sectors_of runs) s) (not_free.outside s) ∙ ap (λ (b : Bool). b && not (contains (sectors_of runs) s)) (sym (map_more v whole runs are s))

  -- its sectors are a place there
  pub place_back : (need : ℕ) → IsPlace v.shadow.unfinished need runs → IsPlace (together v.map runs) need runs
  place_back need place = record {
    free = record { inside = λ s here. map_more v whole runs are s ∙ or_right (contains v.map.sectors s) (contains (sectors_of runs) s) here; differ = place.free.differ };
    count = place.count;
    few = place.few;
    some = place.some;
  }

  -- what is taken is so there
  out_back : (rs : List Run) → AreOut (data_map v) rs → AreOut v.shadow.unfinished rs → AreOut (data_map (abandoned v runs)) rs
  out_back rs out idle = record {
    within = out.within;
    outside = λ s here. map_more v whole runs are s ∙ or_from (contains v.map.sectors s) (contains (sectors_of runs) s) (out.outside s here)
        (false_from_ne_true (contains (sectors_of runs) s) (λ mine. both_ways (contains v.shadow.unfinished.sectors s) (idle.outside s here) (are.inside s mine)));
    differ = out.differ;
  }

  idle_back : (rs : List Run) → AreOut v.shadow.unfinished rs → AreOut (without_sectors v.shadow.unfinished runs) rs
  idle_back rs idle = record {
    within = idle.within;
    outside = λ s here. unfinished_left v whole runs are s ∙ ap (λ (b : Bool). b && not (contains (sectors_of runs) s)) (idle.outside s here);
    differ = idle.differ;
  }

  pub turn_back : (seen gone : List Leaving) → AreInTurn (data_map v) v.shadow seen gone → AreInTurn (data_map (abandoned v runs)) (abandoned v runs).shadow seen gone
  turn_back seen [] turn = tt
  turn_back seen (g ∷ gone) turn =
      let taken = turn.0.0 in (
        ((out_back g.entry.runs taken.0 taken.1.2, (taken.1.0, taken.1.1, idle_back g.entry.runs taken.1.2), taken.2), turn.0.1),
        turn_back (seen ++ g ∷ []) gone turn.1,
      )

-- ---- over any machine

module _ (v w : VolumeValue) (is : v ≡ w) (whole : IsWholeVolume v) (c : CacheValue) (flags : List Bool) (edited : IsWholeVolume (record v { cache = c; free_pages = flags })) (runs : List Run) (are : AreIn v.shadow.unfinished runs)
    (gone : List Leaving) (turn : AreInTurn (data_map v) v.shadow [] gone) (b : Bool) (dry : c.dirty ≡ [] → b ≡ false) (shadow : Waits) (versions : ℕ)
    (removed : shadow.removed ≡ with_if b v.shadow.removed gone) (kept : shadow.kept ≡ v.shadow.kept) (unfinished : shadow.unfinished ≡ without_sectors v.shadow.unfinished runs) (held : shadow.held ≡ v.shadow.held) where
  abbrev ghost : VolumeValue
  ghost = abandoned v runs

  ghost_edited : IsWholeVolume (record ghost { cache = c; free_pages = flags })
  ghost_edited =
      let back = whole_abandoned v whole runs are in
      record {
        planned = back.planned;
        map = back.map;
        removed = back.removed;
        kept = back.kept;
        unfinished = back.unfinished;
        apart = back.apart;
        once = back.once;
        log = back.log;
        epoch = back.epoch;
        pages = edited.pages;
        room = edited.room;
        unpinned = edited.unpinned;
        waiting = edited.waiting;
        numbered = edited.numbered;
        still = edited.still;
      }

  pub whole_completed : IsWholeVolume (record v { shadow = shadow; cache = c; free_pages = flags; versions = versions })
  whole_completed =
      whole_entered ghost (whole_abandoned v whole runs are) c flags ghost_edited runs gone (turn_back v whole runs are [] gone turn) b dry v.map shadow versions (map_back v whole runs are) removed kept unfinished held

  -- what it tells
  pub completes : Completes runs (state w) (state (record v { shadow = shadow; cache = c; free_pages = flags; versions = versions }))
  completes =
      subst (λ (x : VolumeValue). Completes runs (state x) (state (record v { shadow = shadow; cache = c; free_pages = flags; versions = versions }))) is
      (record {
        layout = refl;
        serial = refl;
        anchor = refl;
        head = refl;
        slots = refl;
        readers = held;
        unfinished = λ t. ap (λ (a : Area). contains a.sectors t) unfinished ∙ unfinished_left v whole runs are t;
        down = refl;
      })

-- ---- over a volume that stands

module _ {D : Type 0} (M : MachineGhosts D) (short : (m : D) → M.honest m → AreShort (M.now m).windows) (m m' : D) (v w : VolumeValue) (is : v ≡ w) (whole : IsWholeVolume v) (cached : IsCache v.cache) (c : CacheValue) (flags : List Bool)
    (log : LogValue) (of_log : log ≡ v.log) (name : List ℕ) (given : Option ℕ) (draft : Entry) (plan : Plan) (small : plan.key.version < 2 ^ 32) (narrow : v.layout.sectors < 2 ^ 32) (room : length v.cache.dirty ≤ 56)
    (edits : EditsOnly M by_log.ghosts log None m m' v.cache c v.free_pages flags) (fewer : DirtiesAtMost 36 v.cache c) (waits : AreWaiting (length v.free_pages) c)
    (planned : OfTableIn M by_log.ghosts log m m' v.cache v.free_pages (λ table. IsPlan name given table plan)) (many : 8 ≤ count_by (λ spare. spare) v.free_pages)
    (makes : EditsTable M by_log.ghosts log m m' v.cache c v.free_pages flags (with_planned plan (planned_entry plan draft.serial draft.length draft.runs)))
    (place : IsPlace v.shadow.unfinished (sectors_for draft.length) draft.runs) (honest : M.honest m') (k : Known) (stands : Stands state IsMemoryOf w k (M.now m)) (before : List (Option (List ℕ))) (there : slices_in k.opened.drafts draft.runs ≡ Some before)
    (bytes : List ℕ) (long : draft.length ≡ length bytes) (written : HasVersion (open_damage (M.now m').windows) (M.now m').image bytes draft)
    (shadow : Waits) (versions : ℕ) (counts : versions ≡ min (v.versions - length plan.gone.items + 1) 4294967295) (none : Bool) (is_none : none ≡ (length c.dirty == 0)) (removed : shadow.removed ≡ with_if (not none) v.shadow.removed plan.gone.items)
    (kept : shadow.kept ≡ v.shadow.kept) (unfinished : shadow.unfinished ≡ without_sectors v.shadow.unfinished draft.runs) (held : shadow.held ≡ v.shadow.held)
    (made_whole : IsWholeVolume (record v { shadow = shadow; cache = c; free_pages = flags; versions = versions })) where
  here : Stands state IsMemoryOf (abandoned v draft.runs) (with_opened k (ended k.opened draft.runs)) (M.now m)
  here = stands_abandoned v whole draft.runs place.free k (M.now m) before there (subst (λ (x : VolumeValue). Stands state IsMemoryOf x k (M.now m)) (sym is) stands)

  -- it stands with the version
  pub ends_completed : StandsEntered name given bytes draft (with_opened k (ended k.opened draft.runs)) (record v { shadow = shadow; cache = c; free_pages = flags; versions = versions }) (M.now m') plan.key
  ends_completed =
      ends_entered M short m m' (abandoned v draft.runs) (abandoned v draft.runs) refl (whole_abandoned v whole draft.runs place.free) cached c flags log of_log name given draft plan small narrow room edits fewer waits planned many makes
      (place_back v whole draft.runs place.free (sectors_for draft.length) place) honest (with_opened k (ended k.opened draft.runs)) here bytes long written
      v.map shadow versions counts (map_back v whole draft.runs place.free) none is_none removed kept unfinished held made_whole
