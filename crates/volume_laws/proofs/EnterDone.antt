-- How it ends over a volume that stands where a version was entered: it stands with the version.
use Rattle.std.proofs.Common.{◌≡◌, ℕ, suc, ◌+◌, ◌-◌, ◌^◌, ◌<◌, ◌≤◌, min, Bool, true, not, ◌&&◌, List, [], ◌∷◌, length, Option, None, Some, refl, sym, ap, subst, ◌∙◌, arith, eqb-true, length-append}
use Rattle.std.specs.Prelude.{count_by, nat_le, nat_lt, ◌==◌}
use Rattle.std.specs.List.{flat_map, list_all}
use Rattle.std.proofs.lemmas.Bool.{and_parts, leb-true, ltb-true, ne_eqb}
use Rattle.std.proofs.lemmas.List.FromFn.{length-range_with_len}
use Rattle.volume_layout.specs.declared.layout.Layout.{Layout}
use Rattle.volume_layout.specs.Layout.{data_start, is_data}
use Rattle.sector_disk.specs.declared.machine.Machine.{Ghosts as MachineGhosts}
use Rattle.sector_disk.specs.Image.{AreShort, open_damage}
use Rattle.fsd_bytes.specs.Keys.{is_key, max_u32}
use Rattle.fsd_bytes.specs.declared.key.Key.{Key}
use Rattle.run_table.specs.RunTable.{are_runs, sectors_of, total}
use Rattle.run_table.specs.Space.{all_differ, contains, where_free}
use Rattle.run_table.proofs.SectorLaws.{length_of_sectors, all_in}
use Rattle.sector_set.specs.Area.{Area, without_sectors}
use Rattle.sector_set.proofs.CountLaws.{count_of_list, split_where}
use Rattle.shadow_frees.specs.Waits.{Waits}
use Rattle.fsd_formats.specs.declared.entry.Entry.{Entry}
use Rattle.fsd_formats.specs.NamePage.{is_entry, max_keep, max_length, sectors_for}
use Rattle.fsd_table.specs.Table.{top}
use Rattle.fsd_files.specs.Answers.{HasVersion, entry_of, new_entry}
use Rattle.fsd_files.specs.Disk.{in_runs}
use Rattle.fsd_files.specs.Files.{Change, gone_keys, new_key}
use Rattle.fsd_files.specs.Kept.{KeptIn}
use Rattle.fsd_files.specs.Space.{Apart}
use Rattle.fsd_files.specs.Volume.{plans_of}
use Rattle.fsd_files.proofs.ListingLaws.{lists_length}
use Rattle.group_commit.specs.Cached.{AreWaiting}
use Rattle.group_commit.specs.contracts.newest.NewestPageSource.TheImpl as by_log
use Rattle.log_thirds.specs.LogValue.{LogValue}
use Rattle.page_cache.specs.Cache.{CacheValue, IsCache, is_among}
use Rattle.fsd_sound.specs.Mounted.{most_changed}
use Rattle.version_table.specs.declared.oldest.Leaving.{Leaving}
use Rattle.version_table.specs.declared.planning.Plan.{Plan}
use Rattle.version_table.specs.Plan.{IsPlan, planned_entry, with_planned}
use Rattle.version_table.specs.Versions.{next_key}
use Rattle.version_table.proofs.PlanLaws.{entries_good, keys_agree}
use Rattle.volume_contract.specs.State.{Known, Stands, volume_of}
use Rattle.cached_table.specs.Editing.{DirtiesAtMost, EditsOnly, EditsTable}
use Rattle.cached_table.specs.Entering.{OfTableIn, with_gone}
use Rattle.volume_laws.specs.Changing.{IsAfter}
use Rattle.volume_laws.specs.Entered.{StandsEntered, StandsMade}
use Rattle.volume_laws.specs.Placing.{IsPlace}
use Rattle.volume_laws.specs.State.{IsMemoryOf, state}
use Rattle.volume_laws.specs.Volume.{IsWholeVolume, VolumeValue}
use Rattle.volume_laws.proofs.EnterEnds.{none_bars, of_entries}
use Rattle.volume_laws.proofs.EnteredLaws.{after, ascend, count_entered, entry_entered, known_entered, some_waits, sorted, stands_entered}
use Rattle.volume_laws.proofs.EnteredSpace.{made}
use Rattle.volume_laws.proofs.MadeLaws.{has_table, pages_made, pages_now}
use Rattle.volume_laws.proofs.MakingLaws.{with_if}
use Rattle.volume_laws.proofs.NewVersionLaws.{IsMade, put_made}
use Rattle.volume_laws.proofs.FlagLaws.{all_pass}

-- ---- no more versions than sectors

some_sectors : (e : Entry) → is_entry e ≡ true → 1 ≤ length (sectors_of e.runs)
some_sectors e good =
    let last = and_parts (is_key e.key && nat_le e.keep max_keep && nat_le e.length max_length && are_runs e.runs) (total e.runs == sectors_for e.length) good in
    omega (arith, length_of_sectors e.runs, eqb-true (total e.runs) (sectors_for e.length) last.1)

more_sectors : (es : List Entry) → list_all is_entry es ≡ true → length es ≤ length (flat_map sectors_of (plans_of es))
more_sectors [] good = omega arith
more_sectors (e ∷ es) good =
    let parts = and_parts (is_entry e) (list_all is_entry es) good in
    omega (arith, some_sectors e parts.0, more_sectors es parts.1, length-append (sectors_of e.runs) (flat_map sectors_of (plans_of es)))

pub few_entries : (l : Layout) (es : List Entry) → Apart l (plans_of es) → list_all is_entry es ≡ true → length es ≤ l.sectors
few_entries l es apart good =
    let all : List ℕ = flat_map sectors_of (plans_of es) in
    let parts = and_parts (all_differ all) (list_all (is_data l) all) apart in
    let count = count_of_list all (data_start l) l.sectors parts.0 (λ s there.
    let area = and_parts (nat_le (data_start l) s) (nat_lt s l.sectors) (all_in (is_data l) all s parts.1 there) in (leb-true (data_start l) s area.0, ltb-true s l.sectors area.1)) in
    let split : length (where_free (λ s. true) (data_start l) l.sectors) ≡ length (where_free (contains all) (data_start l) l.sectors) + length (where_free (λ s. not (contains all s)) (data_start l) l.sectors) =
    split_where (λ s. true) (contains all) (data_start l) l.sectors in
    let whole : length (where_free (λ s. true) (data_start l) l.sectors) ≡ l.sectors - data_start l = ap length (all_pass _) ∙ length-range_with_len (data_start l) (l.sectors - data_start l) in
    omega (arith, count, split, whole, more_sectors es good)

found_some : (key : Key) (es : List Entry) (e : Entry) → entry_of key es ≡ Some e → 1 ≤ length es
found_some key [] e is = absurd (cc is)
found_some key (x ∷ es) e is = omega arith

-- where some page is dirty
pub some_wait : (none : Bool) (dirty : List ℕ) → (dirty ≡ [] → ⊥) → none ≡ (length dirty == 0) → not none ≡ true
some_wait none [] wet is = absurd (wet refl)
some_wait none (page ∷ dirty) wet is = ap not (is ∙ ne_eqb (suc (length dirty)) 0 (λ e. absurd (omega arith)))

-- ---- the volume

module _ {D : Type 0} (M : MachineGhosts D) (short : (m : D) → M.honest m → AreShort (M.now m).windows) (m m' : D) (v w : VolumeValue) (is : v ≡ w) (whole : IsWholeVolume v) (cached : IsCache v.cache) (c : CacheValue) (flags : List Bool)
    (log : LogValue) (of_log : log ≡ v.log) (narrow : v.layout.sectors < 2 ^ 32) (room : length v.cache.dirty ≤ 56) (edits : EditsOnly M by_log.ghosts log None m m' v.cache c v.free_pages flags) (fewer : DirtiesAtMost 36 v.cache c)
    (waits : AreWaiting (length v.free_pages) c) (honest : M.honest m') (k : Known) (stands : Stands state IsMemoryOf w k (M.now m)) where
  pub here : Stands state IsMemoryOf v k (M.now m)
  here = subst (λ (x : VolumeValue). Stands state IsMemoryOf x k (M.now m)) (sym is) stands

  pub edits_here : EditsOnly M by_log.ghosts v.log None m m' v.cache c v.free_pages flags
  edits_here = subst (λ (l : LogValue). EditsOnly M by_log.ghosts l None m m' v.cache c v.free_pages flags) of_log edits

  few : length c.dirty ≤ length v.cache.dirty + most_changed
  few = omega (arith, fewer.few, room)

  within : (page : ℕ) → is_among c.dirty page ≡ true → page < length flags
  within page dirty = let one = waits page dirty in omega (arith, one.inside, edits.size)

  -- ---- what a change makes of it

  module _ (change : Change) (e : Entry) (out : List Key) (gone : List Leaving) (edit : List Entry → List Entry) (bytes : List ℕ) (is_made : IsMade (volume_of k) change e out gone edit bytes)
      (makes : EditsTable M by_log.ghosts log m m' v.cache c v.free_pages flags edit) (need : ℕ) (place : IsPlace v.map need e.runs) (there : KeptIn (M.now m').image (open_damage (M.now m').windows) bytes e.runs) where
    makes_here : EditsTable M by_log.ghosts v.log m m' v.cache c v.free_pages flags edit
    makes_here = subst (λ (l : LogValue). EditsTable M by_log.ghosts l m m' v.cache c v.free_pages flags edit) of_log makes

    abbrev known : Known
    known = known_entered M short m m' v whole cached c flags edits_here honest k here few within change e out gone edit bytes is_made makes_here need place there

    -- some page waits, so what goes does
    pub not_dry : c.dirty ≡ [] → ⊥
    not_dry = some_waits M short m m' v whole cached c flags edits_here honest k here few within change e out gone edit bytes is_made makes_here need place there

    counted : length (volume_of known).files + length gone ≡ v.versions + 1
    counted = count_entered M short m m' v whole cached c flags edits_here honest k here few within change e out gone edit bytes is_made makes_here need place there

    found : entry_of e.key (volume_of known).entries ≡ Some e
    found = entry_entered M short m m' v whole cached c flags edits_here honest k here few within change e out gone edit bytes is_made makes_here need place there

    then : IsAfter change (in_runs k.windows) (M.now m').image (volume_of k) (volume_of known)
    then = after M short m m' v whole cached c flags edits_here honest k here few within change e out gone edit bytes is_made makes_here need place there

    no_more : length (volume_of known).files ≤ v.layout.sectors
    no_more =
        let made = pages_made M short m m' v whole cached c flags None edits_here honest k here few within edit makes_here in
        let height : ℕ = (has_table M short m m' v whole cached c flags None edits_here honest k here few within edit makes_here).height in
        let good : list_all is_entry (volume_of known).entries ≡ true =
        subst (λ (es : List Entry). list_all is_entry es ≡ true) (made.1 ∙ is_made.entries) (entries_good (height - 1) (pages_now M short m m' v whole cached c flags None edits_here honest k here) top) in
        omega (
          arith,
          lists_length (volume_of known).files (volume_of known).entries then.described.lists,
          few_entries (volume_of k).layout (volume_of known).entries then.described.apart good,
          ap (λ (l : Layout). l.sectors) here.fits.layout,
        )

    some : 1 ≤ length (volume_of known).files
    some = omega (arith, lists_length (volume_of known).files (volume_of known).entries then.described.lists, found_some e.key (volume_of known).entries e found)

    module _ (draft : Entry) (written : HasVersion (open_damage (M.now m').windows) (M.now m').image bytes draft) (free : Area) (shadow : Waits) (versions : ℕ) (counts : versions ≡ min (v.versions - length gone + 1) 4294967295)
        (taken : free ≡ without_sectors v.map e.runs) (goes : shadow.removed ≡ with_gone v.shadow.removed gone) (kept : shadow.kept ≡ v.shadow.kept) (unfinished : shadow.unfinished ≡ v.shadow.unfinished) (held : shadow.held ≡ v.shadow.held) where
      -- it stands with the version
      pub ends_made : IsWholeVolume (record v { map = free; shadow = shadow; cache = c; free_pages = flags; versions = versions })
          → StandsMade change (λ r. made (volume_of k) change e out r) e bytes draft k (record v { map = free; shadow = shadow; cache = c; free_pages = flags; versions = versions }) (M.now m')
      ends_made made_whole = record {
        after = known;
        reached = (volume_of known).reached;
        volume = refl;
        opened = refl;
        windows = refl;
        changes = refl;
        stands = stands_entered M short m m' v whole cached c flags edits_here honest k here few within change e out gone edit bytes is_made makes_here need place there
            free shadow versions (omega (arith, counts, counted, no_more, narrow, some)) taken goes kept unfinished held made_whole;
        entered = found;
        written = written;
      }

-- ---- by a put

module _ {D : Type 0} (M : MachineGhosts D) (short : (m : D) → M.honest m → AreShort (M.now m).windows) (m m' : D) (v w : VolumeValue) (is : v ≡ w) (whole : IsWholeVolume v) (cached : IsCache v.cache) (c : CacheValue) (flags : List Bool)
    (log : LogValue) (of_log : log ≡ v.log) (name : List ℕ) (given : Option ℕ) (draft : Entry) (plan : Plan) (small : plan.key.version < 2 ^ 32) (narrow : v.layout.sectors < 2 ^ 32) (room : length v.cache.dirty ≤ 56)
    (edits : EditsOnly M by_log.ghosts log None m m' v.cache c v.free_pages flags) (fewer : DirtiesAtMost 36 v.cache c) (waits : AreWaiting (length v.free_pages) c)
    (planned : OfTableIn M by_log.ghosts log m m' v.cache v.free_pages (λ table. IsPlan name given table plan)) (many : 8 ≤ count_by (λ spare. spare) v.free_pages)
    (makes : EditsTable M by_log.ghosts log m m' v.cache c v.free_pages flags (with_planned plan (planned_entry plan draft.serial draft.length draft.runs)))
    (place : IsPlace v.map (sectors_for draft.length) draft.runs) (honest : M.honest m') (k : Known) (stands : Stands state IsMemoryOf w k (M.now m)) (bytes : List ℕ) (long : draft.length ≡ length bytes)
    (written : HasVersion (open_damage (M.now m').windows) (M.now m').image bytes draft) where
  abbrev edit : List Entry → List Entry
  edit = with_planned plan (planned_entry plan draft.serial draft.length draft.runs)

  abbrev was : Stands state IsMemoryOf v k (M.now m)
  was = here M short m m' v w is whole cached c flags log of_log narrow room edits fewer waits honest k stands

  abbrev edited : EditsOnly M by_log.ghosts v.log None m m' v.cache c v.free_pages flags
  edited = edits_here M short m m' v w is whole cached c flags log of_log narrow room edits fewer waits honest k stands

  plan_here : IsPlan name given (volume_of k).entries plan
  plan_here = of_entries M short m m' v whole cached c flags None edited honest k was name (λ table. IsPlan name given table plan)
      (subst (λ (l : LogValue). OfTableIn M by_log.ghosts l m m' v.cache v.free_pages (λ table. IsPlan name given table plan)) of_log planned)

  key_here : plan.key ≡ new_key name (volume_of k).files
  key_here = plan_here.key ∙ sym (keys_agree name (volume_of k).files (volume_of k).entries was.disk.described.lists)

  usable : (next_key name (volume_of k).entries).version ≤ max_u32
  usable = omega (arith, small, ap (λ (x : Key). x.version) plan_here.key)

  is_put : IsMade (volume_of k) (Change.Put name given bytes) (new_entry (volume_of k) name bytes given draft.runs draft.serial) (gone_keys name given bytes (volume_of k).files) plan.gone.items edit bytes
  is_put = put_made (volume_of k) name bytes given draft (ascend v k (M.now m) whole was) (sorted v k (M.now m) was) was.disk.described.lists plan plan_here long

  module _ (free : Area) (shadow : Waits) (versions : ℕ) (counts : versions ≡ min (v.versions - length plan.gone.items + 1) 4294967295) (taken : free ≡ without_sectors v.map draft.runs)
      (none : Bool) (is_none : none ≡ (length c.dirty == 0)) (removed : shadow.removed ≡ with_if (not none) v.shadow.removed plan.gone.items)
      (kept : shadow.kept ≡ v.shadow.kept) (unfinished : shadow.unfinished ≡ v.shadow.unfinished) (held : shadow.held ≡ v.shadow.held) where
    goes : shadow.removed ≡ with_gone v.shadow.removed plan.gone.items
    goes = removed ∙ ap (λ (b : Bool). with_if b v.shadow.removed plan.gone.items)
        (some_wait none c.dirty (not_dry M short m m' v w is whole cached c flags log of_log narrow room edits fewer waits honest k stands _ _ _ plan.gone.items edit bytes is_put makes (sectors_for draft.length) place written.data_there) is_none)

    -- it stands with the version, and its key is told
    pub ends_entered : IsWholeVolume (record v { map = free; shadow = shadow; cache = c; free_pages = flags; versions = versions })
        → StandsEntered name given bytes draft k (record v { map = free; shadow = shadow; cache = c; free_pages = flags; versions = versions }) (M.now m') plan.key
    ends_entered made_whole = record {
      none = none_bars M short m m' v whole cached c flags None edited honest k was name many usable;
      key_is = key_here;
      made = ends_made M short m m' v w is whole cached c flags log of_log narrow room edits fewer waits honest k stands _ _ _ plan.gone.items edit bytes is_put makes (sectors_for draft.length) place written.data_there
          draft written free shadow versions counts taken goes kept unfinished held made_whole;
    }
