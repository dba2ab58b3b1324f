-- A volume with one version more, whose bytes stand in runs that were free.
use Rattle.std.proofs.Common.{◌≡◌, inl, inr, ℕ, false, List, [], ◌∷◌, ◌++◌, length, None, Option, Some, refl, sym, ap, subst, ◌∙◌}
use Rattle.std.specs.Prelude.{IsTrue, T, not}
use Rattle.std.specs.List.{AllByRecursion, AllZip, flat_map, last_or, list_any}
use Rattle.std.specs.FinMap.{is_sorted}
use Rattle.std.proofs.lemmas.List.{append-nil}
use Rattle.volume_layout.specs.declared.layout.Layout.{Layout}
use Rattle.fsd_bytes.specs.Keys.{key_cmp, same_key}
use Rattle.fsd_bytes.specs.declared.key.Key.{Key}
use Rattle.run_table.specs.declared.run.Run.{Run}
use Rattle.run_table.specs.RunTable.{sectors_of}
use Rattle.sector_disk.specs.declared.sector.WeakRun.{WeakRun}
use Rattle.sector_disk.specs.Image.{open_damage}
use Rattle.sector_disk.specs.Machine.{Moment}
use Rattle.fsd_formats.specs.declared.entry.Entry.{Entry}
use Rattle.fsd_log.specs.Scan.{Placed}
use Rattle.fsd_table.proofs.BoundLaws.{Ascend}
use Rattle.fsd_files.specs.Answers.{entry_of, entry_put, gone_sectors, loaded_entry, new_entry, with_loaded}
use Rattle.fsd_files.specs.Disk.{Has, Image, Sectors, Within, in_runs}
use Rattle.fsd_files.specs.Files.{Change, gone_keys, new_keep, new_key, step, with_new}
use Rattle.fsd_files.specs.Kept.{Describes, Kept, KeptIn, Lists, data_sectors, filled_slices}
use Rattle.fsd_files.specs.Space.{Apart}
use Rattle.fsd_files.specs.Volume.{Volume, entries_at, entries_without, plans_of}
use Rattle.fsd_files.specs.Waiting.{Changes, IsSpaced}
use Rattle.fsd_files.proofs.ChangeKept.{load_kept, version_kept}
use Rattle.fsd_files.proofs.ChangeLaws.{AreFree, loaded_changes, version_changes}
use Rattle.fsd_files.proofs.CountLaws.{differ_occurs, occurs_contains}
use Rattle.fsd_files.proofs.EachLaws.{each_kept}
use Rattle.fsd_files.proofs.FreshLaws.{IsAbsent, absent_key, new_key_is_new}
use Rattle.fsd_files.proofs.ListingLaws.{entries_at_none, entries_without_none, lists_put, lists_kept}
use Rattle.fsd_sound.specs.Mounted.{Mounted}
use Rattle.fsd_sound.specs.Sound.{EndIn}
use Rattle.fsd_sound.proofs.SoundLaws.{weak_within_hurt}
use Rattle.fsd_sound.proofs.WindowLaws.{fewer}
use Rattle.version_table.specs.declared.oldest.Leaving.{Leaving}
use Rattle.version_table.specs.declared.planning.Plan.{Plan}
use Rattle.version_table.specs.Met.{entries_left}
use Rattle.version_table.specs.Plan.{IsPlan, keys_left, planned_entry, with_planned}
use Rattle.version_table.specs.Versions.{next_key}
use Rattle.version_table.proofs.PlanLaws.{each_found, each_mapped, keeps_agree, keys_agree, new_stays, next_is_new}
use Rattle.cached_table.specs.Loading.{entry_drafted}
use Rattle.volume_laws.proofs.EnteredSpace.{made}
use Rattle.volume_laws.proofs.GoneLaws.{apart_front}
use Rattle.volume_laws.proofs.LeavingLaws.{gone_leave}
use Rattle.volume_laws.specs.Placing.{IsPlace}
use Rattle.volume_laws.specs.State.{IsMemoryOf}
use Rattle.volume_laws.specs.Volume.{VolumeValue}

-- ---- its runs

-- the runs of a place are free in the volume that stands
pub place_free : (v : VolumeValue) (m : Mounted) (records : List Placed) (need : ℕ) (runs : List Run) → IsMemoryOf v m records → IsPlace v.map need runs → AreFree m.volume runs
place_free v m records need runs holds place = record {
  once = differ_occurs (sectors_of runs) place.free.differ;
  free = λ s some. subst IsTrue (holds.map s) (place.free.inside s (occurs_contains s (sectors_of runs) some));
}

-- ---- its bytes

has_wider : (a b : Sectors) (i : Image) (bytes : List ℕ) (s : ℕ) → Within a b → Has a i bytes s → Has b i bytes s
has_wider a b i bytes s within (inl is) = inl is
has_wider a b i bytes s within (inr bad) = inr (within s bad.0, bad.1)

pub zip_wider : (a b : Sectors) (i : Image) (bs : List (List ℕ)) (ss : List ℕ) → Within a b → AllZip (Has a i) bs ss → AllZip (Has b i) bs ss
zip_wider a b i [] [] within kept = tt
zip_wider a b i [] (s ∷ ss) within kept = absurd kept
zip_wider a b i (x ∷ bs) [] within kept = absurd kept
zip_wider a b i (x ∷ bs) (s ∷ ss) within kept = (has_wider a b i x s within kept.0, zip_wider a b i bs ss within kept.1)

-- what was written stands, but for damage in the windows so far
pub written_kept : (now : Moment) (windows : List WeakRun) (bytes : List ℕ) (runs : List Run) → EndIn now.windows windows → KeptIn now.image (open_damage now.windows) bytes runs → KeptIn now.image (in_runs windows) bytes runs
written_kept now windows bytes runs ends there =
    zip_wider (open_damage now.windows) (in_runs windows) now.image (filled_slices bytes) (data_sectors runs)
    (λ s may. weak_within_hurt windows s (fewer (last_or None windows) now.windows.present now.windows.next ends.last ends.some s may)) there

-- ---- the volume with it

-- One version more, of this entry, while these keys go: what an edit of the table makes of its entries, and a change of the
-- files.
pub record IsMade (v : Volume) (c : Change) (e : Entry) (out : List Key) (gone : List Leaving) (edit : List Entry → List Entry) (bytes : List ℕ) : Type 0 where
  pub stays : list_any (same_key e.key) out ≡ false
  pub absent : IsAbsent e.key v.entries
  pub fresh : entry_of e.key v.entries ≡ None
  pub goes : entries_left gone ≡ entries_at out v.entries
  pub entries : edit v.entries ≡ entries_without out (entry_put e v.entries)
  pub changed : (r : ℕ) → IsSpaced v → AreFree v e.runs → Changes v (made v c e out r)
  pub listed : Lists (step v.files c) (entries_without out (entry_put e v.entries))
  pub kept : (hurt : Sectors) (i : Image) → Kept i v.files v.entries hurt → KeptIn i hurt bytes e.runs → Kept i (step v.files c) (entries_without out (entry_put e v.entries)) hurt

-- its entries describe its files on the disk
pub made_described : (v : Volume) (c : Change) (e : Entry) (out : List Key) (r : ℕ) (gone : List Leaving) (edit : List Entry → List Entry) (bytes : List ℕ) → IsMade v c e out gone edit bytes → (hurt : Sectors) (i : Image) → Changes v (made v c e out r)
    → Kept i v.files v.entries hurt → KeptIn i hurt bytes e.runs → Describes v.layout hurt i (made v c e out r).files (made v c e out r).entries
made_described v c e out r gone edit bytes is hurt i changes kept new = record {
  lists = is.listed;
  apart = subst (λ (l : Layout). Apart l (plans_of (made v c e out r).entries)) changes.layout (apart_front v.layout (plans_of (made v c e out r).entries) v.drafts changes.spaced.apart);
  kept = is.kept hurt i kept new;
}

-- ---- by a put

module _ (v : Volume) (name bytes : List ℕ) (given : Option ℕ) (draft : Entry) (ascend : Ascend v.entries) (sorted : T (is_sorted key_cmp v.files)) (lists : Lists v.files v.entries) (plan : Plan) (planned : IsPlan name given v.entries plan)
    (long : draft.length ≡ length bytes) where
  abbrev new : Entry
  new = new_entry v name bytes given draft.runs draft.serial

  abbrev out : List Key
  out = gone_keys name given bytes v.files

  new_is : planned_entry plan draft.serial draft.length draft.runs ≡ new
  new_is = λ i. record {
    key = (planned.key ∙ sym (keys_agree name v.files v.entries lists)) i;
    keep = (planned.keep ∙ sym (keeps_agree name given v.files v.entries lists)) i;
    serial = draft.serial;
    length = long i;
    runs = draft.runs;
  }

  keys_are : keys_left plan ≡ out
  keys_are = planned.keys ∙ sym (gone_leave name given bytes v.files v.entries sorted lists)

  absent : IsAbsent new.key v.entries
  absent = new_key_is_new name v.files v.entries sorted lists

  stays : list_any (same_key new.key) out ≡ false
  stays =
      let found = each_mapped (λ (e : Entry). entry_of e.key v.entries ≡ Some e) (λ (g : Leaving). g.entry) plan.gone.items
      (subst (AllByRecursion (λ (e : Entry). entry_of e.key v.entries ≡ Some e)) (sym planned.entries)
      (each_kept (λ (e : Entry). entry_of e.key v.entries ≡ Some e) (λ e. list_any (same_key e.key) (keys_left plan)) v.entries (each_found v.entries ascend))) in
      ap (λ (ks : List Key). list_any (same_key new.key) ks) (sym keys_are)
      ∙ ap (λ (k : Key). list_any (same_key k) (keys_left plan)) (keys_agree name v.files v.entries lists)
      ∙ new_stays (λ (g : Leaving). g.entry) (next_key name v.entries) v.entries plan.gone.items (next_is_new name v.entries ascend) found

  pub put_made : IsMade v (Change.Put name given bytes) new out plan.gone.items (with_planned plan (planned_entry plan draft.serial draft.length draft.runs)) bytes
  put_made = record {
    stays = stays;
    absent = absent;
    fresh = ap (λ (x : Key). entry_of x v.entries) (keys_agree name v.files v.entries lists) ∙ next_is_new name v.entries ascend;
    goes = planned.entries ∙ ap (λ (ks : List Key). entries_at ks v.entries) keys_are;
    entries = λ i. entries_without (keys_are i) (entry_put (new_is i) v.entries);
    changed = λ r spaced free. version_changes v name bytes given draft.runs draft.serial r absent free spaced;
    listed = lists_kept (λ k. not (list_any (same_key k) out)) (with_new name given bytes v.files) (entry_put new v.entries)
        (lists_put (new_key name v.files) (record { bytes = bytes; keep = new_keep name given v.files }) new v.files v.entries (record { key = refl; keep = refl; length = refl }) lists);
    kept = λ hurt i kept there. version_kept hurt i v name bytes given draft.runs draft.serial 0 lists kept there;
  }

-- ---- by a load

module _ (v : Volume) (key : Key) (keep : ℕ) (bytes : List ℕ) (draft : Entry) (lists : Lists v.files v.entries) (none : entry_of key v.entries ≡ None) (long : draft.length ≡ length bytes) where
  abbrev loaded : Entry
  loaded = loaded_entry key keep bytes draft.runs draft.serial

  abbrev entries : List Entry
  entries = entry_put loaded v.entries

  -- none goes
  all_stay : entries ≡ entries_without [] entries
  all_stay = sym (entries_without_none entries)

  pub loaded_is : (r : ℕ) → with_loaded v key keep bytes draft.runs draft.serial r ≡ made v (Change.Load key keep bytes) loaded [] r
  loaded_is r =
      let removed : v.removed ≡ v.removed ++ gone_sectors [] v.entries = sym (append-nil v.removed) ∙ ap (λ (x : List Entry). v.removed ++ flat_map sectors_of (plans_of x)) (sym (entries_at_none v.entries)) in
      λ i. record (with_loaded v key keep bytes draft.runs draft.serial r) { entries = all_stay i; removed = removed i }

  pub load_made : IsMade v (Change.Load key keep bytes) loaded [] [] (entry_put (entry_drafted key keep draft)) bytes
  load_made = record {
    stays = refl;
    absent = absent_key key v.entries none;
    fresh = none;
    goes = sym (entries_at_none v.entries);
    entries = (λ i. entry_put (record { key = key; keep = keep; serial = draft.serial; length = long i; runs = draft.runs }) v.entries) ∙ all_stay;
    changed = λ r spaced free. subst (Changes v) (loaded_is r) (loaded_changes v key keep bytes draft.runs draft.serial r (absent_key key v.entries none) free spaced);
    listed = subst (λ (es : List Entry). Lists (step v.files (Change.Load key keep bytes)) es) all_stay
        (lists_put key (record { bytes = bytes; keep = keep }) loaded v.files v.entries (record { key = refl; keep = refl; length = refl }) lists);
    kept = λ hurt i kept there. subst (λ (es : List Entry). Kept i (step v.files (Change.Load key keep bytes)) es hurt) all_stay
        (load_kept hurt i v key keep bytes draft.runs draft.serial 0 lists kept there);
  }
