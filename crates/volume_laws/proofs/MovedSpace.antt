-- A volume whose version has moved, by itself: which entries go, what is free, and what waits.
use Rattle.std.proofs.Common.{◌≡◌, ℕ, ◌+◌, Bool, ◌||◌, List, [], ◌∷◌, ◌++◌, filter, length, map, Option, Some, None, refl, sym, ap, subst, ◌∙◌, arith}
use Rattle.std.specs.Prelude.{T}
use Rattle.std.specs.FinMap.{find, is_sorted}
use Rattle.std.specs.List.{list_any}
use Rattle.run_table.specs.Space.{contains}
use Rattle.fsd_bytes.specs.Bytes.{same_bytes}
use Rattle.fsd_bytes.specs.Keys.{key_cmp, same_key}
use Rattle.fsd_bytes.specs.declared.key.Key.{Key}
use Rattle.fsd_formats.specs.declared.entry.Entry.{Entry}
use Rattle.fsd_files.specs.Answers.{entry_of, entry_put, gone_sectors, moved_entry, with_version_moved}
use Rattle.fsd_files.specs.Disk.{Image, Sectors}
use Rattle.fsd_files.specs.Files.{Change, File, gone_by_move, moved_keep, moved_out, new_key}
use Rattle.fsd_files.specs.Kept.{Describes, IsEntryOf, Lists}
use Rattle.fsd_files.specs.Volume.{Volume, entries_at, entries_without, in_version, is_free}
use Rattle.fsd_files.specs.Waiting.{IsSpaced, is_kept_alone}
use Rattle.fsd_files.proofs.ChangeKept.{move_kept}
use Rattle.fsd_files.proofs.ChangeLaws.{move_changes}
use Rattle.fsd_files.proofs.ListingLaws.{AreFound, found_both, lists_length, version_moved_listed}
use Rattle.fsd_files.proofs.MoveLaws.{keys_by_move, moved_count, moved_in, new_differs}
use Rattle.version_table.specs.declared.oldest.Leaving.{Leaving}
use Rattle.version_table.specs.declared.planning.Plan.{Plan}
use Rattle.version_table.specs.Met.{entries_left}
use Rattle.version_table.specs.Moving.{IsMovePlan, keep_moved, leaving_by_move}
use Rattle.version_table.specs.Plan.{key_left, keys_left, planned_entry, with_planned}
use Rattle.version_table.proofs.MoveLaws.{keeps_move}
use Rattle.version_table.proofs.PlanLaws.{keys_agree}
use Rattle.volume_laws.specs.Changing.{IsAfter}
use Rattle.volume_laws.proofs.DeleteLaws.{split_count}
use Rattle.volume_laws.proofs.EnteredSpace.{as_many_left}
use Rattle.volume_laws.proofs.EntryLaws.{entry_key}
use Rattle.volume_laws.proofs.GoneLaws.{alone, left_free, left_kept, split_in}

-- ---- its file

-- the file of an entry that is there
pub record HasFile (v : Volume) (key : Key) (e : Entry) : Type 0 where
  pub file : File
  pub there : find key_cmp key v.files ≡ Some file
  pub of_entry : IsEntryOf (key, file) e

pub file_there : (v : Volume) (key : Key) (e : Entry) → Lists v.files v.entries → entry_of key v.entries ≡ Some e → HasFile v key e
file_there v key e lists found = by (find key_cmp key v.files) refl (subst (λ (p : Option Entry). AreFound key (find key_cmp key v.files) p) found (found_both key v.files v.entries lists))
  where
    by : (o : Option File) → find key_cmp key v.files ≡ o → AreFound key o (Some e) → HasFile v key e
    by None is both = absurd both
    by (Some x) is both = record { file = x; there = is; of_entry = both }

-- ---- the volume

module _ (v : Volume) (key : Key) (name : List ℕ) (e : Entry) (r : ℕ) (sorted : T (is_sorted key_cmp v.files)) (lists : Lists v.files v.entries) (found : entry_of key v.entries ≡ Some e) where
  abbrev pub has : HasFile v key e
  has = file_there v key e lists found

  abbrev pub volume_made : Volume
  volume_made = with_version_moved v key name has.file e r

  abbrev out : List Key
  out = gone_by_move key name has.file v.files

  split : (s : ℕ) → in_version v s ≡ (in_version volume_made s || contains (gone_sectors out v.entries) s)
  split s = split_in (λ z. list_any (same_key z.key) out) s v.entries ∙ ap (λ (b : Bool). b || contains (gone_sectors out v.entries) s) (sym (moved_in v key name has.file e r sorted lists found s))

  pub moved_free : (s : ℕ) → is_free volume_made s ≡ is_free v s
  moved_free = left_free v volume_made (gone_sectors out v.entries) refl refl refl refl split

  pub moved_alone : (s : ℕ) → is_kept_alone volume_made s ≡ is_kept_alone v s
  moved_alone = left_kept v volume_made (gone_sectors out v.entries) refl refl refl refl split

  pub after_moved : (hurt : Sectors) (i : Image) → IsSpaced v → Describes v.layout hurt i v.files v.entries → IsAfter (Change.Move key name) hurt i v volume_made
  after_moved hurt i spaced described =
      let changes = move_changes v key name has.file e r spaced lists sorted found in
      record {
        changes = changes;
        files = refl;
        described = record {
          lists = version_moved_listed v key name has.file e r has.there has.of_entry lists;
          apart = alone hurt i v r e spaced described volume_made changes;
          kept = move_kept hurt i v key name has.file e r lists has.there found described.kept;
        };
        held = refl;
        drafts = refl;
      }

  -- ---- by the plan

  module _ (plan : Plan) (planned : IsMovePlan key name v.entries plan) (moved : Leaving) (others : List Leaving) (goes : plan.gone.items ≡ moved ∷ others) where
    goes_so : (moved ∷ others) ≡ (record { entry = planned.entry; page = planned.page }) ∷ planned.others
    goes_so = sym goes ∙ planned.goes

    planned_is : planned.entry ≡ e
    planned_is = let both : Some planned.entry ≡ Some e = sym planned.there ∙ found in cc both

    pub moved_is : moved.entry ≡ e
    moved_is = let first : moved ≡ record { entry = planned.entry; page = planned.page } = cc goes_so in ap (λ (g : Leaving). g.entry) first ∙ planned_is

    others_are : others ≡ planned.others
    others_are = cc goes_so

    keeps : moved_keep name has.file.keep v.files ≡ keep_moved name e.keep v.entries
    keeps = ap (λ (own : ℕ). moved_keep name own v.files) (sym has.of_entry.keep) ∙ keeps_move name e.keep v.files v.entries lists

    out_is : out ≡ leaving_by_move key name e.keep v.entries
    out_is =
        keys_by_move key name has.file v.files sorted (new_differs v key name has.file e r sorted lists found) v.entries lists
        ∙ (λ i. moved_out (keeps i) (map (λ z. z.key) (filter (λ z. same_bytes name z.key.name) (entries_without (key ∷ []) v.entries)) ++ keys_agree name v.files v.entries lists i ∷ []))

    leaving_is : leaving_by_move key name planned.entry.keep v.entries ≡ out
    leaving_is = ap (λ (z : Entry). leaving_by_move key name z.keep v.entries) planned_is ∙ sym out_is

    of_key : planned.entry.key ≡ key
    of_key = entry_key key v.entries planned.entry planned.there

    keys_are : keys_left plan ≡ key ∷ out
    keys_are = ap (map key_left) planned.goes ∙ (λ i. of_key i ∷ (planned.keys ∙ leaving_is) i)

    pub key_is : plan.key ≡ new_key name v.files
    key_is = planned.key_is ∙ sym (keys_agree name v.files v.entries lists)

    new_is : planned_entry plan moved.entry.serial moved.entry.length moved.entry.runs ≡ moved_entry v name e
    new_is = λ i. record {
      key = key_is i;
      keep = (planned.keep_is ∙ ap (λ (z : Entry). keep_moved name z.keep v.entries) planned_is ∙ sym (keeps_move name e.keep v.files v.entries lists)) i;
      serial = (moved_is i).serial;
      length = (moved_is i).length;
      runs = (moved_is i).runs;
    }

    -- the planned entries are those of the files' words
    pub entries_made : with_planned plan (planned_entry plan moved.entry.serial moved.entry.length moved.entry.runs) v.entries ≡ volume_made.entries
    entries_made = λ i. entries_without (keys_are i) (entry_put (new_is i) v.entries)

    pub gone_are : entries_left others ≡ entries_at out v.entries
    gone_are = ap entries_left others_are ∙ planned.entries ∙ ap (λ (ks : List Key). entries_at ks v.entries) leaving_is

    -- as many as before, but for those that go
    pub count_made : Lists volume_made.files volume_made.entries → length volume_made.files + length others ≡ length v.files
    count_made made_lists = omega (
      arith,
      lists_length volume_made.files volume_made.entries made_lists,
      lists_length v.files v.entries lists,
      moved_count v key name has.file e r sorted lists found,
      split_count (λ z. list_any (same_key z.key) out) v.entries,
      as_many_left others,
      ap (λ (es : List Entry). length es) gone_are,
    )
