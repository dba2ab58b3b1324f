-- What a version that comes, and one that gets another keep, make of the table.
use Rattle.std.proofs.Common.{◌≡◌, ℕ, Bool, true, false, cond, List, [], ◌∷◌, map, filter, Some, None, refl, sym, ap, subst, ◌∙◌}
use Rattle.std.specs.List.{list_any}
use Rattle.fsd_bytes.specs.declared.key.Key.{Key}
use Rattle.fsd_bytes.specs.declared.key.Serial.{Serial}
use Rattle.fsd_bytes.specs.Keys.{same_key}
use Rattle.run_table.specs.declared.run.Run.{Run}
use Rattle.fsd_formats.specs.declared.entry.Entry.{Entry}
use Rattle.fsd_table.proofs.BoundLaws.{Ascend}
use Rattle.fsd_table.proofs.EntryLaws.{length_entry}
use Rattle.fsd_files.specs.Answers.{entries_with_keep, entry_of}
use Rattle.fsd_files.specs.Volume.{entries_without}
use Rattle.name_page.specs.Edits.{put, with_entry}
use Rattle.name_page.specs.Lookups.{entry_with}
use Rattle.name_btree.specs.Map.{without_all}
use Rattle.name_btree.specs.Replace.{HasAsLong, IsAsLong}
use Rattle.version_table.specs.declared.planning.Plan.{Plan}
use Rattle.version_table.specs.Plan.{IsPlanReady, keys_left, planned_entry, with_planned}
use Rattle.version_table.proofs.EditLaws.{entered_is, kept_is, with_is, without_some}
use Rattle.version_table.proofs.PlanLaws.{new_stays}

-- ---- another keep

pub as_long : (version copy : Entry) (keep : ℕ) (table : List Entry) → copy ≡ version → entry_of version.key table ≡ Some version → HasAsLong (record copy { keep = keep }) table
as_long version copy keep table same there =
    let kept : Entry = record version { keep = keep } in
    let is : HasAsLong kept table = (version, with_is version.key table ∙ there, length_entry version ∙ sym (length_entry kept)) in
    subst (λ (e : Entry). HasAsLong (record e { keep = keep }) table) (sym same) is

pub copy_long : (version copy : Entry) (keep : ℕ) → copy ≡ version → IsAsLong (record copy { keep = keep }) version
copy_long version copy keep same =
    subst (λ (e : Entry). IsAsLong (record e { keep = keep }) version) (sym same) (record { key = refl; long = length_entry version ∙ sym (length_entry (record version { keep = keep })) })

pub copy_kept : (version copy : Entry) (keep : ℕ) (table : List Entry) → copy ≡ version → Ascend table → entry_of version.key table ≡ Some version
    → map (put (record copy { keep = keep })) table ≡ entries_with_keep version.key keep table
copy_kept version copy keep table same asc there = ap (λ (e : Entry). map (put (record e { keep = keep })) table) same ∙ kept_is version keep table asc there

-- ---- one that comes

none_kept : (key : Key) (p : Entry → Bool) (xs : List Entry) → entry_of key xs ≡ None → entry_of key (filter p xs) ≡ None
none_kept key p [] none = refl
none_kept key p (x ∷ xs) none = by (same_key x.key key) refl none (none_kept key p xs)
  where
    by : (b : Bool) → same_key x.key key ≡ b → cond b (Some x) (entry_of key xs) ≡ None → (entry_of key xs ≡ None → entry_of key (filter p xs) ≡ None) → entry_of key (filter p (x ∷ xs)) ≡ None
    by true is gone rest = absurd cc
    by false is gone rest = kept (p x) (rest gone)
      where
        kept : (b : Bool) → entry_of key (filter p xs) ≡ None → entry_of key (cond b (x ∷ filter p xs) (filter p xs)) ≡ None
        kept true more = ap (λ (v : Bool). cond v (Some x) (entry_of key (filter p xs))) is ∙ more
        kept false more = more

module _ (plan : Plan) (serial : Serial) (length : ℕ) (runs : List Run) (entry : Entry) (same : entry ≡ planned_entry plan serial length runs) (keys : List Key) (left : keys ≡ keys_left plan) (table : List Entry) (asc : Ascend table)
    (ready : IsPlanReady plan table) where
  pub planned_new : entry_with entry.key (without_all keys table) ≡ None
  planned_new =
      ap (λ (e : Entry). entry_with e.key (without_all keys table)) same
      ∙ ap (entry_with plan.key) (without_some keys table asc) ∙ with_is plan.key (entries_without keys table) ∙ none_kept plan.key _ table ready.fresh

  pub planned_made : with_entry entry (without_all keys table) ≡ with_planned plan (planned_entry plan serial length runs) table
  planned_made =
      let stays : list_any (same_key plan.key) (keys_left plan) ≡ false = new_stays (λ g. g.entry) plan.key table plan.gone.items ready.fresh ready.there in
      (λ i. with_entry (same i) (without_all (left i) table)) ∙ entered_is (planned_entry plan serial length runs) (keys_left plan) table stays asc
