-- What is known of an entry that was met.
use Rattle.std.proofs.Common.{◌≡◌, ◌^◌, ◌≤◌, Bool, true, false, cond, Option, None, Some, Ok, Err, refl}
use Rattle.std.specs.Prelude.{◌&&◌, IfOk, IfSome, IsTrue, not}
use Rattle.std.specs.List.{list_all}
use Rattle.std.proofs.lemmas.Bool.{and_parts}
use Rattle.volume_layout.specs.Layout.{home_a}
use Rattle.run_table.specs.RunTable.{sectors_of}
use Rattle.run_table.specs.Space.{all_differ}
use Rattle.sector_disk.specs.declared.machine.Machine.{Ghosts as MachineGhosts}
use Rattle.sector_disk.specs.Calls.{device_in}
use Rattle.fsd_bytes.specs.declared.key.Key.{Key}
use Rattle.fsd_bytes.specs.declared.refusal.Refusal.{Refusal}
use Rattle.fsd_bytes.specs.declared.refusal.Refusal.TheVariants as Why
use Rattle.fsd_formats.specs.declared.entry.Entry.{Entry}
use Rattle.fsd_formats.specs.NamePage.{is_entry}
use Rattle.name_btree.specs.declared.lookup.FoundEntry.{FoundEntry}
use Rattle.fsd_sound.specs.Lookups.{LacksKey}
use Rattle.volume_contract.specs.Found.{ShowsReached}
use Rattle.volume_contract.specs.Causes.{Causes, IsTaken, meets_held}
use Rattle.volume_contract.specs.Ends.{device_of, found_one}
use Rattle.volume_contract.specs.Healing.{IsMet}
use Rattle.volume_contract.specs.State.{held_runs}
use Rattle.volume_laws.specs.Meeting.{met_found}
use Rattle.volume_laws.specs.State.{resident, state}
use Rattle.volume_laws.specs.Taken.{are_taken, is_taken}
use Rattle.volume_laws.specs.Volume.{VolumeValue}
use Rattle.volume_laws.proofs.RangeLaws.{taken_data, taken_runs}
use Rattle.table_volume.specs.Looks.{GivesEntry}

-- none is given
pub none_given : {D : Type 0} {M : MachineGhosts D} {old new : VolumeValue} {before now : D} {key : Key} {why : Refusal} → Causes {T = Entry} M (resident old) (state old) (state new) before now (Err why)
    → (why ≡ Why.NoSuch → ShowsReached M (resident old) (state old) (state new) before now (LacksKey key)) → GivesEntry M old new before now key (Err why)
none_given causes absent = record { tells = record { key = tt; taken = tt; causes = causes; absent = λ same. absent (cc same); found = tt }; met = tt; here = tt }

-- what is met of what was found tells no fault of the disk
pub met_place : (v : VolumeValue) (found : Option FoundEntry) → device_in device_of (met_found v found) ≡ None
met_place v None = refl
met_place v (Some f) = by (are_taken v f.entry.runs)
  where
    by : (b : Bool) → device_in device_of (found_one (cond b (Ok f.entry) (Err (Why.Unsound (home_a v.layout f.page))))) ≡ None
    by true = refl
    by false = refl

module _ (v : VolumeValue) (most : v.layout.sectors ≤ 2 ^ 24) (told : (e : Entry) → IsTrue (are_taken v e.runs) → IsTaken (state v) e) where
  pub is_met : (e : Entry) → is_entry e ≡ true → are_taken v e.runs ≡ true → IsMet (state v) e
  is_met e good taken = record {
    entry = good;
    runs = taken_runs v e taken most good;
    within = taken_data v e taken;
    differ = (and_parts (all_differ (sectors_of e.runs)) (list_all (is_taken v) (sectors_of e.runs)) apart).0;
    taken = told e taken;
  }
    where
      apart : all_differ (sectors_of e.runs) && list_all (is_taken v) (sectors_of e.runs) ≡ true
      apart = (and_parts (all_differ (sectors_of e.runs) && list_all (is_taken v) (sectors_of e.runs)) (not (meets_held (held_runs v.shadow.held) e.runs)) taken).0

  -- what was found is met where it is told
  pub found_is_met : (found : Option FoundEntry) → IfSome found (λ f. is_entry f.entry ≡ true) → IfOk (met_found v found) (λ o. IfSome o (IsMet (state v)))
  found_is_met None good = tt
  found_is_met (Some f) good = by (are_taken v f.entry.runs) refl
    where
      by : (b : Bool) → are_taken v f.entry.runs ≡ b → IfOk (found_one (cond b (Ok f.entry) (Err (Why.Unsound (home_a v.layout f.page))))) (λ o. IfSome o (IsMet (state v)))
      by true taken = is_met f.entry good taken
      by false untaken = tt
