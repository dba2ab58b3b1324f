-- A volume stands over what a call leaves that writes a leader.
use Rattle.std.proofs.Common.{◌≡◌, inl, ℕ, ◌<◌, ◌≤◌, Bool, true, false, ◌==◌, List, [], ◌∷◌, length, take, None, Option, refl, ap, ◌∙◌, arith}
use Rattle.std.specs.Prelude.{All, Contains, IsFalse, IsTrue, option_map, nat_le, nat_lt, slice_index_or}
use Rattle.std.specs.List.{AllByRecursion}
use Rattle.std.proofs.lemmas.List.Elements.{All-contains, All-from_recursion}
use Rattle.std.proofs.lemmas.Bool.{and_parts, both_ways, eqb-false, leb-true, or_parts}
use Rattle.volume_layout.specs.Layout.{data_start}
use Rattle.run_table.specs.RunTable.{sectors_of}
use Rattle.run_table.specs.Space.{contains}
use Rattle.run_table.proofs.SectorLaws.{first_there}
use Rattle.fsd_bytes.specs.declared.refusal.Refusal.TheVariants as Why
use Rattle.fsd_formats.specs.declared.entry.Entry.{Entry}
use Rattle.fsd_formats.specs.Leader.{leader_bytes, leader_of}
use Rattle.fsd_formats.specs.NamePage.{is_entry}
use Rattle.sector_disk.specs.Image.{AreShort, open_damage, sector_at, stand}
use Rattle.sector_disk.specs.Machine.{Moment}
use Rattle.sector_disk.proofs.Wear.{length-stand, stand_other, worn_twice}
use Rattle.fsd_files.specs.Disk.{Sectors, Touches, in_runs}
use Rattle.fsd_files.specs.Scrub.{leader_place}
use Rattle.fsd_files.specs.Waiting.{is_leader}
use Rattle.fsd_files.proofs.LeaderLaws.{data_differs, leader_in_area}
use Rattle.fsd_sound.proofs.LeaderLaws.{leader_mounted}
use Rattle.fsd_sound.proofs.LogPlaces.{SameLog}
use Rattle.fsd_sound.proofs.MountedLaws.{mounted_sound}
use Rattle.fsd_sound.proofs.WritesLaws.{beside}
use Rattle.version_data.specs.Single.{WritesLeader}
use Rattle.version_data.proofs.SingleLaws.{leader_inside}
use Rattle.volume_contract.specs.Healing.{IsMet, LeavesWith}
use Rattle.volume_contract.specs.Order.{Single, Test, is_idle, single_steps}
use Rattle.volume_contract.specs.State.{Known, Stands, State, forced_of}
use Rattle.volume_laws.specs.State.{IsMemoryOf, state}
use Rattle.volume_laws.specs.Volume.{VolumeValue}
use Rattle.volume_laws.proofs.RangeLaws.{all_below}
use Rattle.table_volume.proofs.HealingLaws.{stands_written}
use Rattle.table_volume.proofs.OpenLeaderLaws.{drafts_stand, open_stands}

-- ---- the leader's place

first_taken : (xs : List ℕ) → 0 < length xs → IsTrue (contains (take 1 xs) (slice_index_or xs 0 0))
first_taken [] some = absurd (omega (arith, some))
first_taken (x ∷ xs) some = first_there x []

first_there_of : (xs : List ℕ) → 0 < length xs → IsTrue (contains xs (slice_index_or xs 0 0))
first_there_of [] some = absurd (omega (arith, some))
first_there_of (x ∷ xs) some = first_there x xs

-- a sector that is none of these leaders is that of no entry
none_leads : (entries : List Entry) (s : ℕ) → IsFalse (is_leader entries s) → AllByRecursion (λ e. IsFalse (contains (take 1 (sectors_of e.runs)) s)) entries
none_leads [] s out = tt
none_leads (e ∷ entries) s out = let parts = or_parts (contains (take 1 (sectors_of e.runs)) s) (is_leader entries s) out in (parts.0, none_leads entries s parts.1)

leads : (entries : List Entry) (e : Entry) → is_entry e ≡ true → Contains entries e → IsTrue (is_leader entries (leader_place e))
leads entries e good has = by (is_leader entries (leader_place e)) refl
  where
    by : (b : Bool) → is_leader entries (leader_place e) ≡ b → b ≡ true
    by true is = refl
    by false is = absurd (both_ways (contains (take 1 (sectors_of e.runs)) (leader_place e))
        (All-contains (λ (x : Entry). IsFalse (contains (take 1 (sectors_of x.runs)) (leader_place e))) entries e (All-from_recursion (λ (x : Entry). IsFalse (contains (take 1 (sectors_of x.runs)) (leader_place e))) entries (none_leads entries (leader_place e) is)) has)
        (first_taken (sectors_of e.runs) (leader_inside e good)))

-- ---- the volume

module _ (v : VolumeValue) (k : Known) (old : Moment) (short : AreShort old.windows) (stands : Stands state IsMemoryOf v k old) (e : Entry) (good : is_entry e ≡ true) (has : Contains k.mounted.volume.entries e) where
  is_led : IsTrue (is_leader k.mounted.volume.entries (leader_place e))
  is_led = leads k.mounted.volume.entries e good has

  from_data : data_start k.mounted.volume.layout ≤ leader_place e
  from_data =
      let l = k.mounted.volume.layout in
      let inside = leader_in_area l k.mounted.volume.entries stands.disk.described.apart (leader_place e) is_led in
      leb-true (data_start l) (leader_place e) (and_parts (nat_le (data_start l) (leader_place e)) (nat_lt (leader_place e) l.sectors) inside).0

  leader_log : (bytes : List ℕ) (stood : ℕ) → stood ≤ 1 → SameLog k.mounted.volume.layout old.image (stand old.image (leader_place e) bytes stood)
  leader_log bytes stood once p within = stand_other old.image (leader_place e) bytes stood p
      (beside p (leader_place e) stood (λ is. let high = within.1 in omega (arith, is, from_data, high)) once)

  pub stands_led : (left : Moment) → WritesLeader e old left → Stands state IsMemoryOf v k left
  stands_led left writes =
      let bytes = leader_bytes (leader_of e) in
      let j = stand old.image (leader_place e) bytes writes.stood in
      stands_written v k old stands short j (leader_log bytes writes.stood writes.within)
      (leader_mounted k.mounted k.windows k.changes (forced_of k) old.image j (leader_place e) (length-stand old.image (leader_place e) bytes writes.stood) is_led
      (λ t differs. stand_other old.image (leader_place e) bytes writes.stood t (beside t (leader_place e) writes.stood differs writes.within))
      (open_stands k.mounted (in_runs k.windows) old.image j e (leader_place e)
      (λ t differs. stand_other old.image (leader_place e) bytes writes.stood t (beside t (leader_place e) writes.stood differs writes.within))
      stands.disk.spaced has (first_there_of (sectors_of e.runs) (leader_inside e good)) is_led
      (data_differs k.mounted.volume.layout k.mounted.volume.entries stands.disk.described.apart (leader_place e) (λ planned. is_led)) stands.disk.open_ones)
      stands.disk)
      (drafts_stand k.mounted (open_damage old.windows) old.image j (leader_place e)
      (λ t differs. stand_other old.image (leader_place e) bytes writes.stood t (beside t (leader_place e) writes.stood differs writes.within))
      stands.disk.spaced is_led stands.written)
      left writes.holds

-- ---- what is written

pub leader_touches : (e : Entry) (old left : Moment) → WritesLeader e old left → Touches (λ s. s == leader_place e) old left
leader_touches e old left writes =
    let bytes = leader_bytes (leader_of e) in record {
      size = writes.holds.worn.size ∙ length-stand old.image (leader_place e) bytes writes.stood;
      others = λ s out. worn_twice (open_damage old.windows s) (sector_at old.image s) (sector_at (stand old.image (leader_place e) bytes writes.stood) s) (sector_at left.image s)
          (inl (stand_other old.image (leader_place e) bytes writes.stood s (beside s (leader_place e) writes.stood (eqb-false s (leader_place e) out) writes.within)))
          (writes.holds.worn.each s);
    }

pub leader_leaves : (v : VolumeValue) (e : Entry) → is_entry e ≡ true → (old left : Moment) → AreShort old.windows → WritesLeader e old left → LeavesWith state IsMemoryOf v e (λ s. s == leader_place e) old left
leader_leaves v e good old left short writes k stands has = record {
  sound = mounted_sound k.mounted k.windows k.changes (forced_of k) left.image (stands_led v k old short stands e good has left writes).disk;
  roots = (stands_led v k old short stands e good has left writes).disk.over.own.roots;
  windows = writes.holds.windows;
  said = writes.holds.said;
  touches = leader_touches e old left writes;
}

pub still_leaves_with : (v : VolumeValue) (e : Entry) (may : Sectors) (at : Moment) → LeavesWith state IsMemoryOf v e may at at
still_leaves_with v e may at k stands has = record {
  sound = mounted_sound k.mounted k.windows k.changes (forced_of k) at.image stands.disk;
  roots = stands.disk.over.own.roots;
  windows = refl;
  said = refl;
  touches = record { size = refl; others = λ s out. inl refl };
}

-- ---- what is asked

pub met_inside : (s : State) (e : Entry) (sectors : ℕ) → IsMet s e → s.layout.sectors ≤ sectors → All (λ p. p < sectors) (sectors_of e.runs)
met_inside s e sectors met room k d lt = let below = all_below s.layout (sectors_of e.runs) met.within k d lt in omega (arith, below, room)

pub busy_single : (s : State) → s.down ≡ None → is_idle (single_steps s) ≡ true → ⊥
busy_single s up idle =
    let no : is_idle (single_steps s) ≡ false = ap (λ (d : Option ℕ). is_idle (Test (option_map Why.Down d) ∷ Single ∷ [])) up in
    absurd (cc (no, idle))
