-- The place of a new version among the free sectors.
use Rattle.std.proofs.Common.{◌≡◌, ℕ, zero, suc, ◌+◌, ◌-◌, ◌<◌, ◌≤◌, Bool, true, false, cond, ◌&&◌, nat_le, nat_lt, List, [], ◌∷◌, length, take, Option, Some, None, Result, Ok, Err, refl, sym, ap, subst, ◌∙◌, arith}
use Rattle.std.specs.Prelude.{All, IsTrue, IfSome, ◌==◌, find, slice_index_or}
use Rattle.std.specs.List.{AllByRecursion, list_all}
use Rattle.std.proofs.lemmas.Bool.{and_from, eq-eqb, eqb-false, le-leb, ltb-true}
use Rattle.fsd_bytes.specs.Keys.{is_key}
use Rattle.fsd_bytes.specs.Names.{is_between}
use Rattle.fsd_formats.specs.declared.entry.Entry.{Entry}
use Rattle.fsd_formats.specs.NamePage.{is_entry, max_keep, max_length, sectors_for}
use Rattle.fsd_bytes.specs.declared.refusal.Refusal.{Refusal}
use Rattle.fsd_bytes.specs.declared.refusal.Refusal.TheVariants.{NoSpace, TooFragmented}
use Rattle.run_table.specs.declared.run.Run.{Run}
use Rattle.run_table.specs.RunTable.{are_runs, sectors_of, total, run_of}
use Rattle.run_table.specs.Space.{contains, where_free, joined, runs_of, by_length, longest_first, cut_to, longest, best, picked, pick}
use Rattle.run_table.proofs.ChoiceLaws.{total_of_pick, pick_none}
use Rattle.run_table.proofs.SectorLaws.{total-cons, total_of_runs}
use Rattle.alloc_map.specs.NoPlace.{choice, picked_or}
use Rattle.alloc_map.specs.declared.no_place.NoPlace.{NoPlace}
use Rattle.alloc_map.specs.declared.no_place.NoPlace.TheVariants.{NoSpace as Few, TooFragmented as Broken}
use Rattle.alloc_map.proofs.ChooseLaws.{best_within}
use Rattle.sector_set.specs.Area.{Area, AreIn}
use Rattle.version_data.proofs.PlaceLaws.{index_there}
use Rattle.volume_layout.specs.declared.layout.Layout.{Layout}
use Rattle.fsd_files.proofs.CountLaws.{occurs, contains_occurs, occurs_differ, picked_once}
use Rattle.volume_contract.specs.State.{State}
use Rattle.volume_laws.specs.Placing.{IsPlace, place_now, place_or}
use Rattle.volume_laws.specs.State.{state}
use Rattle.volume_laws.specs.Volume.{IsWholeVolume, VolumeValue}
use Rattle.table_survey.specs.Claims.{IsOfData}
use Rattle.table_survey.proofs.DataLaws.{of_data_own, of_data_within}

-- ---- what the code chooses is what the definitions do

few_none : (free : List ℕ) (need : ℕ) → nat_lt (length free) need ≡ true → pick (runs_of free) need ≡ None
few_none free need few =
    let lt = ltb-true (length free) need few in
    let most = best_within free (longest (runs_of free)) refl in
    (pick_none (runs_of free) need).1 (omega arith)

-- the map's answer, with the refusal of the volume
abbrev pub with_refusal : Result (List Run) NoPlace → Result (List Run) Refusal
with_refusal (Ok runs) = Ok runs
with_refusal (Err (Few need free)) = Err (NoSpace need free)
with_refusal (Err (Broken need most)) = Err (TooFragmented need most)

pub placed_is : (v : VolumeValue) (need : ℕ) → with_refusal (choice v.map.sectors need) ≡ place_now (state v) need
placed_is v need = by (nat_lt (length free) need) refl
  where
    free : List ℕ
    free = v.map.sectors

    count : total (runs_of free) ≡ length free
    count = total_of_runs free

    last : (o : Option (List Run)) → nat_lt (length free) need ≡ false → with_refusal (picked_or need (best (runs_of free)) o) ≡ place_or (state v) need o
    last (Some runs) e = refl
    last None e = ap (λ (b : Bool). Err (cond b (NoSpace need (total (runs_of free))) (TooFragmented need (best (runs_of free))))) (sym (ap (λ (n : ℕ). nat_lt n need) count ∙ e))

    by : (b : Bool) → nat_lt (length free) need ≡ b → with_refusal (cond b (Err (Few need (length free))) (picked_or need (best (runs_of free)) (pick (runs_of free) need))) ≡ place_or (state v) need (pick (runs_of free) need)
    by true e =
        ap (λ (n : ℕ). Err (NoSpace need n)) (sym count)
        ∙ ap (λ (b : Bool). Err (cond b (NoSpace need (total (runs_of free))) (TooFragmented need (best (runs_of free))))) (sym (ap (λ (n : ℕ). nat_lt n need) count ∙ e))
        ∙ ap (place_or (state v) need) (sym (few_none free need e))
    by false e = last (pick (runs_of free) need) e

-- the same of a volume as its fields are
pub chosen_is : {v w : VolumeValue} → v ≡ w → (need : ℕ) → with_refusal (choice v.map.sectors need) ≡ place_now (state w) need
chosen_is {v = v} same need = placed_is v need ∙ ap (λ (x : VolumeValue). place_now (state x) need) same

pub placed_ok : (s : State) (need : ℕ) (runs : List Run) → place_now s need ≡ Ok runs → pick s.free need ≡ Some runs
placed_ok s need runs e = by (pick s.free need) e
  where
    by : (o : Option (List Run)) → place_or s need o ≡ Ok runs → o ≡ Some runs
    by None e = absurd cc
    by (Some rs) e = let same : rs ≡ runs = cc in ap (λ (x : List Run). Some x) same

-- ---- what is picked

abbrev pub AreSome : List Run → Type 0
AreSome runs = AllByRecursion (λ r. 1 ≤ r.length) runs

joined_some : (s : ℕ) (runs : List Run) → AreSome runs → AreSome (joined s runs)
joined_some s [] some = (omega arith, tt)
joined_some s (r ∷ runs) some = by (s + 1 == r.start)
  where
    by : (b : Bool) → AreSome (cond b (run_of s (r.length + 1) ∷ runs) (run_of s 1 ∷ r ∷ runs))
    by true = (omega arith, some.1)
    by false = (omega arith, some)

runs_some : (xs : List ℕ) → AreSome (runs_of xs)
runs_some [] = tt
runs_some (s ∷ xs) = joined_some s (runs_of xs) (runs_some xs)

by_length_some : (r : Run) (runs : List Run) → 1 ≤ r.length → AreSome runs → AreSome (by_length r runs)
by_length_some r [] one some = (one, tt)
by_length_some r (q ∷ runs) one some = by (nat_lt r.length q.length) (by_length_some r runs one some.1)
  where
    by : (b : Bool) → AreSome (by_length r runs) → AreSome (cond b (q ∷ by_length r runs) (r ∷ q ∷ runs))
    by true rest = (some.0, rest)
    by false rest = (one, some)

longest_first_some : (runs : List Run) → AreSome runs → AreSome (longest_first runs)
longest_first_some [] some = tt
longest_first_some (r ∷ runs) some = by_length_some r (longest_first runs) some.0 (longest_first_some runs some.1)

take_some : (n : ℕ) (runs : List Run) → AreSome runs → AreSome (take n runs)
take_some zero runs some = tt
take_some (suc n) [] some = tt
take_some (suc n) (r ∷ runs) some = (some.0, take_some n runs some.1)

length-take_8 : (n : ℕ) (runs : List Run) → length (take n runs) ≤ n
length-take_8 zero runs = omega arith
length-take_8 (suc n) [] = omega arith
length-take_8 (suc n) (r ∷ runs) = omega (arith, length-take_8 n runs)

-- some runs, and not many
pub record Few8 (most : ℕ) (runs : List Run) : Type 0 where
  pub some : AreSome runs
  pub few : length runs ≤ most

at_least : (n : ℕ) → (n ≡ 0 → ⊥) → 1 ≤ n
at_least zero ne = absurd (ne refl)
at_least (suc n) ne = omega arith

cut_some : (need most : ℕ) (runs : List Run) → AreSome runs → length runs ≤ most → Few8 most (cut_to need runs)
cut_some need most [] some few = record { some = tt; few = omega arith }
cut_some need most (r ∷ runs) some few = by (nat_le need r.length) (need == 0) refl (cut_some (need - r.length) (most - 1) runs some.1 (omega arith))
  where
    by : (b c : Bool) → (need == 0) ≡ c → Few8 (most - 1) (cut_to (need - r.length) runs) → Few8 most (cond b (cond c [] (run_of r.start need ∷ [])) (r ∷ cut_to (need - r.length) runs))
    by true true e rest = record { some = tt; few = omega arith }
    by true false e rest = record { some = (let ne = eqb-false need 0 e in at_least need ne, tt); few = omega arith }
    by false c e rest = record { some = (some.0, rest.some); few = omega (arith, rest.few) }

pick_few : (runs : List Run) (need : ℕ) → 1 ≤ need → AreSome runs → IfSome (pick runs need) (Few8 8)
pick_few runs need one some = by (find (λ r. nat_le need r.length) runs)
  where
    in_longest : (b : Bool) → IfSome (cond b (Some (cut_to need (longest runs))) None) (Few8 8)
    in_longest true = cut_some need 8 (longest runs) (take_some 8 (longest_first runs) (longest_first_some runs some)) (length-take_8 8 (longest_first runs))
    in_longest false = tt

    by : (o : Option Run) → IfSome (picked need o runs) (Few8 8)
    by (Some r) = record { some = (one, tt); few = omega arith }
    by None = in_longest (nat_le need (best runs))

pub picked_place : (l : Layout) (map : Area) (need : ℕ) (runs : List Run) → IsOfData l map → 1 ≤ need → pick (runs_of map.sectors) need ≡ Some runs → IsPlace map need runs
picked_place l map need runs of_data one is =
    let free : ℕ → Bool = contains map.sectors in
    let own : map.sectors ≡ where_free free map.from map.to = ap (λ (m : Area). m.sectors) (of_data_own l map of_data) in
    let among : pick (runs_of (where_free free map.from map.to)) need ≡ Some runs = ap (λ (xs : List ℕ). pick (runs_of xs) need) (sym own) ∙ is in
    let each : (s : ℕ) → (occurs s (sectors_of runs) ≤ 1) × (0 < occurs s (sectors_of runs) → IsTrue (free s)) =
    λ s. subst (λ (o : Option (List Run)). IfSome o (λ out. (occurs s (sectors_of out) ≤ 1) × (0 < occurs s (sectors_of out) → IsTrue (free s)))) among (picked_once free map.from map.to need s) in
    let small = subst (λ (o : Option (List Run)). IfSome o (Few8 8)) is (pick_few (runs_of map.sectors) need one (runs_some map.sectors)) in
    record {
      free = record {
        inside = λ s there. (each s).1 (contains_occurs s (sectors_of runs) there);
        differ = occurs_differ (sectors_of runs) (λ s. (each s).0);
      };
      count = subst (λ (o : Option (List Run)). IfSome o (λ out. total out ≡ need)) is (total_of_pick (runs_of map.sectors) need);
      few = small.few;
      some = small.some;
    }

-- what the map chooses is a place
pub chosen_place : {v w : VolumeValue} → v ≡ w → (need : ℕ) (runs : List Run) → IsWholeVolume v → 1 ≤ need → choice v.map.sectors need ≡ Ok runs → IsPlace w.map need runs
chosen_place {v = v} same need runs whole one is =
    subst (λ (x : VolumeValue). IsPlace x.map need runs) same (picked_place v.layout v.map need runs whole.map one (placed_ok (state v) need runs (sym (placed_is v need) ∙ ap with_refusal is)))

-- the sectors of such runs lie below the volume's end
pub free_below : (l : Layout) (map : Area) (runs : List Run) → IsOfData l map → AreIn map runs → All (λ s. s < l.sectors) (sectors_of runs)
free_below l map runs of_data are k d lt =
    let s : ℕ = slice_index_or (sectors_of runs) k d in
    (of_data_within l map of_data s (are.inside s (index_there (sectors_of runs) k d lt))).1

-- ---- the version as it is written

each_short : (most : ℕ) (runs : List Run) → AreSome runs → total runs ≤ most → most ≤ 65535 → list_all (λ r. is_between 1 65535 r.length) runs ≡ true
each_short most [] some le few = refl
each_short most (r ∷ runs) some le few =
    let all = total-cons r runs in
    and_from (is_between 1 65535 r.length) (list_all (λ q. is_between 1 65535 q.length) runs)
    (and_from (nat_le 1 r.length) (nat_le r.length 65535) (le-leb 1 r.length some.0) (le-leb r.length 65535 (omega (arith, all))))
    (each_short most runs some.1 (omega (arith, all)) few)

some_run : (runs : List Run) → 1 ≤ total runs → 1 ≤ length runs
some_run [] le = absurd (omega arith)
some_run (r ∷ runs) le = omega arith

-- an entry with such a place is one of the format
pub entry_good : (map : Area) (e : Entry) → IsPlace map (sectors_for e.length) e.runs → IsTrue (is_key e.key) → e.keep ≤ max_keep → e.length ≤ max_length → IsTrue (is_entry e)
entry_good map e place key keep most =
    let few : sectors_for e.length ≤ 65535 = omega arith in
    let runs : are_runs e.runs ≡ true = and_from (is_between 1 8 (length e.runs)) (list_all (λ r. is_between 1 65535 r.length) e.runs)
    (and_from (nat_le 1 (length e.runs)) (nat_le (length e.runs) 8) (le-leb 1 (length e.runs) (some_run e.runs (omega (arith, place.count)))) (le-leb (length e.runs) 8 place.few))
    (each_short (sectors_for e.length) e.runs place.some (omega (arith, place.count)) few) in
    and_from (is_key e.key && nat_le e.keep max_keep && nat_le e.length max_length && are_runs e.runs) (total e.runs == sectors_for e.length)
    (and_from (is_key e.key && nat_le e.keep max_keep && nat_le e.length max_length) (are_runs e.runs)
    (and_from (is_key e.key && nat_le e.keep max_keep) (nat_le e.length max_length) (and_from (is_key e.key) (nat_le e.keep max_keep) key (le-leb e.keep max_keep keep)) (le-leb e.length max_length most)) runs)
    (eq-eqb (total e.runs) (sectors_for e.length) place.count)
