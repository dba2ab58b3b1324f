-- Where the sectors of an entry lie, by their numbers.
use Rattle.std.proofs.Common.{◌≡◌, ℕ, ◌+◌, ◌-◌, ◌<◌, ◌≤◌, ◌&&◌, nat_le, List, [], ◌∷◌, length, drop, get_or, Some, refl, sym, ap, ◌∙◌, subst, arith}
use Rattle.std.specs.Prelude.{◌==◌, IsTrue, Option, IsSome, slice_get, slice_index_or, true}
use Rattle.std.proofs.lemmas.Bool.{and_parts, eqb-true, leb-true}
use Rattle.std.proofs.lemmas.Grind.{get_or_after_one}
use Rattle.std.proofs.lemmas.List.{length-drop}
use Rattle.std.proofs.lemmas.Option.{get_or_from_slice_get, slice_get-get_or}
use Rattle.fsd_bytes.specs.Keys.{is_key}
use Rattle.run_table.specs.RunTable.{are_runs, sectors_of, total}
use Rattle.run_table.specs.Space.{contains}
use Rattle.run_table.proofs.SectorLaws.{length_of_sectors, first_there, rest_there}
use Rattle.fsd_formats.specs.declared.entry.Entry.{Entry}
use Rattle.fsd_formats.specs.NamePage.{is_entry, max_keep, max_length, sectors_for}
use Rattle.fsd_files.specs.Kept.{data_sectors}
use Rattle.fsd_files.specs.Scrub.{slice_place}

-- ---- of lists

pub behind_there : (xs : List ℕ) (s : ℕ) → IsTrue (contains (drop 1 xs) s) → IsTrue (contains xs s)
behind_there [] s is = is
behind_there (x ∷ xs) s is = rest_there x s xs is

-- ---- of an entry

are_numbers : (e : Entry) → is_entry e ≡ true → (e.length ≤ max_length) × (total e.runs ≡ sectors_for e.length)
are_numbers e good =
    let a = and_parts (is_key e.key && nat_le e.keep max_keep && nat_le e.length max_length && are_runs e.runs) (total e.runs == sectors_for e.length) good in
    let b = and_parts (is_key e.key && nat_le e.keep max_keep && nat_le e.length max_length) (are_runs e.runs) a.0 in
    let d = and_parts (is_key e.key && nat_le e.keep max_keep) (nat_le e.length max_length) b.0 in
    (leb-true e.length max_length d.1, eqb-true (total e.runs) (sectors_for e.length) a.1)

-- so many sectors
pub few_sectors : (e : Entry) → is_entry e ≡ true → (1 ≤ total e.runs) × (total e.runs ≤ 8192)
few_sectors e good = let n = are_numbers e good in let most = n.0 in let is = n.1 in (omega (arith, is), omega (arith, is, most))

pub data_count : (e : Entry) → length (data_sectors e.runs) ≡ total e.runs - 1
data_count e = length-drop 1 (sectors_of e.runs) ∙ ap (λ (n : ℕ). n - 1) (length_of_sectors e.runs)

place_inside : (e : Entry) (k : ℕ) → k < length (data_sectors e.runs) → k + 1 < length (sectors_of e.runs)
place_inside e k lt = let count = data_count e in let long = length_of_sectors e.runs in omega (arith, lt, count, long)

pub place_there : (e : Entry) (k : ℕ) → k < length (data_sectors e.runs) → IsSome (slice_get (sectors_of e.runs) (k + 1))
place_there e k lt = subst (λ (o : Option ℕ). IsSome o) (sym (slice_get-get_or (sectors_of e.runs) (k + 1) 0 (place_inside e k lt))) refl

pub place_is : (e : Entry) (k x : ℕ) → slice_get (sectors_of e.runs) (k + 1) ≡ Some x → x ≡ slice_place e k
place_is e k x is =
    let next : k + 1 ≡ 1 + k = omega arith in
    sym (get_or_after_one (sectors_of e.runs) k 0 ∙ ap (λ (n : ℕ). get_or (sectors_of e.runs) n 0) (sym next) ∙ get_or_from_slice_get (sectors_of e.runs) (k + 1) x 0 is)

first_in : (xs : List ℕ) → 1 ≤ length xs → IsTrue (contains xs (slice_index_or xs 0 0))
first_in [] some = absurd (omega arith)
first_in (x ∷ xs) some = first_there x xs

-- the place of the first sector, and it is one of them
pub leader_there : (e : Entry) → is_entry e ≡ true → IsTrue (contains (sectors_of e.runs) (slice_index_or (sectors_of e.runs) 0 0))
leader_there e good = let some = (few_sectors e good).0 in let long = length_of_sectors e.runs in first_in (sectors_of e.runs) (omega (arith, some, long))
