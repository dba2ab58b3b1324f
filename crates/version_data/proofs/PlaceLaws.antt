-- Where the sectors of runs lie, by their numbers.
use Rattle.std.proofs.Common.{◌≡◌, ◌≢◌, ℕ, zero, suc, ◌+◌, ◌-◌, ◌<◌, ◌≤◌, Bool, not, ◌&&◌, nat_le, List, [], ◌∷◌, length, get_or, drop, Some, refl, sym, ap, subst, ◌∙◌, arith, length-append}
use Rattle.std.specs.Prelude.{IsTrue, ◌==◌, All, Option, IsSome, slice_get, slice_index_or}
use Rattle.std.specs.List.{list_all, range_with_len}
use Rattle.std.proofs.lemmas.Bool.{and_parts, both_ways, eqb-true, leb-true, not-true}
use Rattle.std.proofs.lemmas.List.{drop_more}
use Rattle.std.proofs.lemmas.List.FromFn.{length-range_with_len}
use Rattle.fsd_bytes.specs.Keys.{is_key}
use Rattle.fsd_bytes.specs.Names.{is_between}
use Rattle.run_table.specs.declared.run.Run.{Run}
use Rattle.run_table.specs.RunTable.{are_runs, max_runs, sectors_of, total}
use Rattle.run_table.specs.Space.{all_differ, contains}
use Rattle.run_table.proofs.RunLaws.{sector_here, sector_beyond}
use Rattle.run_table.proofs.SectorLaws.{length_of_sectors, first_there, rest_there}
use Rattle.fsd_formats.specs.declared.entry.Entry.{Entry}
use Rattle.fsd_formats.specs.NamePage.{is_entry, max_keep, max_length, sectors_for}

-- ---- lists by number

-- the sector that is there at a place of the list
pub index_is : (xs : List ℕ) (k x : ℕ) → slice_get xs k ≡ Some x → slice_index_or xs k 0 ≡ x
index_is [] k x e = absurd cc
index_is (y ∷ xs) zero x e = cc
index_is (y ∷ xs) (suc k) x e = index_is xs k x e

pub is_there : (xs : List ℕ) (k : ℕ) (o : Option ℕ) → o ≡ slice_get xs k → k < length xs → IsSome o
is_there [] k o e lt = absurd (omega arith)
is_there (x ∷ xs) zero o e lt = subst (λ (p : Option ℕ). IsSome p) (sym e) refl
is_there (x ∷ xs) (suc k) o e lt = is_there xs k o e (omega arith)

is_inside : (xs : List ℕ) (k x : ℕ) → slice_get xs k ≡ Some x → k < length xs
is_inside [] k x at = absurd cc
is_inside (y ∷ xs) zero x at = omega arith
is_inside (y ∷ xs) (suc k) x at = let rest = is_inside xs k x at in omega (arith, rest)

pub in_all : (most : ℕ) (xs : List ℕ) (k x : ℕ) → All (λ s. s < most) xs → slice_get xs k ≡ Some x → x < most
in_all most xs k x all at = subst (λ (n : ℕ). n < most) (index_is xs k x at) (all k 0 (is_inside xs k x at))

pub index_there : (xs : List ℕ) (k d : ℕ) → k < length xs → IsTrue (contains xs (slice_index_or xs k d))
index_there [] k d lt = absurd (omega arith)
index_there (x ∷ xs) zero d lt = first_there x xs
index_there (x ∷ xs) (suc k) d lt = rest_there x (slice_index_or xs k d) xs (index_there xs k d (omega arith))

-- what stands at a place of the list is one of it
pub get_there : (xs : List ℕ) (k x : ℕ) → slice_get xs k ≡ Some x → IsTrue (contains xs x)
get_there xs k x at = subst (λ (s : ℕ). IsTrue (contains xs s)) (index_is xs k x at) (index_there xs k 0 (is_inside xs k x at))

-- ---- sectors that differ

pub differ_at : (xs : List ℕ) (j k : ℕ) → IsTrue (all_differ xs) → j < k → k < length xs → slice_index_or xs j 0 ≢ slice_index_or xs k 0
differ_at [] j k d lt inside = λ e. absurd (omega arith)
differ_at (x ∷ xs) j zero d lt inside = λ e. absurd (omega arith)
differ_at (x ∷ xs) zero (suc k) d lt inside = λ e.
    let absent = not-true (contains xs x) (and_parts (not (contains xs x)) (all_differ xs) d).0 in
    both_ways (contains xs x) absent (subst (λ (s : ℕ). IsTrue (contains xs s)) (sym e) (index_there xs k 0 (omega arith)))
differ_at (x ∷ xs) (suc j) (suc k) d lt inside = differ_at xs j k (and_parts (not (contains xs x)) (all_differ xs) d).1 (omega arith) (omega arith)

-- ---- the sectors of an entry

pub all_at : (p : Run → Bool) (runs : List Run) (k : ℕ) (d : Run) → IsTrue (list_all p runs) → k < length runs → IsTrue (p (slice_index_or runs k d))
all_at p [] k d all lt = absurd (omega arith)
all_at p (r ∷ runs) zero d all lt = (and_parts (p r) (list_all p runs) all).0
all_at p (r ∷ runs) (suc k) d all lt = all_at p runs k d (and_parts (p r) (list_all p runs) all).1 (omega arith)

module _ (e : Entry) (good : IsTrue (is_entry e)) where
  parts_4 : IsTrue (is_key e.key && nat_le e.keep max_keep && nat_le e.length max_length && are_runs e.runs) × IsTrue (total e.runs == sectors_for e.length)
  parts_4 = and_parts (is_key e.key && nat_le e.keep max_keep && nat_le e.length max_length && are_runs e.runs) (total e.runs == sectors_for e.length) good

  parts_3 : IsTrue (is_key e.key && nat_le e.keep max_keep && nat_le e.length max_length) × IsTrue (are_runs e.runs)
  parts_3 = and_parts (is_key e.key && nat_le e.keep max_keep && nat_le e.length max_length) (are_runs e.runs) parts_4.0

  pub entry_length : e.length ≤ max_length
  entry_length = leb-true e.length max_length (and_parts (is_key e.key && nat_le e.keep max_keep) (nat_le e.length max_length) parts_3.0).1

  pub entry_count : length (sectors_of e.runs) ≡ sectors_for e.length
  entry_count = length_of_sectors e.runs ∙ eqb-true (total e.runs) (sectors_for e.length) parts_4.1

  pub entry_lengths : All (λ r. (1 ≤ r.length) × (r.length ≤ 65535)) e.runs
  entry_lengths k d lt =
      let each = all_at (λ r. is_between 1 65535 r.length) e.runs k d (and_parts (is_between 1 max_runs (length e.runs)) (list_all (λ r. is_between 1 65535 r.length) e.runs) parts_3.1).1 lt in
      let n : ℕ = (slice_index_or e.runs k d).length in
      let both = and_parts (nat_le 1 n) (nat_le n 65535) each in
      (leb-true 1 n both.0, leb-true n 65535 both.1)

-- ---- the runs one by one

-- the sectors of the runs from one on, and how many lie before them
pub record LeftFrom (runs : List Run) (i before : ℕ) : Type 0 where
  pub size : before + length (sectors_of (drop i runs)) ≡ length (sectors_of runs)
  pub each : (j : ℕ) → slice_get (sectors_of runs) (before + j) ≡ slice_get (sectors_of (drop i runs)) j

-- a run among the runs, with so many sectors before it
pub record LiesBehind (runs : List Run) (before : ℕ) (r : Run) : Type 0 where
  pub size : before + r.length ≤ length (sectors_of runs)
  pub each : (j : ℕ) → j < r.length → slice_get (sectors_of runs) (before + j) ≡ Some (r.start + j)

length_more : (runs : List Run) (i : ℕ) (d : Run) → i < length runs → length (sectors_of (drop i runs)) ≡ (get_or runs i d).length + length (sectors_of (drop (i + 1) runs))
length_more runs i d inside =
    let r : Run = get_or runs i d in
    let rest : List ℕ = sectors_of (drop (i + 1) runs) in
    ap (λ (x : List Run). length (sectors_of x)) (drop_more runs i d inside)
    ∙ length-append (range_with_len r.start r.length) rest
    ∙ ap (λ (n : ℕ). n + length rest) (length-range_with_len r.start r.length)

module _ {items runs : List Run} {i before : ℕ} (d : Run) (same : items ≡ runs) (within : i < length items) (left : LeftFrom runs i before) where
  inside : i < length runs
  inside = omega (arith, ap length same)

  behind : LiesBehind runs before (get_or runs i d)
  behind = record {
    size = omega (arith, left.size, length_more runs i d inside);
    each = λ j lt. left.each j ∙ sector_here runs i j d inside lt;
  }

  left_behind : LeftFrom runs (i + 1) (before + (get_or runs i d).length)
  left_behind =
      let len : ℕ = (get_or runs i d).length in
      record {
        size = omega (arith, left.size, length_more runs i d inside);
        each = λ j.
            let over : len + j - len ≡ j = omega arith in
            ap (slice_get (sectors_of runs)) (let e : before + len + j ≡ before + (len + j) = omega arith in e)
            ∙ left.each (len + j) ∙ sector_beyond runs i (len + j) d inside (omega arith)
            ∙ ap (slice_get (sectors_of (drop (i + 1) runs))) over;
      }

  pub lies_behind : LiesBehind runs before (get_or items i d)
  lies_behind = subst (λ (x : List Run). LiesBehind runs before (get_or x i d)) (sym same) behind

  pub left_next : LeftFrom runs (i + 1) (before + (get_or items i d).length)
  left_next = subst (λ (x : List Run). LeftFrom runs (i + 1) (before + (get_or x i d).length)) (sym same) left_behind

none_left : (runs : List Run) (i : ℕ) → length runs ≤ i → length (sectors_of (drop i runs)) ≡ 0
none_left [] zero le = refl
none_left [] (suc i) le = refl
none_left (r ∷ runs) zero le = absurd (omega arith)
none_left (r ∷ runs) (suc i) le = none_left runs i (omega arith)

-- behind the last run
pub all_behind : (runs : List Run) (i before : ℕ) → length runs ≤ i → LeftFrom runs i before → before ≡ length (sectors_of runs)
all_behind runs i before end left = let none = none_left runs i end in omega (arith, left.size, none)

-- a run of them ends where all of them do
pub run_below : {runs : List Run} {before : ℕ} {r : Run} (most : ℕ) → LiesBehind runs before r → 1 ≤ r.length → All (λ s. s < most) (sectors_of runs) → r.start + r.length ≤ most
run_below {runs = runs} {before = before} {r = r} most lies some all =
    let last : ℕ = r.length - 1 in
    let lt = in_all most (sectors_of runs) (before + last) (r.start + last) all (lies.each last (omega (arith, some))) in
    omega (arith, lt, some)
