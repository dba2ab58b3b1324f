-- A leader's sector: what is written is its spelling, and what is read is what it spells.
use Rattle.std.proofs.Common.{◌≡◌, ℕ, zero, suc, ◌+◌, ◌-◌, ◌*◌, ◌/◌, ◌%◌, ◌<◌, ◌≤◌, Bool, true, false, cond, ◌&&◌, List, [], ◌∷◌, ◌++◌, length, get_or, take, drop, Option, Some, None, refl, sym, ap, ◌∙◌, arith, lit<}
use Rattle.std.specs.Prelude.{nat_le, ◌==◌, codes}
use Rattle.std.specs.List.{flat_map, list_all}
use Rattle.std.proofs.lemmas.Bool.{and_parts, leb-true}
use Rattle.std.proofs.lemmas.Bool.Decides.{nat_tests}
use Rattle.std.proofs.lemmas.List.{drop-replicate, append-nil, length-take-le, get_or-take, length-drop}
use Rattle.fsd_bytes.specs.Bytes.{u8, u32, u8_at, u32_at, zeros, same_bytes}
use Rattle.fsd_bytes.proofs.FieldLaws.{AreSmall, small_behind}
use Rattle.fsd_formats.specs.declared.entry.Leader.{Leader}
use Rattle.fsd_formats.specs.Leader.{leader_bytes, read_leader}
use Rattle.run_table.specs.declared.run.Run.{Run}
use Rattle.run_table.specs.RunTable.{run_bytes, run_at, runs_from, read_runs, are_runs}
use Rattle.fsd_bytes.specs.Names.{is_between}
use Rattle.run_table.proofs.RunLaws.{length_bytes, count_runs}
use borrow.Rule.Slice.PartMut.{put_mid, mid_of}

-- ---- the spelling

-- what stands before the runs
abbrev pub front : Leader → List ℕ
front x = codes "CLDR" ++ u32 x.serial.epoch ++ u32 x.serial.count ++ u32 x.length ++ u8 (length x.runs)

pub leader_spelled : (x : Leader) (b out : List ℕ) → length x.runs ≤ 8 → b ≡ front x ++ zeros 495
    → out ≡ flat_map run_bytes x.runs ++ drop (6 * length x.runs) (mid_of 17 495 b) → put_mid 17 495 b out ≡ leader_bytes x
leader_spelled x b out few was put =
    let runs : List ℕ = flat_map run_bytes x.runs in
    let n : ℕ = length x.runs in
    let filled : out ≡ runs ++ zeros (495 - 6 * n) = put ∙ ap (λ (y : List ℕ). runs ++ drop (6 * n) (mid_of 17 495 y)) was ∙ ap (λ (y : List ℕ). runs ++ y) (drop-replicate (6 * n) 495 0) in
    let left : 495 - 6 * n ≡ 512 - length (front x ++ runs) = omega (arith, length_bytes x.runs) in
    ap (λ (y : List ℕ). put_mid 17 495 y out) was
    ∙ ap (λ (y : List ℕ). front x ++ y) (append-nil out ∙ filled ∙ ap (λ (k : ℕ). runs ++ zeros k) left)

-- ---- the reading

runs_from_part : (n k : ℕ) (b : List ℕ) → k ≡ 6 * n → k ≤ length b → runs_from n (take k b) ≡ runs_from n b
runs_from_part zero k b e h = refl
runs_from_part (suc n) (suc (suc (suc (suc (suc (suc k)))))) (x ∷ y ∷ z ∷ u ∷ v ∷ w ∷ b) e h =
    ap (λ (rs : List Run). run_at (x ∷ y ∷ z ∷ u ∷ v ∷ w ∷ []) ∷ rs) (runs_from_part n k b (omega arith) (omega arith))
runs_from_part (suc n) k b e h = absurd (omega arith)

abbrev are_some : List Run → Bool
are_some runs = list_all (λ r. nat_le 1 r.length) runs

-- the runs that stand in a part are those that begin there
read_part : (n k : ℕ) (b : List ℕ) → n ≤ 8 → k ≡ 6 * n → k ≤ length b
    → read_runs (take k b) ≡ cond (are_some (runs_from n b)) (Some (runs_from n b)) None
read_part n k b few e h =
    let len : length (take k b) ≡ 6 * n = omega (arith, length-take-le k b) in
    let within : nat_le (6 * n) 48 ≡ true = grind (arith, nat_tests) in
    let whole : (6 * n % 6 == 0) ≡ true = ap (λ (m : ℕ). m == 0) (let z : 6 * n % 6 ≡ 0 = omega arith in z) in
    let many : 6 * n / 6 ≡ n = omega arith in
    rw (len, within, whole, many, runs_from_part n k b e h) refl

-- a run's length is read from two bytes
short : (b : List ℕ) → AreSmall b → (run_at b).length ≤ 65535
short b small = let parts = small_behind 4 b small in omega (arith, get_or-take 2 (drop 4 b) 0 0 (lit< tt), get_or-take 2 (drop 4 b) 1 0 (lit< tt), parts 0, parts 1)

between : (n : ℕ) → n ≤ 65535 → is_between 1 65535 n ≡ nat_le 1 n
between n h = grind (arith, nat_tests)

all_between : (n : ℕ) (b : List ℕ) → AreSmall b → list_all (λ r. is_between 1 65535 r.length) (runs_from n b) ≡ are_some (runs_from n b)
all_between zero b small = refl
all_between (suc n) b small =
    let rest = all_between n (drop 6 b) (small_behind 6 b small) in
    ap (λ (t : Bool). t && list_all (λ r. is_between 1 65535 r.length) (runs_from n (drop 6 b))) (between (run_at b).length (short b small))
    ∙ ap (λ (t : Bool). nat_le 1 (run_at b).length && t) rest

-- from one to eight runs that are not empty are a leader's runs
are_read : (n : ℕ) (b : List ℕ) → AreSmall b → 1 ≤ n → n ≤ 8 → are_runs (runs_from n b) ≡ are_some (runs_from n b)
are_read n b small one few =
    let some : is_between 1 8 n ≡ true = grind (arith, nat_tests) in
    rw (count_runs n b, some) (all_between n b small)

some_fit : (n : ℕ) (b : List ℕ) → AreSmall b → are_some (runs_from n b) ≡ true
    → (k : ℕ) (d : Run) → k < length (runs_from n b) → (1 ≤ (get_or (runs_from n b) k d).length) × ((get_or (runs_from n b) k d).length ≤ 65535)
some_fit zero b small some k d h = absurd (omega arith)
some_fit (suc n) b small some zero d h =
    let first = (and_parts (nat_le 1 (run_at b).length) (are_some (runs_from n (drop 6 b))) some).0 in
    (leb-true 1 (run_at b).length first, short b small)
some_fit (suc n) b small some (suc k) d h =
    let rest = (and_parts (nat_le 1 (run_at b).length) (are_some (runs_from n (drop 6 b))) some).1 in
    some_fit n (drop 6 b) (small_behind 6 b small) rest k d (omega arith)

-- the runs that are read from a part
runs_are : (n k : ℕ) (b : List ℕ) (runs : List Run) → n ≤ 8 → k ≡ 6 * n → k ≤ length b → read_runs (take k b) ≡ Some runs
    → (runs ≡ runs_from n b) × (are_some (runs_from n b) ≡ true)
runs_are n k b runs few e h is = by (are_some (runs_from n b)) (sym (read_part n k b few e h) ∙ is)
  where
    by : (t : Bool) → cond t (Some (runs_from n b)) None ≡ Some runs → (runs ≡ runs_from n b) × (t ≡ true)
    by true q = (cc, refl)
    by false q = absurd cc

none_are : (n k : ℕ) (b : List ℕ) → n ≤ 8 → k ≡ 6 * n → k ≤ length b → read_runs (take k b) ≡ None → are_some (runs_from n b) ≡ false
none_are n k b few e h is = by (are_some (runs_from n b)) (sym (read_part n k b few e h) ∙ is)
  where
    by : (t : Bool) → cond t (Some (runs_from n b)) None ≡ None → t ≡ false
    by true q = absurd cc
    by false q = refl

-- a leader with the fields of the sector and these runs
abbrev pub leader_at : List ℕ → List Run → Leader
leader_at b runs = record { serial = record { epoch = u32_at 4 b; count = u32_at 8 b }; length = u32_at 12 b; runs = runs }

abbrev leader_of_runs : List ℕ → List Run → Option Leader
leader_of_runs b runs = cond (are_runs runs && same_bytes (leader_bytes (leader_at b runs)) b) (Some (leader_at b runs)) None

pub no_leader : (n : ℕ) (b : List ℕ) → AreSmall b → length b ≡ 512 → n ≡ u8_at 16 b → 1 ≤ n → n ≤ 8 → read_runs (take (17 + 6 * n - 17) (drop 17 b)) ≡ None → None ≡ read_leader b
no_leader n b small len at one few is =
    let behind : 6 * n ≤ length (drop 17 b) = omega (arith, length-drop 17 b) in
    let empty : are_some (runs_from n (drop 17 b)) ≡ false = none_are n (17 + 6 * n - 17) (drop 17 b) few (omega arith) (omega arith) is in
    let fails : are_runs (runs_from n (drop 17 b)) ≡ false = are_read n (drop 17 b) (small_behind 17 b small) one few ∙ empty in
    ap (λ (t : Bool). cond (t && same_bytes (leader_bytes (leader_at b (runs_from n (drop 17 b)))) b) (Some (leader_at b (runs_from n (drop 17 b)))) None) (sym fails)
    ∙ ap (λ (m : ℕ). leader_of_runs b (runs_from m (drop 17 b))) at

pub fits_again : (n : ℕ) (b : List ℕ) (runs : List Run) → AreSmall b → length b ≡ 512 → n ≤ 8 → read_runs (take (17 + 6 * n - 17) (drop 17 b)) ≡ Some runs
    → (k : ℕ) (d : Run) → k < length runs → (1 ≤ (get_or runs k d).length) × ((get_or runs k d).length ≤ 65535)
fits_again n b runs small len few is =
    let behind : 6 * n ≤ length (drop 17 b) = omega (arith, length-drop 17 b) in
    let found = runs_are n (17 + 6 * n - 17) (drop 17 b) runs few (omega arith) (omega arith) is in
    rw found.0 (some_fit n (drop 17 b) (small_behind 17 b small) found.1)

pub leader_or_none : (n : ℕ) (b : List ℕ) (runs : List Run) (x : Leader) (t : Bool) → AreSmall b → length b ≡ 512 → n ≡ u8_at 16 b → 1 ≤ n → n ≤ 8
    → read_runs (take (17 + 6 * n - 17) (drop 17 b)) ≡ Some runs → x ≡ leader_at b runs → same_bytes (leader_bytes x) b ≡ t
    → cond t (Some x) None ≡ read_leader b
leader_or_none n b runs x t small len at one few is from same =
    let behind : 6 * n ≤ length (drop 17 b) = omega (arith, length-drop 17 b) in
    let found = runs_are n (17 + 6 * n - 17) (drop 17 b) runs few (omega arith) (omega arith) is in
    let are : are_runs x.runs ≡ true = ap (λ (y : Leader). are_runs y.runs) from ∙ ap are_runs found.0 ∙ are_read n (drop 17 b) (small_behind 17 b small) one few ∙ found.1 in
    let both : are_runs x.runs && same_bytes (leader_bytes x) b ≡ t = ap (λ (u : Bool). u && same_bytes (leader_bytes x) b) are ∙ same in
    ap (λ (u : Bool). cond u (Some x) None) (sym both)
    ∙ ap (λ (y : Leader). cond (are_runs y.runs && same_bytes (leader_bytes y) b) (Some y) None) (from ∙ ap (leader_at b) found.0)
    ∙ ap (λ (m : ℕ). leader_of_runs b (runs_from m (drop 17 b))) at
