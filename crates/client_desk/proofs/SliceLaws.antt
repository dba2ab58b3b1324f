-- The slices that bytes are, as they come in pieces.
use Rattle.std.proofs.Common.{◌≡◌, ℕ, suc, zero, ◌+◌, ◌-◌, ◌*◌, ◌/◌, ◌%◌, ◌<◌, ◌≤◌, Bool, true, false, cond, List, [], ◌∷◌, ◌++◌, length, take, drop, refl, sym, ap, ◌∙◌, arith, append_assoc, Option, Some, None}
use Rattle.std.specs.Prelude.{◌==◌, map, replicate}
use Rattle.std.proofs.lemmas.List.{drop-append-le, length-append, length-drop, length-map, length-take-le, map-append, take-append-drop, take-append-le}
use Rattle.std.proofs.Math.Seq.{drop-append-add, drop-length, take-append-add, take-append_seam, take-length}
use Rattle.fsd_bytes.specs.Bytes.{sector}
use Rattle.fsd_files.specs.Kept.{filled_slice, filled_slices, filled_slices_from}
use Rattle.volume_contract.specs.Pieces.{slice_count, slices_if, with_slices}
use Rattle.client_desk.specs.Clients.{whole_part, written_len}
use Rattle.client_desk.specs.Ends.{slices_so_far}

-- ---- counts

pub count_whole : (q : ℕ) → slice_count (q * 512) ≡ q
count_whole q = omega arith

pub count_more : (q m : ℕ) → slice_count (q * 512 + m) ≡ q + slice_count m
count_more q m = omega arith

-- ---- slices

pub from_split : (k q n : ℕ) (xs : List ℕ) → filled_slices_from k (q + n) xs ≡ filled_slices_from k q xs ++ filled_slices_from (k + q) n xs
from_split k zero n xs = let a : 0 + n ≡ n = omega arith in let b : k + 0 ≡ k = omega arith in ap (λ (m : ℕ). filled_slices_from k m xs) a ∙ sym (ap (λ (m : ℕ). filled_slices_from m n xs) b)
from_split k (suc q) n xs =
    let a : suc q + n ≡ suc (q + n) = omega arith in
    let b : (k + 1) + q ≡ k + suc q = omega arith in
    ap (λ (m : ℕ). filled_slices_from k m xs) a
    ∙ ap (λ (ys : List (List ℕ)). filled_slice xs k ∷ ys) (from_split (k + 1) q n xs ∙ ap (λ (m : ℕ). filled_slices_from (k + 1) q xs ++ filled_slices_from m n xs) b)

pub from_same : (k q : ℕ) (xs ys : List ℕ) → ((j : ℕ) → j < k + q → filled_slice xs j ≡ filled_slice ys j) → filled_slices_from k q xs ≡ filled_slices_from k q ys
from_same k zero xs ys same = refl
from_same k (suc q) xs ys same =
    ap (λ (x : List ℕ). x ∷ filled_slices_from (k + 1) q xs) (same k (omega arith)) ∙ ap (λ (zs : List (List ℕ)). filled_slice ys k ∷ zs) (from_same (k + 1) q xs ys (λ j lt. same j (omega (arith, lt))))

pub from_shift : (a k n : ℕ) (xs ys : List ℕ) → ((j : ℕ) → filled_slice xs (a + j) ≡ filled_slice ys j) → filled_slices_from (a + k) n xs ≡ filled_slices_from k n ys
from_shift a k zero xs ys same = refl
from_shift a k (suc n) xs ys same =
    let e : (a + k) + 1 ≡ a + (k + 1) = omega arith in
    ap (λ (x : List ℕ). x ∷ filled_slices_from ((a + k) + 1) n xs) (same k) ∙ ap (λ (zs : List (List ℕ)). filled_slice ys k ∷ zs) (ap (λ (m : ℕ). filled_slices_from m n xs) e ∙ from_shift a (k + 1) n xs ys same)

pub length_from : (k n : ℕ) (xs : List ℕ) → length (filled_slices_from k n xs) ≡ n
length_from k zero xs = refl
length_from k (suc n) xs = ap (λ (m : ℕ). suc m) (length_from (k + 1) n xs)

module _ (front more : List ℕ) (q : ℕ) (whole : length front ≡ q * 512) where
  slice_front : (j : ℕ) → j < 0 + q → filled_slice (front ++ more) j ≡ filled_slice front j
  slice_front j lt =
      let near : j * 512 ≤ length front = omega (arith, lt, whole) in
      let rest : 512 ≤ length (drop (j * 512) front) = omega (arith, lt, whole, length-drop (j * 512) front) in
      ap (λ (xs : List ℕ). sector (take 512 xs)) (drop-append-le (j * 512) front more near) ∙ ap sector (take-append-le 512 (drop (j * 512) front) more rest)

  slice_behind : (j : ℕ) → filled_slice (front ++ more) (q + j) ≡ filled_slice more j
  slice_behind j =
      let e : (q + j) * 512 ≡ length front + j * 512 = omega (arith, whole) in
      ap (λ (n : ℕ). sector (take 512 (drop n (front ++ more)))) e ∙ ap (λ (xs : List ℕ). sector (take 512 xs)) (drop-append-add front more (j * 512))

  pub slices_append : filled_slices (front ++ more) ≡ filled_slices front ++ filled_slices more
  slices_append =
      let all : slice_count (length (front ++ more)) ≡ q + slice_count (length more) = ap slice_count (length-append front more ∙ ap (λ (n : ℕ). n + length more) whole) ∙ count_more q (length more) in
      let here : slice_count (length front) ≡ q = ap slice_count whole ∙ count_whole q in
      let zero_q : 0 + q ≡ q + 0 = omega arith in
      ap (λ (n : ℕ). filled_slices_from 0 n (front ++ more)) all
      ∙ from_split 0 q (slice_count (length more)) (front ++ more)
      ∙ ap (λ (xs : List (List ℕ)). xs ++ filled_slices_from (0 + q) (slice_count (length more)) (front ++ more)) (from_same 0 q (front ++ more) front slice_front ∙ ap (λ (n : ℕ). filled_slices_from 0 n front) (sym here))
      ∙ ap (λ (xs : List (List ℕ)). filled_slices front ++ xs) (ap (λ (n : ℕ). filled_slices_from n (slice_count (length more)) (front ++ more)) zero_q ∙ from_shift q 0 (slice_count (length more)) (front ++ more) more slice_behind)

pub length_slices_if : (done : Bool) (xs : List ℕ) → length (slices_if done xs) ≡ slice_count (length xs)
length_slices_if done xs = length-map (filled_slices xs) (λ x. cond done (Some x) None) ∙ length_from 0 (slice_count (length xs)) xs

-- ---- what is written

abbrev pub nones : ℕ → List (Option (List ℕ))
nones n = replicate n None

pub drop_none : (m n : ℕ) → drop m (nones n) ≡ nones (n - m)
drop_none zero n = let e : n - 0 ≡ n = omega arith in sym (ap nones e)
drop_none (suc m) zero = let e : 0 - suc m ≡ 0 = omega arith in sym (ap nones e)
drop_none (suc m) (suc n) = let e : suc n - suc m ≡ n - m = omega arith in drop_none m n ∙ sym (ap nones e)

-- the written ones in front, and nothing behind them
abbrev pub front_slices : (len : ℕ) → List ℕ → List (Option (List ℕ))
front_slices len front = slices_if true front ++ replicate (slice_count len - slice_count (length front)) None

pub laid_behind : (len q : ℕ) (front more : List ℕ) → length front ≡ q * 512 → with_slices (front_slices len front) q (slices_if true more) ≡ front_slices len (front ++ more)
laid_behind len q front more whole =
    let a : List (Option (List ℕ)) = slices_if true front in
    let b : List (Option (List ℕ)) = slices_if true more in
    let n : ℕ = slice_count len - slice_count (length front) in
    let size : length a ≡ q = length_slices_if true front ∙ ap slice_count whole ∙ count_whole q in
    let added : length b ≡ slice_count (length more) = length_slices_if true more in
    let in_front : take q (a ++ replicate n None) ≡ a = ap (λ (m : ℕ). take m (a ++ replicate n None)) (sym size) ∙ take-append_seam a (replicate n None) in
    let behind : drop (q + length b) (a ++ replicate n None) ≡ replicate (n - length b) None = ap (λ (m : ℕ). drop (m + length b) (a ++ replicate n None)) (sym size) ∙ drop-append-add a (replicate n None) (length b) ∙ drop_none (length b) n in
    let both : slice_count (length (front ++ more)) ≡ slice_count (length front) + slice_count (length more)
    = ap slice_count (length-append front more ∙ ap (λ (m : ℕ). m + length more) whole) ∙ count_more q (length more) ∙ ap (λ (m : ℕ). m + slice_count (length more)) (sym (ap slice_count whole ∙ count_whole q)) in
    let left : n - length b ≡ slice_count len - slice_count (length (front ++ more)) = omega (arith, added, both) in
    ap (λ (xs : List (Option (List ℕ))). (xs ++ b) ++ drop (q + length b) (a ++ replicate n None)) in_front
    ∙ ap (λ (xs : List (Option (List ℕ))). (a ++ b) ++ xs) (behind ∙ ap (λ (m : ℕ). replicate m None) left)
    ∙ ap (λ (xs : List (Option (List ℕ))). xs ++ replicate (slice_count len - slice_count (length (front ++ more))) None)
    (sym (ap (λ (xs : List (List ℕ)). map (λ x. cond true (Some x) None) xs) (slices_append front more q whole) ∙ map-append (λ x. cond true (Some x) None) (filled_slices front) (filled_slices more)))

pub laid_nothing : (first : ℕ) (old : List (Option (List ℕ))) → with_slices old first [] ≡ old
laid_nothing first old =
    let e : first + 0 ≡ first = omega arith in
    ap (λ (n : ℕ). (take first old ++ []) ++ drop n old) e ∙ ap (λ (xs : List (Option (List ℕ))). xs ++ drop first old) (nothing_behind (take first old)) ∙ take-append-drop first old
  where
    nothing_behind : (xs : List (Option (List ℕ))) → xs ++ [] ≡ xs
    nothing_behind [] = refl
    nothing_behind (x ∷ xs) = ap (λ (ys : List (Option (List ℕ))). x ∷ ys) (nothing_behind xs)

-- ---- bytes behind others

module _ (len : ℕ) (before more : List ℕ) where
  abbrev pub start : ℕ
  start = written_len len (length before)

  start_within : start ≤ length before
  start_within = by (length before == len)
    where
      by : (b : Bool) → cond b (length before) (length before / 512 * 512) ≤ length before
      by true = omega arith
      by false = omega arith

  more_length : length (before ++ more) ≡ length before + length more
  more_length = length-append before more

  -- all is written then
  all_so_far : written_len len (length before + length more) ≡ length before + length more → slices_so_far len (before ++ more) ≡ front_slices len (before ++ more)
  all_so_far all =
      let e : written_len len (length (before ++ more)) ≡ length (before ++ more) = ap (written_len len) more_length ∙ all ∙ sym more_length in
      ap (λ (n : ℕ). front_slices len (take n (before ++ more))) e ∙ ap (front_slices len) (take-length (before ++ more))

  -- the slice that was begun is written, and all is then
  pub fill_written : (length before == len) ≡ false → written_len len (length before + length more) ≡ length before + length more
      → with_slices (slices_so_far len before) (length before / 512) (slices_if true (drop start before ++ more)) ≡ slices_so_far len (before ++ more)
  fill_written unended all =
      let at : start ≡ length before / 512 * 512 = ap (λ (b : Bool). cond b (length before) (length before / 512 * 512)) unended in
      let whole : length (take start before) ≡ length before / 512 * 512 = length-take-le start before start_within ∙ at in
      laid_behind len (length before / 512) (take start before) (drop start before ++ more) whole
      ∙ ap (front_slices len) (sym (append_assoc (take start before) (drop start before) more) ∙ ap (λ (xs : List ℕ). xs ++ more) (take-append-drop start before))
      ∙ sym (all_so_far all)

  -- it isn't yet
  pub fill_kept : written_len len (length before + length more) ≡ start → slices_so_far len (before ++ more) ≡ slices_so_far len before
  fill_kept same =
      ap (λ (n : ℕ). front_slices len (take n (before ++ more))) (ap (written_len len) more_length ∙ same)
      ∙ ap (front_slices len) (take-append-le start before more start_within)

  pub tail_kept : written_len len (length before + length more) ≡ start → drop (written_len len (length (before ++ more))) (before ++ more) ≡ drop start before ++ more
  tail_kept same = ap (λ (n : ℕ). drop n (before ++ more)) (ap (written_len len) more_length ∙ same) ∙ drop-append-le start before more start_within

  pub tail_none : written_len len (length before + length more) ≡ length before + length more → drop (written_len len (length (before ++ more))) (before ++ more) ≡ []
  tail_none all = ap (λ (n : ℕ). drop n (before ++ more)) (ap (written_len len) more_length ∙ all ∙ sym more_length) ∙ drop-length (before ++ more)

-- ---- where all is written so far

-- how much is written, where so much fills slices
pub written_whole : (len got : ℕ) → got % 512 ≡ 0 → written_len len got ≡ got
written_whole len got whole = by (got == len)
  where
    by : (b : Bool) → cond b got (got / 512 * 512) ≡ got
    by true = refl
    by false = omega (arith, whole)

pub written_more : (len got n : ℕ) → got % 512 ≡ 0 → written_len len (got + n) ≡ got + whole_part n (got + n == len)
written_more len got n whole = by (got + n == len)
  where
    by : (b : Bool) → cond b (got + n) ((got + n) / 512 * 512) ≡ got + cond b n (n / 512 * 512)
    by true = refl
    by false = omega (arith, whole)

pub part_within : (n : ℕ) (all : Bool) → whole_part n all ≤ n
part_within n true = omega arith
part_within n false = omega arith

module _ (len : ℕ) (before more : List ℕ) (whole : length before % 512 ≡ 0) where
  abbrev pub part : ℕ
  part = whole_part (length more) (length before + length more == len)

  end_is : written_len len (length (before ++ more)) ≡ length before + part
  end_is = ap (written_len len) (length-append before more) ∙ written_more len (length before) (length more) whole

  pub lay_written : with_slices (slices_so_far len before) (length before / 512) (slices_if true (take part more)) ≡ slices_so_far len (before ++ more)
  lay_written =
      let all : slices_so_far len before ≡ front_slices len before = ap (λ (n : ℕ). front_slices len (take n before)) (written_whole len (length before) whole) ∙ ap (front_slices len) (take-length before) in
      let multiple : length before ≡ length before / 512 * 512 = omega (arith, whole) in
      ap (λ (xs : List (Option (List ℕ))). with_slices xs (length before / 512) (slices_if true (take part more))) all
      ∙ laid_behind len (length before / 512) before (take part more) multiple
      ∙ ap (front_slices len) (sym (take-append-add before more part))
      ∙ sym (ap (λ (n : ℕ). front_slices len (take n (before ++ more))) end_is)

  pub lay_tail : drop (written_len len (length (before ++ more))) (before ++ more) ≡ drop part more
  lay_tail = ap (λ (n : ℕ). drop n (before ++ more)) end_is ∙ drop-append-add before more part
