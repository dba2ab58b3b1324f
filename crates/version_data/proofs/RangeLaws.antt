-- A range of a version's bytes out of its sectors.
use Rattle.std.proofs.Common.{◌≡◌, ◌⊎◌, inl, inr, ℕ, zero, suc, ◌+◌, ◌-◌, ◌*◌, ◌/◌, ◌%◌, ◌<◌, ◌≤◌, Bool, min, List, [], ◌∷◌, ◌++◌, length, take, drop, refl, sym, ◌∙◌, ap, subst, arith, length-take}
use Rattle.std.specs.Prelude.{slice_index_or, slice_get, Some, IsTrue}
use Rattle.std.specs.List.{AllZip, AllByRecursion}
use Rattle.std.proofs.lemmas.List.{drop-append-le, take-append-le, drop-take, take-take, drop-drop, take-append-drop, get_or-drop, length-drop}
use Rattle.std.proofs.lemmas.Bool.{cases_eq}
use Rattle.std.proofs.Math.Seq.{take-append-add}
use Rattle.fsd_bytes.specs.Bytes.{zeros}
use Rattle.fsd_formats.specs.NamePage.{sectors_for}
use Rattle.run_table.specs.declared.run.Run.{Run}
use Rattle.run_table.specs.RunTable.{sectors_of}
use Rattle.sector_disk.specs.declared.sector.Sector.{Sector}
use Rattle.sector_disk.specs.declared.sector.Sector.TheVariants.{Whole, Damaged}
use Rattle.sector_disk.specs.Image.{sector_at}
use Rattle.fsd_files.specs.Disk.{Image, Sectors, Has}
use Rattle.fsd_files.specs.Kept.{filled_slice, filled_slices_from, data_sectors, KeptIn, range_sectors, IsWhole, FirstDamaged}
use Rattle.version_data.specs.Reading.{GivesRange}
use Rattle.version_data.proofs.PlaceLaws.{index_is}

-- where slice k lies
abbrev pub slice_place : List Run → ℕ → ℕ
slice_place runs k = slice_index_or (sectors_of runs) (k + 1) 0

-- the bytes of a whole sector that stand in the buffer from a place on
pub record PartStands (i : Image) (place at to len : ℕ) (old new : List ℕ) : Type 0 where
  pub bytes : List ℕ
  pub whole : sector_at i place ≡ Whole bytes
  pub stands : take (to + len) new ≡ take to old ++ take len (drop at bytes)

-- each data sector of the bytes from one place to another is whole
pub record WholeTo (i : Image) (runs : List Run) (from to : ℕ) : Type 0 where
  pub each : (k : ℕ) → from < to → from / 512 ≤ k → k * 512 < to → IsWhole i (slice_place runs k)

-- the front of the buffer has the bytes of the range, as far as it was read
pub record FrontStands (bytes : List ℕ) (from done : ℕ) (buf : List ℕ) : Type 0 where
  pub front : take done buf ≡ take done (drop from bytes)

-- ---- bytes

take_both : (a b : ℕ) (xs : List ℕ) → a ≤ length xs → take (a + b) xs ≡ take a xs ++ take b (drop a xs)
take_both a b xs le =
    let size : length (take a xs) ≡ a = omega (arith, length-take a xs) in
    ap (take (a + b)) (sym (take-append-drop a xs))
    ∙ ap (λ (n : ℕ). take (n + b) (take a xs ++ drop a xs)) (sym size)
    ∙ take-append-add (take a xs) (drop a xs) b

-- a part of a slice is a part of the bytes
part_of_slice : (bytes : List ℕ) (k at len : ℕ) → at + len ≤ 512 → k * 512 + at + len ≤ length bytes → take len (drop at (filled_slice bytes k)) ≡ take len (drop (k * 512 + at) bytes)
part_of_slice bytes k at len part room =
    let rest : List ℕ = drop (k * 512) bytes in
    let slice : List ℕ = take 512 rest in
    let size : length slice ≡ min 512 (length bytes - k * 512) = length-take 512 rest ∙ ap (min 512) (length-drop (k * 512) bytes) in
    let behind : List ℕ = zeros (512 - length slice) in
    let split : at + (512 - at) ≡ 512 = omega arith in
    ap (take len) (drop-append-le at slice behind (omega (arith, size)))
    ∙ take-append-le len (drop at slice) behind (omega (arith, size, length-drop at slice))
    ∙ ap (λ (n : ℕ). take len (drop at (take n rest))) (sym split)
    ∙ ap (take len) (drop-take at (512 - at) rest)
    ∙ take-take len (512 - at) (drop at rest) (omega arith)
    ∙ ap (take len) (drop-drop at (k * 512) bytes)

-- ---- sectors

index_behind : (xs : List ℕ) (j : ℕ) → slice_index_or (drop 1 xs) j 0 ≡ slice_index_or xs (j + 1) 0
index_behind xs j = get_or-drop 1 xs j 0 ∙ ap (λ (n : ℕ). slice_index_or xs n 0) (omega arith)

pub data_place : (runs : List Run) (k : ℕ) → slice_index_or (data_sectors runs) k 0 ≡ slice_place runs k
data_place runs k = index_behind (sectors_of runs) k

has_from : (hurt : Sectors) (i : Image) (k n : ℕ) (bytes ys : List ℕ) → AllZip (Has hurt i) (filled_slices_from k n bytes) ys → (j : ℕ) → j < n → Has hurt i (filled_slice bytes (k + j)) (slice_index_or ys j 0)
has_from hurt i k zero bytes ys kept j lt = absurd (omega arith)
has_from hurt i k (suc n) bytes [] kept j lt = absurd kept
has_from hurt i k (suc n) bytes (y ∷ ys) kept zero lt = let same : k ≡ k + 0 = omega arith in subst (λ (m : ℕ). Has hurt i (filled_slice bytes m) y) same kept.0
has_from hurt i k (suc n) bytes (y ∷ ys) kept (suc j) lt =
    let same : k + 1 + j ≡ k + suc j = omega arith in
    subst (λ (m : ℕ). Has hurt i (filled_slice bytes m) (slice_index_or ys j 0)) same (has_from hurt i (k + 1) n bytes ys kept.1 j (omega arith))

-- slice k stands in its place, or is damaged
has_slice : (hurt : Sectors) (i : Image) (bytes : List ℕ) (runs : List Run) (k : ℕ) → KeptIn i hurt bytes runs → k * 512 < length bytes → Has hurt i (filled_slice bytes k) (slice_place runs k)
has_slice hurt i bytes runs k kept lt =
    let few : k < sectors_for (length bytes) - 1 = omega arith in
    let from_first : 0 + k ≡ k = omega arith in
    subst (λ (s : ℕ). Has hurt i (filled_slice bytes k) s) (data_place runs k)
    (subst (λ (m : ℕ). Has hurt i (filled_slice bytes m) (slice_index_or (data_sectors runs) k 0)) from_first (has_from hurt i 0 (sectors_for (length bytes) - 1) bytes (data_sectors runs) kept k few))

whole_is : (a b : List ℕ) (x : Sector) (weak : Bool) → (x ≡ Whole a) ⊎ (IsTrue weak × (x ≡ Damaged)) → x ≡ Whole b → b ≡ a
whole_is a b x weak (inl is) e = let both : Whole a ≡ Whole b = sym is ∙ e in cc
whole_is a b x weak (inr hurt) e = let both : Damaged ≡ Whole b = sym hurt.1 ∙ e in absurd cc

-- ---- one part more

pub whole_more : (i : Image) (runs : List Run) (from done len place : ℕ) (bytes : List ℕ) → WholeTo i runs from (from + done) → slice_get (sectors_of runs) ((from + done) / 512 + 1) ≡ Some place
    → sector_at i place ≡ Whole bytes → len ≤ 512 - (from + done) % 512 → WholeTo i runs from (from + (done + len))
whole_more i runs from done len place bytes so_far at whole le = record {
  each = λ k some low high. elim (cases_eq k ((from + done) / 512)) [
    | inl same ↦
        let is : slice_place runs k ≡ place = ap (slice_place runs) same ∙ index_is (sectors_of runs) ((from + done) / 512 + 1) place at in
        (bytes, ap (sector_at i) is ∙ whole)
    | inr other ↦
        let below : k < (from + done) / 512 = omega (arith, other) in
        so_far.each k (omega arith) low (omega arith)
  ];
}

pub front_more : (i : Image) (hurt : Sectors) (runs : List Run) (bytes old new : List ℕ) (from done len n place : ℕ) → KeptIn i hurt bytes runs → from + n ≤ length bytes → done + len ≤ n → n ≤ length old
    → 0 < len → len ≤ 512 - (from + done) % 512 → slice_get (sectors_of runs) ((from + done) / 512 + 1) ≡ Some place → PartStands i place ((from + done) % 512) done len old new
    → FrontStands bytes from done old → FrontStands bytes from (done + len) new
front_more i hurt runs bytes old new from done len n place kept room within long some le at part so_far =
    let k : ℕ = (from + done) / 512 in
    let off : ℕ = (from + done) % 512 in
    let here : k * 512 + off ≡ from + done = omega arith in
    let place_is : slice_place runs k ≡ place = index_is (sectors_of runs) (k + 1) place at in
    let stands = has_slice hurt i bytes runs k kept (omega arith) in
    let slice : part.bytes ≡ filled_slice bytes k = whole_is (filled_slice bytes k) part.bytes (sector_at i (slice_place runs k)) (hurt (slice_place runs k)) stands (ap (sector_at i) place_is ∙ part.whole) in
    let piece : List ℕ = take len (drop off part.bytes) in
    let piece_is : piece ≡ take len (drop done (drop from bytes)) =
    ap (λ (b : List ℕ). take len (drop off b)) slice ∙ part_of_slice bytes k off len (omega arith) (omega (arith, here))
    ∙ ap (λ (m : ℕ). take len (drop m bytes)) here ∙ ap (take len) (sym (drop-drop done from bytes)) in
    record {
      front = part.stands ∙ ap (λ (x : List ℕ). x ++ piece) so_far.front ∙ ap (λ (x : List ℕ). take done (drop from bytes) ++ x) piece_is
          ∙ sym (take_both done len (drop from bytes) (omega (arith, length-drop from bytes)));
    }

-- ---- the answers

all_taken : (P : ℕ → Type 0) (n : ℕ) (ys : List ℕ) → ((j : ℕ) → j < n → j < length ys → P (slice_index_or ys j 0)) → AllByRecursion P (take n ys)
all_taken P zero ys each = tt
all_taken P (suc n) [] each = tt
all_taken P (suc n) (y ∷ ys) each = (each 0 (omega arith) (omega arith), all_taken P n ys (λ j lt in_ys. each (suc j) (omega arith) (omega arith)))

first_taken : (i j : Image) (n : ℕ) (ys : List ℕ) (k s : ℕ) → k < n → k < length ys → slice_index_or ys k 0 ≡ s → sector_at j s ≡ Damaged → ((h : ℕ) → h < k → IsWhole i (slice_index_or ys h 0)) → FirstDamaged i j (take n ys) s
first_taken i j zero ys k s lt in_ys is damaged before = absurd (omega arith)
first_taken i j (suc n) [] k s lt in_ys is damaged before = absurd (omega arith)
first_taken i j (suc n) (y ∷ ys) zero s lt in_ys is damaged before = inl (is, damaged)
first_taken i j (suc n) (y ∷ ys) (suc k) s lt in_ys is damaged before = inr (before 0 (omega arith), first_taken i j n ys k s (omega arith) (omega arith) is damaged (λ h low. before (suc h) (omega arith)))

pub place_in_range : (runs : List Run) (first j : ℕ) → slice_index_or (drop first (data_sectors runs)) j 0 ≡ slice_place runs (first + j)
place_in_range runs first j = get_or-drop first (data_sectors runs) j 0 ∙ data_place runs (first + j)

range_whole : (i : Image) (runs : List Run) (from n : ℕ) → WholeTo i runs from (from + n) → AllByRecursion (IsWhole i) (range_sectors runs from n)
range_whole i runs from zero whole = tt
range_whole i runs from (suc n) whole =
    all_taken (IsWhole i) ((from + n) / 512 + 1 - from / 512) (drop (from / 512) (data_sectors runs))
    (λ j lt in_ys. subst (IsWhole i) (sym (place_in_range runs (from / 512) j)) (whole.each (from / 512 + j) (omega arith) (omega arith) (omega arith)))

pub range_damaged : (i j : Image) (runs : List Run) (from n done place : ℕ) → done < n → WholeTo i runs from (from + done) → slice_get (sectors_of runs) ((from + done) / 512 + 1) ≡ Some place
    → sector_at j place ≡ Damaged → from + n ≤ 512 * (length (sectors_of runs) - 1) → FirstDamaged i j (range_sectors runs from n) place
range_damaged i j runs from zero done place lt whole at damaged room = absurd (omega arith)
range_damaged i j runs from (suc n) done place lt whole at damaged room =
    let first : ℕ = from / 512 in
    let k : ℕ = (from + done) / 512 in
    let there : first + (k - first) ≡ k = omega arith in
    let is : slice_index_or (drop first (data_sectors runs)) (k - first) 0 ≡ place =
    place_in_range runs first (k - first) ∙ ap (slice_place runs) there ∙ index_is (sectors_of runs) (k + 1) place at in
    let long : k - first < length (drop first (data_sectors runs)) = omega (arith, length-drop first (data_sectors runs), length-drop 1 (sectors_of runs)) in
    first_taken i j ((from + n) / 512 + 1 - first) (drop first (data_sectors runs)) (k - first) place (omega arith) long is damaged
    (λ h low. subst (IsWhole i) (sym (place_in_range runs first h)) (whole.each (first + h) (omega arith) (omega arith) (omega arith)))

pub none_yet : (i : Image) (runs : List Run) (from : ℕ) → WholeTo i runs from (from + 0)
none_yet i runs from = record { each = λ k some low high. absurd (omega arith) }

pub nothing_yet : (bytes : List ℕ) (from : ℕ) (buf : List ℕ) → FrontStands bytes from 0 buf
nothing_yet bytes from buf = record { front = refl }

-- ---- what lies behind

pub drop_on : (xs ys : List ℕ) (k n : ℕ) → k ≤ n → drop k xs ≡ drop k ys → drop n xs ≡ drop n ys
drop_on xs ys k n le same =
    let back : k + (n - k) ≡ n = omega arith in
    ap (λ (m : ℕ). drop m xs) (sym back) ∙ sym (drop-drop (n - k) k xs) ∙ ap (drop (n - k)) same ∙ drop-drop (n - k) k ys ∙ ap (λ (m : ℕ). drop m ys) back

-- ---- the whole range

pub gives_range : (i : Image) (runs : List Run) (from n : ℕ) (old new : List ℕ) → WholeTo i runs from (from + n)
    → ((bytes : List ℕ) (hurt : Sectors) → KeptIn i hurt bytes runs → from + n ≤ length bytes → FrontStands bytes from n new) → drop n new ≡ drop n old → GivesRange i runs from n old new
gives_range i runs from n old new whole front behind = record {
  whole = range_whole i runs from n whole;
  bytes = λ bytes hurt kept room. sym (take-append-drop n new) ∙ ap (λ (x : List ℕ). x ++ drop n new) (front bytes hurt kept room).front ∙ ap (λ (x : List ℕ). take n (drop from bytes) ++ x) behind;
}
