-- Images that are laid one over another, worn.
use Rattle.std.proofs.Common.{◌≡◌, ◌≢◌, inl, inr, ℕ, zero, suc, ◌+◌, ◌-◌, ◌*◌, ◌/◌, ◌<◌, ◌≤◌, Bool, min, List, [], ◌∷◌, ◌++◌, length, take, drop, refl, sym, ◌∙◌, ap, subst, arith, length-take}
use Rattle.std.specs.Prelude.{replicate, slice_set}
use Rattle.std.proofs.lemmas.Bool.{cases_eq, cases_lt}
use Rattle.std.proofs.lemmas.List.{drop-replicate, drop-take, drop_all, take_min, length-set, get_or-set_same, get_or-set_other}
use Rattle.sector_disk.specs.declared.sector.Sector.{Sector}
use Rattle.sector_disk.specs.declared.sector.Sector.TheVariants.{Whole, Damaged}
use Rattle.sector_disk.specs.Image.{IsWorn, Windows, lay, open_damage, sector_at, slice_of, stand, with_sector}
use Rattle.sector_disk.specs.Machine.{Holds, Moment}
use Rattle.sector_disk.proofs.Wear.{lay_worn, stand_worn, worn_trans, slice_in_front}
use Rattle.fsd_bytes.specs.Bytes.{sector}
use Rattle.fsd_files.specs.Kept.{filled_slice as slice_of_version}
use Rattle.version_data.specs.Writing.{lay_at}

-- what a call makes of an image it makes of a worn one, worn
pub record Monotone (f : List Sector → List Sector) : Type 0 where
  pub worn : (may : ℕ → Bool) (a b : List Sector) → IsWorn may a b → IsWorn may (f a) (f b)

-- one call behind another
pub holds_then : (f : List Sector → List Sector) (old mid new : Moment) (a : List Sector) → Monotone f → Holds old a mid → Holds mid (f mid.image) new → Holds old (f a) new
holds_then f old mid new a monotone first second = record {
  worn = worn_trans (open_damage old.windows) _ _ _ (monotone.worn (open_damage old.windows) a mid.image first.worn) (subst (λ (w : Windows). IsWorn (open_damage w) (f mid.image) new.image) first.windows second.worn);
  windows = second.windows ∙ first.windows;
  said = second.said ∙ first.said;
}

pub monotone_lay : (first : ℕ) (sector : ℕ → Sector) (k : ℕ) → Monotone (λ image. lay image first sector k)
monotone_lay first sector k = record { worn = λ may a b worn. lay_worn may a b first sector k worn }

pub monotone_stand : (first : ℕ) (bytes : List ℕ) (n : ℕ) → Monotone (λ image. stand image first bytes n)
monotone_stand first bytes n = record { worn = λ may a b worn. stand_worn may a b first bytes n worn }

-- ---- slices

-- behind the end there is nothing
drop_within : (n : ℕ) (xs : List ℕ) → drop (min (length xs) n) xs ≡ drop n xs
drop_within n xs = elim (cases_lt n (length xs)) [
  | inl low ↦ ap (λ (k : ℕ). drop k xs) (let e : min (length xs) n ≡ n = omega arith in e)
  | inr high ↦ drop_all (min (length xs) n) xs (omega arith) ∙ sym (drop_all n xs high)
]

-- a slice that was copied over zeros
pub slice_is : (bytes rest slice b : List ℕ) (start k n : ℕ) → start ≡ min (length bytes) (512 * k) → rest ≡ drop start bytes → n ≡ min (length rest) 512 → slice ≡ take n rest → b ≡ slice ++ drop n (replicate 512 0) → b ≡ slice_of_version bytes k
slice_is bytes rest slice b start k n at er en es eb =
    let short : n ≡ length (take 512 rest) = omega (arith, en, length-take 512 rest) in
    let whole : take n rest ≡ take 512 rest = ap (λ k. take k rest) (en ∙ omega arith) ∙ take_min 512 rest in
    let flip : 512 * k ≡ k * 512 = omega arith in
    let behind : rest ≡ drop (k * 512) bytes = er ∙ ap (λ (m : ℕ). drop m bytes) at ∙ drop_within (512 * k) bytes ∙ ap (λ (m : ℕ). drop m bytes) flip in
    eb ∙ ap (λ s. s ++ drop n (replicate 512 0)) (es ∙ whole)
    ∙ ap (λ z. take 512 rest ++ z) (drop-replicate n 512 0 ∙ ap (λ k. replicate (512 - k) 0) short)
    ∙ ap (λ r. sector (take 512 r)) behind

-- ---- sectors that follow each other

-- a row behind a row
stand_behind : (image : List Sector) (first : ℕ) (sector : ℕ → Sector) (k : ℕ) (row : List ℕ) (n : ℕ) → ((j : ℕ) → j < n → sector (k + j) ≡ Whole (slice_of row j)) → stand (lay image first sector k) (first + k) row n ≡ lay image first sector (k + n)
stand_behind image first sector k row zero same = ap (lay image first sector) (let e : k ≡ k + 0 = omega arith in e)
stand_behind image first sector k row (suc n) same =
    let before = stand_behind image first sector k row n (λ j lt. same j (omega arith)) in
    ap (λ (i : List Sector). with_sector i (first + k + n) (slice_of row n)) before
    ∙ ap (λ (p : ℕ). with_sector (lay image first sector (k + n)) p (slice_of row n)) (let e : first + k + n ≡ first + (k + n) = omega arith in e)
    ∙ ap (λ (x : Sector). slice_set (lay image first sector (k + n)) (first + (k + n)) x) (sym (same n (omega arith)))
    ∙ ap (lay image first sector) (let e : suc (k + n) ≡ k + suc n = omega arith in e)

drop_front : (xs ys : List ℕ) → drop (length xs) (xs ++ ys) ≡ ys
drop_front [] ys = refl
drop_front (x ∷ xs) ys = drop_front xs ys

slice_by : (xs : List ℕ) (j : ℕ) → slice_of xs j ≡ drop (512 * j) (take (512 * j + 512) xs)
slice_by xs j = sym (drop-take (512 * j) 512 xs)

-- one sector more in the buffer
pub laid_more : (row new piece : List ℕ) (j : ℕ) (content : ℕ → List ℕ) → ((n : ℕ) → n ≤ 512 * j → take n new ≡ take n row) → take (512 * j + 512) new ≡ take (512 * j) row ++ piece → 512 * j ≤ length row
    → piece ≡ content j → ((i : ℕ) → i < j → slice_of row i ≡ content i) → (i : ℕ) → i < j + 1 → slice_of new i ≡ content i
laid_more row new piece j content before here room is so_far i lt = elim (cases_eq i j) [
  | inl same ↦
      let size : 512 * j ≡ length (take (512 * j) row) = omega (arith, length-take (512 * j) row) in
      let there : slice_of new j ≡ content j =
      slice_by new j ∙ ap (drop (512 * j)) here ∙ ap (λ (n : ℕ). drop n (take (512 * j) row ++ piece)) size ∙ drop_front (take (512 * j) row) piece ∙ is in
      subst (λ (k : ℕ). slice_of new k ≡ content k) (sym same) there
  | inr other ↦ slice_by new i ∙ ap (drop (512 * i)) (before (512 * i + 512) (omega (arith, other))) ∙ sym (slice_by row i) ∙ so_far i (omega (arith, other))
]

-- the sectors in front of a buffer
pub many_in_front : (row : List ℕ) (n : ℕ) → 512 * n ≤ length row → length (take (512 * n) row) / 512 ≡ n
many_in_front row n room = let size : length (take (512 * n) row) ≡ 512 * n = omega (arith, length-take (512 * n) row) in omega (arith, size)

-- one row more
pub holds_row : (old mid new : Moment) (first : ℕ) (sector : ℕ → Sector) (k n : ℕ) (row : List ℕ) → 512 * n ≤ length row → ((j : ℕ) → j < n → sector (k + j) ≡ Whole (slice_of row j))
    → Holds old (lay old.image first sector k) mid → Holds mid (stand mid.image (first + k) (take (512 * n) row) (length (take (512 * n) row) / 512)) new → Holds old (lay old.image first sector (k + n)) new
holds_row old mid new first sector k n row room same so_far next =
    let part : List ℕ = take (512 * n) row in
    let here = subst (λ (m : ℕ). Holds mid (stand mid.image (first + k) part m) new) (many_in_front row n room) next in
    let more = holds_then (λ image. stand image (first + k) part n) old mid new (lay old.image first sector k) (monotone_stand (first + k) part n) so_far here in
    let laid = stand_behind old.image first sector k part n (λ j lt. same j lt ∙ ap Whole (sym (slice_in_front row n j lt))) in
    subst (λ (i : List Sector). Holds old i new) laid more

-- ---- sectors in places of their own

-- adjacent places
pub lay_behind : (image : List Sector) (place : ℕ → ℕ) (bytes : ℕ → List ℕ) (k first n : ℕ) → ((j : ℕ) → j < n → place (k + j) ≡ first + j) → lay (lay_at image place bytes k) first (λ j. Whole (bytes (k + j))) n ≡ lay_at image place bytes (k + n)
lay_behind image place bytes k first zero places = ap (lay_at image place bytes) (let e : k ≡ k + 0 = omega arith in e)
lay_behind image place bytes k first (suc n) places =
    let before = lay_behind image place bytes k first n (λ j lt. places j (omega arith)) in
    ap (λ (i : List Sector). with_sector i (first + n) (bytes (k + n))) before
    ∙ ap (λ (p : ℕ). with_sector (lay_at image place bytes (k + n)) p (bytes (k + n))) (sym (places n (omega arith)))
    ∙ ap (lay_at image place bytes) (let e : suc (k + n) ≡ k + suc n = omega arith in e)

length-lay_at : (image : List Sector) (place : ℕ → ℕ) (bytes : ℕ → List ℕ) (n : ℕ) → length (lay_at image place bytes n) ≡ length image
length-lay_at image place bytes zero = refl
length-lay_at image place bytes (suc n) = length-set (lay_at image place bytes n) (place n) (Whole (bytes n)) ∙ length-lay_at image place bytes n

-- each of the places has its bytes, where no later one is the same
pub lay_at_in : (image : List Sector) (place : ℕ → ℕ) (bytes : ℕ → List ℕ) (n j : ℕ) → j < n → ((k : ℕ) → j < k → k < n → place j ≢ place k) → place j < length image
    → sector_at (lay_at image place bytes n) (place j) ≡ Whole (bytes j)
lay_at_in image place bytes zero j lt differ room = absurd (omega arith)
lay_at_in image place bytes (suc n) j lt differ room = elim (cases_eq j n) [
  | inl same ↦
      let here : place n < length (lay_at image place bytes n) = omega (arith, length-lay_at image place bytes n, ap place same) in
      ap (λ (k : ℕ). sector_at (lay_at image place bytes (suc n)) (place k)) same
      ∙ get_or-set_same (lay_at image place bytes n) (place n) (Whole (bytes n)) Damaged here
      ∙ ap (λ (k : ℕ). Whole (bytes k)) (sym same)
  | inr other ↦
      get_or-set_other (lay_at image place bytes n) (place n) (place j) (Whole (bytes n)) Damaged (differ n (omega (arith, other)) (omega arith))
      ∙ lay_at_in image place bytes n j (omega (arith, other)) (λ k above below. differ k above (omega arith)) room
]
