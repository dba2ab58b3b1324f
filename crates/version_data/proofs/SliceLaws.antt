-- Slices of a version that stand where they were written.
use Rattle.std.proofs.Common.{◌≡◌, inl, ℕ, zero, suc, ◌+◌, ◌-◌, ◌<◌, ◌≤◌, true, List, [], ◌∷◌, length, take, drop, Some, refl, sym, subst, ◌∙◌, ap, arith, length-take}
use Rattle.std.specs.Prelude.{IsTrue, None, Option, slice_get, slice_index_or}
use Rattle.std.specs.List.{AllZip}
use Rattle.std.proofs.lemmas.List.{length-drop, take_all}
use Rattle.run_table.specs.declared.run.Run.{Run}
use Rattle.run_table.specs.RunTable.{sectors_of}
use Rattle.run_table.specs.Space.{all_differ, contains}
use Rattle.run_table.proofs.SectorLaws.{first_there}
use Rattle.sector_disk.specs.declared.machine.Machine.{Ghosts}
use Rattle.sector_disk.specs.Calls.{WritesDisk}
use Rattle.sector_disk.specs.Image.{Windows, open_damage, stand, with_sector, slice_of as row_of}
use Rattle.sector_disk.specs.Machine.{Holds, Moment, Tears}
use Rattle.sector_disk.proofs.CallLaws.{writes_then}
use Rattle.fsd_formats.specs.NamePage.{sectors_for}
use Rattle.fsd_files.specs.Disk.{Has, Image, Sectors}
use Rattle.fsd_files.specs.Kept.{data_sectors, filled_slice, filled_slices}
use Rattle.fsd_files.proofs.KeptLaws.{has_on}
use Rattle.version_data.specs.Writing.{WritesIn, slices_at, slices_laid}
use Rattle.version_data.proofs.LayLaws.{holds_then, lay_at_in, monotone_stand}
use Rattle.version_data.proofs.PlaceLaws.{differ_at, index_is, index_there}
use Rattle.version_data.proofs.RangeLaws.{place_in_range}
use Rattle.version_data.proofs.VersionLaws.{zip_from}
use Rattle.version_data.proofs.WritingLaws.{tears_in, writes_on}

-- ---- places

at_taken : (ys : List ℕ) (n j : ℕ) → j < n → slice_index_or (take n ys) j 0 ≡ slice_index_or ys j 0
at_taken ys zero j lt = absurd (omega arith)
at_taken [] (suc n) j lt = refl
at_taken (y ∷ ys) (suc n) zero lt = refl
at_taken (y ∷ ys) (suc n) (suc j) lt = at_taken ys n j (omega arith)

module _ (runs : List Run) (first n : ℕ) (fits : first + n ≤ length (data_sectors runs)) where
  -- so many places
  pub places_count : length (take n (drop first (data_sectors runs))) ≡ n
  places_count = omega (arith, length-take n (drop first (data_sectors runs)), length-drop first (data_sectors runs), fits)

  -- each by its number
  pub slice_lies : (j : ℕ) → j < n → slice_index_or (take n (drop first (data_sectors runs))) j 0 ≡ slice_index_or (sectors_of runs) (first + j + 1) 0
  slice_lies j lt = at_taken (drop first (data_sectors runs)) n j lt ∙ place_in_range runs first j

  pub slice_among : (j x : ℕ) → j < n → slice_get (sectors_of runs) (first + j + 1) ≡ Some x → IsTrue (contains (take n (drop first (data_sectors runs))) x)
  slice_among j x lt at =
      subst (λ (s : ℕ). IsTrue (contains (take n (drop first (data_sectors runs))) s)) (slice_lies j lt ∙ index_is (sectors_of runs) (first + j + 1) x at)
      (index_there (take n (drop first (data_sectors runs))) j 0 (omega (arith, lt, places_count)))

  pub slice_inside : (j : ℕ) → j < n → first + j + 1 < length (sectors_of runs)
  slice_inside j lt = omega (arith, fits, lt, length-drop 1 (sectors_of runs))

-- ---- one sector more

-- a sector of the set that is cut short
pub torn_in : (may : Sectors) (place : ℕ) (row : List ℕ) (old left : Moment) → length row ≡ 512 → may place ≡ true → Tears place row old left → WritesIn may old left
torn_in may place row old left long mine torn =
    tears_in may place row old left (λ j lt. let none : place ≡ place + j = omega (arith, lt, long) in subst (λ (s : ℕ). may s ≡ true) none mine) torn

pub holds_slice : (old mid new : Moment) (runs : List Run) (first : ℕ) (bytes : List ℕ) (k place : ℕ) (row : List ℕ) → slice_get (sectors_of runs) (first + k + 1) ≡ Some place → row ≡ filled_slice bytes k → length row ≡ 512
    → Holds old (slices_laid old.image runs first bytes k) mid → Holds mid (stand mid.image place row 1) new → Holds old (slices_laid old.image runs first bytes (k + 1)) new
holds_slice old mid new runs first bytes k place row at is long so_far next =
    let before : Image = slices_laid old.image runs first bytes k in
    let lies : ℕ = slice_index_or (sectors_of runs) (first + k + 1) 0 in
    let more = holds_then (λ image. stand image place row 1) old mid new before (monotone_stand place row 1) so_far next in
    let there : place + 0 ≡ lies = (let none : place + 0 ≡ place = omega arith in none) ∙ sym (index_is (sectors_of runs) (first + k + 1) place at) in
    let content : row_of row 0 ≡ filled_slice bytes k = take_all 512 row (omega (arith, long)) ∙ is in
    let laid : stand before place row 1 ≡ slices_laid old.image runs first bytes (k + 1) =
    ap (λ (p : ℕ). with_sector before p (row_of row 0)) there ∙ ap (with_sector before lies) content ∙ ap (slices_laid old.image runs first bytes) (let e : suc k ≡ k + 1 = omega arith in e) in
    subst (λ (i : Image). Holds old i new) laid more

-- ---- all of them

module _ (old new : Moment) (runs : List Run) (first : ℕ) (bytes : List ℕ) (differ : IsTrue (all_differ (sectors_of runs))) (fits : first + (sectors_for (length bytes) - 1) ≤ length (data_sectors runs))
    (room : (k : ℕ) → k < length (sectors_of runs) → slice_index_or (sectors_of runs) k 0 < length old.image) (holds : Holds old (slices_laid old.image runs first bytes (sectors_for (length bytes) - 1)) new) where
  abbrev weak : Sectors
  weak = open_damage old.windows

  abbrev n : ℕ
  n = sectors_for (length bytes) - 1

  abbrev place : ℕ → ℕ
  place k = slice_index_or (sectors_of runs) (first + k + 1) 0

  inside : (k : ℕ) → k < n → first + k + 1 < length (sectors_of runs)
  inside = slice_inside runs first n fits

  slice_stands : (j : ℕ) → j < n → Has weak new.image (filled_slice bytes j) (place j)
  slice_stands j lt =
      has_on weak (slices_laid old.image runs first bytes n) new.image (filled_slice bytes j) (place j) (holds.worn.each (place j))
      (inl (lay_at_in old.image place (filled_slice bytes) n j lt (λ k above below. differ_at (sectors_of runs) (first + j + 1) (first + k + 1) differ (omega (arith, above)) (inside k below)) (room (first + j + 1) (inside j lt))))

  pub slices_stand : AllZip (Has (open_damage new.windows) new.image) (filled_slices bytes) (slices_at runs first (length bytes))
  slices_stand =
      subst (λ (w : Windows). AllZip (Has (open_damage w) new.image) (filled_slices bytes) (slices_at runs first (length bytes))) (sym holds.windows)
      (zip_from weak new.image bytes 0 n (slices_at runs first (length bytes)) (places_count runs first n fits)
      (λ h lt.
      let none : h ≡ 0 + h = omega arith in
      subst (λ (m : ℕ). Has weak new.image (filled_slice bytes m) (slice_index_or (slices_at runs first (length bytes)) h 0)) none
      (subst (λ (s : ℕ). Has weak new.image (filled_slice bytes h) s) (sym (slice_lies runs first n fits h lt)) (slice_stands h lt))))

-- ---- the leader

pub leader_among : (xs : List ℕ) (x : ℕ) → slice_get xs 0 ≡ Some x → contains (take 1 xs) x ≡ true
leader_among [] x at = absurd (cc at)
leader_among (y ∷ xs) x at = let same : y ≡ x = cc at in subst (λ (s : ℕ). contains (y ∷ []) s ≡ true) same (first_there y [])

-- ---- one call more

module _ {D : Type 0} {M : Ghosts D} {a b c : D} where
  pub slice_torn : {fault : Option ℕ} (may : Sectors) (place : ℕ) (row : List ℕ) → length row ≡ 512 → may place ≡ true → WritesDisk M None (WritesIn may) a b → WritesDisk M fault (Tears place row) b c → WritesDisk M fault (WritesIn may) a c
  slice_torn may place row long mine so_far next = writes_then {R = WritesIn may} so_far next (λ h left so. so)
      (λ h left torn. writes_on may (M.now a) (M.now b) left (so_far.exit (next.trust.honest h)) (torn_in may place row (M.now b) left long mine torn))
