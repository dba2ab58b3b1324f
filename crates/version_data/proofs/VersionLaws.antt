-- A version that stands whole where its sectors were laid.
use Rattle.std.proofs.Common.{◌≡◌, inl, ℕ, zero, suc, ◌+◌, ◌-◌, ◌<◌, List, [], ◌∷◌, length, sym, subst, ◌∙◌, ap, arith}
use Rattle.std.specs.Prelude.{IsTrue, IfSome, slice_get, slice_index_or}
use Rattle.std.specs.List.{AllZip}
use Rattle.std.proofs.lemmas.List.{length-drop}
use Rattle.run_table.specs.RunTable.{sectors_of}
use Rattle.run_table.specs.Space.{all_differ}
use Rattle.sector_disk.specs.declared.sector.Sector.TheVariants.{Whole}
use Rattle.sector_disk.specs.Image.{Windows, lay, open_damage}
use Rattle.sector_disk.specs.Machine.{Holds, Moment}
use Rattle.run_table.specs.declared.run.Run.{Run}
use Rattle.fsd_formats.specs.declared.entry.Entry.{Entry}
use Rattle.fsd_formats.specs.Leader.{leader_of, leader_bytes}
use Rattle.fsd_formats.specs.NamePage.{sectors_for}
use Rattle.fsd_files.specs.Answers.{HasVersion}
use Rattle.fsd_files.specs.Disk.{Image, Sectors, Has}
use Rattle.fsd_files.specs.Kept.{filled_slice, filled_slices_from, data_sectors}
use Rattle.fsd_files.proofs.KeptLaws.{has_on}
use Rattle.version_data.specs.Writing.{part_of, sector_of, with_parts}
use Rattle.version_data.proofs.LayLaws.{holds_then, lay_at_in, lay_behind, monotone_lay}
use Rattle.version_data.proofs.PlaceLaws.{LiesBehind, differ_at, index_is}
use Rattle.version_data.proofs.RangeLaws.{data_place}

-- the sectors of one run more
pub holds_run : (old mid new : Moment) (e : Entry) (bytes leader : List ℕ) (before : ℕ) (r : Run) → LiesBehind e.runs before r → leader ≡ leader_bytes (leader_of e)
    → Holds old (with_parts old.image e bytes before) mid → Holds mid (lay mid.image r.start (λ j. Whole (part_of leader bytes (before + j))) r.length) new → Holds old (with_parts old.image e bytes (before + r.length)) new
holds_run old mid new e bytes leader before r lies is so_far next =
    let content : ℕ → List ℕ = part_of (leader_bytes (leader_of e)) bytes in
    let here = subst (λ (b : List ℕ). Holds mid (lay mid.image r.start (λ j. Whole (part_of b bytes (before + j))) r.length) new) is next in
    let more = holds_then (λ image. lay image r.start (λ j. Whole (content (before + j))) r.length) old mid new (with_parts old.image e bytes before) (monotone_lay r.start (λ j. Whole (content (before + j))) r.length) so_far here in
    let laid = lay_behind old.image (sector_of e) content before r.start r.length (λ j lt. index_is (sectors_of e.runs) (before + j) (r.start + j) (lies.each j lt)) in
    subst (λ (i : Image). Holds old i new) laid more

pub zip_from : (weak : Sectors) (i : Image) (bytes : List ℕ) (k n : ℕ) (ys : List ℕ) → length ys ≡ n → ((h : ℕ) → h < n → Has weak i (filled_slice bytes (k + h)) (slice_index_or ys h 0)) → AllZip (Has weak i) (filled_slices_from k n bytes) ys
zip_from weak i bytes k zero [] size each = tt
zip_from weak i bytes k zero (y ∷ ys) size each = absurd (omega arith)
zip_from weak i bytes k (suc n) [] size each = absurd (omega arith)
zip_from weak i bytes k (suc n) (y ∷ ys) size each =
    let here : k + 0 ≡ k = omega arith in (
      subst (λ (m : ℕ). Has weak i (filled_slice bytes m) y) here (each 0 (omega arith)),
      zip_from weak i bytes (k + 1) n ys (omega arith) (λ h lt. let next : k + suc h ≡ k + 1 + h = omega arith in subst (λ (m : ℕ). Has weak i (filled_slice bytes m) (slice_index_or ys h 0)) next (each (suc h) (omega arith))),
    )

pub at_first : (P : ℕ → Type 0) (xs : List ℕ) → P (slice_index_or xs 0 0) → IfSome (slice_get xs 0) P
at_first P [] p = tt
at_first P (x ∷ xs) p = p

module _ (old new : Moment) (e : Entry) (bytes : List ℕ) (count : length (sectors_of e.runs) ≡ sectors_for (length bytes)) (differ : IsTrue (all_differ (sectors_of e.runs)))
    (room : (k : ℕ) → k < length (sectors_of e.runs) → sector_of e k < length old.image) (holds : Holds old (with_parts old.image e bytes (length (sectors_of e.runs))) new) where
  abbrev weak : Sectors
  weak = open_damage old.windows

  abbrev n : ℕ
  n = length (sectors_of e.runs)

  part_stands : (k : ℕ) → k < n → Has weak new.image (part_of (leader_bytes (leader_of e)) bytes k) (sector_of e k)
  part_stands k lt =
      has_on weak (with_parts old.image e bytes n) new.image (part_of (leader_bytes (leader_of e)) bytes k) (sector_of e k) (holds.worn.each (sector_of e k))
      (inl (lay_at_in old.image (sector_of e) (part_of (leader_bytes (leader_of e)) bytes) n k lt (λ j above below. differ_at (sectors_of e.runs) k j differ above below) (room k lt)))

  slice_stands : (j : ℕ) → j < n - 1 → Has weak new.image (filled_slice bytes (0 + j)) (slice_index_or (data_sectors e.runs) j 0)
  slice_stands j lt =
      let here : j ≡ 0 + j = omega arith in
      let next : suc j ≡ j + 1 = omega arith in
      subst (λ (m : ℕ). Has weak new.image (filled_slice bytes m) (slice_index_or (data_sectors e.runs) j 0)) here
      (subst (λ (s : ℕ). Has weak new.image (filled_slice bytes j) s) (ap (sector_of e) next ∙ sym (data_place e.runs j)) (part_stands (suc j) (omega arith)))

  pub version_stands : HasVersion (open_damage new.windows) new.image bytes e
  version_stands = subst (λ (w : Windows). HasVersion (open_damage w) new.image bytes e) (sym holds.windows) (record {
    leader = at_first (Has weak new.image (leader_bytes (leader_of e))) (sectors_of e.runs) (part_stands 0 (omega (arith, count)));
    data_there = subst (λ (m : ℕ). AllZip (Has weak new.image) (filled_slices_from 0 m bytes) (data_sectors e.runs)) (ap (λ (c : ℕ). c - 1) count)
        (zip_from weak new.image bytes 0 (n - 1) (data_sectors e.runs) (omega (arith, length-drop 1 (sectors_of e.runs))) slice_stands);
  })
